use Rattle.std.proofs.Common.{◌∙◌}
use Rattle.signature_core.proofs.FitLemmas.{Decides-starts, starts-fits}
use Rattle.signature_core.proofs.signature.fits.Goals as goal

pub returns-clause-value : goal.returns-clause-value
returns-clause-value c = c.starts_with.ensures.value ∙ starts-fits c.args.signal.now c.args.slot.now

pub returns-clause-completes : goal.returns-clause-completes
returns-clause-completes c = rw c.starts_with.ensures.value (Decides-starts c.args.signal.now c.args.slot.now)
