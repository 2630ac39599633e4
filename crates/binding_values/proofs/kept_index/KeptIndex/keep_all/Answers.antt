use Rattle.std.proofs.Common.{OnOk, subst}
use Rattle.binding_values.specs.Keeping.{standing}
use Rattle.binding_values.specs.Reached.{AreKeptToo}
use Rattle.binding_values.proofs.kept_index.KeptIndex.keep_all.Goals as goal

pub returns : goal.returns
returns c = subst (λ old. OnOk c.keep_all.result (AreKeptToo c.args.found.items old (standing c.keep_all.new.rows))) c.self.view_is c.keep_all.ensures.kept
