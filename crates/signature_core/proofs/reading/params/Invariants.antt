use Rattle.std.proofs.Common.{◌≡◌, ◌-◌}
use Rattle.signature_core.specs.Reading.{params_at}
use Rattle.signature_core.proofs.ParamsLemmas.{with_front}
use Rattle.signature_core.proofs.reading.params.Given as goal

-- what has been read, before what is yet to be read
abbrev pub invariant-loop : goal.invariant-loop
invariant-loop l = with_front l.kinds.items (params_at (10 - l.counter) l.rest) ≡ params_at 10 l.text
