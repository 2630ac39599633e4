use Rattle.std.proofs.Common.{refl, inl, inr}
use Rattle.metad_c.proofs.metad_inner_open.Goals as goal

pub returns-in-Ok : goal.returns-in-Ok
returns-in-Ok c = inl (refl, c.in-Ok.ensures.open)

pub returns-in-Err : goal.returns-in-Err
returns-in-Err c = inr (refl, (c.in-Err.stop, c.in-Err.ensures.stopped, c.stopped.ensures))
