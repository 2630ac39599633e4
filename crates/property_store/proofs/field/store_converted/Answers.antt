use Rattle.std.proofs.Common.{refl}
use Rattle.property_store.proofs.KindLemmas.{ok_or_none, ok_or_some}
use Rattle.property_store.proofs.field.store_converted.Goals as goal

pub returns-in_default-clause-refused : goal.returns-in_default-clause-refused
returns-in_default-clause-refused c = rw (ok_or_none _ _ _ c.in_default.ensures.moved) refl

pub returns-in_default-clause-new : goal.returns-in_default-clause-new
returns-in_default-clause-new c = rw (ok_or_none _ _ _ c.in_default.ensures.moved) refl

pub returns-clause-answer : goal.returns-clause-answer
returns-clause-answer c = rw (ok_or_some _ _ _ c.in-Ok.ensures.moved) c.put.ensures.changed
