use Rattle.std.proofs.lemmas.Bool.{le-ltb}
use Rattle.property_store.proofs.StoredLemmas.{stored_marked, stored_nowhere, stored_refused}
use Rattle.property_store.proofs.row.Row.write.Goals as goal

pub returns-in-Err : goal.returns-in-Err
returns-in-Err c = stored_refused c.args.fields.now c.args.number c.args.value c.args.head c.args.self.now c.store.new.values c.in-Err.ensures.new c.in-Err.code
    c.in-Err.ensures.refused

pub returns-then-number-fields : goal.returns-then-number-fields
returns-then-number-fields c = stored_marked c.args.fields.now c.args.number c.args.value c.args.head c.args.self.now c.store.new.values c.in-Ok.ensures.new
    c.if-number-fields.true c.in-Ok.is_change c.mark-is_linked.result c.mark-is_linked.new.self c.in-Ok.ensures.refused c.in-Ok.ensures.answer
    c.mark-is_linked.ensures

pub returns-else-number-fields : goal.returns-else-number-fields
returns-else-number-fields c = stored_nowhere c.args.fields.now c.args.number c.args.value c.args.head c.args.self.now c.store.new.values c.in-Ok.ensures.new
    c.if-number-fields.false c.in-Ok.is_change _ (le-ltb _ _ c.if-number-fields.false) c.in-Ok.ensures.refused c.in-Ok.ensures.answer
