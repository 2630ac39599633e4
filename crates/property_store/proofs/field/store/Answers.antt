use Rattle.std.proofs.Common.{◌≡◌, Some, refl, rules, slice_get}
use Rattle.variant_value.specs.Values.{converted}
use Rattle.property_store.proofs.ListLemmas.{looked_up}
use Rattle.property_store.proofs.field.store.Goals as goal

-- a value of the kind
here : (c : goal.After-put) → slice_get c.args.fields.now c.args.number ≡ Some c.in-Some.field.now
here c = search (rules, looked_up)

fits : (c : goal.After-put) → converted c.in-Some.field.now.kind c.args.value ≡ Some c.args.value
fits c = search rules

pub returns-then-eq-clause-refused : goal.returns-then-eq-clause-refused
returns-then-eq-clause-refused c = rw (here c, fits c) refl

pub returns-then-eq-clause-answer : goal.returns-then-eq-clause-answer
returns-then-eq-clause-answer c = rw (here c, fits c) c.put.ensures.changed

pub returns-then-eq-clause-new : goal.returns-then-eq-clause-new
returns-then-eq-clause-new c = rw (here c, fits c) c.put.ensures.new

-- a value of another kind
there : (c : goal.After-store_converted) → slice_get c.args.fields.now c.args.number ≡ Some c.in-Some.field.now
there c = search (rules, looked_up)

pub returns-clause-refused : goal.returns-clause-refused
returns-clause-refused c = rw (there c) c.store_converted.ensures.refused

pub returns-clause-answer : goal.returns-clause-answer
returns-clause-answer c = rw (there c) c.store_converted.ensures.answer

pub returns-clause-new : goal.returns-clause-new
returns-clause-new c = rw (there c) c.store_converted.ensures.new
