use Rattle.std.proofs.Common.{◌≡◌, ◌<◌, ◌≤◌, ℕ, List, [], length, map, nat_lt, sym, ap, ◌∙◌, ⊎_elim, arith}
use Rattle.std.proofs.lemmas.Bool.{cases_Bool}
use Rattle.std.proofs.lemmas.Bool.Decides.{nat_tests}
use Rattle.std.proofs.lemmas.List.{get_or_past}
use Rattle.class_table.specs.declared.class.Class.{Class}
use Rattle.class_table.proofs.ForCallers.{of_class-none}
use Rattle.property_store.specs.declared.field.Field.{Field}
use Rattle.property_store.specs.Store.{fields_in}
use Rattle.session_model.specs.State.{field_of, fields_of}
use Rattle.std.proofs.lemmas.Grind.{common_steps}
use Rattle.session_effects.proofs.class_layouts.layouts.Goals as goal

-- past the last class there are no properties
all_laid : (layouts : List (List Field)) (classes : List Class) → length layouts ≡ length classes
    → ((class : ℕ) → class < length classes → fields_in layouts class ≡ fields_of classes class) → (class : ℕ)
    → fields_in layouts class ≡ fields_of classes class
all_laid layouts classes even below class = ⊎_elim
    (λ within. below class (grind (arith, nat_tests, within)))
    (λ past.
    let beyond : length classes ≤ class = grind (arith, nat_tests, past) in
    get_or_past layouts class [] (omega (arith, even, beyond)) ∙ sym (ap (map field_of) (of_class-none _ classes class beyond)))
    (cases_Bool (nat_lt class (length classes)))

pub returns-clause-each : goal.returns-clause-each
returns-clause-each c = all_laid c.loop-class.layouts c.args.classes.now (omega (arith, c.loop-class.invariant.length, c.len-class-end.ensures.value))
    (λ class within. c.loop-class.invariant.each class (omega (arith, within, c.len-class-end.ensures.value)))

pub loop-class-preserved : goal.loop-class-preserved
loop-class-preserved c = grind (arith, common_steps)
