use Rattle.std.proofs.Common.{◌∙◌, ap, arith}
use Rattle.property_store.specs.Store.{properties_of}
use Rattle.std.proofs.lemmas.Grind.{common_steps}
use Rattle.session_tables.proofs.TablesLemmas.{changes_with}
use Rattle.session_tables.specs.Tables.{state_at}
use Rattle.session_tables.proofs.StoredLemmas.{nothing_stored}
use Rattle.session_tables.proofs.tables.Tables.make.Goals as goal

-- the number of the new object has no properties yet
pub add_object-requires-clause-absent : goal.add_object-requires-clause-absent
add_object-requires-clause-absent c =
    let state = state_at c.args.self.now c.args.place in
    ap (properties_of state.store) c.in_ok-number.ensures.number ∙ nothing_stored state c.requires.stored c.law_sound.ensures

pub returns-in_err-number-clause-only : goal.returns-in_err-number-clause-only
returns-in_err-number-clause-only c = grind (arith, common_steps, changes_with)

pub returns-in_err-add_object-clause-only : goal.returns-in_err-add_object-clause-only
returns-in_err-add_object-clause-only c = grind (arith, common_steps, changes_with)

pub returns-clause-ok : goal.returns-clause-ok
returns-clause-ok c = grind (arith, common_steps, changes_with)

pub returns-clause-only : goal.returns-clause-only
returns-clause-only c = grind (arith, common_steps, changes_with)
