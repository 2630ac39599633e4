use Rattle.std.proofs.Common.{[], arith, refl, sym}
use Rattle.std.proofs.lemmas.Grind.{common_steps}
use Rattle.shared_rows.specs.Rows.{rows_at}
use Rattle.property_store.specs.Inside.{head_at}
use Rattle.property_store.specs.Store.{without_dynamic}
use Rattle.property_store.proofs.HeadLemmas.{IsRowChanged, as_changed, row_changed, same_head}
use Rattle.property_store.proofs.PlaceLemmas.{under_sound}
use Rattle.property_store.proofs.ReadLemmas.{place_open, store_unchanged}
use Rattle.property_store.proofs.WriteLemmas.{dynamic_removed, removed_kept}
use Rattle.property_store.proofs.WrittenLemmas.{kept_beside, marks_beside}
use Rattle.property_store.proofs.stores.Stores.remove_dynamic.Goals as goal

-- the row of the object is changed
changed : (c : goal.After-update) → IsRowChanged c.self.inside.layouts c.self.inside.rows c.self.inside.heads c.update.new.self c.self.inside.heads
    c.args.self.now c.args.place c.in-Some.key c.args.object c.update.ensures.3.shown.now c.update.ensures.3.left.now (head_at c.self.inside.heads c.args.place)
changed c =
    let done = c.update.ensures in
    row_changed c.self.invariant c.self.view_is c.requires c.find.ensures.sound c.in-Some.ensures.found done.2 done.3.shows done.3.leaves done.4
    (same_head c.self.inside.heads c.args.place)

pub returns-in_default-clause-stores : goal.returns-in_default-clause-stores
returns-in_default-clause-stores c = store_unchanged c.self.invariant c.self.view_is c.requires c.args.object (sym c.in_default.ensures.found)
    (without_dynamic c.args.name.now)

pub update-requires-clause-callable : goal.update-requires-clause-callable
update-requires-clause-callable c = λ lent under.
    (under_sound c.self.inside.layouts (rows_at c.self.inside.rows c.args.place)
    (c.self.invariant.sound c.args.place [] (place_open c.self.invariant c.self.view_is c.requires)) c.in-Some.key lent.now under).distinct

pub invariant_of-self : goal.invariant_of-self
invariant_of-self c = kept_beside (changed c) c.update.ensures.3.met.rest refl
    (removed_kept (as_changed (changed c)) {name = c.args.name.now} c.update.ensures.3.met)

pub returns-clause-stores : goal.returns-clause-stores
returns-clause-stores c = dynamic_removed (as_changed (changed c)) c.update.ensures.3.met

pub returns-clause-marks : goal.returns-clause-marks
returns-clause-marks c = marks_beside (changed c) c.update.ensures.3.met.rest refl

pub find-requires : goal.find-requires
find-requires c = grind (arith, common_steps)

pub update-requires-clause-place : goal.update-requires-clause-place
update-requires-clause-place c = grind (arith, common_steps)
