use Rattle.std.proofs.Common.{arith, refl, sym}
use Rattle.std.proofs.lemmas.Grind.{common_steps}
use Rattle.std.proofs.lemmas.Result.{on_err_weaker}
use Rattle.property_store.specs.Inside.{head_at}
use Rattle.property_store.specs.Store.{with_dynamic}
use Rattle.property_store.proofs.HeadLemmas.{IsRowChanged, as_changed, row_changed, same_head}
use Rattle.property_store.proofs.PlaceLemmas.{stock_same}
use Rattle.property_store.proofs.ReadLemmas.{object_absent, store_unchanged}
use Rattle.property_store.proofs.WriteLemmas.{dynamic_set, set_kept}
use Rattle.property_store.proofs.WrittenLemmas.{kept_beside, marks_beside}
use Rattle.property_store.proofs.stores.Stores.set_dynamic.Goals as goal

-- the row of the object is changed
changed : (c : goal.After-update) → IsRowChanged c.self.inside.layouts c.self.inside.rows c.self.inside.heads c.update.new.self c.self.inside.heads
    c.args.self.now c.args.place c.in-Some.key c.args.object c.update.ensures.3.shown.now c.update.ensures.3.left.now (head_at c.self.inside.heads c.args.place)
changed c =
    let done = c.update.ensures in
    row_changed c.self.invariant c.self.view_is c.requires.place c.find.ensures.sound c.in-Some.ensures.found done.2 done.3.shows done.3.leaves done.4
    (same_head c.self.inside.heads c.args.place)

pub returns-in_default-clause-refused : goal.returns-in_default-clause-refused
returns-in_default-clause-refused c = rw (object_absent c.self.invariant c.self.view_is c.requires.place c.args.object (sym c.in_default.ensures.found)) refl

pub returns-in_default-clause-ok : goal.returns-in_default-clause-ok
returns-in_default-clause-ok c = store_unchanged c.self.invariant c.self.view_is c.requires.place c.args.object (sym c.in_default.ensures.found)
    (with_dynamic c.args.name c.args.value)

pub invariant_of-self : goal.invariant_of-self
invariant_of-self c = kept_beside (changed c) c.update.ensures.3.met.rest refl (set_kept (as_changed (changed c)) c.update.ensures.3.met c.requires.short)

pub returns : goal.returns
returns c =
    let it = dynamic_set (as_changed (changed c)) c.update.ensures.3.met in
    let marks = marks_beside (changed c) c.update.ensures.3.met.rest refl in
    record { refused = it.refused; ok = it.ok; err = on_err_weaker c.update.result (λ same. stock_same same marks) it.err; marks = marks }

pub find-requires : goal.find-requires
find-requires c = grind (arith, common_steps)

pub update-requires-clause-place : goal.update-requires-clause-place
update-requires-clause-place c = grind (arith, common_steps)
