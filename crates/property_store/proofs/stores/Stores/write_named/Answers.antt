use Rattle.std.proofs.Common.{◌≡◌, Err, None, Ok, arith, cond, refl, sym, rules}
use Rattle.std.proofs.lemmas.Grind.{common_steps}
use Rattle.property_store.specs.declared.link.Head.TheVariants.{First}
use Rattle.property_store.specs.Inside.{head_at}
use Rattle.property_store.specs.Store.{fields_in, properties_of}
use Rattle.property_store.specs.Storing.{IsNamed}
use Rattle.property_store.specs.Table.{store_at}
use Rattle.property_store.proofs.HeadLemmas.{IsRowChanged, as_changed, row_changed, same_head, under_many}
use Rattle.property_store.proofs.ReadLemmas.{object_absent, place_open}
use Rattle.property_store.proofs.WriteLemmas.{name_written, nothing_named}
use Rattle.property_store.proofs.WrittenLemmas.{named_kept, named_marks, named_same, no_name_marked}
use Rattle.property_store.proofs.stores.Stores.write_named.Goals as goal

-- there is no such object
nothing_there : (c : goal.In_default) → properties_of (store_at c.args.self.now.shelves c.args.place) c.args.object ≡ None
nothing_there c = object_absent c.self.invariant c.self.view_is c.requires.place c.args.object
    (sym c.in_default.ensures.found)

pub returns-in_default : goal.returns-in_default
returns-in_default c =
    let it = nothing_named c.args.self.now.shelves c.args.place c.args.object c.args.value (nothing_there c) c.args.name.now in
    record {
      answer = it.answer;
      new = it.new_is;
      err = search rules;
      marks = no_name_marked c.args.place c.args.object (store_at c.args.self.now.shelves c.args.place) c.args.self.now.marks (nothing_there c)
          c.args.name.now c.args.value;
    }

pub update-requires-clause-callable : goal.update-requires-clause-callable
update-requires-clause-callable c = λ lent under. under_many c.self.invariant c.args.place
    (place_open c.self.invariant c.self.view_is c.requires.place) c.in-Some.key lent.now under

-- the value is refused
refused_row : (c : goal.In-Err) → IsRowChanged c.self.inside.layouts c.self.inside.rows c.self.inside.heads c.update.new.self c.self.inside.heads
    c.args.self.now c.args.place c.in-Some.key c.args.object c.update.ensures.3.shown.now c.update.ensures.3.left.now (head_at c.self.inside.heads c.args.place)
refused_row c =
    let done = c.update.ensures in
    row_changed c.self.invariant c.self.view_is c.requires.place c.find.ensures.sound c.in-Some.ensures.found done.2 done.3.shows done.3.leaves done.4
    (same_head c.self.inside.heads c.args.place)

refused : (c : goal.In-Err) → IsNamed (fields_in c.self.inside.layouts c.update.ensures.3.shown.now.class) c.args.name.now c.args.value
    (head_at c.self.inside.heads c.args.place) c.update.ensures.3.shown.now c.update.ensures.3.left.now (Err c.in-Err.unwritten)
refused c = search rules

pub invariant_of-self : goal.invariant_of-self
invariant_of-self c = named_kept (refused_row c) c.args.name.now c.args.value (Err c.in-Err.unwritten) (refused c) refl c.requires.short

pub returns-in-Err : goal.returns-in-Err
returns-in-Err c =
    let it = name_written (as_changed (refused_row c)) c.args.name.now c.args.value (head_at c.self.inside.heads c.args.place) (Err c.in-Err.unwritten)
    (refused c) in
    record {
      answer = it.answer;
      new = it.new_is;
      err = named_same (refused_row c) c.args.name.now c.args.value (Err c.in-Err.unwritten) (refused c) refl c.in-Err.unwritten refl it.err;
      marks = named_marks (refused_row c) c.args.name.now c.args.value (Err c.in-Err.unwritten) (refused c) refl;
    }

-- it is stored
stored_row : (c : goal.After-set_first) → IsRowChanged c.self.inside.layouts c.self.inside.rows c.self.inside.heads c.update.new.self c.set_first.new.heads
    c.args.self.now c.args.place c.in-Some.key c.args.object c.update.ensures.3.shown.now c.update.ensures.3.left.now
    (cond c.in-Ok.stored.1.is_linked (First (record { object = c.args.object; number = c.in-Ok.stored.0 })) (head_at c.self.inside.heads c.args.place))
stored_row c =
    let done = c.update.ensures in
    row_changed c.self.invariant c.self.view_is c.requires.place c.find.ensures.sound c.in-Some.ensures.found done.2 done.3.shows done.3.leaves done.4
    c.set_first.ensures

stored : (c : goal.After-set_first) → IsNamed (fields_in c.self.inside.layouts c.update.ensures.3.shown.now.class) c.args.name.now c.args.value
    (head_at c.self.inside.heads c.args.place) c.update.ensures.3.shown.now c.update.ensures.3.left.now (Ok c.in-Ok.stored)
stored c = search rules

pub invariant_of-self-2 : goal.invariant_of-self-2
invariant_of-self-2 c = named_kept (stored_row c) c.args.name.now c.args.value (Ok c.in-Ok.stored) (stored c) refl c.requires.short

pub returns : goal.returns
returns c =
    let it = name_written (as_changed (stored_row c)) c.args.name.now c.args.value (head_at c.self.inside.heads c.args.place) (Ok c.in-Ok.stored)
    (stored c) in
    record {
      answer = it.answer;
      new = it.new_is;
      err = tt;
      marks = named_marks (stored_row c) c.args.name.now c.args.value (Ok c.in-Ok.stored) (stored c) refl;
    }

pub find-requires : goal.find-requires
find-requires c = grind (arith, common_steps)

pub update-requires-clause-place : goal.update-requires-clause-place
update-requires-clause-place c = grind (arith, common_steps)
