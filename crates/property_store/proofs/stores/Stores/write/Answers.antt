use Rattle.std.proofs.Common.{◌≡◌, Err, None, Ok, arith, cond, refl, sym, rules}
use Rattle.std.proofs.lemmas.Grind.{common_steps}
use Rattle.property_store.specs.declared.link.Head.TheVariants.{First}
use Rattle.property_store.specs.Inside.{head_at}
use Rattle.property_store.specs.Store.{fields_in, properties_of}
use Rattle.property_store.specs.Storing.{IsStored}
use Rattle.property_store.specs.Table.{store_at}
use Rattle.property_store.proofs.HeadLemmas.{IsRowChanged, as_changed, each_many, row_changed, same_head}
use Rattle.property_store.proofs.ReadLemmas.{object_absent, place_open}
use Rattle.property_store.proofs.WriteLemmas.{nothing_written, row_written}
use Rattle.property_store.proofs.WrittenLemmas.{nothing_marked, refused_same, stored_kept, stored_marks}
use Rattle.property_store.proofs.stores.Stores.write.Goals as goal

-- there is no such object
nothing_there : (c : goal.After-drop-value) → properties_of (store_at c.args.self.now.shelves c.args.place) c.args.object ≡ None
nothing_there c = object_absent c.self.invariant c.self.view_is c.requires.place c.args.object
    (sym c.in_default.ensures.found)

pub returns-in_default : goal.returns-in_default
returns-in_default c =
    let it = nothing_written c.args.self.now.shelves c.args.place c.args.object c.args.value (nothing_there c) c.args.number in
    record {
      refused = it.refused;
      answer = it.answer;
      new = it.new_is;
      err = tt;
      marks = nothing_marked c.args.place c.args.object (store_at c.args.self.now.shelves c.args.place) c.args.self.now.marks (nothing_there c) c.args.number
          c.args.value;
    }

pub write_under-requires-clause-many : goal.write_under-requires-clause-many
write_under-requires-clause-many c = each_many c.self.invariant c.args.place
    (place_open c.self.invariant c.self.view_is c.requires.place)

-- the value is refused
refused_row : (c : goal.In-Err) → IsRowChanged c.self.inside.layouts c.self.inside.rows c.self.inside.heads c.write_under.new.rows c.self.inside.heads
    c.args.self.now c.args.place c.in-Some.key c.args.object c.write_under.ensures.row c.write_under.ensures.changed (head_at c.self.inside.heads c.args.place)
refused_row c =
    let done = c.write_under.ensures in
    row_changed c.self.invariant c.self.view_is c.requires.place c.find.ensures.sound c.in-Some.ensures.found done.under refl refl done.new_is
    (same_head c.self.inside.heads c.args.place)

refused : (c : goal.In-Err) → IsStored (fields_in c.self.inside.layouts c.write_under.ensures.row.class) c.args.number c.args.value
    (head_at c.self.inside.heads c.args.place) c.write_under.ensures.row c.write_under.ensures.changed (Err c.in-Err.code)
refused c = search rules

pub invariant_of-self : goal.invariant_of-self
invariant_of-self c = stored_kept (refused_row c) (refused c) refl c.requires.short

pub returns-in-Err : goal.returns-in-Err
returns-in-Err c =
    let it = row_written (as_changed (refused_row c)) (refused c) in
    record {
      refused = it.refused;
      answer = tt;
      new = it.new_is;
      err = refused_same (refused_row c) (refused c) refl refl it.err;
      marks = stored_marks (refused_row c) (refused c) refl;
    }

-- it is stored
stored_row : (c : goal.After-set_first) → IsRowChanged c.self.inside.layouts c.self.inside.rows c.self.inside.heads c.write_under.new.rows c.set_first.new.heads
    c.args.self.now c.args.place c.in-Some.key c.args.object c.write_under.ensures.row c.write_under.ensures.changed
    (cond c.in-Ok.stored.is_linked (First (record { object = c.args.object; number = c.args.number })) (head_at c.self.inside.heads c.args.place))
stored_row c =
    let done = c.write_under.ensures in
    row_changed c.self.invariant c.self.view_is c.requires.place c.find.ensures.sound c.in-Some.ensures.found done.under refl refl done.new_is
    c.set_first.ensures

stored : (c : goal.After-set_first) → IsStored (fields_in c.self.inside.layouts c.write_under.ensures.row.class) c.args.number c.args.value
    (head_at c.self.inside.heads c.args.place) c.write_under.ensures.row c.write_under.ensures.changed (Ok c.in-Ok.stored)
stored c = search rules

pub invariant_of-self-2 : goal.invariant_of-self-2
invariant_of-self-2 c = stored_kept (stored_row c) (stored c) refl c.requires.short

pub returns : goal.returns
returns c =
    let it = row_written (as_changed (stored_row c)) (stored c) in
    record { refused = it.refused; answer = it.answer; new = it.new_is; err = tt; marks = stored_marks (stored_row c) (stored c) refl }

pub find-requires : goal.find-requires
find-requires c = grind (arith, common_steps)

pub write_under-requires-clause-place : goal.write_under-requires-clause-place
write_under-requires-clause-place c = grind (arith, common_steps)
