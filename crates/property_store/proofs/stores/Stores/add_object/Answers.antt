use Rattle.std.proofs.Common.{◌≡◌, ◌&&◌, List, arith, cond, length, nat_lt, not, refl, rules}
use Rattle.std.specs.declared.option.Option.TheVariants as option
use Rattle.std.proofs.lemmas.Grind.{common_steps}
use Rattle.std.proofs.lemmas.List.{length-map}
use Rattle.shared_rows.specs.Table.{with_place}
use Rattle.shared_rows.specs.Rows.{inserted, key_of, rows_at}
use Rattle.property_store.specs.declared.field.Field.{Field}
use Rattle.property_store.specs.declared.link.Head.TheVariants.{First}
use Rattle.property_store.specs.declared.row.Row.{Row}
use Rattle.property_store.specs.Chain.{AreNew, is_all}
use Rattle.property_store.specs.Inside.{head_at, limited, shown}
use Rattle.property_store.specs.Store.{fields_in, fresh}
use Rattle.property_store.proofs.ComeLemmas.{come_kept, come_marks}
use Rattle.property_store.proofs.PlaceLemmas.{new_added, new_kept, shelves_seen}
use Rattle.property_store.proofs.ReadLemmas.{key_absent}
use Rattle.property_store.proofs.StoreLemmas.{number}
use Rattle.property_store.proofs.stores.Stores.add_object.Goals as goal

pub insert-requires-clause-absent : goal.insert-requires-clause-absent
insert-requires-clause-absent c = key_absent c.self.invariant c.self.view_is c.requires.place c.args.object c.requires.absent

-- the row that is added
abbrev row : (c : goal.After-set_first) → Row
row c = record { object = c.args.object; class = c.args.class; values = c.in_ok-defaults.field-0; links = c.in_ok-new.field-0; dynamic = c.new-2.result }

abbrev fields : (c : goal.After-set_first) → List Field
fields c = fields_in c.self.inside.layouts c.args.class

is_fresh : (c : goal.After-set_first) → shown c.self.inside.layouts (row c) ≡ fresh c.args.object (fields c)
is_fresh c = search rules

as_many : (c : goal.After-set_first) → length c.in_ok-defaults.field-0 ≡ length (fields c)
as_many c = search (rules, length-map)

are_new : (c : goal.After-set_first) → AreNew c.args.object (length (fields c)) (head_at c.self.inside.heads c.args.place) c.in_ok-new.field-0
are_new c = search rules

none : (c : goal.After-set_first) → key_of number (rows_at c.self.inside.rows c.args.place) c.args.object ≡ option.None
none c = key_absent c.self.invariant c.self.view_is c.requires.place c.args.object c.requires.absent

heads_are : (c : goal.After-set_first) → c.set_first.new.heads
    ≡ with_place c.self.inside.heads c.args.place
    (cond (nat_lt 0 (length (fields c)) && not (is_all (head_at c.self.inside.heads c.args.place))) (First (record { object = c.args.object; number = 0 }))
    (head_at c.self.inside.heads c.args.place))
heads_are c = search rules

limited_are : (c : goal.After-set_first) → limited c.insert.new.self c.set_first.new.heads.room
    ≡ with_place (limited c.self.inside.rows c.self.inside.heads.room) c.args.place
    (inserted number (rows_at c.self.inside.rows c.args.place) c.in_ok-insert.field-0 (row c))
limited_are c = search rules

pub invariant_of-self-2 : goal.invariant_of-self-2
invariant_of-self-2 c =
    come_kept c.self.invariant c.self.view_is c.args.place c.requires.place c.args.object c.args.class c.in_ok-insert.field-0 (row c) refl (none c) (are_new c)
    (as_many c) c.insert.new.self c.set_first.new.heads c.in_ok-insert.ensures.added (heads_are c)
    (new_kept (limited c.self.inside.rows c.self.inside.heads.room)
    (shelves_seen c.self.view_is) c.args.place c.requires.place c.args.object c.self.invariant.sound c.args.class c.in_ok-insert.field-0 (row c)
    (is_fresh c) (limited c.insert.new.self c.set_first.new.heads.room) (limited_are c))

pub returns-clause-ok : goal.returns-clause-ok
returns-clause-ok c =
    new_added (limited c.self.inside.rows c.self.inside.heads.room)
    (shelves_seen c.self.view_is) c.args.place c.requires.place c.args.object c.self.invariant.sound c.args.class c.in_ok-insert.field-0 (row c)
    (is_fresh c) (limited c.insert.new.self c.set_first.new.heads.room) (limited_are c)

pub returns-clause-marks : goal.returns-clause-marks
returns-clause-marks c =
    come_marks c.self.invariant c.self.view_is c.args.place c.requires.place c.args.object c.args.class c.in_ok-insert.field-0 (row c) refl (none c) (are_new c)
    (as_many c) c.insert.new.self c.set_first.new.heads c.in_ok-insert.ensures.added (heads_are c)

pub insert-requires-clause-place : goal.insert-requires-clause-place
insert-requires-clause-place c = grind (arith, common_steps)
