use Rattle.shared_rows.specs.Rows.{rows_at}
use Rattle.property_store.proofs.ComeLemmas.{AreGone, absent_gone, object_gone}
use Rattle.property_store.proofs.StoreLemmas.{row_stands}
use Rattle.property_store.specs.declared.link.Head.TheVariants.{All}
use Rattle.property_store.specs.Store.{without}
use Rattle.property_store.specs.Table.{store_at}
use Rattle.shared_rows.specs.Table.{with_place}
use Rattle.property_store.proofs.stores.Stores.take_out.Goals as goal
use Rattle.property_store.proofs.stores.Stores.take_out.Goals.{in-Some, in_default}

left : (c : goal.Joined-take) → AreGone c.self.invariant c.self.view_is c.args.place c.requires.place c.take.new.self
    (with_place c.self.inside.heads c.args.place All) (without c.args.object (store_at c.args.self.now.shelves c.args.place))
left c = elim c.match-take.branch [
  | in-Some w ↦
      object_gone c.self.invariant c.self.view_is c.args.place c.requires.place c.requires.unmarked c.args.object c.take.new.self w.in-Some.ensures.taken.0
      w.in-Some.row
      (row_stands (rows_at c.self.inside.rows c.args.place) c.take.ensures.sound w.in-Some.ensures.taken.0 c.args.object w.in-Some.row w.in-Some.ensures.taken.1
      w.in-Some.ensures.taken.2) w.in-Some.ensures.taken.4
  | in_default w ↦ absent_gone c.self.invariant c.self.view_is c.args.place c.requires.place c.requires.unmarked c.args.object c.take.new.self
      w.in_default.ensures.absent w.in_default.ensures.unchanged
]

pub invariant_of-self : goal.invariant_of-self
invariant_of-self c = (left c).kept_still

pub returns-clause-stores : goal.returns-clause-stores
returns-clause-stores c = (left c).stores

pub returns-clause-marks : goal.returns-clause-marks
returns-clause-marks c = (left c).marks
