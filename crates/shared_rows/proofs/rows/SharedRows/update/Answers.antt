use Rattle.std.specs.Fn.{FnOnceReturnsAtMut}
use Rattle.std.proofs.Common.{refl}
use Rattle.shared_rows.proofs.KeptLemmas.{seen_at, slot_some, slot_under, updated}
use Rattle.shared_rows.proofs.rows.SharedRows.update.Goals as goal

pub index_mut-slot-requires : goal.index_mut-slot-requires
index_mut-slot-requires g c = slot_some (seen_at c.self.invariant c.self.view_is c.requires.place).1 c.args.key c.requires.stands

pub change-requires : goal.change-requires
change-requires g c = c.requires.callable _
    (slot_under (seen_at c.self.invariant c.self.view_is c.requires.place).1 c.args.key c.requires.stands c.index_mut-slot.ensures.value).1

pub invariant_of-self : goal.invariant_of-self
invariant_of-self g c =
    let seen = (seen_at c.self.invariant c.self.view_is c.requires.place).1 in
    let row = (slot_under seen c.args.key c.requires.stands c.index_mut-slot.ensures.value).1 in
    let gave : FnOnceReturnsAtMut g.F.FnOnce c.args.change c.index_mut-slot.result.now.row c.change.result c.change.new.arg2 =
    record { shown = _; shows = refl; left = _; met = c.change.ensures; leaves = refl } in
    (updated c.self.invariant seen c.self.view_is c.args.key c.change.new.arg2 c.requires.stands c.index_mut-slot.ensures.value
    (c.requires.number _ _ _ row gave)).kept

pub returns : goal.returns
returns g c =
    let seen = (seen_at c.self.invariant c.self.view_is c.requires.place).1 in
    let row = (slot_under seen c.args.key c.requires.stands c.index_mut-slot.ensures.value).1 in
    let gave : FnOnceReturnsAtMut g.F.FnOnce c.args.change c.index_mut-slot.result.now.row c.change.result c.change.new.arg2 =
    record { shown = _; shows = refl; left = _; met = c.change.ensures; leaves = refl } in (
      _,
      _,
      row,
      gave,
      (updated c.self.invariant seen c.self.view_is c.args.key c.change.new.arg2 c.requires.stands c.index_mut-slot.ensures.value
          (c.requires.number _ _ _ row gave)).view,
    )
