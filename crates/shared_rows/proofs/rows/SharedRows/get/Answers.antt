use Rattle.shared_rows.proofs.KeptLemmas.{seen_at, slot_some, slot_under}
use Rattle.shared_rows.proofs.rows.SharedRows.get.Goals as goal

pub index-slot-requires : goal.index-slot-requires
index-slot-requires g c = slot_some (seen_at c.self.invariant c.self.view_is c.requires.place).1 c.args.key c.requires.stands

pub prove-unreachable-requires : goal.prove-unreachable-requires
prove-unreachable-requires g c = c.if-prove.true
    (slot_under (seen_at c.self.invariant c.self.view_is c.requires.place).1 c.args.key c.requires.stands c.index-slot.ensures).0

pub returns : goal.returns
returns g c =
    let seen = (seen_at c.self.invariant c.self.view_is c.requires.place).1 in
    record { row = (slot_under seen c.args.key c.requires.stands c.index-slot.ensures).1; sound = seen.sound }
