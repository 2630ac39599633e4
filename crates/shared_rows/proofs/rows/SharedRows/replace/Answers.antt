use Rattle.std.proofs.Common.{◌∙◌, Some, ap, sym}
use Rattle.shared_rows.proofs.KeptLemmas.{replaced, seen_at, slot_some, slot_under}
use Rattle.shared_rows.proofs.RowsLemmas.{some_mapped}
use Rattle.shared_rows.proofs.rows.SharedRows.replace.Goals as goal

pub index_mut-requires : goal.index_mut-requires
index_mut-requires g c = slot_some (seen_at c.self.invariant c.self.view_is c.requires.place).1 c.args.key
    (some_mapped g.R.Numbered.number _ _ c.requires.number)

pub invariant_of-self : goal.invariant_of-self
invariant_of-self g c = rw c.replace.ensures.after
    (replaced c.self.invariant (seen_at c.self.invariant c.self.view_is c.requires.place).1 c.self.view_is c.args.key c.args.row c.requires.number).kept

pub returns : goal.returns
returns g c =
    let seen = (seen_at c.self.invariant c.self.view_is c.requires.place).1 in
    record {
      old = (slot_under seen c.args.key (some_mapped g.R.Numbered.number _ _ c.requires.number)
          (c.index_mut.ensures.value ∙ ap Some (sym c.replace.ensures.value))).1;
      new = rw c.replace.ensures.after (replaced c.self.invariant seen c.self.view_is c.args.key c.args.row c.requires.number).view;
    }
