use Rattle.std.proofs.Common.{◌∙◌, sym, ap}
use Rattle.shared_rows.proofs.KeptLemmas.{number_there, removed, seen_at, seen_by, slot_some, slot_under}
use Rattle.shared_rows.proofs.rows.SharedRows.remove.Goals as goal

pub remove-row-requires : goal.remove-row-requires
remove-row-requires g c = slot_some (seen_at c.self.invariant c.self.view_is c.requires.place).1 c.args.key c.requires.stands

pub position-requires : goal.position-requires
position-requires g c = (seen_by c.self.invariant c.self.view_is c.requires.place c.get_mut-index.ensures.value).entries.rising

pub unwrap-at-requires : goal.unwrap-at-requires
unwrap-at-requires g c =
    let seen = seen_by c.self.invariant c.self.view_is c.requires.place c.get_mut-index.ensures.value in
    number_there seen c.args.key c.requires.stands c.remove-row.ensures.value (c.value.ensures ∙ c.number.ensures) c.position.result c.position.ensures.absent

pub invariant_of-self : goal.invariant_of-self
invariant_of-self g c =
    let seen = seen_by c.self.invariant c.self.view_is c.requires.place c.get_mut-index.ensures.value in
    (removed c.self.invariant seen c.self.view_is c.remove.new.self c.args.key c.requires.stands c.remove-row.ensures.value
    (rw c.unwrap-at.ensures at c.position.ensures.found) (sym (c.value.ensures ∙ c.number.ensures))
    c.remove-row.ensures.updates.others c.remove-row.ensures.len (ap (λ index. index.items) c.remove.ensures.others)).kept

pub returns : goal.returns
returns g c =
    let seen = seen_by c.self.invariant c.self.view_is c.requires.place c.get_mut-index.ensures.value in
    record {
      row = (slot_under seen c.args.key c.requires.stands c.remove-row.ensures.value).1;
      rest = (removed c.self.invariant seen c.self.view_is c.remove.new.self c.args.key c.requires.stands c.remove-row.ensures.value
          (rw c.unwrap-at.ensures at c.position.ensures.found) (sym (c.value.ensures ∙ c.number.ensures))
          c.remove-row.ensures.updates.others c.remove-row.ensures.len (ap (λ index. index.items) c.remove.ensures.others)).view;
    }
