use Rattle.std.proofs.Common.{refl, ap}
use Rattle.shared_rows.proofs.KeptLemmas.{number_absent, number_found, number_some, removed, row_numbered, seen_by, slot_some, unchanged}
use Rattle.shared_rows.proofs.rows.SharedRows.take.Goals as goal

pub position-requires : goal.position-requires
position-requires g c = (seen_by c.self.invariant c.self.view_is c.requires c.get_mut-index.ensures.value).entries.rising

pub invariant_of-self : goal.invariant_of-self
invariant_of-self g c =
    (unchanged c.self.invariant (seen_by c.self.invariant c.self.view_is c.requires c.get_mut-index.ensures.value) c.self.view_is c.get_mut-index.result.now
    refl refl).kept

pub returns-in_err-at : goal.returns-in_err-at
returns-in_err-at g c =
    let seen = seen_by c.self.invariant c.self.view_is c.requires c.get_mut-index.ensures.value in
    rw c.from_residual.ensures (record {
      taken = tt;
      absent = number_absent seen c.args.number c.in_err-at.ensures.absent;
      unchanged = (unchanged c.self.invariant seen c.self.view_is c.get_mut-index.result.now refl refl).view;
      sound = seen.sound;
    })

pub remove-row-requires : goal.remove-row-requires
remove-row-requires g c =
    let seen = seen_by c.self.invariant c.self.view_is c.requires c.get_mut-index.ensures.value in
    slot_some seen c.remove-entry.result.key (number_some seen c.in_ok-at.ensures.found (c.remove-entry.ensures.element c.remove-entry.result))

pub invariant_of-self-2 : goal.invariant_of-self-2
invariant_of-self-2 g c =
    let seen = seen_by c.self.invariant c.self.view_is c.requires c.get_mut-index.ensures.value in
    let entry = c.remove-entry.ensures.element c.remove-entry.result in
    (removed c.self.invariant seen c.self.view_is c.remove-entry.new.self c.remove-entry.result.key
    (number_some seen c.in_ok-at.ensures.found entry) c.remove-row.ensures.value c.in_ok-at.ensures.found
    (row_numbered seen c.in_ok-at.ensures.found entry c.remove-row.ensures.value).1 c.remove-row.ensures.updates.others c.remove-row.ensures.len
    (ap (λ index. index.items) c.remove-entry.ensures.others)).kept

pub returns : goal.returns
returns g c =
    let seen = seen_by c.self.invariant c.self.view_is c.requires c.get_mut-index.ensures.value in
    let entry = c.remove-entry.ensures.element c.remove-entry.result in
    let row = row_numbered seen c.in_ok-at.ensures.found entry c.remove-row.ensures.value in
    record {
      taken = (
        c.remove-entry.result.key,
        number_found seen c.in_ok-at.ensures.found entry,
        row.0,
        row.1,
        (removed c.self.invariant seen c.self.view_is c.remove-entry.new.self c.remove-entry.result.key
            (number_some seen c.in_ok-at.ensures.found entry) c.remove-row.ensures.value c.in_ok-at.ensures.found
            row.1 c.remove-row.ensures.updates.others c.remove-row.ensures.len (ap (λ index. index.items) c.remove-entry.ensures.others)).view,
      );
      absent = tt;
      unchanged = tt;
      sound = seen.sound;
    }
