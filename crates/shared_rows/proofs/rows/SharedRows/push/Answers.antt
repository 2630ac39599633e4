use Rattle.std.proofs.Common.{◌≡◌, ◌∙◌, ◌++◌, ◌∷◌, [], None, get_or, sym, ap, rules}
use Rattle.shared_rows.proofs.KeptLemmas.{come, come_last, on_err, seen_by, unchanged, vacant_seen}
use Rattle.shared_rows.proofs.rows.SharedRows.push.Goals as goal

pub invariant_of-self-in_err-reserve-2 : goal.invariant_of-self-in_err-reserve-2
invariant_of-self-in_err-reserve-2 g c =
    let seen = seen_by c.self.invariant c.self.view_is c.requires.place c.get_mut-index.ensures.value in
    (unchanged c.self.invariant seen c.self.view_is c.reserve-2.new.self (ap (λ slab. slab.slots) c.reserve.ensures.rest_kept) c.reserve-2.ensures.items).kept

pub returns-in_err-reserve-2-clause-err : goal.returns-in_err-reserve-2-clause-err
returns-in_err-reserve-2-clause-err g c =
    let seen = seen_by c.self.invariant c.self.view_is c.requires.place c.get_mut-index.ensures.value in
    on_err c.from_residual-in_err-reserve-2.result
    (unchanged c.self.invariant seen c.self.view_is c.reserve-2.new.self
    (ap (λ slab. slab.slots) c.reserve.ensures.rest_kept) c.reserve-2.ensures.items).view

pub invariant_of-self-2 : goal.invariant_of-self-2
invariant_of-self-2 g c =
    let seen = seen_by c.self.invariant c.self.view_is c.requires.place c.get_mut-index.ensures.value in
    let short : c.in-Ok.short ≡ c.vacant_key-key.result = search rules in
    let came = come c.self.inside.slab.slots (ap (λ slab. slab.slots) c.reserve.ensures.rest_kept) c.vacant_key-key.ensures.value c.insert_reserved.ensures.key
    c.vacant_key-key.ensures.vacant c.insert_reserved.ensures.updates c.insert_reserved.ensures.len in
    (come_last c.self.invariant seen c.self.view_is c.push_reserved.new.self came c.number.ensures short c.requires.number
    (ap (λ index. index.items) c.push_reserved.ensures ∙ ap (λ items. items ++ record { number = c.number.result; key = c.in-Ok.short } ∷ [])
    c.reserve-2.ensures.items)).kept

pub returns-clause-added : goal.returns-clause-added
returns-clause-added g c =
    let seen = seen_by c.self.invariant c.self.view_is c.requires.place c.get_mut-index.ensures.value in
    let short : c.in-Ok.short ≡ c.vacant_key-key.result = search rules in
    let came = come c.self.inside.slab.slots (ap (λ slab. slab.slots) c.reserve.ensures.rest_kept) c.vacant_key-key.ensures.value c.insert_reserved.ensures.key
    c.vacant_key-key.ensures.vacant c.insert_reserved.ensures.updates c.insert_reserved.ensures.len in
    (come_last c.self.invariant seen c.self.view_is c.push_reserved.new.self came c.number.ensures short c.requires.number
    (ap (λ index. index.items) c.push_reserved.ensures ∙ ap (λ items. items ++ record { number = c.number.result; key = c.in-Ok.short } ∷ [])
    c.reserve-2.ensures.items)).view

pub returns-clause-vacant : goal.returns-clause-vacant
returns-clause-vacant g c =
    let seen = seen_by c.self.invariant c.self.view_is c.requires.place c.get_mut-index.ensures.value in
    vacant_seen seen c.vacant_key-key.result
    (ap (λ slab. get_or slab.slots c.vacant_key-key.result None) (sym c.reserve.ensures.rest_kept) ∙ c.vacant_key-key.ensures.vacant)
