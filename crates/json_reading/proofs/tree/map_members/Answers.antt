use Rattle.std.proofs.Common.{◌≡◌, [], ◌∷◌, ◌++◌, sym, ap, ◌∙◌, subst, append_assoc}
use Rattle.std.specs.List.Sorted.{IsStrictlySortedBy}
use Rattle.std.specs.Map.{keys_of}
use Rattle.std.specs.String.{string_cmp}
use Rattle.serde_json.specs.Data.{no_members}
use Rattle.serde_json.proofs.Views.{Entry, put_last}
use Rattle.json_reading.specs.Members.{members_in}
use Rattle.json_reading.proofs.MemberLemmas.{members_from-push}
use Rattle.json_reading.proofs.tree.map_members.Goals as goal

pub loop-key-preserved : goal.loop-key-preserved
loop-key-preserved c =
    let l = c.loop-key in
    let done = l.invariant.0 in
    let e : Entry = (c.in-Some.key.now, c.in-Some.value.now) in
    let left = c.next.new.self in
    let all : c.args.map.now.entries ≡ done ++ e ∷ left = l.invariant.1 ∙ ap (λ es. done ++ es) c.in-Some.ensures.steps in
    let last = put_last done e left (subst (λ es. IsStrictlySortedBy string_cmp (keys_of es)) all c.iter-key-items.ensures.ordered) in (
      done ++ e ∷ [],
      all ∙ sym (append_assoc done (e ∷ []) left),
      ap members_in c.in_ok-push.ensures.items ∙ members_from-push no_members l.found.items _ ∙ rw (c.as_str.ensures.value, l.invariant.2) last,
    )
