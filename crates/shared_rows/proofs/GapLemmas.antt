-- Lists without a gap.
use Rattle.std.proofs.Common.{◌≡◌, ◌⊎◌, inl, inr, ◌∙◌, ℕ, ◌+◌, ◌-◌, ◌<◌, ◌≤◌, List, [], ◌∷◌, ◌++◌, length, get_or, take, set, sym, ap, arith, rules}
use Rattle.std.proofs.lemmas.Grind.{common_steps, elements}
use Rattle.std.specs.List.{CopiedTo, SameBelow, SameFrom, insert, remove}
use Rattle.std.proofs.lemmas.Bool.{cases_lt, cases_order}
use Rattle.std.proofs.lemmas.List.{length-set, same_lists}
use Rattle.std.proofs.lemmas.List.Edits.{get_or-insert_below, get_or-remove_above, get_or-remove_below, length-insert, length-remove}
use Rattle.shared_rows.specs.Gap.{without}

module _ {T : Type 0} where
  -- the list beside a gap of no place is all of them
  pub without_none : (places : List T) (start : ℕ) → without places start 0 ≡ places
  unfolding without
  without_none places start = grind (arith, common_steps)

  -- a gap given up at the end
  pub without_back : (places : List T) (start gone : ℕ) → length places ≤ start + gone → without (take start places) start 0 ≡ without places start gone
  unfolding without
  without_back places start gone end = grind (arith, common_steps)

  -- a gap behind the last element
  pub without_end : (places xs : List T) (start gone : ℕ) → take start places ≡ xs → length places ≡ start + gone → without places start gone ≡ xs
  unfolding without
  without_end places xs start gone front size = grind (arith, common_steps)

  pub without_push : (places : List T) (start gone : ℕ) (element : T) → start + gone ≤ length places
      → without (places ++ element ∷ []) start gone ≡ without places start gone ++ element ∷ []
  unfolding without
  without_push places start gone element within = grind (arith, common_steps)

  pub length-without : (places : List T) (start gone : ℕ) → start + gone ≤ length places → length (without places start gone) + gone ≡ length places
  unfolding without
  length-without places start gone within = grind (arith, common_steps)

  get_before : (places : List T) (start gone k : ℕ) (d : T) → start + gone ≤ length places → k < start
      → get_or (without places start gone) k d ≡ get_or places k d
  unfolding without
  get_before places start gone k d within before = grind (arith, common_steps)

  get_behind : (places : List T) (start gone k : ℕ) (d : T) → start + gone ≤ length places → start ≤ k
      → get_or (without places start gone) k d ≡ get_or places (k + gone) d
  unfolding without
  get_behind places start gone k d within behind = grind (arith, common_steps)

  -- the list beside a gap, told by its elements
  by_index : (places xs : List T) (start gone : ℕ) → start + gone ≤ length places → length xs + gone ≡ length places
      → ((k : ℕ) (d : T) → k < start → get_or places k d ≡ get_or xs k d)
      → ((k : ℕ) (d : T) → start ≤ k → k + gone < length places → get_or places (k + gone) d ≡ get_or xs k d)
      → without places start gone ≡ xs
  by_index places xs start gone within size front back = search (rules, length-without, same_lists, get_before, get_behind)

  -- the gap moves past a run of elements, which is copied over its places: towards the end
  pub moved_right : (places new : List T) (start gone to : ℕ) → start ≤ to → to + gone ≤ length places → length new ≡ length places
      → CopiedTo places new (start + gone) start (to + gone - (start + gone)) → SameBelow places new start
      → SameFrom places new (start + (to + gone - (start + gone)))
      → without new to gone ≡ without places start gone
  moved_right places new start gone to order within same run before behind =
      let size = length-without places start gone (omega arith) in
      by_index new (without places start gone) to gone (omega arith) (omega arith)
      (λ k d low. let place : start ≤ k → start + gone + (k - start) ≡ k + gone = λ back. omega arith in
      grind (arith, common_steps, place, run k d, before k d, get_before places start gone k d, get_behind places start gone k d))
      (λ k d high end. grind (arith, common_steps, behind (k + gone) d, get_behind places start gone k d))

  -- and towards the front
  pub moved_left : (places new : List T) (start gone to : ℕ) → to ≤ start → start + gone ≤ length places → length new ≡ length places
      → CopiedTo places new to (to + gone) (start - to) → SameBelow places new (to + gone) → SameFrom places new (to + gone + (start - to))
      → without new to gone ≡ without places start gone
  moved_left places new start gone to order within same run before behind =
      let size = length-without places start gone within in
      by_index new (without places start gone) to gone (omega arith) (omega arith)
      (λ k d low. grind (arith, common_steps, before k d, get_before places start gone k d))
      (λ k d high end. let place : to + (k + gone - (to + gone)) ≡ k = omega arith in
      grind (arith, common_steps, place, run (k + gone) d, behind (k + gone) d, get_before places start gone k d, get_behind places start gone k d))

  -- where an element of the list stands
  pub place_read : (places : List T) (start gone at place : ℕ) (d : T) → start + gone ≤ length places
      → ((at < start) × (place ≡ at)) ⊎ ((start ≤ at) × (place ≡ at + gone))
      → get_or places place d ≡ get_or (without places start gone) at d
  place_read places start gone at place d within (inl before) = ap (λ n. get_or places n d) before.1 ∙ sym (get_before places start gone at d within before.0)
  place_read places start gone at place d within (inr behind) = ap (λ n. get_or places n d) behind.1 ∙ sym (get_behind places start gone at d within behind.0)

  pub place_within : (places : List T) (start gone at place : ℕ) → start + gone ≤ length places → at < length (without places start gone)
      → ((at < start) × (place ≡ at)) ⊎ ((start ≤ at) × (place ≡ at + gone))
      → place < length places
  place_within places start gone at place within low (inl before) = omega arith
  place_within places start gone at place within low (inr behind) = omega (arith, length-without)

  -- another element in its place
  set_before : (places : List T) (start gone at : ℕ) (element : T) → start + gone ≤ length places → at < start
      → without (set places at element) start gone ≡ set (without places start gone) at element
  set_before places start gone at element within low =
      let size = length-without places start gone within in
      let list = without places start gone in
      by_index (set places at element) (set list at element) start gone (grind (arith, elements)) (grind (arith, elements, size))
      (λ k d before. grind (arith, elements, size, get_before places start gone k d within before))
      (λ k d behind high. grind (arith, elements, size, get_behind places start gone k d within behind))

  set_behind : (places : List T) (start gone at : ℕ) (element : T) → start + gone ≤ length places → start ≤ at → at < length (without places start gone)
      → without (set places (at + gone) element) start gone ≡ set (without places start gone) at element
  set_behind places start gone at element within high low =
      let size = length-without places start gone within in
      let list = without places start gone in
      by_index (set places (at + gone) element) (set list at element) start gone (grind (arith, elements)) (grind (arith, elements, size))
      (λ k d before. grind (arith, elements, size, get_before places start gone k d within before))
      (λ k d behind end. grind (arith, elements, size, get_behind places start gone k d within behind))

  pub place_set : (places : List T) (start gone at place : ℕ) (element : T) → start + gone ≤ length places → at < length (without places start gone)
      → ((at < start) × (place ≡ at)) ⊎ ((start ≤ at) × (place ≡ at + gone))
      → without (set places place element) start gone ≡ set (without places start gone) at element
  place_set places start gone at place element within low (inl before) = ap (λ n. without (set places n element) start gone) before.1
      ∙ set_before places start gone at element within before.0
  place_set places start gone at place element within low (inr behind) = ap (λ n. without (set places n element) start gone) behind.1
      ∙ set_behind places start gone at element within behind.0 low

  -- an element goes out where the gap stands
  pub without_wider : (places : List T) (at gone : ℕ) → at + gone < length places → without places at (gone + 1) ≡ remove (without places at gone) at
  without_wider places at gone within =
      let size = length-without places at gone (omega arith) in
      let list = without places at gone in
      let short = length-remove list at (omega arith) in
      by_index places (remove list at) at (gone + 1) (omega arith) (omega arith)
      (λ k d before. grind (arith, elements, size, get_before places at gone k d))
      (λ k d behind end. let place : k + (gone + 1) ≡ k + 1 + gone = omega arith in
      grind (arith, elements, size, place, get_or-remove_above list at d k behind, get_behind places at gone (k + 1) d))

  -- or behind it
  pub remove_behind : (places : List T) (start gone at : ℕ) → start + gone ≤ length places → start ≤ at → at + gone < length places
      → without (remove places (at + gone)) start gone ≡ remove (without places start gone) at
  remove_behind places start gone at within high low =
      let size = length-without places start gone within in
      let list = without places start gone in
      let long = length-remove places (at + gone) low in
      let short = length-remove list at (omega arith) in
      by_index (remove places (at + gone)) (remove list at) start gone (omega arith) (omega arith)
      (λ k d before. grind (arith, elements, size, get_before places start gone k d within before))
      (λ k d behind end. let place : k + gone + 1 ≡ k + 1 + gone = omega arith in
      grind (
        arith,
        elements,
        size,
        place,
        cases_lt k at,
        get_or-remove_below places (at + gone) d (k + gone),
        get_or-remove_below list at d k,
        get_or-remove_above places (at + gone) d (k + gone),
        get_or-remove_above list at d k,
        get_behind places start gone k d,
        get_behind places start gone (k + 1) d,
      ))

  -- an element of a list that another came into
  inserted_at : (xs : List T) (at k : ℕ) (element d : T) → at ≤ length xs → k ≡ at → get_or (insert xs at element) k d ≡ element
  inserted_at xs at k element d within here = grind (arith, common_steps)

  inserted_past : (xs : List T) (at k : ℕ) (element d : T) → at ≤ length xs → at < k → get_or (insert xs at element) k d ≡ get_or xs (k - 1) d
  inserted_past xs at k element d within past = grind (arith, common_steps)

  -- an element comes in where the gap stands
  pub without_narrower : (places : List T) (at gone : ℕ) (element : T) → 0 < gone → at + gone ≤ length places
      → without (set places at element) (at + 1) (gone - 1) ≡ insert (without places at gone) at element
  without_narrower places at gone element some within =
      let size = length-without places at gone within in
      let list = without places at gone in
      let long = length-set places at element in
      let short = length-insert list at element (omega arith) in
      by_index (set places at element) (insert list at element) (at + 1) (gone - 1) (omega arith) (omega arith)
      (λ k d before. grind (
        arith,
        elements,
        size,
        inserted_at list at k element d,
        get_or-insert_below list at element d k,
        get_before places at gone k d within,
      ))
      (λ k d behind end. let place : k + (gone - 1) ≡ k - 1 + gone = omega arith in
      grind (arith, elements, size, place, inserted_past list at k element d, get_behind places at gone (k - 1) d within))

  -- or behind it
  pub insert_behind : (places : List T) (start gone at : ℕ) (element : T) → start + gone ≤ length places → start ≤ at → at + gone ≤ length places
      → without (insert places (at + gone) element) start gone ≡ insert (without places start gone) at element
  insert_behind places start gone at element within high low =
      let size = length-without places start gone within in
      let list = without places start gone in
      let long = length-insert places (at + gone) element low in
      let short = length-insert list at element (omega arith) in
      by_index (insert places (at + gone) element) (insert list at element) start gone (omega arith) (omega arith)
      (λ k d before. grind (
        arith,
        elements,
        size,
        get_or-insert_below places (at + gone) element d k,
        get_or-insert_below list at element d k,
        get_before places start gone k d within before,
      ))
      (λ k d behind end. let place : at < k → k + gone - 1 ≡ k - 1 + gone = λ past. omega arith in
      grind (
        arith,
        elements,
        size,
        place,
        cases_order k at,
        inserted_at places (at + gone) (k + gone) element d,
        inserted_at list at k element d,
        get_or-insert_below places (at + gone) element d (k + gone),
        get_or-insert_below list at element d k,
        inserted_past places (at + gone) (k + gone) element d,
        inserted_past list at k element d,
        get_behind places start gone k d,
        get_behind places start gone (k - 1) d,
      ))

-- what the functions of a gap need of these
pub ruleset of_gaps = (length-without, without_none, without_back, without_push, without_narrower, without_wider, insert_behind, remove_behind)
