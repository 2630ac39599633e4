-- Rows and their links: what a link that comes or goes changes, and what the least link tells.
use Rattle.std.proofs.Common.{◌≡◌, ◌≢◌, ◌∙◌, ◌⊎◌, ℕ, zero, suc, ◌<◌, Bool, true, false, not, cond, List, [], ◌∷◌, ◌++◌, Some, None, length, filter, map, get_or}
use Rattle.std.proofs.Common.{refl, sym, ap, subst, arith, ⊎_elim, inl, inr}
use Rattle.std.specs.Cmp.{IsTotalOrder, tied_itself}
use Rattle.std.specs.List.{All, Any, Contains}
use Rattle.std.specs.Ordering.{is_eq, is_lt, ordering_reverse}
use Rattle.std.specs.declared.cmp.Ordering.{Ordering}
use Rattle.std.specs.declared.cmp.Ordering.TheVariants.{Less, Equal, Greater}
use Rattle.std.proofs.lemmas.Bool.{cases_Bool}
use Rattle.std.proofs.lemmas.List.Elements.{All-contains, All-contains_itself, All-filter, All-map, Contains-append_cases, Contains-append_left}
use Rattle.std.proofs.lemmas.List.Elements.{Contains-append_right, Contains-get_or, Contains-push, Contains-push_cases, filter_passes}
use Rattle.std.proofs.lemmas.List.Sums.{length-filter, count_by-le-length}
use Rattle.shared_rows.specs.Links.{AreLinked, IsInOrder, first_from, with_link, without_link}

module _ {X : Type 0} where
  pub contains_first : (x : X) (xs : List X) → Contains (x ∷ xs) x
  contains_first x xs = (0, omega arith, refl)

  pub contains_later : (first x : X) (xs : List X) → Contains xs x → Contains (first ∷ xs) x
  contains_later first x xs there = (suc there.0, omega arith, there.2)

  pub contains_cases : (first x : X) (xs : List X) → Contains (first ∷ xs) x → (first ≡ x) ⊎ Contains xs x
  contains_cases first x xs there = by there.0 there.1 there.2
    where
      by : (at : ℕ) → at < length (first ∷ xs) → get_or (first ∷ xs) at x ≡ x → (first ≡ x) ⊎ Contains xs x
      by zero within is = inl is
      by (suc at) within is = inr (at, omega arith, is)

  -- what a filter keeps
  pub contains_kept : (p : X → Bool) (xs : List X) (x : X) → Contains xs x → p x ≡ true → Contains (filter p xs) x
  contains_kept p [] x there passes = absurd (omega arith)
  contains_kept p (first ∷ xs) x there passes =
      ⊎_elim
      (λ here. let test : p first ≡ true = ap p here ∙ passes in rw test
      (subst (Contains (first ∷ filter p xs)) here (contains_first first (filter p xs))))
      (λ later. by (p first) (contains_kept p xs x later passes))
      (contains_cases first x xs there)
    where
      by : (kept : Bool) → Contains (filter p xs) x → Contains (cond kept (first ∷ filter p xs) (filter p xs)) x
      by true there = contains_later first x (filter p xs) there
      by false there = there

  pub contains_from : (p : X → Bool) (xs : List X) (x : X) → Contains (filter p xs) x → Contains xs x × (p x ≡ true)
  contains_from p xs x there = (
    All-contains (Contains xs) (filter p xs) x (All-filter p (Contains xs) xs (All-contains_itself xs)) there,
    All-contains (λ y. p y ≡ true) (filter p xs) x (filter_passes p xs) there,
  )

  -- a fact of what a list contains, and an element of which a fact holds
  pub all_from : (P : X → Type 0) (xs : List X) → ((x : X) → Contains xs x → P x) → All P xs
  all_from P xs holds = λ k d within. holds (get_or xs k d) (Contains-get_or xs k d within)

  pub any_of : (P : X → Type 0) (xs : List X) (x : X) → Contains xs x → P x → Any P xs
  any_of P xs x there holds = (there.0, x, there.1, there.2, holds)

pub contains_map : {X Y : Type 0} (f : X → Y) (xs : List X) (x : X) → Contains xs x → Contains (map f xs) (f x)
contains_map f [] x there = absurd (omega arith)
contains_map f (first ∷ xs) x there = ⊎_elim
    (λ here. subst (λ y. Contains (f first ∷ map f xs) (f y)) here (contains_first (f first) (map f xs)))
    (λ later. contains_later (f first) (f x) (map f xs) (contains_map f xs x later))
    (contains_cases first x xs there)

pub contains_mapped : {X Y : Type 0} (f : X → Y) (xs : List X) (y : Y) → Contains (map f xs) y → (x : X) × Contains xs x × (f x ≡ y)
contains_mapped {X} {Y} f xs y there =
    let any : Any (λ x. f x ≡ y) xs = All-contains (λ z. Any (λ x. f x ≡ z) xs) (map f xs) y
    (All-map (λ z. Any (λ x. f x ≡ z) xs) f xs (all_from (λ x. Any (λ w. f w ≡ f x) xs) xs (λ x stood. any_of (λ w. f w ≡ f x) xs x stood refl)))
    there in
    (any.1, (any.0, any.2, any.3), any.4)

-- rows and links, each with one of the others
are_linked : {R K : Type 0} (link_of : R → K) (rows : List R) (links : List K) → ((row : R) → Contains rows row → Contains links (link_of row))
    → ((link : K) → Contains links link → (row : R) × Contains rows row × (link_of row ≡ link)) → AreLinked link_of rows links
are_linked link_of rows links each all = record {
  each = all_from (λ row. Contains links (link_of row)) rows each;
  all = all_from (λ link. Any (λ row. link_of row ≡ link) rows) links
      (λ link there. let row = all link there in any_of (λ r. link_of r ≡ link) rows row.0 row.1 row.2);
}

module _ {R K : Type 0} {link_of : R → K} (rows : List R) (links : List K) (linked : AreLinked link_of rows links) where
  link_there : (row : R) → Contains rows row → Contains links (link_of row)
  link_there row = All-contains (λ r. Contains links (link_of r)) rows row linked.each

  row_there : (link : K) → Contains links link → (row : R) × Contains rows row × (link_of row ≡ link)
  row_there link there = let any = All-contains (λ link. Any (λ r. link_of r ≡ link) rows) links link linked.all there in (any.1, (any.0, any.2, any.3), any.4)

-- a change that keeps each link
pub linked_same : {R K : Type 0} (link_of : R → K) (change : R → R) → ((row : R) → link_of (change row) ≡ link_of row) → (rows : List R) (links : List K)
    → AreLinked link_of rows links → AreLinked link_of (map change rows) links
linked_same link_of change keeps rows links linked = are_linked link_of (map change rows) links
    (λ row there. let from = contains_mapped change rows row there in subst (Contains links) (sym (keeps from.0) ∙ ap link_of from.2)
    (link_there rows links linked from.0 from.1))
    (λ link there. let row = row_there rows links linked link there in (change row.0, contains_map change rows row.0 row.1, keeps row.0 ∙ row.2))

module _ {K : Type 0} {cmp : K → K → Ordering} (total : IsTotalOrder cmp) where
  -- a link that is there, gone
  pub length-without : (links : List K) (link : K) → Contains links link → length (without_link cmp links link) < length links
  length-without [] link there = absurd (omega arith)
  length-without (first ∷ links) link there = ⊎_elim
      (λ here. let tied : is_eq (cmp first link) ≡ true = ap (λ x. is_eq (cmp x link)) here ∙ ap is_eq (tied_itself total link) in
      rw tied (omega (arith, length-filter (λ other. not (is_eq (cmp other link))) links, count_by-le-length (λ other. not (is_eq (cmp other link))) links)))
      (λ later. by (is_eq (cmp first link)) (length-without links link later))
      (contains_cases first link links there)
    where
      by : (tied : Bool) → length (without_link cmp links link) < length links
          → length (cond (not tied) (first ∷ without_link cmp links link) (without_link cmp links link)) < length (first ∷ links)
      by true less = omega arith
      by false less = omega arith

module _ {K : Type 0} {cmp : K → K → Ordering} (total : IsTotalOrder cmp) (same : (x y : K) → cmp x y ≡ Equal → x ≡ y) where
  above : (x : K) (xs : List K) → IsInOrder cmp (x ∷ xs) → (z : K) → Contains xs z → cmp x z ≡ Less
  above x xs order z there = ap (cmp x) (sym there.2) ∙ order 0 (suc there.0) z (omega arith) (omega arith)

  in_rest : (x y : K) (xs ys : List K) → x ≡ y → IsInOrder cmp (x ∷ xs) → ((z : K) → Contains (x ∷ xs) z → Contains (y ∷ ys) z) → (z : K) → Contains xs z
      → Contains ys z
  in_rest x y xs ys heads order to z there = ⊎_elim
      (λ here. let tied : cmp x z ≡ Equal = ap (cmp x) (sym (heads ∙ here)) ∙ tied_itself total x in absurd (cc (tied, above x xs order z there)))
      (λ later. later)
      (contains_cases y z ys (to z (contains_later x z xs there)))

  -- links in order are known by what they contain
  pub same_links : (xs ys : List K) → IsInOrder cmp xs → IsInOrder cmp ys → ((x : K) → Contains xs x → Contains ys x)
      → ((x : K) → Contains ys x → Contains xs x) → xs ≡ ys
  same_links [] [] in_xs in_ys to from = refl
  same_links [] (y ∷ ys) in_xs in_ys to from = absurd (omega (arith, (from y (contains_first y ys)).1))
  same_links (x ∷ xs) [] in_xs in_ys to from = absurd (omega (arith, (to x (contains_first x xs)).1))
  same_links (x ∷ xs) (y ∷ ys) in_xs in_ys to from = λ i. heads i ∷ same_links xs ys
      (λ i j d lt within. in_xs (suc i) (suc j) d (omega arith) (omega arith)) (λ i j d lt within. in_ys (suc i) (suc j) d (omega arith) (omega arith))
      (in_rest x y xs ys heads in_xs to) (in_rest y x ys xs (sym heads) in_ys from) i
    where
      heads : x ≡ y
      heads = ⊎_elim
          (λ here. sym here)
          (λ later. ⊎_elim
          (λ here. here)
          (λ back.
          let turned : cmp y x ≡ Greater = total.antisymm y x ∙ ap ordering_reverse (above x xs in_xs y back) in
          absurd (cc (turned, above y ys in_ys x later)))
          (contains_cases x y xs (from y (contains_first y ys))))
          (contains_cases y x ys (to x (contains_first x xs)))

  -- the links with one more
  pub with_itself : (links : List K) (link : K) → Contains (with_link cmp links link) link
  with_itself links link = Contains-append_right (filter (λ other. is_lt (cmp other link)) links) _ link (contains_first link _)

  pub with_others : (links : List K) (link x : K) → Contains links x → Contains (with_link cmp links link) x
  with_others links link x there = by (cmp x link) refl
    where
      by : (o : Ordering) → cmp x link ≡ o → Contains (with_link cmp links link) x
      by Less e = Contains-append_left _ _ x (contains_kept (λ other. is_lt (cmp other link)) links x there (ap is_lt e))
      by Equal e = subst (Contains (with_link cmp links link)) (sym (same x link e)) (with_itself links link)
      by Greater e = Contains-append_right (filter (λ other. is_lt (cmp other link)) links) _ x
          (contains_later link x _ (contains_kept (λ other. is_lt (cmp link other)) links x there (ap is_lt (total.antisymm link x ∙ ap ordering_reverse e))))

  pub with_cases : (links : List K) (link x : K) → Contains (with_link cmp links link) x → Contains links x ⊎ (link ≡ x)
  with_cases links link x there = ⊎_elim
      (λ front. inl (contains_from (λ other. is_lt (cmp other link)) links x front).0)
      (λ back. ⊎_elim
      (λ here. inr here)
      (λ later. inl (contains_from (λ other. is_lt (cmp link other)) links x later).0)
      (contains_cases link x _ back))
      (Contains-append_cases _ _ x there)

  -- and with one fewer
  pub without_others : (links : List K) (link x : K) → Contains links x → x ≢ link → Contains (without_link cmp links link) x
  without_others links link x there differ = contains_kept (λ other. not (is_eq (cmp other link))) links x there (by (cmp x link) refl)
    where
      by : (o : Ordering) → cmp x link ≡ o → not (is_eq (cmp x link)) ≡ true
      by Less e = ap (λ o. not (is_eq o)) e
      by Equal e = absurd (differ (same x link e))
      by Greater e = ap (λ o. not (is_eq o)) e

  pub without_from : (links : List K) (link x : K) → Contains (without_link cmp links link) x → Contains links x × (x ≢ link)
  without_from links link x there =
      let kept = contains_from (λ other. not (is_eq (cmp other link))) links x there in (
        kept.0,
        λ e. let tied : not (is_eq (cmp x link)) ≡ false = ap (λ o. not (is_eq o)) (ap (λ y. cmp x y) (sym e) ∙ tied_itself total x) in absurd
            (cc (kept.1, tied)),
      )

  module _ {R : Type 0} (link_of : R → K) where
    pub linked_push : (rows : List R) (links : List K) (row : R) → AreLinked link_of rows links
        → AreLinked link_of (rows ++ row ∷ []) (with_link cmp links (link_of row))
    linked_push rows links row linked = are_linked link_of (rows ++ row ∷ []) (with_link cmp links (link_of row))
        (λ r there. ⊎_elim
        (λ old. with_others links (link_of row) (link_of r) (link_there rows links linked r old))
        (λ here. subst (λ r. Contains (with_link cmp links (link_of row)) (link_of r)) here (with_itself links (link_of row)))
        (Contains-push_cases rows row r there))
        (λ link there. ⊎_elim
        (λ old. let r = row_there rows links linked link old in (r.0, Contains-append_left rows (row ∷ []) r.0 r.1, r.2))
        (λ here. (row, Contains-push rows row, here))
        (with_cases links (link_of row) link there))

    -- rows go that have one link
    pub linked_filter : (keep : R → Bool) (rows : List R) (links : List K) (gone : K) → AreLinked link_of rows links
        → All (λ row. keep row ≡ true → link_of row ≢ gone) rows → All (λ row. keep row ≡ false → link_of row ≡ gone) rows
        → AreLinked link_of (filter keep rows) (without_link cmp links gone)
    linked_filter keep rows links gone linked stay go = are_linked link_of (filter keep rows) (without_link cmp links gone)
        (λ row there.
        let kept = contains_from keep rows row there in
        without_others links gone (link_of row) (link_there rows links linked row kept.0)
        (All-contains (λ r. keep r ≡ true → link_of r ≢ gone) rows row stay kept.0 kept.1))
        (λ link there.
        let kept = without_from links gone link there in
        let row = row_there rows links linked link kept.0 in
        ⊎_elim
        (λ keeps. (row.0, contains_kept keep rows row.0 row.1 keeps, row.2))
        (λ goes. absurd (kept.1 (sym row.2 ∙ All-contains (λ r. keep r ≡ false → link_of r ≡ gone) rows row.0 go row.1 goes)))
        (cases_Bool (keep row.0)))

    -- rows that change keep their links, but for those of one link, which get another one
    pub linked_map : (change : R → R) (rows : List R) (links : List K) (gone come : K) → AreLinked link_of rows links
        → All (λ row. ((link_of row ≡ gone) × (link_of (change row) ≡ come)) ⊎ ((link_of row ≢ gone) × (link_of (change row) ≡ link_of row))) rows
        → Any (λ row. link_of row ≡ gone) rows
        → AreLinked link_of (map change rows) (with_link cmp (without_link cmp links gone) come)
    linked_map change rows links gone come linked cases some =
        let rest : List K = without_link cmp links gone in
        let new : List K = with_link cmp rest come in
        let case = All-contains (λ row. ((link_of row ≡ gone) × (link_of (change row) ≡ come)) ⊎ ((link_of row ≢ gone) × (link_of (change row) ≡ link_of row)))
        rows in
        are_linked link_of (map change rows) new
        (λ row there.
        let from = contains_mapped change rows row there in
        subst (λ r. Contains new (link_of r)) from.2 (⊎_elim
        (λ moves. subst (Contains new) (sym moves.1) (with_itself rest come))
        (λ stays. subst (Contains new) (sym stays.1)
        (with_others rest come (link_of from.0) (without_others links gone (link_of from.0) (link_there rows links linked from.0 from.1) stays.0)))
        (case from.0 cases from.1)))
        (λ link there. ⊎_elim
        (λ old.
        let kept = without_from links gone link old in
        let row = row_there rows links linked link kept.0 in
        ⊎_elim
        (λ moves. absurd (kept.1 (sym row.2 ∙ moves.0)))
        (λ stays. (change row.0, contains_map change rows row.0 row.1, stays.1 ∙ row.2))
        (case row.0 cases row.1))
        (λ here.
        let stood : Contains rows some.1 = (some.0, some.2, some.3) in
        ⊎_elim
        (λ moves. (change some.1, contains_map change rows some.1 stood, moves.1 ∙ here))
        (λ stays. absurd (stays.0 some.4))
        (case some.1 cases stood))
        (with_cases rest come link there))

  -- the least link from one on: it is there, not below that one, and no other that is not below that one is below it
  pub first_some : (links : List K) → IsInOrder cmp links → (from link : K) → first_from cmp links from ≡ Some link
      → Contains links link × (is_lt (cmp link from) ≡ false)
      × ((other : K) → Contains links other → is_lt (cmp other from) ≡ false → is_lt (cmp other link) ≡ false)
  first_some [] order from link found = absurd (cc)
  first_some (first ∷ links) order from link found = ⊎_elim
      (λ below.
      let rest = first_some links (λ i j d lt within. order (suc i) (suc j) d (omega arith) (omega arith)) from link (rw below at found) in (
        contains_later first link links rest.0,
        rest.1,
        λ other there above. ⊎_elim
            (λ here. let low : is_lt (cmp other from) ≡ true = ap (λ k. is_lt (cmp k from)) (sym here) ∙ below in absurd (cc (low, above)))
            (λ later. rest.2 other later above)
            (contains_cases first other links there),
      ))
      (λ least.
      let is_first : Some first ≡ Some link = rw least at found in
      let here : first ≡ link = cc in (
        subst (Contains (first ∷ links)) here (contains_first first links),
        ap (λ k. is_lt (cmp k from)) (sym here) ∙ least,
        λ other there above. ⊎_elim
            (λ same_one. ap is_lt (ap (λ k. cmp k link) (sym same_one ∙ here) ∙ tied_itself total link))
            (λ later.
            let less : cmp first other ≡ Less = ap (cmp first) (sym later.2) ∙ order 0 (suc later.0) other (omega arith) (omega arith) in
            ap is_lt (ap (cmp other) (sym here) ∙ (total.antisymm other first ∙ ap ordering_reverse less)))
            (contains_cases first other links there),
      ))
      (cases_Bool (is_lt (cmp first from)))

  -- where there is none, all are below
  pub first_none : (links : List K) → (from : K) → first_from cmp links from ≡ None → (other : K) → Contains links other → is_lt (cmp other from) ≡ true
  first_none [] from none other there = absurd (omega arith)
  first_none (first ∷ links) from none other there = ⊎_elim
      (λ below. ⊎_elim
      (λ here. ap (λ k. is_lt (cmp k from)) (sym here) ∙ below)
      (λ later. first_none links from (rw below at none) other later)
      (contains_cases first other links there))
      (λ least. let some : Some first ≡ None = rw least at none in absurd (cc))
      (cases_Bool (is_lt (cmp first from)))
