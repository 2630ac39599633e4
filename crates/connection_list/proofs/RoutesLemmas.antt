-- What the links of a place tell of its connections.
use Rattle.std.proofs.Common.{◌≡◌, ◌≢◌, ◌∙◌, ℕ, zero, suc, ◌+◌, ◌-◌, ◌<◌, ◌≤◌, ◌^◌, Bool, true, false, List, [], ◌∷◌, Option, Some, None, IfNone, IfSome}
use Rattle.std.proofs.Common.{length, find, get_or, refl, sym, ap, subst, arith, ⊎_elim}
use Rattle.std.specs.List.{All, AllPairs, Any, Contains}
use Rattle.std.specs.Option.{option_map}
use Rattle.std.specs.Ordering.{is_lt}
use Rattle.std.proofs.lemmas.Bool.{cases_Bool}
use Rattle.std.proofs.lemmas.Bool.Decides.{nat_tests}
use Rattle.std.proofs.lemmas.List.{get_or-map, length-map}
use Rattle.std.proofs.lemmas.List.Elements.{All-contains}
use Rattle.shared_rows.specs.Links.{IsInOrder, first_from}
use Rattle.shared_rows.specs.Rows.{Keyed, added}
use Rattle.shared_rows.proofs.LinkedLemmas.{first_none, first_some}
use Rattle.connection_list.specs.declared.connection.Connection.{Connection}
use Rattle.connection_list.specs.declared.link.Link.{Link}
use Rattle.connection_list.specs.Ends.{touches}
use Rattle.connection_list.specs.Rows.{IsSound, is_next}
use Rattle.connection_list.specs.Buckets.{HaveSame}
use Rattle.connection_list.specs.Routes.{AreSame, Gains, IsLinkedAt, IsPlaceKept, IsRouted, link_cmp, links_at, place_of, received_of, sent_of}
use Rattle.connection_list.specs.declared.routes.Routes.{Routes}
use Rattle.connection_list.proofs.BucketLemmas.{linked_push, linked_same}
use Rattle.connection_list.proofs.LinkLemmas.{at_least, from, link_same, link_total, not_below}

-- each number is below all later ones
abbrev pub IsRisingKeyed : List (Keyed Connection) → Type 0
IsRisingKeyed rows = (i j : ℕ) (default : Keyed Connection) → i < j → j < length rows → (get_or rows i default).row.number < (get_or rows j default).row.number

pub rising_keyed : (rows : List (Keyed Connection)) (routes : Routes) → IsSound (place_of rows routes) → IsRisingKeyed rows
rising_keyed rows routes sound i j default below within =
    let rise = sound.rising i j default.row below (omega (arith, length-map rows (λ (keyed : Keyed Connection). keyed.row), within)) in
    let low : i < length rows = omega (arith, within) in
    omega (
      arith,
      ap (λ (row : Connection). row.number) (get_or-map (λ (keyed : Keyed Connection). keyed.row) rows i default default.row low),
      ap (λ (row : Connection). row.number) (get_or-map (λ (keyed : Keyed Connection). keyed.row) rows j default default.row within),
    )

-- no number is above all that can be given
pub last_bound : (rows : List (Keyed Connection)) (routes : Routes) → IsSound (place_of rows routes) → All (λ keyed. keyed.row.number < 2 ^ 32) rows
last_bound rows routes sound k default within =
    let given = sound.given k default.row (omega (arith, length-map rows (λ (keyed : Keyed Connection). keyed.row), within)) in
    omega (
      arith,
      ap (λ (row : Connection). row.number)
          (get_or-map (λ (keyed : Keyed Connection). keyed.row) rows k default default.row within),
    )

-- the first that passes, where none that passes has a smaller number
find_least : {X : Type 0} (number_of : X → ℕ) (test : X → Bool) (rows : List X) → AllPairs (λ earlier later. number_of earlier < number_of later) rows
    → (row : X) → Contains rows row → test row ≡ true
    → All (λ other. test other ≡ true → number_of row ≤ number_of other) rows → find test rows ≡ Some row
find_least number_of test [] rising row there passes least = absurd (omega arith)
find_least {X} number_of test (first ∷ rows) rising row there passes least =
    by there.0 there.1 there.2 (λ at within is. find_least number_of test rows (λ i j d low high. rising (suc i) (suc j) d (omega arith) (omega arith)) row
    (at, within, is) passes (λ k d lt yes. least (suc k) d (omega arith) yes))
  where
    by : (at : ℕ) → at < length (first ∷ rows) → get_or (first ∷ rows) at row ≡ row
        → ((at : ℕ) → at < length rows → get_or rows at row ≡ row → find test rows ≡ Some row) → find test (first ∷ rows) ≡ Some row
    by zero within is later = let here : test first ≡ true = ap test is ∙ passes in rw here (ap Some is)
    by (suc at) within is later =
        let below : number_of first < number_of row = omega (arith, rising 0 (suc at) row (omega arith) within, ap number_of is) in
        let fails : test first ≡ false = ⊎_elim
        (λ yes. absurd (omega (arith, least 0 first (omega arith) yes)))
        (λ no. no)
        (cases_Bool (test first)) in
        rw fails (later at (omega arith) is)

-- nothing is found where all fail
pub find_none : (test : Keyed Connection → Bool) (rows : List (Keyed Connection)) → All (λ keyed. test keyed ≡ false) rows → find test rows ≡ None
find_none test [] none = refl
find_none test (first ∷ rows) none = let here : test first ≡ false = none 0 first (omega arith) in rw here
    (find_none test rows (λ k d within. none (suc k) d (omega arith)))

-- what fails where it can't pass
fails_where : (b : Bool) → (b ≡ true → ⊥) → b ≡ false
fails_where true never = absurd (never refl)
fails_where false never = refl

abbrev key_in : Option (Keyed Connection) → Option ℕ
key_in found = option_map (λ keyed. keyed.key) found

module _ (sender signal after up_to : ℕ) (rows : List (Keyed Connection)) (routes : Routes) (kept : IsPlaceKept rows routes) where
  abbrev links : List Link
  links = links_at false sender routes

  abbrev pub calls_next : Keyed Connection → Bool
  calls_next keyed = is_next sender signal after up_to keyed.row

  record IsNext (keyed : Keyed Connection) : Type 0 where
    sender_is : keyed.row.sender ≡ sender
    signal_is : keyed.row.signal ≡ signal
    above : after < keyed.row.number
    within : keyed.row.number ≤ up_to

  facts : (keyed : Keyed Connection) → calls_next keyed ≡ true → IsNext keyed
  facts keyed next = record {
    sender_is = grind (arith, nat_tests);
    signal_is = grind (arith, nat_tests);
    above = grind (arith, nat_tests);
    within = grind (arith, nat_tests);
  }

  none_from : All (λ keyed. calls_next keyed ≡ true → ⊥) rows → None ≡ key_in (find calls_next rows)
  none_from never = sym (ap key_in (find_none calls_next rows (λ k d within. fails_where (calls_next (get_or rows k d)) (never k d within))))

  -- no number is above the greatest
  pub none_above : after ≡ 2 ^ 32 - 1 → None ≡ key_in (find calls_next rows)
  none_above last = none_from (λ k d within next. omega (arith, last_bound rows routes kept.sound k d within, (facts (get_or rows k d) next).above))

  -- the link of a connection that the emission calls is not below the first that is looked for
  reaches : (keyed : Keyed Connection) → calls_next keyed ≡ true → is_lt (link_cmp (sent_of keyed) (from sender signal (after + 1))) ≡ false
  reaches keyed next =
      let is = facts keyed next in
      ap (λ o. is_lt (link_cmp (sent_of keyed) (from o signal (after + 1)))) (sym is.sender_is)
      ∙ (ap (λ s. is_lt (link_cmp (sent_of keyed) (from keyed.row.sender s (after + 1)))) (sym is.signal_is)
      ∙ not_below (sent_of keyed) (after + 1) (omega arith))

  pub none_next : {list : List Link} → list ≡ links → first_from link_cmp list (from sender signal (after + 1)) ≡ None
      → None ≡ key_in (find calls_next rows)
  none_next list_is none = none_from (λ k d within next.
      let low = first_none link_total link_same links (from sender signal (after + 1))
      (ap (λ l. first_from link_cmp l (from sender signal (after + 1))) (sym list_is) ∙ none) (sent_of (get_or rows k d))
      ((kept.routed.sent sender).each k d within (facts (get_or rows k d) next).sender_is) in
      let high = reaches (get_or rows k d) next in
      absurd (cc (low, high)))

  module _ {list : List Link} (list_is : list ≡ links) (in_order : IsInOrder link_cmp list) (link : Link)
      (first_is : first_from link_cmp list (from sender signal (after + 1)) ≡ Some link) where
    order : IsInOrder link_cmp links
    order = subst (IsInOrder link_cmp) list_is in_order

    found : first_from link_cmp links (from sender signal (after + 1)) ≡ Some link
    found = ap (λ l. first_from link_cmp l (from sender signal (after + 1))) (sym list_is) ∙ first_is

    low : is_lt (link_cmp link (from sender signal (after + 1))) ≡ false
    low = (first_some link_total link_same links order (from sender signal (after + 1)) link found).1

    upto : (keyed : Keyed Connection) → Contains links (sent_of keyed) → calls_next keyed ≡ true → is_lt (link_cmp (sent_of keyed) link) ≡ false
    upto keyed there next = (first_some link_total link_same links order (from sender signal (after + 1)) link found).2 (sent_of keyed) there
        (reaches keyed next)

    pub next_key : link.object ≡ sender → link.source ≡ signal → link.rank ≤ up_to → Some link.key ≡ key_in (find calls_next rows)
    next_key object same_signal within =
        let stands = (first_some link_total link_same links order (from sender signal (after + 1)) link found).0 in
        let any : Any (λ keyed. sent_of keyed ≡ link) rows = All-contains
        (λ link. link.object ≡ sender → Any (λ keyed. sent_of keyed ≡ link) rows) links link (kept.routed.sent sender).all stands object in
        let keyed : Keyed Connection = any.1 in
        let is : sent_of keyed ≡ link = any.4 in
        let bound = (at_least link (from sender signal (after + 1)) low).rank (sym object) (sym same_signal) in
        let sender_is : keyed.row.sender ≡ sender = ap (λ (l : Link). l.object) is ∙ object in
        let signal_is : keyed.row.signal ≡ signal = ap (λ (l : Link). l.source) is ∙ same_signal in
        let number_is : keyed.row.number ≡ link.rank = ap (λ (l : Link). l.rank) is in
        let next : calls_next keyed ≡ true = grind (arith, nat_tests, sender_is, signal_is, within) in
        ap Some (sym (ap (λ (l : Link). l.key) is))
        ∙ sym (ap key_in (find_least (λ (k : Keyed Connection). k.row.number) calls_next rows (rising_keyed rows routes kept.sound) keyed
        (any.0, any.2, any.3) next (λ k d inside other_next.
        let other = facts (get_or rows k d) other_next in
        let above = at_least (sent_of (get_or rows k d)) link (upto (get_or rows k d) ((kept.routed.sent sender).each k d inside other.sender_is) other_next) in
        omega (arith, above.rank (object ∙ sym other.sender_is) (same_signal ∙ sym other.signal_is)))))

    pub no_next : (link.object ≡ sender → link.source ≡ signal → link.rank ≤ up_to → ⊥) → None ≡ key_in (find calls_next rows)
    no_next differs = none_from (λ k d inside next.
        let is = facts (get_or rows k d) next in
        let above = at_least (sent_of (get_or rows k d)) link (upto (get_or rows k d) ((kept.routed.sent sender).each k d inside is.sender_is) next) in
        let least = at_least link (from sender signal (after + 1)) low in
        let object : link.object ≡ sender = omega (arith, above.object) in
        let same_signal : link.source ≡ signal = omega (arith, above.source (object ∙ sym is.sender_is), least.source (sym object)) in
        differs object same_signal (omega (arith, above.rank (object ∙ sym is.sender_is) (same_signal ∙ sym is.signal_is))))

-- one more connection is found from both ends
pub routed_push : (rows : List (Keyed Connection)) (old new : Routes) (keyed : Keyed Connection) → IsRouted rows old
    → Gains (sent_of keyed) old.sent new.sent
    → Gains (received_of keyed) old.received new.received
    → IsRouted (added rows keyed.key keyed.row) new
routed_push rows old new keyed routed sent received = record {
  sent = λ object. linked_push sent_of rows keyed object (routed.sent object) (sent object);
  received = λ object. linked_push received_of rows keyed object (routed.received object) (received object);
}

-- the same connections are found by the same links
pub routed_same : (old new : Routes) → HaveSame old.sent new.sent → HaveSame old.received new.received → (rows : List (Keyed Connection)) → IsRouted rows old
    → IsRouted rows new
routed_same old new sent received rows routed = record {
  sent = λ object. linked_same sent_of rows object (routed.sent object) (sent object);
  received = λ object. linked_same received_of rows object (routed.received object) (received object);
}

pub same_apart : (old new : Routes) → new.last_number ≡ old.last_number → HaveSame old.sent new.sent → HaveSame old.received new.received → AreSame old new
same_apart old new number sent received = record { last_number = number; routed = routed_same old new sent received }

-- an object is at an end of the connections that its links lead to, and of no other
module _ (object : ℕ) (rows : List (Keyed Connection)) (routes : Routes) (routed : IsRouted rows routes) where
  abbrev Touching : ℕ → Type 0
  Touching key = Any (λ keyed. (keyed.key ≡ key) × (touches object keyed.row ≡ true)) rows

  touches_from : (link_of : Keyed Connection → Link) → ((keyed : Keyed Connection) → (link_of keyed).key ≡ keyed.key)
      → ((keyed : Keyed Connection) → (link_of keyed).object ≡ object → touches object keyed.row ≡ true)
      → (links : List Link) → IsLinkedAt link_of rows object links → (key : ℕ) → Any (λ link. (link.object ≡ object) × (link.key ≡ key)) links → Touching key
  touches_from link_of key_is ends_at links linked key any =
      let row : Any (λ keyed. link_of keyed ≡ any.1) rows = All-contains (λ link. link.object ≡ object → Any (λ keyed. link_of keyed ≡ link) rows) links any.1
      linked.all (any.0, any.2, any.3) any.4.0 in (
        row.0,
        row.1,
        row.2,
        row.3,
        (
          sym (key_is row.1) ∙ (ap (λ (l : Link). l.key) row.4 ∙ any.4.1),
          ends_at row.1 (ap (λ (l : Link). l.object) row.4 ∙ any.4.0),
        ),
      )

  pub touching_sent : (key : ℕ) → Any (λ link. (link.object ≡ object) × (link.key ≡ key)) (links_at false object routes) → Touching key
  touching_sent key any = touches_from sent_of (λ keyed. refl) (λ keyed is. grind (arith, nat_tests)) (links_at false object routes) (routed.sent object)
      key any

  pub touching_received : (found : Option ℕ) → IfSome found (λ key. Any (λ link. (link.object ≡ object) × (link.key ≡ key)) (links_at true object routes))
      → IfSome found Touching
  touching_received None any = tt
  touching_received (Some key) any = touches_from received_of (λ keyed. refl)
      (λ keyed is. grind (arith, nat_tests)) (links_at true object routes) (routed.received object) key any

  pub touching_none : All (λ link. link.object ≢ object) (links_at false object routes) → (found : Option ℕ)
      → IfNone found (All (λ link. link.object ≢ object) (links_at true object routes)) → IfNone found (All (λ keyed. touches object keyed.row ≡ false) rows)
  touching_none sent (Some key) received = tt
  touching_none sent None received = λ k d within.
      let no_sender : (get_or rows k d).row.sender ≢ object = λ is.
      All-contains (λ link. link.object ≢ object) (links_at false object routes) (sent_of (get_or rows k d)) sent
      ((routed.sent object).each k d within is) is in
      let no_receiver : (get_or rows k d).row.receiver ≢ object = λ is.
      All-contains (λ link. link.object ≢ object) (links_at true object routes) (received_of (get_or rows k d)) received
      ((routed.received object).each k d within is) is in
      grind (arith, nat_tests)
