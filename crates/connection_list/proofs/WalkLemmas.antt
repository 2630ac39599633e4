-- Walks along the links of one end.
use Rattle.std.proofs.Common.{◌≡◌, ◌≢◌, ◌∙◌, ℕ, ◌+◌, ◌<◌, ◌≤◌, Bool, true, false, List, Some, length, filter, get_or, remove, refl, sym, ap, subst, arith}
use Rattle.std.proofs.Common.{⊎_elim}
use Rattle.std.specs.Cmp.{tied_itself}
use Rattle.std.specs.List.{All, AllWithin, Any, Contains}
use Rattle.std.proofs.lemmas.Bool.{cases_eq, cases_lt}
use Rattle.std.proofs.lemmas.List.{get_or_default}
use Rattle.std.proofs.lemmas.List.Edits.{get_or-remove_above, get_or-remove_below, length-remove}
use Rattle.std.proofs.lemmas.List.Elements.{All-contains}
use Rattle.shared_rows.specs.Links.{IsInOrder, without_link}
use Rattle.shared_rows.specs.Rows.{Keyed, row_under}
use Rattle.shared_rows.proofs.ForCallers.{remove_link, seat_found}
use Rattle.shared_rows.proofs.LinkedLemmas.{all_from, contains_from}
use Rattle.connection_list.specs.declared.connection.Connection.{Connection}
use Rattle.connection_list.specs.declared.link.Group.{Group}
use Rattle.connection_list.specs.declared.link.Link.{Link}
use Rattle.connection_list.specs.declared.routes.Routes.{Routes}
use Rattle.connection_list.specs.Routes.{IsGroup, IsLinkedAt, IsPlaceKept, IsRouted, Loses, buckets_of, link_cmp, link_of, links_at}
use Rattle.connection_list.proofs.KeyedLemmas.{IsApart, only_under, under_key}
use Rattle.connection_list.proofs.LinkLemmas.{link_total}

-- both ends are linked alike
pub linked_end : (received : Bool) (rows : List (Keyed Connection)) (routes : Routes) (object : ℕ) → IsRouted rows routes
    → IsLinkedAt (link_of received) rows object (links_at received object routes)
linked_end true rows routes object routed = routed.received object
linked_end false rows routes object routed = routed.sent object

key_is : (received : Bool) (keyed : Keyed Connection) → (link_of received keyed).key ≡ keyed.key
key_is true keyed = refl
key_is false keyed = refl

-- the link at a position leads to this row, which has the object at this end
pub record IsLed (received : Bool) (rows : List (Keyed Connection)) (links : List Link) (object at key : ℕ) : Type 0 where
  pub row : Connection
  pub has : (link_of received (record { key = key; row = row })).object ≡ object
  pub stands : Contains rows (record { key = key; row = row })
  pub under : row_under rows key ≡ Some row
  pub link : (default : Link) → link_of received (record { key = key; row = row }) ≡ get_or links at default

pub led : (received : Bool) (rows : List (Keyed Connection)) (routes : Routes) (object at key : ℕ) → IsPlaceKept rows routes
    → at < length (links_at received object routes) → ((default : Link) → (get_or (links_at received object routes) at default).object ≡ object)
    → ((default : Link) → key ≡ (get_or (links_at received object routes) at default).key) → IsLed received rows (links_at received object routes) object at key
led received rows routes object at key kept within object_there key_there =
    let linked = linked_end received rows routes object kept.routed in
    let default : Link = record { object = 0; source = 0; rank = 0; key = 0 } in
    let any : Any (λ keyed. link_of received keyed ≡ get_or (links_at received object routes) at default) rows = linked.all at default within
    (object_there default) in
    let same : any.1.key ≡ key = sym (key_is received any.1) ∙ (ap (λ (l : Link). l.key) any.4 ∙ sym (key_there default)) in
    let keyed_is : any.1 ≡ record { key = key; row = any.1.row } = ap (λ k. record { key = k; row = any.1.row }) same in
    let stands : Contains rows (record { key = key; row = any.1.row }) = subst (Contains rows) keyed_is (any.0, any.2, any.3) in
    record {
      row = any.1.row;
      has = subst (λ k. (link_of received k).object ≡ object) keyed_is (ap (λ (l : Link). l.object) any.4 ∙ object_there default);
      stands = stands;
      under = under_key rows (record { key = key; row = any.1.row }) kept.apart stands;
      link = λ d. ap (link_of received) (sym keyed_is) ∙ (any.4 ∙ get_or_default (links_at received object routes) at default d within);
    }

-- where its link goes, its object's links are those without it
pub loses : (received : Bool) (object : ℕ) (keyed : Keyed Connection) (old new : Routes) → (link_of received keyed).object ≡ object
    → Loses (link_of received keyed) (buckets_of received old) (buckets_of received new)
    → links_at received object new ≡ without_link link_cmp (links_at received object old) (link_of received keyed)
loses received object keyed old new is lost = ⊎_elim (λ here. here) (λ elsewhere. absurd (elsewhere.0 (sym is))) (lost object)

module _ (received : Bool) (object : ℕ) (test : Keyed Connection → Bool) where
  -- the link leads to no row that passes
  abbrev Fails : List (Keyed Connection) → Link → Type 0
  Fails rows link = (keyed : Keyed Connection) → Contains rows keyed → link_of received keyed ≡ link → test keyed ≡ false

  -- what is left to look at are the links from one position on and before another one
  pub record AreLeft (rows : List (Keyed Connection)) (links : List Link) (start end : ℕ) : Type 0 where
    pub within : end ≤ length links
    pub before : AllWithin (Fails rows) links 0 start
    pub inside : AllWithin (λ link. link.object ≡ object) links start end
    pub past : AllWithin (Fails rows) links end (length links)

  -- where nothing is left, no row passes
  pub none_left : (rows : List (Keyed Connection)) (links : List Link) (start end : ℕ) → IsLinkedAt (link_of received) rows object links
      → ((keyed : Keyed Connection) → (link_of received keyed).object ≢ object → test keyed ≡ false) → AreLeft rows links start end → end ≤ start
      → All (λ keyed. test keyed ≡ false) rows
  none_left rows links start end linked others left none = all_from (λ keyed. test keyed ≡ false) rows (λ keyed there. ⊎_elim
      (λ here.
      let link : Contains links (link_of received keyed) =
      All-contains (λ k. (link_of received k).object ≡ object → Contains links (link_of received k)) rows keyed linked.each there here in
      ⊎_elim
      (λ low. left.before link.0 (link_of received keyed) (omega arith) low keyed there (sym link.2))
      (λ high. left.past link.0 (link_of received keyed) (omega arith) link.1 keyed there (sym link.2))
      (cases_lt link.0 start))
      (others keyed)
      (cases_eq (link_of received keyed).object object))

  -- a link that leads to a row which fails
  led_fails : (rows : List (Keyed Connection)) (links : List Link) (at key : ℕ) (row : Connection) → IsApart rows → row_under rows key ≡ Some row
      → IsLed received rows links object at key → test (record { key = key; row = row }) ≡ false → (d : Link) → Fails rows (get_or links at d)
  led_fails rows links at key row apart under its fails d keyed there is =
      let same_link : link_of received keyed ≡ link_of received (record { key = key; row = its.row }) = is ∙ sym (its.link d) in
      let same_key : keyed.key ≡ key = sym (key_is received keyed)
      ∙ (ap (λ (l : Link). l.key) same_link ∙ key_is received (record { key = key; row = its.row })) in
      let same_row : keyed.row ≡ row = only_under rows key row apart under keyed there same_key in
      ap (λ k. test (record { key = k; row = keyed.row })) same_key ∙ (ap (λ r. test (record { key = key; row = r })) same_row ∙ fails)

  -- one more is looked at from the front
  pub left_front : (rows : List (Keyed Connection)) (links : List Link) (start end key : ℕ) (row : Connection) → IsApart rows → row_under rows key ≡ Some row
      → IsLed received rows links object start key → test (record { key = key; row = row }) ≡ false → AreLeft rows links start end
      → AreLeft rows links (start + 1) end
  left_front rows links start end key row apart under its fails left = record {
    within = left.within;
    before = λ k d low high. ⊎_elim
        (λ front. left.before k d low front)
        (λ here. let same : k ≡ start = omega arith in subst (λ i. Fails rows (get_or links i d)) (sym same)
        (led_fails rows links start key row apart under its fails d))
        (cases_lt k start);
    inside = λ k d low high. left.inside k d (omega arith) high;
    past = left.past;
  }

  -- or it goes, with its row
  pub left_gone : (rows next : List (Keyed Connection)) (links after : List Link) (start end last key : ℕ) → IsInOrder link_cmp links → end ≡ last + 1
      → start < end → (keep : Keyed Connection → Bool) → next ≡ filter keep rows → (its : IsLed received rows links object start key)
      → after ≡ without_link link_cmp links (link_of received (record { key = key; row = its.row })) → AreLeft rows links start end
      → AreLeft next after start last
  left_gone rows next links after start end last key order end_is some keep rows_are its links_are left =
      let link : Link = link_of received (record { key = key; row = its.row }) in
      let within : start < length links = omega arith in
      let seat = seat_found link_total links order link start within (λ d. ap (λ l. link_cmp l link) (sym (its.link d)) ∙ tied_itself link_total link) in
      let removed : after ≡ remove links start = links_are ∙ sym (remove_link link_total links order link start link seat) in
      let shorter : length (remove links start) + 1 ≡ length links = length-remove links start within in
      rw (removed, rows_are) (record {
        within = omega arith;
        before = λ k d low high keyed there is. left.before k d low high keyed (contains_from keep rows keyed there).0
            (is ∙ get_or-remove_below links start d k high within);
        inside = λ k d low high. ap (λ (l : Link). l.object) (get_or-remove_above links start d k low within)
            ∙ left.inside (k + 1) d (omega arith) (omega arith);
        past = λ k d low high keyed there is. left.past (k + 1) d (omega arith) (omega arith) keyed
            (contains_from keep rows keyed there).0 (is ∙ get_or-remove_above links start d k (omega arith) within);
      })

-- a group is what is left at first
pub left_first : (test : Keyed Connection → Bool) (rows : List (Keyed Connection)) (routes : Routes) (group : Group) → IsGroup test routes group
    → AreLeft group.received group.object test rows (links_at group.received group.object routes) group.start group.end
left_first test rows routes group is = record {
  within = is.within;
  before = λ k d low high keyed there. is.before k d low high keyed;
  inside = is.inside;
  past = λ k d low high keyed there. is.past k d low high keyed;
}
