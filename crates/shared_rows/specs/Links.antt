-- What contracts see of links: keys of a type that has a total order.
use Rattle.std.specs.Prelude.{◌≡◌, ℕ, ◌<◌, ◌≤◌, ◌+◌, not, List, ◌∷◌, ◌++◌, Option, Result, Ok, Err, filter, find, length, refl}
use Rattle.shared_rows.specs.Gapped.{Gapped}
use Rattle.std.specs.Coded.{Coded, code_by, coded×, coded_list, coded_ℕ}
use Rattle.std.specs.List.{All, AllPairs, AllWithin, Any, Contains, HoldsAt}
use Rattle.std.specs.Ordering.{is_eq, is_lt}
use Rattle.std.specs.declared.cmp.Ordering.{Ordering}
use Rattle.std.specs.declared.cmp.Ordering.TheVariants.{Less, Equal}

-- Links, and for how many there is room.
pub record Linked (K : Type 0) : Type 0 where
  pub links : List K
  pub capacity : ℕ

-- Links are stored as the pair of these fields.
abbrev pub linked_code : {K : Type 0} → Coded K → Coded (Linked K)
linked_code {K} code =
    code_by (List K × ℕ) (coded× (coded_list code) coded_ℕ) (λ l. (l.links, l.capacity)) (λ p. record { links = p.0; capacity = p.1 }) (λ _. refl)

-- There is memory for this many, and there are at most this many.
abbrev pub HasMemory : {K : Type 0} → ℕ → Gapped K → Type 0
HasMemory count items = (length items.items ≤ count) × (count ≤ items.capacity)

-- Another link takes no memory.
abbrev pub HasRoom : {K : Type 0} → Linked K → Type 0
HasRoom list = length list.links < list.capacity

module _ {K : Type 0} (cmp : K → K → Ordering) where
  -- Each link is below all later ones.
  abbrev pub IsInOrder : List K → Type 0
  IsInOrder = AllPairs (λ earlier later. cmp earlier later ≡ Less)

  -- The links with another one, between those below it and those above.
  abbrev pub with_link : List K → K → List K
  with_link links link = filter (λ other. is_lt (cmp other link)) links ++ link ∷ filter (λ other. is_lt (cmp link other)) links

  -- The links without this one.
  abbrev pub without_link : List K → K → List K
  without_link links link = filter (λ other. not (is_eq (cmp other link))) links

  -- The least link that is not below this one.
  abbrev pub first_from : List K → K → Option K
  first_from links link = find (λ other. not (is_lt (cmp other link))) links

  -- All links before the first position are below the link, and all from the second position on are above.
  pub record IsBetween (links : List K) (link : K) (before from : ℕ) : Type 0 where
    pub below : AllWithin (λ other. cmp other link ≡ Less) links 0 before
    pub above : AllWithin (λ other. cmp link other ≡ Less) links from (length links)

  -- The result of a search: where the link is, or where it would be.
  abbrev pub IsSeat : List K → K → Result ℕ ℕ → Type 0
  IsSeat links link (Ok at) = (at < length links) × HoldsAt (λ other. cmp other link ≡ Equal) links at × IsBetween links link at (at + 1)
  IsSeat links link (Err at) = (at ≤ length links) × IsBetween links link at at

-- Each row has its link, and each link its row.
pub record AreLinked {R K : Type 0} (link_of : R → K) (rows : List R) (links : List K) : Type 0 where
  pub each : All (λ row. Contains links (link_of row)) rows
  pub all : All (λ link. Any (λ row. link_of row ≡ link) rows) links
