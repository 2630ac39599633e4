-- The chain of marked properties, from the one marked last. No public clause cites this module.
use Rattle.std.specs.Prelude.{◌≡◌, ◌+◌, ◌<◌, ℕ, Bool, true, false, if◌then◌else◌, nat_lt, List, [], ◌∷◌, length, Option, Some, None, slice_get, slice_set}
use Rattle.property_store.specs.declared.link.Head.{Head}
use Rattle.property_store.specs.declared.link.Head.TheVariants as head
use Rattle.property_store.specs.declared.link.Link.{Link}
use Rattle.property_store.specs.declared.link.Link.TheVariants as link
use Rattle.property_store.specs.declared.links.Linked.{Linked}
use Rattle.property_store.specs.declared.links.Linked.TheVariants as kept
use Rattle.property_store.specs.declared.property.Property.{Property}
use Rattle.property_store.specs.Property.{among}

abbrev pub links_kept : Linked → List Link
links_kept (kept.One link) = link ∷ []
links_kept (kept.Many links) = links.items

-- Whether a property with this link is in the chain. A property that does not exist has no link.
abbrev pub is_linked : Option Link → Bool
is_linked None = false
is_linked (Some link.Unmarked) = false
is_linked (Some link.Last) = true
is_linked (Some (link.Before at)) = true

-- The property to which a link leads.
abbrev pub next_of : Option Link → Option Property
next_of None = None
next_of (Some link.Unmarked) = None
next_of (Some link.Last) = None
next_of (Some (link.Before at)) = Some at

-- The link that leads to a property, or that ends the chain.
abbrev pub link_to : Option Property → Link
link_to None = link.Last
link_to (Some at) = link.Before at

-- The first property of a place's chain.
abbrev pub first_of : Head → Option Property
first_of head.None = None
first_of (head.First at) = Some at
first_of head.All = None

abbrev pub is_all : Head → Bool
is_all head.None = false
is_all (head.First at) = false
is_all head.All = true

-- The head of a chain that begins with this property.
abbrev pub head_of : Option Property → Head
head_of None = head.None
head_of (Some at) = head.First at

-- The links lead through these properties, which are all linked, and then end.
abbrev pub IsChain : (Property → Option Link) → Option Property → List Property → Type 0
IsChain at first [] = first ≡ None
IsChain at first (property ∷ rest) =
    (first ≡ Some property) × (is_linked (at property) ≡ true) × (among property rest ≡ false) × IsChain at (next_of (at property)) rest

-- Every linked property is in the chain.
pub record AreLinked (at : Property → Option Link) (first : Option Property) : Type 0 where
  pub list : List Property
  pub chain : IsChain at first list
  pub all : (q : Property) → is_linked (at q) ≡ true → among q list ≡ true

-- The link of the property with this number in a new object with this many properties.
abbrev pub new_link : ℕ → ℕ → Head → ℕ → Link
new_link object count head.None number = if nat_lt (number + 1) count then link.Before (record { object = object; number = number + 1 }) else link.Last
new_link object count (head.First before) number =
    if nat_lt (number + 1) count then link.Before (record { object = object; number = number + 1 }) else link.Before before
new_link object count head.All number = link.Unmarked

pub record AreNew (object count : ℕ) (head : Head) (links : List Link) : Type 0 where
  pub many : length links ≡ count
  pub each : (number : ℕ) → number < count → slice_get links number ≡ Some (new_link object count head number)

-- A link that led nowhere now leads to the property marked last.
abbrev pub IsLinking : Head → Link → Link → Bool → Type 0
IsLinking head old new true = (old ≡ link.Unmarked) × (is_all head ≡ false) × (new ≡ link_to (first_of head))
IsLinking head old new false = (new ≡ old) × (is_all head ≡ false → is_linked (Some old) ≡ true)

-- The link with this number, if it led nowhere, now leads to the property marked last.
abbrev pub IsMarking : Head → ℕ → List Link → List Link → Bool → Type 0
IsMarking head number old new true =
    (slice_get old number ≡ Some link.Unmarked) × (is_all head ≡ false) × (new ≡ slice_set old number (link_to (first_of head)))
IsMarking head number old new false = (new ≡ old) × (is_all head ≡ false → is_linked (slice_get old number) ≡ true)
