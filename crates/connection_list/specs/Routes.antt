-- How the connections of a place are found from their ends. No public clause cites this module.
use Rattle.std.specs.Prelude.{◌≡◌, ◌≢◌, ℕ, ◌<◌, ◌≤◌, ◌^◌, not, nat_lt, ◌==◌, ◌&&◌, ◌||◌, Bool, true, false, List, []}
use Rattle.std.specs.Prelude.{All, AllPairs, filter, length, map, slice_index_or, Option, Some, None}
use Rattle.std.specs.List.{AllWithin, Any, Contains}
use Rattle.std.specs.Ordering.{nat_cmp, ordering_then}
use Rattle.std.specs.declared.alloc.Global.{Global}
use Rattle.std.specs.declared.boxed.Box.{Box}
use Rattle.std.specs.declared.cmp.Ordering.{Ordering}
use Rattle.shared_rows.specs.Table.{Table, ChangesAt}
use Rattle.shared_rows.specs.Links.{HasRoom, with_link, without_link}
use Rattle.shared_rows.specs.Rows.{Keyed, rows_at}
use Rattle.connection_list.specs.Buckets.{Bucketed, Changes, bucket_of, no_buckets}
use Rattle.connection_list.specs.Marks.{mark_of}
use Rattle.connection_list.specs.Rows.{IsSound, Rows}
use Rattle.connection_list.specs.declared.connection.Connection.{Connection}
use Rattle.connection_list.specs.declared.link.Group.{Group}
use Rattle.connection_list.specs.declared.link.Link.{Link}
use Rattle.connection_list.specs.declared.mark.Marks.{Marks}
use Rattle.connection_list.specs.declared.routes.Routes.{Routes}

-- The links to a connection from its sender and from its receiver.
abbrev pub sent_of : Keyed Connection → Link
sent_of keyed = record { object = keyed.row.sender; source = keyed.row.signal; rank = keyed.row.number; key = keyed.key }

abbrev pub received_of : Keyed Connection → Link
received_of keyed = record {
  object = keyed.row.receiver;
  source = keyed.row.sender;
  rank = mark_of keyed.row.signal keyed.row.callee;
  key = keyed.key;
}

-- The buckets of one end.
abbrev pub buckets_of : Bool → Routes → Bucketed
buckets_of true routes = routes.received
buckets_of false routes = routes.sent

abbrev pub links_at : Bool → ℕ → Routes → List Link
links_at received object routes = (bucket_of object (buckets_of received routes)).links

abbrev pub link_of : Bool → Keyed Connection → Link
link_of true keyed = received_of keyed
link_of false keyed = sent_of keyed

-- Links are ordered by object, then by source, rank and key.
abbrev pub link_cmp : Link → Link → Ordering
link_cmp x y = ordering_then (nat_cmp x.object y.object)
    (ordering_then (nat_cmp x.source y.source) (ordering_then (nat_cmp x.rank y.rank) (nat_cmp x.key y.key)))

-- The bucket of a link's object gains the link.
abbrev pub Gains : Link → Bucketed → Bucketed → Type 0
Gains link = Changes (λ links. with_link link_cmp links link) link.object

abbrev pub Loses : Link → Bucketed → Bucketed → Type 0
Loses link = Changes (λ links. without_link link_cmp links link) link.object

-- Whether a link is before all links of an object, of one source, or of these with certain marks.
abbrev pub is_before : ℕ → Option ℕ → Option Marks → Link → Bool
is_before object None marks link = nat_lt link.object object
is_before object (Some source) None link = nat_lt link.object object || link.object == object && nat_lt link.source source
is_before object (Some source) (Some marks) link = nat_lt link.object object
    || link.object == object && (nat_lt link.source source || link.source == source && nat_lt link.rank marks.least)

abbrev pub is_past : ℕ → Option ℕ → Option Marks → Link → Bool
is_past object None marks link = nat_lt object link.object
is_past object (Some source) None link = nat_lt object link.object || link.object == object && nat_lt source link.source
is_past object (Some source) (Some marks) link = nat_lt object link.object
    || link.object == object && (nat_lt source link.source || link.source == source && nat_lt marks.greatest link.rank)

-- The link leads to no connection that passes a test.
abbrev pub FailsAt : (Keyed Connection → Bool) → Bool → Link → Type 0
FailsAt test received link = (keyed : Keyed Connection) → link_of received keyed ≡ link → test keyed ≡ false

-- The links of a group are its object's, and no other link leads to a connection that passes.
pub record IsGroup (test : Keyed Connection → Bool) (routes : Routes) (group : Group) : Type 0 where
  pub within : group.end ≤ length (links_at group.received group.object routes)
  pub before : AllWithin (FailsAt test group.received) (links_at group.received group.object routes) 0 group.start
  pub inside : AllWithin (λ link. link.object ≡ group.object) (links_at group.received group.object routes) group.start group.end
  pub past : AllWithin (FailsAt test group.received) (links_at group.received group.object routes) group.end
      (length (links_at group.received group.object routes))
  pub others : (keyed : Keyed Connection) → (link_of group.received keyed).object ≢ group.object → test keyed ≡ false

-- Nothing was ever connected.
abbrev pub no_routes : Routes
no_routes = record { last_number = 0; sent = no_buckets; received = no_buckets }

-- The links of a place; none if nothing was ever connected.
abbrev pub routes_in : Option (Box Routes Global) → Routes
routes_in None = no_routes
routes_in (Some routes) = routes.value

-- Each connection of an object has its link in this list, and each link of the object leads to a connection.
pub record IsLinkedAt (link_of : Keyed Connection → Link) (rows : List (Keyed Connection)) (object : ℕ) (links : List Link) : Type 0 where
  pub each : All (λ keyed. (link_of keyed).object ≡ object → Contains links (link_of keyed)) rows
  pub all : All (λ link. link.object ≡ object → Any (λ keyed. link_of keyed ≡ link) rows) links

-- Exactly the connections are found from both ends.
pub record IsRouted (rows : List (Keyed Connection)) (routes : Routes) : Type 0 where
  pub sent : (object : ℕ) → IsLinkedAt sent_of rows object (links_at false object routes)
  pub received : (object : ℕ) → IsLinkedAt received_of rows object (links_at true object routes)

-- Another connection of these objects takes no memory.
pub record HaveRoom (sender receiver : ℕ) (routes : Routes) : Type 0 where
  pub sent : HasRoom (bucket_of sender routes.sent)
  pub received : HasRoom (bucket_of receiver routes.received)

-- The same connections are found.
pub record AreSame (old new : Routes) : Type 0 where
  pub last_number : new.last_number ≡ old.last_number
  pub routed : (rows : List (Keyed Connection)) → IsRouted rows old → IsRouted rows new

-- What contracts see of a place.
abbrev pub place_of : List (Keyed Connection) → Routes → Rows
place_of rows routes = record { rows = map (λ keyed. keyed.row) rows; last_number = routes.last_number }

-- What holds for every place.
pub record IsPlaceKept (rows : List (Keyed Connection)) (routes : Routes) : Type 0 where
  pub sound : IsSound (place_of rows routes)
  pub apart : AllPairs (λ earlier later. earlier.key ≢ later.key) rows
  pub short : All (λ keyed. keyed.key < 2 ^ 32) rows
  pub routed : IsRouted rows routes

pub record AreKept (places : List (List (Keyed Connection))) (routes : List Routes) : Type 0 where
  pub same : length places ≡ length routes
  pub each : (place : ℕ) (default : Routes) → place < length places → IsPlaceKept (slice_index_or places place []) (slice_index_or routes place default)

-- The rows of a place that pass a test are removed, with their links.
pub record AreGone (gone : Keyed Connection → Bool) (place : ℕ) (old new : Table (List (Keyed Connection))) (before after : Routes) : Type 0 where
  pub elsewhere : ChangesAt [] place old new
  pub rows : rows_at new place ≡ filter (λ keyed. not (gone keyed)) (rows_at old place)
  pub last_number : after.last_number ≡ before.last_number
  pub kept : IsPlaceKept (rows_at new place) after
