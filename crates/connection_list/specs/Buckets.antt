-- Links in buckets. No public clause cites this module.
use Rattle.std.specs.Prelude.{◌≡◌, ◌≢◌, ◌⊎◌, ℕ, ◌<◌, ◌%◌, List, [], length, slice_index_or}
use Rattle.std.specs.List.{Contains}
use Rattle.shared_rows.specs.Links.{Linked}
use Rattle.connection_list.specs.declared.buckets.TheConstants.{BUCKETS}
use Rattle.connection_list.specs.declared.link.Link.{Link}

-- Few links are in one bucket, and more are in many.
pub record Bucketed : Type 0 where
  pub few : Linked Link
  pub many : List (Linked Link)

abbrev pub no_buckets : Bucketed
no_buckets = record { few = record { links = []; capacity = 0 }; many = [] }

-- The number of an object's bucket among many.
abbrev pub bucket_number : ℕ → ℕ
bucket_number object = object % BUCKETS

-- The bucket of an object.
abbrev pub bucket_of : ℕ → Bucketed → Linked Link
bucket_of object buckets = slice_index_or buckets.many (bucket_number object) buckets.few

-- The bucket of an object has changed, and that of every other object has changed in the same way or not at all.
abbrev pub Changes : (List Link → List Link) → ℕ → Bucketed → Bucketed → Type 0
Changes change owner old new = (object : ℕ) → ((bucket_of object new).links ≡ change (bucket_of object old).links)
    ⊎ ((object ≢ owner) × ((bucket_of object new).links ≡ (bucket_of object old).links))

-- The second list has all links of an object that are in the first, and only links that are in the first.
pub record HasSame (object : ℕ) (old new : List Link) : Type 0 where
  pub kept : (link : Link) → Contains old link → link.object ≡ object → Contains new link
  pub from : (link : Link) → Contains new link → Contains old link

-- Each object has the same links.
abbrev pub HaveSame : Bucketed → Bucketed → Type 0
HaveSame old new = (object : ℕ) → HasSame object (bucket_of object old).links (bucket_of object new).links

-- This many buckets have no links.
pub record AreEmpty (count : ℕ) (many : List (Linked Link)) : Type 0 where
  pub size : length many ≡ count
  pub none : (number : ℕ) (default : Linked Link) → number < count → (slice_index_or many number default).links ≡ []

-- The bucket of each object has the object's links, and only some of these links.
abbrev pub AreDivided : List Link → List (Linked Link) → Type 0
AreDivided links many = (object : ℕ) (default : Linked Link) → HasSame object links (slice_index_or many (bucket_number object) default).links
