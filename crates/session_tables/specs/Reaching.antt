-- The posts of a session, and what they do to the other sessions.
use Rattle.std.specs.Prelude.{◌≡◌, ◌⊎◌, ◌&&◌, ℕ, ◌≤◌, Bool, false, count_by, eqb, IsFalse, IsTrue, List, [], ◌∷◌, length, if◌then◌else◌}
use Rattle.std.specs.List.{list_any, slice_get}
use Rattle.std.specs.Option.{option_map_or}
use Rattle.class_table.specs.declared.class.Class.{Class}
use Rattle.signature_core.specs.declared.kind.Kind.{Kind}
use Rattle.variant_value.specs.declared.value.Value.{Value}
use Rattle.publish_board.specs.declared.join.Join.{Join}
use Rattle.publish_board.specs.Desk.{Desk}
use Rattle.publish_board.specs.Rows.{listens}
use Rattle.session_model.specs.declared.post.Post.{Post}
use Rattle.session_model.specs.Arriving.{is_matched, post_of, posts_by}
use Rattle.session_model.specs.Thread.{arrive_all}
use Rattle.session_tables.specs.declared.posts.Heard.{Heard}
use Rattle.session_tables.specs.declared.posts.Posting.{Posting}
use Rattle.session_tables.specs.declared.tables.Tables.{Tables}
use Rattle.session_tables.specs.Session.{Session, failed_session}
use Rattle.session_tables.specs.Tables.{AreEven, IsPlaced, failed_at, session_at}

-- A session after posts of another one. A failed session ignores them.
abbrev pub after_posts : List Class → List ℕ → List Post → Session → Session
after_posts classes from posts session = if session.failed then session else record { state = arrive_all classes session.state from posts; failed = false }

-- Whether a join takes a post of the session `from`: it names what is posted, and its kinds match those of the post.
abbrev pub takes : List ℕ → Post → Join → Bool
takes from post join = listens from post.name join && is_matched post.kinds join

-- Whether a session has a join that takes one of these posts.
abbrev pub takes_some : List ℕ → List Post → Session → Bool
takes_some from posts session = list_any (λ post. list_any (takes from post) session.state.desk.joins) posts

-- A session fails by posts: it had not failed before, and one of its joins takes one of them.
abbrev pub FailsBy : List ℕ → List Post → Session → Session → Type 0
FailsBy from posts old new = IsFalse old.failed × IsTrue (takes_some from posts old) × (new ≡ failed_session)

-- A session receives posts. If memory ran out for one that it takes, it has failed.
abbrev pub ReceivesPosts : List Class → List ℕ → List Post → Session → Session → Type 0
ReceivesPosts classes from posts old new = (new ≡ after_posts classes from posts old) ⊎ FailsBy from posts old new

-- The post of a signal for the publication at an index.
abbrev pub post_at : Desk → ℕ → List Kind → List Value → List Post
post_at desk index kinds args = option_map_or (λ row. post_of kinds args row ∷ []) (slice_get desk.publications index) []

-- The post of a signal for the publication at an index, if the publication is of the signal.
abbrev pub posts_at : Desk → ℕ → ℕ → ℕ → List Kind → List Value → List Post
posts_at desk index object signal kinds args = option_map_or (λ row. posts_by object signal kinds args (row ∷ [])) (slice_get desk.publications index) []

-- How many of these joins listen to the publication at an index.
abbrev pub count_heard : Desk → ℕ → List ℕ → List Join → ℕ
count_heard desk index from joins = option_map_or (λ row. count_by (listens from row.name) joins) (slice_get desk.publications index) 0

-- No more joins listen than are looked for, and all do where all are said to.
pub record IsHeard (from name : List ℕ) (heard : Heard) : Type 0 where
  pub most : count_by (listens from name) heard.joins.now ≤ heard.most
  pub all : IsTrue heard.all → length heard.joins.now ≤ count_by (listens from name) heard.joins.now

-- The post that is delivered.
abbrev pub post_in : Posting → Post
post_in posting = record { name = posting.name.now; kinds = posting.kinds.now; arguments = posting.args.now }

-- These posts at this place, and no posts elsewhere.
abbrev pub only_at : ℕ → List Post → ℕ → List Post
only_at place posts at = if eqb at place then posts else []

-- There are as many places as before, and what classes declare is unchanged.
pub record AreShaped (old new : Tables) : Type 0 where
  pub layouts : new.stores.shelves.layouts ≡ old.stores.shelves.layouts
  pub places : length new.failed.places ≡ length old.failed.places
  pub even : AreEven old → AreEven new

-- These posts of the session at a place, which has this name, have reached every other place. `before` and `after` say
-- whether any session has failed by a post so far.
pub record ReachesBy (classes : List Class) (from : List ℕ) (place : ℕ) (posts : ℕ → List Post) (old new : Tables) (before after : Bool) : Type 0 where
  pub shape : AreShaped old new
  -- The session itself has neither failed nor been restored.
  pub own : failed_at new place ≡ failed_at old place
  -- Every other session receives its posts.
  pub others : (at : ℕ) → IsFalse (eqb at place) → IsPlaced old at → ReceivesPosts classes from (posts at) (session_at old at) (session_at new at)
  -- If no session is reported to have failed, none has.
  pub all : IsFalse after → IsFalse before
      × ((at : ℕ) → IsFalse (eqb at place) → IsPlaced old at → session_at new at ≡ after_posts classes from (posts at) (session_at old at))
  -- If one is reported to have failed, one has.
  pub one : IsFalse before → IsTrue after → (at : ℕ) × IsFalse (eqb at place) × IsPlaced old at × IsFalse (failed_at old at) × IsTrue (failed_at new at)

-- The same posts have reached all places.
abbrev pub Reaches : List Class → List ℕ → ℕ → List Post → Tables → Tables → Bool → Bool → Type 0
Reaches classes from place posts = ReachesBy classes from place (λ at. posts)
