-- Posts reach other sessions, one after another.
use Rattle.std.proofs.Common.{◌≡◌, ◌≢◌, inl, inr, ℕ, Bool, true, false, true≢false, cond, eqb, IsFalse, IsTrue, List, [], ◌∷◌, ◌++◌, get_or, refl, sym, ap}
use Rattle.std.proofs.Common.{subst, ◌∙◌, arith}
use Rattle.std.specs.List.{list_any}
use Rattle.std.proofs.lemmas.Bool.{cond-true, or_left, or_parts, or_right}
use Rattle.std.proofs.lemmas.List.{get_or-set_other}
use Rattle.std.proofs.lemmas.List.Folds.{list_any-append}
use Rattle.class_table.specs.declared.class.Class.{Class}
use Rattle.binding_values.specs.Graph.{no_graph}
use Rattle.connection_list.specs.Rows.{no_rows}
use Rattle.event_queue.specs.Queue.{Queue, empty_queue, with_mismatched}
use Rattle.object_tree.specs.Forest.{empty_forest}
use Rattle.object_tree.specs.declared.row.Row.{Row}
use Rattle.shared_rows.proofs.ForCallers as column
use Rattle.session_model.specs.declared.post.Post.{Post}
use Rattle.publish_board.specs.declared.join.Join.{Join}
use Rattle.publish_board.specs.Desk.{Desk, listens_to, names_session, no_desk}
use Rattle.publish_board.specs.Rows.{listens}
use Rattle.session_model.specs.Arriving.{is_matched, joined_call, reached, reached_by, with_call}
use Rattle.session_model.specs.State.{State}
use Rattle.session_model.specs.Thread.{arrive_all, arrives, joins_name}
use Rattle.session_model.proofs.ForCallers.{arrive_all-append, post_stranger}
use Rattle.session_tables.specs.declared.tables.Tables.{Tables}
use Rattle.session_tables.specs.Session.{Session}
use Rattle.session_tables.specs.Tables.{ChangesOnly, IsPlaced, failed_at, session_at}
use Rattle.session_tables.specs.Reaching.{AreShaped, ReceivesPosts, Reaches, ReachesBy, after_posts, takes, takes_some}
use Rattle.session_tables.proofs.TablesLemmas.{even_changed, placed_by, session_of}

differ_by : (at place : ℕ) → eqb at place ≡ false → at ≢ place
differ_by at place apart same = absurd (grind (arith, same, apart))

-- no session but the one at the place that changes has changed
pub session_unchanged : (old new : Tables) (place at : ℕ) → ChangesOnly place old new → eqb at place ≡ false → session_at new at ≡ session_at old at
session_unchanged old new place at changes apart =
    let differ = differ_by at place apart in
    session_of
    (ap (λ table. get_or table.places at empty_forest) changes.forests ∙ get_or-set_other old.forests.places place at _ empty_forest differ)
    (ap (λ table. get_or table.places at []) changes.stores ∙ get_or-set_other old.stores.shelves.table.places place at _ [] differ)
    (ap (λ table. get_or table.places at no_graph) changes.graphs ∙ get_or-set_other old.stores.graphs.places place at _ no_graph differ)
    (ap (λ table. get_or table.places at no_rows) changes.connections ∙ get_or-set_other old.connections.places place at _ no_rows differ)
    (ap (λ table. get_or table.places at empty_queue) changes.queues ∙ get_or-set_other old.queues.places place at _ empty_queue differ)
    (ap (λ table. get_or table.places at no_desk) changes.desks ∙ get_or-set_other old.desks.places place at _ no_desk differ)
    (ap (λ table. get_or table.places at false) changes.failed ∙ get_or-set_other old.failed.places place at _ false differ)

pub shaped_changed : (old new : Tables) (place : ℕ) → ChangesOnly place old new → AreShaped old new
shaped_changed old new place changes = record {
  layouts = changes.layouts;
  places = column.changes_length false old.failed new.failed place changes.failed;
  even = even_changed old new place changes;
}

pub shaped_twice : (old middle new : Tables) → AreShaped old middle → AreShaped middle new → AreShaped old new
shaped_twice old middle new first second = record {
  layouts = second.layouts ∙ first.layouts;
  places = second.places ∙ first.places;
  even = λ even. second.even (first.even even);
}

-- a place stays one
pub placed_shaped : (old new : Tables) (at : ℕ) → AreShaped old new → IsPlaced old at → IsPlaced new at
placed_shaped old new at shape placed = placed_by new at (shape.even placed.7) (omega (arith, shape.places, placed.4))

-- what takes one of some posts takes one of more of them
takes_first : (from : List ℕ) (posts more : List Post) (session : Session) → IsTrue (takes_some from posts session)
    → IsTrue (takes_some from (posts ++ more) session)
takes_first from posts more session taken =
    let taking : Post → Bool = λ post. list_any (takes from post) session.state.desk.joins in
    list_any-append taking posts more ∙ or_left (list_any taking posts) (list_any taking more) taken

takes_last : (from : List ℕ) (posts more : List Post) (session : Session) → IsTrue (takes_some from more session)
    → IsTrue (takes_some from (posts ++ more) session)
takes_last from posts more session taken =
    let taking : Post → Bool = λ post. list_any (takes from post) session.state.desk.joins in
    list_any-append taking posts more ∙ or_right (list_any taking posts) (list_any taking more) taken

module _ (classes : List Class) (from : List ℕ) where
  -- no post changes what is joined
  arrive_all-desk : (posts : List Post) (state : State) → (arrive_all classes state from posts).desk ≡ state.desk
  unfolding arrives
  arrive_all-desk [] state = refl
  arrive_all-desk (post ∷ posts) state = arrive_all-desk posts (arrives classes state from post)

  after_posts-desk : (posts : List Post) (session : Session) → (after_posts classes from posts session).state.desk ≡ session.state.desk
  after_posts-desk posts session = by session.failed
    where
      by : (failed : Bool) → (cond failed session (record { state = arrive_all classes session.state from posts; failed = false })).state.desk
          ≡ session.state.desk
      by true = refl
      by false = arrive_all-desk posts session.state

  -- so a session takes the same posts after others
  takes_after_posts : (posts more : List Post) (old middle : Session) → middle ≡ after_posts classes from posts old → IsTrue (takes_some from more middle)
      → IsTrue (takes_some from more old)
  takes_after_posts posts more old middle e taken =
      subst (λ (desk : Desk). IsTrue (list_any (λ post. list_any (takes from post) desk.joins) more))
      (ap (λ (session : Session). session.state.desk) e ∙ after_posts-desk posts old) taken

  pub after_posts-none : (session : Session) → after_posts classes from [] session ≡ session
  after_posts-none session = by session.failed refl
    where
      by : (failed : Bool) → session.failed ≡ failed → cond failed session (record { state = session.state; failed = false }) ≡ session
      by true e = refl
      by false e = ap (λ failed. record { state = session.state; failed = failed }) (sym e)

  pub after_posts-append : (posts more : List Post) (session : Session)
      → after_posts classes from (posts ++ more) session ≡ after_posts classes from more (after_posts classes from posts session)
  after_posts-append posts more session = by session.failed refl
    where
      hearing : List Post → Session → Bool → Session
      hearing posts session failed = cond failed session (record { state = arrive_all classes session.state from posts; failed = false })

      by : (failed : Bool) → session.failed ≡ failed → hearing (posts ++ more) session failed ≡ after_posts classes from more (hearing posts session failed)
      by true e = sym (cond-true session.failed _ _ e)
      by false e = ap (λ state. record { state = state; failed = false }) (arrive_all-append classes session.state from posts more)

  after_posts-failed : (posts : List Post) (session : Session) → (after_posts classes from posts session).failed ≡ session.failed
  after_posts-failed posts session = by session.failed refl
    where
      by : (failed : Bool) → session.failed ≡ failed
          → (cond failed session (record { state = arrive_all classes session.state from posts; failed = false })).failed ≡ session.failed
      by true e = refl
      by false e = sym e

  pub hears_twice : (posts more : List Post) (old middle new : Session) → ReceivesPosts classes from posts old middle
      → ReceivesPosts classes from more middle new → ReceivesPosts classes from (posts ++ more) old new
  hears_twice posts more old middle new (inl e) (inl f) = inl (f ∙ ap (after_posts classes from more) e ∙ sym (after_posts-append posts more old))
  hears_twice posts more old middle new (inl e) (inr f) = inr
      ((
        sym (after_posts-failed posts old) ∙ ap (λ (session : Session). session.failed) (sym e) ∙ f.0,
        takes_last from posts more old (takes_after_posts posts more old middle e f.1),
        f.2,
      ))
  hears_twice posts more old middle new (inr e) (inl f) = inr ((e.0, takes_first from posts more old e.1, f ∙ ap (after_posts classes from more) e.2))
  hears_twice posts more old middle new (inr e) (inr f) = inr ((e.0, takes_first from posts more old e.1, f.2))

  -- no post mends a session
  pub stays_failed : (posts : List Post) (old new : Session) → ReceivesPosts classes from posts old new → old.failed ≡ true → new.failed ≡ true
  stays_failed posts old new (inl e) was = ap (λ (session : Session). session.failed) e ∙ after_posts-failed posts old ∙ was
  stays_failed posts old new (inr e) was = ap (λ (session : Session). session.failed) e.2

  -- so one that has not failed had not before
  was_fine : (posts : List Post) (old new : Session) → ReceivesPosts classes from posts old new → new.failed ≡ false → old.failed ≡ false
  was_fine posts old new hears fine = by old.failed refl
    where
      by : (failed : Bool) → old.failed ≡ failed → old.failed ≡ false
      by true e = absurd (true≢false (sym (stays_failed posts old new hears e) ∙ fine))
      by false e = e

  module _ (place : ℕ) where
    -- what changes the session itself posts nothing
    pub reaches_changed : (old new : Tables) (flag : Bool) → ChangesOnly place old new → new.failed ≡ old.failed
        → Reaches classes from place [] old new flag flag
    reaches_changed old new flag changes same =
        let unchanged : (at : ℕ) → IsFalse (eqb at place) → IsPlaced old at → session_at new at ≡ after_posts classes from [] (session_at old at) =
        λ at apart placed. session_unchanged old new place at changes apart ∙ sym (after_posts-none (session_at old at)) in
        record {
          shape = shaped_changed old new place changes;
          own = ap (λ table. get_or table.places place false) same;
          others = λ at apart placed. inl (unchanged at apart placed);
          all = λ none. (none, unchanged);
          one = λ none some. absurd (true≢false (sym some ∙ none));
        }

    module _ (posts more : ℕ → List Post) (old middle new : Tables) (before between after : Bool) (placed : IsPlaced old place)
        (first : ReachesBy classes from place posts old middle before between) (second : ReachesBy classes from place more middle new between after) where
      still : (at : ℕ) → IsPlaced old at → IsPlaced middle at
      still at placed = placed_shaped old middle at first.shape placed

      one_of : (failed : Bool) → between ≡ failed → before ≡ false → after ≡ true
          → (at : ℕ) × IsFalse (eqb at place) × IsPlaced old at × IsFalse (failed_at old at) × IsTrue (failed_at new at)
      one_of true e none some =
          let it = first.one none e in
          (it.0, it.1, it.2, it.3, stays_failed (more it.0) (session_at middle it.0) (session_at new it.0) (second.others it.0 it.1 (still it.0 it.2)) it.4)
      one_of false e none some =
          let it = second.one e some in
          let there : IsPlaced old it.0 = placed_by old it.0 placed.7 (omega (arith, first.shape.places, it.2.4)) in
          (it.0, it.1, there, was_fine (posts it.0) (session_at old it.0) (session_at middle it.0) (first.others it.0 it.1 there) it.3, it.4)

      pub reaches_by_twice : ReachesBy classes from place (λ at. posts at ++ more at) old new before after
      reaches_by_twice = record {
        shape = shaped_twice old middle new first.shape second.shape;
        own = second.own ∙ first.own;
        others = λ at apart placed. hears_twice (posts at) (more at) _ _ _ (first.others at apart placed) (second.others at apart (still at placed));
        all = λ none.
            let then = second.all none in
            let so = first.all then.0 in (
              so.0,
              λ at apart placed. then.1 at apart (still at placed) ∙ ap (after_posts classes from (more at)) (so.1 at apart placed)
                  ∙ sym (after_posts-append (posts at) (more at) (session_at old at)),
            );
        one = one_of between refl;
      }

    pub reaches_twice : (posts more : List Post) (old middle new : Tables) (before between after : Bool) → IsPlaced old place
        → Reaches classes from place posts old middle before between → Reaches classes from place more middle new between after
        → Reaches classes from place (posts ++ more) old new before after
    reaches_twice posts more old middle new before between after placed first second =
        reaches_by_twice (λ at. posts) (λ at. more) old middle new before between after placed first second

-- a session that does not join another one does not hear it
pub after_posts_stranger : (classes : List Class) (from : List ℕ) (posts : List Post) (session : Session) → names_session from session.state.desk ≡ false
    → after_posts classes from posts session ≡ session
unfolding joins_name
after_posts_stranger classes from posts session unnamed = by session.failed refl
  where
    all : (posts : List Post) → arrive_all classes session.state from posts ≡ session.state
    all [] = refl
    all (post ∷ posts) = ap (λ state. arrive_all classes state from posts) (post_stranger classes session.state from post unnamed) ∙ all posts

    by : (failed : Bool) → session.failed ≡ failed → cond failed session (record { state = arrive_all classes session.state from posts; failed = false })
        ≡ session
    by true e = refl
    by false e = λ i. record { state = all posts i; failed = sym e i }

-- a join that does not listen is passed over
pub reached_past : (classes : List Class) (rows : List Row) (from : List ℕ) (post : Post) (queue : Queue) (join : Join) → listens from post.name join ≡ false
    → reached classes rows from post queue join ≡ queue
reached_past classes rows from post queue join e = ap (λ b. cond b (cond (is_matched post.kinds join)
    (with_call queue (joined_call classes rows post.arguments join)) (with_mismatched queue)) queue) e

-- nor does one that does not listen to what is posted
pub after_post_unheard : (classes : List Class) (from : List ℕ) (post : Post) (session : Session) → listens_to from post.name session.state.desk ≡ false
    → after_posts classes from (post ∷ []) session ≡ session
unfolding arrives
after_post_unheard classes from post session unheard = by session.failed refl
  where
    all : (joins : List Join) (queue : Queue) → list_any (listens from post.name) joins ≡ false
        → reached_by classes session.state.forest.rows from post queue joins ≡ queue
    all [] queue none = refl
    all (join ∷ joins) queue none =
        let parts = or_parts (listens from post.name join) (list_any (listens from post.name) joins) none in
        ap (λ queue. reached_by classes session.state.forest.rows from post queue joins)
        (reached_past classes session.state.forest.rows from post queue join parts.0) ∙ all joins queue parts.1

    by : (failed : Bool) → session.failed ≡ failed
        → cond failed session (record { state = arrive_all classes session.state from (post ∷ []); failed = false }) ≡ session
    by true e = refl
    by false e = ap (λ queue. record { state = record session.state { queue = queue }; failed = false })
        (all session.state.desk.joins session.state.queue unheard) ∙ ap (λ failed. record { state = session.state; failed = failed }) (sym e)
