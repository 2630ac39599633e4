-- A post reaches the sessions one after another, and each by its joins one after another.
use Rattle.std.proofs.Common.{◌≡◌, ◌<◌, ◌≤◌, ◌+◌, inl, inr, ℕ, zero, suc, Bool, true, false, true≢false, cond, ◌||◌, eqb, ltb, IsFalse, IsTrue, List, [], ◌∷◌}
use Rattle.std.proofs.Common.{◌++◌, Some, length, get_or, drop, take, map, filter, refl, sym, ap, subst, ◌∙◌, arith}
use Rattle.std.specs.List.{count_by, list_any, slice_get}
use Rattle.std.specs.Prelude.{Result, Ok, Err, OnOk, OnErr}
use Rattle.std.specs.Result.{is_err as result_is_err}
use Rattle.std.specs.Option.{option_map_or}
use Rattle.std.proofs.lemmas.Bool.{cond-false, cond-true}
use Rattle.std.proofs.lemmas.Bool.Decides.{nat_tests}
use Rattle.std.proofs.lemmas.List.{append-nil, drop_more, map-append, take_more}
use Rattle.std.proofs.lemmas.List.Elements.{filter-append}
use Rattle.std.proofs.lemmas.List.Sums.{count_by-le-length, sum_by-cons}
use Rattle.std.proofs.lemmas.Option.{slice_get-get_or}
use Rattle.event_queue.specs.Queue.{Queue, empty_queue}
use Rattle.event_queue.specs.Table.{queue_at, with_queue}
use Rattle.binding_values.specs.Graph.{no_graph}
use Rattle.connection_list.specs.Rows.{no_rows}
use Rattle.object_tree.specs.declared.row.Row.{Row}
use Rattle.object_tree.specs.Forest.{empty_forest}
use Rattle.object_tree.specs.Table.{forest_at}
use Rattle.shared_rows.specs.Table.{ChangesAt, IsPlace, Table}
use Rattle.shared_rows.proofs.ForCallers as column
use Rattle.variant_value.specs.declared.value.Value.{Value}
use Rattle.class_table.specs.declared.class.Class.{Class}
use Rattle.signature_core.specs.declared.kind.Kind.{Kind}
use Rattle.publish_board.specs.declared.join.Join.{Join}
use Rattle.publish_board.specs.declared.publication.Publication.{Publication}
use Rattle.publish_board.specs.Desk.{listens_to, no_desk}
use Rattle.publish_board.specs.Rows.{listens, publishes}
use Rattle.publish_board.specs.Table.{desk_at}
use Rattle.session_model.specs.declared.post.Post.{Post}
use Rattle.session_model.specs.Arriving.{post_of, posts_by, reached, reached_by}
use Rattle.session_model.specs.Thread.{arrives}
use Rattle.session_tables.specs.declared.tables.Tables.{Tables}
use Rattle.session_tables.specs.Session.{Session, failed_session}
use Rattle.session_tables.specs.Tables.{ChangesOnly, IsPlaced, failed_at, session_at, state_at, with_session}
use Rattle.session_tables.specs.Reaching.{ReceivesPosts, Reaches, ReachesBy, after_posts, only_at, takes, takes_some}
use Rattle.session_tables.proofs.TablesLemmas.{changes_same, changes_twice, session_there}
use Rattle.session_tables.proofs.ReachingLemmas.{after_post_unheard, after_posts-none, placed_shaped, reached_past, reaches_by_twice, reaches_changed}
use Rattle.session_tables.proofs.ReachingLemmas.{session_unchanged, shaped_changed}

module _ (classes : List Class) (rows : List Row) (from : List ℕ) (post : Post) where
  -- the next join of a session is done
  pub arrive_next : (now new : Table Queue) (at i : ℕ) (joins : List Join) (join : Join) (whole : Queue) → IsPlace now at → i < length joins
      → join ≡ get_or joins i join
      → new ≡ with_queue now at (reached classes rows from post (queue_at now at) join)
      → reached_by classes rows from post (queue_at now at) (drop i joins) ≡ whole
      → reached_by classes rows from post (queue_at new at) (drop (i + 1) joins) ≡ whole
  arrive_next now new at i joins join whole placed within is e before =
      ap (λ queue. reached_by classes rows from post queue (drop (i + 1) joins))
      (ap (λ table. queue_at table at) e ∙ column.with_there empty_queue now at _ placed ∙ ap (reached classes rows from post (queue_at now at)) is)
      ∙ ap (reached_by classes rows from post (queue_at now at)) (sym (drop_more joins i join within))
      ∙ before

  -- where none listens, the queue stays
  pub arrive_none : (joins : List Join) (queue : Queue) → count_by (listens from post.name) joins ≤ 0 → reached_by classes rows from post queue joins ≡ queue
  arrive_none [] queue none = refl
  arrive_none (join ∷ joins) queue none = by (listens from post.name join) refl (arrive_none joins queue)
    where
      parts : (heard : Bool) → listens from post.name join ≡ heard
          → count_by (listens from post.name) (join ∷ joins) ≡ cond heard 1 0 + count_by (listens from post.name) joins
      parts heard e = sum_by-cons (λ join. cond (listens from post.name join) 1 0) join joins
          ∙ ap (λ heard. cond heard 1 0 + count_by (listens from post.name) joins) e

      by : (heard : Bool) → listens from post.name join ≡ heard
          → (count_by (listens from post.name) joins ≤ 0 → reached_by classes rows from post queue joins ≡ queue)
          → reached_by classes rows from post queue (join ∷ joins) ≡ queue
      by true e rest = absurd (omega (arith, none, parts true e))
      by false e rest =
          ap (λ queue. reached_by classes rows from post queue joins) (reached_past classes rows from post queue join e)
          ∙ rest (omega (arith, none, parts false e))

module _ (p : Join → Bool) where
  -- the joins from one on that pass
  pub count_rest : (joins : List Join) (i : ℕ) (join : Join) (passes : Bool) → i < length joins → join ≡ get_or joins i join → p join ≡ passes
      → count_by p (drop i joins) ≡ cond passes 1 0 + count_by p (drop (i + 1) joins)
  count_rest joins i join passes within is e =
      ap (count_by p) (drop_more joins i join within)
      ∙ sum_by-cons (λ join. cond (p join) 1 0) (get_or joins i join) (drop (i + 1) joins)
      ∙ ap (λ passes. cond passes 1 0 + count_by p (drop (i + 1) joins)) (ap p (sym is) ∙ e)

  -- where as many pass as there are, each does
  pub all_pass : (joins : List Join) → length joins ≤ count_by p joins → (i : ℕ) (join : Join) → i < length joins → p (get_or joins i join) ≡ true
  all_pass [] full i join within = absurd (omega (arith, within))
  all_pass (first ∷ joins) full i join within = by (p first) refl (λ full i. all_pass joins full i join) i within
    where
      parts : (passes : Bool) → p first ≡ passes → count_by p (first ∷ joins) ≡ cond passes 1 0 + count_by p joins
      parts passes e = sum_by-cons (λ join. cond (p join) 1 0) first joins ∙ ap (λ passes. cond passes 1 0 + count_by p joins) e

      by : (passes : Bool) → p first ≡ passes → (length joins ≤ count_by p joins → (i : ℕ) → i < length joins → p (get_or joins i join) ≡ true)
          → (i : ℕ) → i < length (first ∷ joins) → p (get_or (first ∷ joins) i join) ≡ true
      by true e rest zero within = e
      by true e rest (suc i) within = rest (omega (arith, full, parts true e)) i (omega (arith, within))
      by false e rest i within = absurd (omega (arith, full, parts false e, count_by-le-length p joins))

-- a session takes a post that one of its joins takes
pub takes_post : (from : List ℕ) (post : Post) (joins : List Join) (session : Session) → joins ≡ session.state.desk.joins
    → IsTrue (list_any (takes from post) joins) → IsTrue (takes_some from (post ∷ []) session)
takes_post from post joins session same taken = ap (λ some. some || false) (ap (list_any (takes from post)) (sym same) ∙ taken)

-- another queue at a place changes no other session
pub changes_queue : (tables : Tables) (at : ℕ) (queues : Table Queue) → ChangesAt empty_queue at tables.queues queues
    → ChangesOnly at tables (record tables { queues = queues })
changes_queue tables at queues changes = record {
  forests = column.changes_same empty_forest tables.forests tables.forests at refl;
  layouts = refl;
  stores = column.changes_same [] tables.stores.shelves.table tables.stores.shelves.table at refl;
  graphs = column.changes_same no_graph tables.stores.graphs tables.stores.graphs at refl;
  connections = column.changes_same no_rows tables.connections tables.connections at refl;
  queues = changes;
  desks = column.changes_same no_desk tables.desks tables.desks at refl;
  failed = column.changes_same false tables.failed tables.failed at refl;
}

-- nor does another session there
pub changes_session : (old new : Tables) (at : ℕ) (session : Session) → IsPlaced old at → new ≡ with_session old at session → ChangesOnly at old new
changes_session old new at session placed e = record {
  forests = column.changes_with empty_forest old.forests new.forests at session.state.forest placed.0 (ap (λ tables. tables.forests) e);
  layouts = ap (λ tables. tables.stores.shelves.layouts) e;
  stores = column.changes_with [] old.stores.shelves.table new.stores.shelves.table at session.state.store placed.1
      (ap (λ tables. tables.stores.shelves.table) e);
  graphs = column.changes_with no_graph old.stores.graphs new.stores.graphs at session.state.graph placed.6 (ap (λ tables. tables.stores.graphs) e);
  connections = column.changes_with no_rows old.connections new.connections at session.state.connections placed.2 (ap (λ tables. tables.connections) e);
  queues = column.changes_with empty_queue old.queues new.queues at session.state.queue placed.3 (ap (λ tables. tables.queues) e);
  desks = column.changes_with no_desk old.desks new.desks at session.state.desk placed.5 (ap (λ tables. tables.desks) e);
  failed = column.changes_with false old.failed new.failed at session.failed placed.4 (ap (λ tables. tables.failed) e);
}

-- nor a session that fails there behind another queue
pub failed_only : (old new : Tables) (at : ℕ) (queues : Table Queue) → IsPlaced old at → ChangesAt empty_queue at old.queues queues
    → new ≡ with_session (record old { queues = queues }) at failed_session → ChangesOnly at old new
failed_only old new at queues placed changed e =
    let middle : Tables = record old { queues = queues } in
    let first = changes_queue old at queues changed in
    let still = placed_shaped old middle at (shaped_changed old middle at first) placed in
    changes_twice old middle new at first (changes_session middle new at failed_session still e)

-- and that one is gone
pub failed_there : (old new : Tables) (at : ℕ) (queues : Table Queue) → IsPlaced old at → ChangesAt empty_queue at old.queues queues
    → new ≡ with_session (record old { queues = queues }) at failed_session → session_at new at ≡ failed_session
failed_there old new at queues placed changed e =
    let middle : Tables = record old { queues = queues } in
    let still = placed_shaped old middle at (shaped_changed old middle at (changes_queue old at queues changed)) placed in
    ap (λ tables. session_at tables at) e ∙ session_there middle at failed_session still

apart_other : (at other : ℕ) → eqb at other ≡ false → eqb other at ≡ false
apart_other at other apart = grind (arith, nat_tests, apart)

-- what holds of the posts of one place, and of none elsewhere
by_place : (P : ℕ → List Post → Type 0) (at : ℕ) (posts : List Post) → P at posts → ((other : ℕ) → eqb other at ≡ false → P other []) → (other : ℕ)
    → P other (only_at at posts other)
by_place P at posts here elsewhere other = by (eqb other at) refl
  where
    by : (same : Bool) → eqb other at ≡ same → P other (cond same posts [])
    by true e = let same : at ≡ other = grind (arith, nat_tests, e) in subst (λ n. P n posts) same here
    by false e = elsewhere other e

module _ (classes : List Class) (from : List ℕ) (place : ℕ) where
  -- what has changed one other session alone
  reaches_one : (old new : Tables) (at : ℕ) (posts : List Post) (before after : Bool) → eqb at place ≡ false → ChangesOnly at old new
      → ReceivesPosts classes from posts (session_at old at) (session_at new at)
      → (IsFalse after → IsFalse before × (session_at new at ≡ after_posts classes from posts (session_at old at)))
      → (IsFalse before → IsTrue after → IsPlaced old at × IsFalse (failed_at old at) × IsTrue (failed_at new at))
      → ReachesBy classes from place (only_at at posts) old new before after
  reaches_one old new at posts before after apart changes hears all one = record {
    shape = shaped_changed old new at changes;
    own = ap (λ (session : Session). session.failed) (session_unchanged old new at place changes (apart_other at place apart));
    others = by_place (λ other posts. IsFalse (eqb other place) → IsPlaced old other
        → ReceivesPosts classes from posts (session_at old other) (session_at new other)) at posts
        (λ differs placed. hears)
        (λ other else differs placed. inl (session_unchanged old new at other changes else ∙ sym (after_posts-none classes from (session_at old other))));
    all = λ none. (
      (all none).0,
      by_place (λ other posts. IsFalse (eqb other place) → IsPlaced old other → session_at new other ≡ after_posts classes from posts (session_at old other)) at
          posts
          (λ differs placed. (all none).1)
          (λ other else differs placed. session_unchanged old new at other changes else ∙ sym (after_posts-none classes from (session_at old other))),
    );
    one = λ none some. let it = one none some in (at, apart, it.0, it.1, it.2);
  }

  -- one that has not failed hears the post
  pub after_posts_one : (old : Tables) (at : ℕ) (post : Post) (queues : Table Queue) → failed_at old at ≡ false → IsPlaced old at
      → queues ≡ with_queue old.queues at (reached_by classes (forest_at old.forests at).rows from post (queue_at old.queues at) (desk_at old.desks at).joins)
      → session_at (record old { queues = queues }) at ≡ after_posts classes from (post ∷ []) (session_at old at)
  unfolding arrives
  after_posts_one old at post queues fine placed e =
      let queue : queue_at queues at ≡ reached_by classes (forest_at old.forests at).rows from post (queue_at old.queues at) (desk_at old.desks at).joins =
      ap (λ table. queue_at table at) e ∙ column.with_there empty_queue old.queues at _ placed.3 in
      ap (λ queue. record { state = record (state_at old at) { queue = queue }; failed = failed_at old at }) queue
      ∙ ap (λ failed. record { state = arrives classes (state_at old at) from post; failed = failed }) fine
      ∙ sym (cond-false (failed_at old at) _ _ fine)

  pub reach_after_posts : (old : Tables) (at : ℕ) (post : Post) (flag : Bool) (queues : Table Queue) → (at ≡ place → ⊥) → failed_at old at ≡ false
      → IsPlaced old at
      → queues ≡ with_queue old.queues at (reached_by classes (forest_at old.forests at).rows from post (queue_at old.queues at) (desk_at old.desks at).joins)
      → ReachesBy classes from place (only_at at (post ∷ [])) old (record old { queues = queues }) flag flag
  reach_after_posts old at post flag queues differ fine placed e =
      let changes = changes_queue old at queues (column.changes_with empty_queue old.queues queues at _ placed.3 e) in
      let is = after_posts_one old at post queues fine placed e in
      reaches_one old (record old { queues = queues }) at (post ∷ []) flag flag (apart_of at differ) changes (inl is) (λ none. (none, is))
      (λ none some. absurd (true≢false (sym some ∙ none)))
    where
      apart_of : (at : ℕ) → (at ≡ place → ⊥) → eqb at place ≡ false
      apart_of at differ = grind (arith, nat_tests, differ)

  -- or fails where memory is wanted and it takes one of the posts
  pub reach_failed : (old new : Tables) (at : ℕ) (posts : List Post) (flag : Bool) (queues : Table Queue) → (at ≡ place → ⊥) → failed_at old at ≡ false
      → IsPlaced old at → IsTrue (takes_some from posts (session_at old at))
      → ChangesAt empty_queue at old.queues queues → new ≡ with_session (record old { queues = queues }) at failed_session
      → ReachesBy classes from place (only_at at posts) old new flag true
  reach_failed old new at posts flag queues differ fine placed taken changed e =
      let is : session_at new at ≡ failed_session = failed_there old new at queues placed changed e in
      let apart : eqb at place ≡ false = grind (arith, nat_tests, differ) in
      reaches_one old new at posts flag true apart (failed_only old new at queues placed changed e) (inr (fine, taken, is)) (λ none. absurd (true≢false none))
      (λ none some. (placed, fine, ap (λ (session : Session). session.failed) is))

  -- the posts may be told otherwise
  reaches_alike : (posts more : ℕ → List Post) (old new : Tables) (before after : Bool) → ((at : ℕ) → IsPlaced old at → posts at ≡ more at)
      → ReachesBy classes from place posts old new before after → ReachesBy classes from place more old new before after
  reaches_alike posts more old new before after alike reaches = record {
    shape = reaches.shape;
    own = reaches.own;
    others = λ at apart placed. subst (λ posts. ReceivesPosts classes from posts (session_at old at) (session_at new at)) (alike at placed)
        (reaches.others at apart placed);
    all = λ none. (
      (reaches.all none).0,
      λ at apart placed. (reaches.all none).1 at apart placed
          ∙ ap (λ posts. after_posts classes from posts (session_at old at)) (alike at placed),
    );
    one = reaches.one;
  }

  -- the places below one have a post
  abbrev pub below : ℕ → List Post → ℕ → List Post
  below end posts at = cond (ltb at end) posts []

  -- nothing has been posted yet
  pub reaches_first : (posts : List Post) (old : Tables) (flag : Bool) → ReachesBy classes from place (below 0 posts) old old flag flag
  reaches_first posts old flag = reaches_alike (λ at. []) (below 0 posts) old old flag flag (λ at placed. none at)
      (reaches_changed classes from place old old flag (changes_same old old place refl) refl)
    where
      none : (at : ℕ) → [] ≡ below 0 posts at
      none at = let past : ltb at 0 ≡ false = grind (arith, nat_tests) in sym (cond-false (ltb at 0) posts [] past)

  -- sessions that the posts leave as they are have heard them
  pub reaches_strangers : (posts : List Post) (least end : ℕ) (old now : Tables) (before after : Bool) → least ≤ end
      → ((at : ℕ) → least ≤ at → session_at now at ≡ session_at old at)
      → ((at : ℕ) → least ≤ at → at < end → IsPlaced old at → after_posts classes from posts (session_at now at) ≡ session_at now at)
      → ReachesBy classes from place (below least posts) old now before after → ReachesBy classes from place (below end posts) old now before after
  reaches_strangers posts least end old now before after up rest strange reaches = record {
    shape = reaches.shape;
    own = reaches.own;
    others = λ at apart placed. hears at placed (ltb at least) refl (reaches.others at apart placed);
    all = λ none. ((reaches.all none).0, λ at apart placed. hear at placed (ltb at least) refl ((reaches.all none).1 at apart placed));
    one = reaches.one;
  }
    where
      past : (at : ℕ) → ltb at least ≡ false → (ends : Bool) → ltb at end ≡ ends → IsPlaced old at
          → session_at now at ≡ after_posts classes from (cond ends posts []) (session_at old at)
      past at e true within placed =
          let from_least : least ≤ at = grind (arith, nat_tests, e) in
          let below_end : at < end = grind (arith, nat_tests, within) in
          let same = rest at from_least in
          sym (strange at from_least below_end placed) ∙ ap (after_posts classes from posts) same
      past at e false within placed =
          let from_least : least ≤ at = grind (arith, nat_tests, e) in
          rest at from_least ∙ sym (after_posts-none classes from (session_at old at))

      still : (at : ℕ) → ltb at least ≡ true → posts ≡ below end posts at
      still at e = let within : ltb at end ≡ true = grind (arith, nat_tests, e, up) in sym (cond-true (ltb at end) posts [] within)

      hear : (at : ℕ) → IsPlaced old at → (less : Bool) → ltb at least ≡ less
          → session_at now at ≡ after_posts classes from (cond less posts []) (session_at old at)
          → session_at now at ≡ after_posts classes from (below end posts at) (session_at old at)
      hear at placed false e was = past at e (ltb at end) refl placed
      hear at placed true e was = was ∙ ap (λ posts. after_posts classes from posts (session_at old at)) (still at e)

      hears : (at : ℕ) → IsPlaced old at → (less : Bool) → ltb at least ≡ less
          → ReceivesPosts classes from (cond less posts []) (session_at old at) (session_at now at)
          → ReceivesPosts classes from (below end posts at) (session_at old at) (session_at now at)
      hears at placed false e was = inl (past at e (ltb at end) refl placed)
      hears at placed true e was = subst (λ posts. ReceivesPosts classes from posts (session_at old at) (session_at now at)) (still at e) was

  pub reaches_next : (posts : List Post) (end : ℕ) (old now new : Tables) (before between after : Bool) → IsPlaced old place
      → ReachesBy classes from place (below end posts) old now before between → ReachesBy classes from place (only_at end posts) now new between after
      → ReachesBy classes from place (below (end + 1) posts) old new before after
  reaches_next posts end old now new before between after placed first second =
      reaches_alike (λ at. below end posts at ++ only_at end posts at) (below (end + 1) posts) old new before after
      (λ at placed. by at (ltb at end) (eqb at end) refl refl)
      (reaches_by_twice classes from place (below end posts) (only_at end posts) old now new before between after placed first second)
    where
      by : (at : ℕ) (less same : Bool) → ltb at end ≡ less → eqb at end ≡ same → cond less posts [] ++ cond same posts [] ≡ below (end + 1) posts at
      by at true true e f = absurd (grind (arith, nat_tests, e, f))
      by at true false e f = let more : ltb at (end + 1) ≡ true = grind (arith, nat_tests, e) in append-nil posts
          ∙ sym (cond-true (ltb at (end + 1)) posts [] more)
      by at false true e f = let more : ltb at (end + 1) ≡ true = grind (arith, nat_tests, f) in sym (cond-true (ltb at (end + 1)) posts [] more)
      by at false false e f = let more : ltb at (end + 1) ≡ false = grind (arith, nat_tests, e, f) in sym (cond-false (ltb at (end + 1)) posts [] more)

  pub reaches_all : (posts : List Post) (end : ℕ) (old new : Tables) (before after : Bool) → length old.failed.places ≤ end
      → ReachesBy classes from place (below end posts) old new before after → Reaches classes from place posts old new before after
  reaches_all posts end old new before after past reaches = reaches_alike (below end posts) (λ at. posts) old new before after
      (λ at placed. let within : ltb at end ≡ true = grind (arith, nat_tests, past, placed.4) in cond-true (ltb at end) posts [] within) reaches

-- the posts of one more publication
pub posts_next : (target signal : ℕ) (kinds : List Kind) (args : List Value) (rows : List Publication) (i : ℕ) → i < length rows
    → posts_by target signal kinds args (take i rows) ++ option_map_or (λ row. posts_by target signal kinds args (row ∷ [])) (slice_get rows i) []
    ≡ posts_by target signal kinds args (take (i + 1) rows)
posts_next target signal kinds args [] i within = absurd (omega arith)
posts_next target signal kinds args (first ∷ rest) i within =
    ap (λ found. posts_by target signal kinds args (take i (first ∷ rest)) ++ option_map_or (λ row. posts_by target signal kinds args (row ∷ [])) found [])
    (slice_get-get_or (first ∷ rest) i first within)
    ∙ sym (map-append (post_of kinds args) (filter (publishes target signal) (take i (first ∷ rest)))
    (filter (publishes target signal) (get_or (first ∷ rest) i first ∷ [])))
    ∙ ap (map (post_of kinds args)) (sym (filter-append (publishes target signal) (take i (first ∷ rest)) (get_or (first ∷ rest) i first ∷ [])))
    ∙ ap (posts_by target signal kinds args) (sym (take_more (first ∷ rest) i first within))

-- the post for the publication at an index
pub post_row : (found rows : List Publication) (i : ℕ) (kinds : List Kind) (args : List Value) (row : Publication) → found ≡ rows → i < length rows
    → row ≡ get_or found i row → option_map_or (λ row. post_of kinds args row ∷ []) (slice_get rows i) [] ≡ post_of kinds args row ∷ []
post_row found rows i kinds args row e within is =
    ap (λ found. option_map_or (λ row. post_of kinds args row ∷ []) found [])
    (slice_get-get_or rows i row within ∙ ap Some (sym (is ∙ ap (λ rows. get_or rows i row) e)))

-- how many joins listen to it
pub heard_row : (found rows : List Publication) (i : ℕ) (from : List ℕ) (joins : List Join) (row : Publication) → found ≡ rows → i < length rows
    → row ≡ get_or found i row → option_map_or (λ row. count_by (listens from row.name) joins) (slice_get rows i) 0 ≡ count_by (listens from row.name) joins
heard_row found rows i from joins row e within is =
    ap (λ found. option_map_or (λ row. count_by (listens from row.name) joins) found 0)
    (slice_get-get_or rows i row within ∙ ap Some (sym (is ∙ ap (λ rows. get_or rows i row) e)))

pub posts_row : (found rows : List Publication) (i target signal : ℕ) (kinds : List Kind) (args : List Value) (row : Publication) (sent : Bool) → found ≡ rows
    → i < length rows → row ≡ get_or found i row → publishes target signal row ≡ sent
    → option_map_or (λ row. posts_by target signal kinds args (row ∷ [])) (slice_get rows i) [] ≡ cond sent (post_of kinds args row ∷ []) []
posts_row found rows i target signal kinds args row sent e within is passes =
    ap (λ found. option_map_or (λ row. posts_by target signal kinds args (row ∷ [])) found [])
    (slice_get-get_or rows i row within ∙ ap Some (sym (is ∙ ap (λ rows. get_or rows i row) e)))
    ∙ by sent passes
  where
    by : (sent : Bool) → publishes target signal row ≡ sent → posts_by target signal kinds args (row ∷ []) ≡ cond sent (post_of kinds args row ∷ []) []
    by true e = ap (map (post_of kinds args)) (cond-true (publishes target signal row) (row ∷ []) [] e)
    by false e = ap (map (post_of kinds args)) (cond-false (publishes target signal row) (row ∷ []) [] e)

-- where the publication is of a signal that is sent, the posts of the signal are the one for it
pub posts_sent : (found rows : List Publication) (i target signal : ℕ) (kinds : List Kind) (args : List Value) (row : Publication) → found ≡ rows
    → i < length rows → row ≡ get_or found i row → publishes target signal row ≡ true
    → option_map_or (λ row. post_of kinds args row ∷ []) (slice_get rows i) []
    ≡ option_map_or (λ row. posts_by target signal kinds args (row ∷ [])) (slice_get rows i) []
posts_sent found rows i target signal kinds args row e within is sent =
    post_row found rows i kinds args row e within is ∙ sym (posts_row found rows i target signal kinds args row true e within is sent)

-- a session in which no join listens to it does not hear its post
pub post_unheard : (classes : List Class) (from : List ℕ) (found rows : List Publication) (i : ℕ) (kinds : List Kind) (args : List Value) (row : Publication)
    (session : Session) → found ≡ rows → i < length rows → row ≡ get_or found i row → listens_to from row.name session.state.desk ≡ false
    → after_posts classes from (option_map_or (λ row. post_of kinds args row ∷ []) (slice_get rows i) []) session ≡ session
post_unheard classes from found rows i kinds args row session e within is unheard =
    ap (λ posts. after_posts classes from posts session) (post_row found rows i kinds args row e within is)
    ∙ after_post_unheard classes from (post_of kinds args row) session unheard

pub on_ok : {T E P : Type 0} (result : Result T E) → result_is_err result ≡ false → OnOk result P → P
on_ok (Ok value) e h = h
on_ok (Err error) e h = absurd (cc)

pub on_err : {T E P : Type 0} (result : Result T E) → result_is_err result ≡ true → OnErr result P → P
on_err (Ok value) e h = absurd (cc)
on_err (Err error) e h = h

pub map_err : {T E P : Type 0} (result : Result T E) → (E → P) → OnErr result P
map_err (Ok value) h = tt
map_err (Err error) h = h error

pub map_ok : {T E P : Type 0} (result : Result T E) → (T → P) → OnOk result P
map_ok (Ok value) h = h value
map_ok (Err error) h = tt
