use Rattle.std.proofs.Common.{◌≡◌, ◌≤◌, ◌==◌, ℕ, List, [], ◌∷◌, IsTrue, ap, length, sym, subst, ◌∙◌, false, arith}
use Rattle.std.proofs.lemmas.Bool.Decides.{nat_tests}
use Rattle.std.specs.List.{count_by, list_any}
use Rattle.event_queue.specs.Queue.{empty_queue}
use Rattle.event_queue.specs.Table.{queue_at, with_queue}
use Rattle.object_tree.specs.Table.{forest_at}
use Rattle.shared_rows.specs.Table.{ChangesAt}
use Rattle.publish_board.specs.declared.join.Join.{Join}
use Rattle.publish_board.specs.Rows.{listens}
use Rattle.publish_board.specs.Table.{desk_at}
use Rattle.session_model.specs.Arriving.{post_of, reached_by}
use Rattle.session_tables.specs.Reaching.{ReachesBy, only_at, takes, takes_some}
use Rattle.session_tables.specs.Tables.{session_at}
use Rattle.session_tables.proofs.PostLemmas.{failed_only, heard_row, on_err, on_ok, post_row, reach_failed, reach_after_posts, takes_post}
use Rattle.session_tables.proofs.tables.Tables.reach.Goals as goal

pub arrive-posted-requires-clause-heard : goal.arrive-posted-requires-clause-heard
arrive-posted-requires-clause-heard c =
    let from = c.args.sending.now.from.now in
    let desk = desk_at c.args.self.now.desks c.args.sending.now.place in
    let row = c.index-publications-index.result in
    let joins = c.joins-joins.result.now in
    let is : c.args.found ≡ count_by (listens from row.name) joins =
    c.requires.found
    ∙ heard_row c.publications.result.now desk.publications c.args.index from (desk_at c.args.self.now.desks c.args.at).joins row c.publications.ensures
    c.requires.within c.index-publications-index.is
    ∙ ap (count_by (listens from row.name)) (sym c.joins-joins.ensures) in
    record {
      most = omega (arith, is);
      all = λ all. all_heard c.args.found joins (count_by (listens from row.name) joins) is all;
    }
  where
    all_heard : (found : ℕ) (joins : List Join) (count : ℕ) → found ≡ count → IsTrue (found == length joins) → length joins ≤ count
    all_heard found joins count is all = grind (arith, nat_tests, is, all)

pub returns-then-is_err-clause-reaches : goal.returns-then-is_err-clause-reaches
returns-then-is_err-clause-reaches c =
    let from = c.args.sending.now.from.now in
    let old = c.args.self.now in
    let at = c.args.at in
    let row = c.index-publications-index.result in
    let kinds = c.args.sending.now.kinds.now in
    let args = c.args.sending.now.args.now in
    let post = post_row c.publications.result.now (desk_at old.desks c.args.sending.now.place).publications c.args.index kinds args row c.publications.ensures
    c.requires.within c.index-publications-index.is in
    let taken : IsTrue (takes_some from (post_of kinds args row ∷ []) (session_at old at)) =
    takes_post from (post_of kinds args row) c.joins-joins.result.now (session_at old at) c.joins-joins.ensures
    (on_err {P = IsTrue (list_any (takes from (post_of kinds args row)) c.joins-joins.result.now)} c.arrive-posted.result
    (sym c.is_err.ensures.value ∙ c.if-is_err.true) c.arrive-posted.ensures.taken) in
    reach_failed c.args.sending.now.classes.now from c.args.sending.now.place old c.give_up.new.self at _ c.args.failing c.arrive-posted.new.queues
    c.if-at-sending.false (sym (c.get.ensures false) ∙ c.if-get.false) c.requires.there
    (subst (λ posts. IsTrue (takes_some from posts (session_at old at))) (sym post) taken)
    (on_err {P = ChangesAt empty_queue c.args.at c.args.self.now.queues c.arrive-posted.new.queues} c.arrive-posted.result
    (sym c.is_err.ensures.value ∙ c.if-is_err.true) c.arrive-posted.ensures.err) c.give_up.ensures

pub returns-then-is_err-clause-only : goal.returns-then-is_err-clause-only
returns-then-is_err-clause-only c =
    failed_only c.args.self.now c.give_up.new.self c.args.at c.arrive-posted.new.queues c.requires.there
    (on_err {P = ChangesAt empty_queue c.args.at c.args.self.now.queues c.arrive-posted.new.queues} c.arrive-posted.result
    (sym c.is_err.ensures.value ∙ c.if-is_err.true) c.arrive-posted.ensures.err) c.give_up.ensures

pub returns-clause-reaches : goal.returns-clause-reaches
returns-clause-reaches c =
    let classes = c.args.sending.now.classes.now in
    let from = c.args.sending.now.from.now in
    let place = c.args.sending.now.place in
    let old = c.args.self.now in
    let at = c.args.at in
    let row = c.index-publications-index.result in
    let kinds = c.args.sending.now.kinds.now in
    let args = c.args.sending.now.args.now in
    let post = post_row c.publications.result.now (desk_at old.desks place).publications c.args.index kinds args row c.publications.ensures c.requires.within
    c.index-publications-index.is in
    let done : c.arrive-posted.new.queues ≡ with_queue old.queues at
    (reached_by classes (forest_at old.forests at).rows from (post_of kinds args row) (queue_at old.queues at) c.joins-joins.result.now) =
    on_ok {P = c.arrive-posted.new.queues ≡ with_queue old.queues at
    (reached_by classes (forest_at old.forests at).rows from (post_of kinds args row) (queue_at old.queues at) c.joins-joins.result.now)}
    c.arrive-posted.result (sym c.is_err.ensures.value ∙ c.if-is_err.false) c.arrive-posted.ensures.ok in
    subst (λ posts. ReachesBy classes from place (only_at at posts) old (record old { queues = c.arrive-posted.new.queues }) c.args.failing c.args.failing)
    (sym post)
    (reach_after_posts classes from place old at (post_of kinds args row) c.args.failing c.arrive-posted.new.queues c.if-at-sending.false
    (sym (c.get.ensures false) ∙ c.if-get.false) c.requires.there
    (done ∙ ap (λ joins. with_queue old.queues at
    (reached_by classes (forest_at old.forests at).rows from (post_of kinds args row) (queue_at old.queues at) joins)) c.joins-joins.ensures))
