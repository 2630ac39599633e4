use Rattle.std.proofs.Common.{◌≡◌, List, [], ◌∷◌, IsTrue, ap, sym, subst, ◌∙◌, false, true≢false}
use Rattle.std.specs.List.{list_any}
use Rattle.std.proofs.lemmas.List.Sums.{count_by-le-length}
use Rattle.event_queue.specs.Queue.{empty_queue}
use Rattle.event_queue.specs.Table.{queue_at, with_queue}
use Rattle.object_tree.specs.Table.{forest_at}
use Rattle.shared_rows.specs.Table.{ChangesAt}
use Rattle.publish_board.specs.Rows.{listens}
use Rattle.publish_board.specs.Table.{desk_at}
use Rattle.signature_core.specs.declared.kind.Kind.{Kind}
use Rattle.session_model.specs.declared.post.Post.{Post}
use Rattle.session_model.specs.Arriving.{reached_by}
use Rattle.variant_value.specs.declared.value.Value.{Value}
use Rattle.session_tables.specs.Reaching.{takes, takes_some}
use Rattle.session_tables.specs.Tables.{session_at}
use Rattle.session_tables.proofs.PostLemmas.{failed_only, failed_there, after_posts_one, map_err, map_ok, on_err, on_ok, takes_post}
use Rattle.session_tables.proofs.tables.Tables.arrive.Goals as goal

pub arrive-posted-requires-clause-heard : goal.arrive-posted-requires-clause-heard
arrive-posted-requires-clause-heard c = record {
  most = count_by-le-length (listens c.args.from.now c.args.post.now.name) c.joins-joins.result.now;
  all = λ all. absurd (true≢false (sym all));
}

pub returns-then-is_err-clause-only : goal.returns-then-is_err-clause-only
returns-then-is_err-clause-only c =
    failed_only c.args.self.now c.give_up.new.self c.args.place c.arrive-posted.new.queues c.requires
    (on_err {P = ChangesAt empty_queue c.args.place c.args.self.now.queues c.arrive-posted.new.queues} c.arrive-posted.result
    (sym c.is_err.ensures.value ∙ c.if-is_err.true) c.arrive-posted.ensures.err) c.give_up.ensures

pub returns-then-is_err-clause-err : goal.returns-then-is_err-clause-err
returns-then-is_err-clause-err c =
    let from = c.args.from.now in
    let old = c.args.self.now in
    let at = c.args.place in
    let told : List Kind → List Value → Post = λ kinds arguments. record { name = c.args.post.now.name; kinds = kinds; arguments = arguments } in
    let failed = sym c.is_err.ensures.value ∙ c.if-is_err.true in
    let changed = on_err {P = ChangesAt empty_queue at old.queues c.arrive-posted.new.queues} c.arrive-posted.result failed c.arrive-posted.ensures.err in
    let taken : IsTrue (takes_some from (told c.as_slice.result.now c.as_slice-2.result.now ∷ []) (session_at old at)) =
    takes_post from (told c.as_slice.result.now c.as_slice-2.result.now) c.joins-joins.result.now (session_at old at) c.joins-joins.ensures
    (on_err {P = IsTrue (list_any (takes from (told c.as_slice.result.now c.as_slice-2.result.now)) c.joins-joins.result.now)} c.arrive-posted.result failed
    c.arrive-posted.ensures.taken) in
    map_err c.arrive-posted.result (λ error. (
      sym (c.get.ensures false) ∙ c.if-get.false,
      subst (λ kinds. IsTrue (takes_some from (told kinds c.args.post.now.arguments ∷ []) (session_at old at))) c.as_slice.ensures
          (subst (λ arguments. IsTrue (takes_some from (told c.as_slice.result.now arguments ∷ []) (session_at old at))) c.as_slice-2.ensures taken),
      failed_there old c.give_up.new.self at c.arrive-posted.new.queues c.requires changed c.give_up.ensures,
    ))

pub returns-else-is_err-clause-ok : goal.returns-else-is_err-clause-ok
returns-else-is_err-clause-ok c =
    let classes = c.args.classes.now in
    let from = c.args.from.now in
    let old = c.args.self.now in
    let at = c.args.place in
    let rows = (forest_at old.forests at).rows in
    let queue = queue_at old.queues at in
    let told : List Kind → List Value → Post = λ kinds arguments. record { name = c.args.post.now.name; kinds = kinds; arguments = arguments } in
    let done : c.arrive-posted.new.queues ≡ with_queue old.queues at
    (reached_by classes rows from (told c.as_slice.result.now c.as_slice-2.result.now) queue c.joins-joins.result.now) =
    on_ok {P = c.arrive-posted.new.queues ≡ with_queue old.queues at
    (reached_by classes rows from (told c.as_slice.result.now c.as_slice-2.result.now) queue c.joins-joins.result.now)} c.arrive-posted.result
    (sym c.is_err.ensures.value ∙ c.if-is_err.false) c.arrive-posted.ensures.ok in
    map_ok c.arrive-posted.result (λ value. after_posts_one classes from 0 old at c.args.post.now c.arrive-posted.new.queues
    (sym (c.get.ensures false) ∙ c.if-get.false) c.requires
    (done ∙ ap (λ joins. with_queue old.queues at (reached_by classes rows from (told c.as_slice.result.now c.as_slice-2.result.now) queue joins))
    c.joins-joins.ensures
    ∙ ap (λ kinds. with_queue old.queues at (reached_by classes rows from (told kinds c.as_slice-2.result.now) queue (desk_at old.desks at).joins))
    c.as_slice.ensures
    ∙ ap (λ arguments. with_queue old.queues at (reached_by classes rows from (told c.args.post.now.kinds arguments) queue (desk_at old.desks at).joins))
    c.as_slice-2.ensures))
