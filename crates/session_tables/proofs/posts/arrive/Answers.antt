use Rattle.std.proofs.Common.{drop, refl, sym, ap, ◌∙◌, arith}
use Rattle.std.proofs.lemmas.List.Folds.{list_any_at}
use Rattle.event_queue.specs.Queue.{empty_queue}
use Rattle.event_queue.specs.Table.{queue_at, with_queue}
use Rattle.object_tree.specs.Table.{forest_at}
use Rattle.shared_rows.proofs.ForCallers as column
use Rattle.publish_board.specs.Rows.{listens}
use Rattle.session_tables.specs.Reaching.{post_in, takes}
use Rattle.session_tables.proofs.PostLemmas.{all_pass, arrive_next, arrive_none, count_rest, map_err}
use Rattle.session_tables.proofs.posts.arrive.Goals as goal

pub arrive_by-requires-clause-all : goal.arrive_by-requires-clause-all
arrive_by-requires-clause-all c = λ all.
    ap (listens c.args.posting.now.from.now c.args.posting.now.name.now) c.join-item.is
    ∙ all_pass (listens c.args.posting.now.from.now c.args.posting.now.name.now) c.args.heard.now.joins.now (c.requires.heard.all all) c.joins.join-index
    c.join-item.result (omega arith)

pub joins-preserved : goal.joins-preserved
joins-preserved c =
    let changes = column.changes_with empty_queue c.joins.queues c.arrive_by.new.queues c.args.at _ c.joins.invariant.there c.in_ok-count.ensures.ok in
    let hears = listens c.args.posting.now.from.now c.args.posting.now.name.now in
    record {
      there = column.changes_open empty_queue c.joins.queues c.arrive_by.new.queues c.args.at changes c.joins.invariant.there;
      only = column.changes_twice empty_queue c.args.queues.now c.joins.queues c.arrive_by.new.queues c.args.at c.joins.invariant.only changes;
      reached = arrive_next c.args.posting.now.classes.now (forest_at c.args.forests.now c.args.at).rows c.args.posting.now.from.now
          (post_in c.args.posting.now) c.joins.queues c.arrive_by.new.queues c.args.at c.joins.join-index c.args.heard.now.joins.now c.join-item.result _
          c.joins.invariant.there (omega arith) c.join-item.is c.in_ok-count.ensures.ok c.joins.invariant.reached;
      left = omega (
        arith,
        c.joins.invariant.left,
        c.in_ok-count.ensures.count,
        c.saturating_sub-left.ensures,
        count_rest hears c.args.heard.now.joins.now c.joins.join-index c.join-item.result (hears c.join-item.result) (omega arith) c.join-item.is refl,
      );
    }

pub returns-then-left-eq0-clause-ok : goal.returns-then-left-eq0-clause-ok
returns-then-left-eq0-clause-ok c =
    c.joins.invariant.only
    ∙ ap (with_queue c.args.queues.now c.args.at)
    (sym (arrive_none c.args.posting.now.classes.now (forest_at c.args.forests.now c.args.at).rows c.args.posting.now.from.now (post_in c.args.posting.now)
    (drop c.joins.join-index c.args.heard.now.joins.now) (queue_at c.joins.queues c.args.at)
    (omega (arith, c.joins.invariant.left, c.if-left-eq0.true)))
    ∙ c.joins.invariant.reached)

pub returns-in_err-count-clause-taken : goal.returns-in_err-count-clause-taken
returns-in_err-count-clause-taken c =
    let taking = takes c.args.posting.now.from.now (post_in c.args.posting.now) in
    map_err c.from_residual.result (λ error. list_any_at taking c.args.heard.now.joins.now c.joins.join-index c.join-item.result (omega arith)
    (ap taking (sym c.join-item.is) ∙ c.in_err-count.ensures.taken))
