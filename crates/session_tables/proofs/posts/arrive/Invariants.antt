use Rattle.std.proofs.Common.{◌≡◌, ◌≤◌, drop}
use Rattle.std.specs.List.{count_by}
use Rattle.publish_board.specs.Rows.{listens}
use Rattle.event_queue.specs.Queue.{empty_queue}
use Rattle.event_queue.specs.Table.{queue_at}
use Rattle.object_tree.specs.Table.{forest_at}
use Rattle.shared_rows.specs.Table.{ChangesAt, IsPlace}
use Rattle.session_model.specs.Arriving.{reached_by}
use Rattle.session_tables.specs.Reaching.{post_in}
use Rattle.session_tables.proofs.posts.arrive.Given as goal

abbrev pub invariant-joins : goal.invariant-joins
invariant-joins l = record {
  there : IsPlace l.queues l.at;
  only : ChangesAt empty_queue l.at l.fn.queues l.queues;
  reached : reached_by l.posting.classes.now (forest_at l.forests l.at).rows l.posting.from.now (post_in l.posting) (queue_at l.queues l.at)
      (drop l.join-index l.heard.joins.now)
      ≡ reached_by l.posting.classes.now (forest_at l.forests l.at).rows l.posting.from.now (post_in l.posting) (queue_at l.fn.queues l.at) l.heard.joins.now;
  left : count_by (listens l.posting.from.now l.posting.name.now) (drop l.join-index l.heard.joins.now) ≤ l.left;
}
