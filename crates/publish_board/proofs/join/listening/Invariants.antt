use Rattle.std.proofs.Common.{◌≡◌, filter, take}
use Rattle.publish_board.specs.Rows.{listens}
use Rattle.publish_board.proofs.join.listening.Given as goal

abbrev pub invariant-joins : goal.invariant-joins
invariant-joins l = l.copies ≡ filter (listens l.from l.name) (take l.join-index l.joins)
