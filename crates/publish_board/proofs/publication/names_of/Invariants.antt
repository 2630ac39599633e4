use Rattle.std.proofs.Common.{◌≡◌, take}
use Rattle.publish_board.specs.Rows.{names_of}
use Rattle.publish_board.proofs.publication.names_of.Given as goal

abbrev pub invariant-rows : goal.invariant-rows
invariant-rows l = l.names ≡ names_of l.object l.signal (take l.row-index l.rows)
