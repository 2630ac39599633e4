-- The joins of a desk that are removed. No public clause cites this module.
use Rattle.std.specs.Prelude.{◌==◌, Bool, not, true, filter}
use Rattle.publish_board.specs.declared.join.Going.{Going}
use Rattle.publish_board.specs.declared.join.Going.TheVariants.{All, Object, Same}
use Rattle.publish_board.specs.declared.join.Join.{Join}
use Rattle.publish_board.specs.Desk.{Desk}
use Rattle.publish_board.specs.Rows.{is_join}

abbrev pub goes : Going → Join → Bool
goes All join = true
goes (Object object) join = join.object == object
goes (Same from name object method) join = is_join from.now name.now object method join

-- The desk without the joins that are removed.
abbrev pub gone : Going → Desk → Desk
gone going desk = record desk { joins = filter (λ join. not (goes going join)) desk.joins }
