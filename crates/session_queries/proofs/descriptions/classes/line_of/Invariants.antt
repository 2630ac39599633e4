use Rattle.std.proofs.Common.{◌≡◌, ◌++◌, reverse, suc}
use Rattle.std.specs.Option.{option_map_or}
use Rattle.class_table.specs.Lookup.{inherited, line}
use Rattle.session_queries.proofs.descriptions.classes.line_of.Given as goal

-- what the next class has is yet to come, and stands before those that were found
abbrev pub invariant-line : goal.invariant-line
invariant-line l = inherited (line l.setup.classes) l.next ++ reverse l.found.items ≡ line l.setup.classes l.index

abbrev pub decreases-line : goal.decreases-line
decreases-line l = option_map_or suc l.next 0
