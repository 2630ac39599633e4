use Rattle.std.proofs.Common.{◌≡◌, bytes_eq, drop}
use Rattle.std.specs.List.{list_any}
use Rattle.wire_commands.specs.Found.{words_of}
use Rattle.wire_commands.proofs.found.any_place_of.Given as goal

abbrev pub invariant-keys : goal.invariant-keys
invariant-keys l = list_any (bytes_eq l.word) (words_of l.keys) ≡ list_any (bytes_eq l.word) (words_of (drop l.place l.keys))
