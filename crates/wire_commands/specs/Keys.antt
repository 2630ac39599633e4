-- Keys of commands, and their values.
use Rattle.std.specs.Prelude.{ℕ, List}
use Rattle.wire_commands.specs.declared.keys.Holds.{Holds}
use Rattle.wire_commands.specs.declared.keys.Key.{Key as KeyInCode}
use Rattle.wire_commands.specs.declared.keys.Key.TheVariants as code

-- A key, what its value is, and whether it must be present.
pub data Key : Type 0 where
  needed : List ℕ → Holds → Key
  optional : List ℕ → Holds → Key

abbrev pub key_seen : KeyInCode → Key
key_seen (code.Needed word holds) = needed word.now holds
key_seen (code.Optional word holds) = optional word.now holds

abbrev pub key_word : Key → List ℕ
key_word (needed word holds) = word
key_word (optional word holds) = word
