-- What members have at keys, before it is read. Except for `are_distinct`, only private clauses cite this.
use Rattle.std.specs.Prelude.{◌≡◌, ◌&&◌, ◌<◌, ℕ, Bool, true, false, not, List, [], ◌∷◌, bytes_eq, codes, get_or}
use Rattle.std.specs.Prelude.{length, map, MatchOption, Option, Some, None, option_and_then, option_map}
use Rattle.std.specs.List.{list_any}
use Rattle.std.specs.Option.{option_map_or}
use Rattle.serde_json.specs.Data.{Data}
use Rattle.serde_json.specs.Find.{get_member}
use Rattle.json_reading.specs.declared.field.Member.{Member}
use Rattle.json_reading.specs.Members.{members_in}
use Rattle.wire_commands.specs.declared.keys.Key.{Key as KeyInCode}
use Rattle.wire_commands.specs.Held.{Held, absent, reads}
use Rattle.wire_commands.specs.Keys.{Key, needed, optional, key_seen, key_word}

-- The words of keys.
abbrev pub words_of : List KeyInCode → List (List ℕ)
words_of keys = map key_word (map key_seen keys)

-- These keys, and those that every command has.
abbrev pub with_common : List (List ℕ) → List (List ℕ)
with_common words = codes "do" ∷ codes "session" ∷ words

-- No two words are equal.
abbrev pub are_distinct : List (List ℕ) → Bool
are_distinct [] = true
are_distinct (word ∷ words) = not (list_any (bytes_eq word) words) && are_distinct words

-- The place of a word among those of keys, if it is one of them.
abbrev pub IsPlaceOf : List ℕ → List KeyInCode → Option ℕ → Type 0
IsPlaceOf word keys found =
    MatchOption found (list_any (bytes_eq word) (words_of keys) ≡ false) (λ place. (place < length keys) × (get_or (words_of keys) place [] ≡ word))

-- The value at a key, read from what was found there.
abbrev pub held_as : Option Data → Key → Option Held
held_as found (needed word holds) = option_and_then (reads holds) found
held_as found (optional word holds) = option_map_or (reads holds) found (Some absent)

-- For each word in order, what the members have at it.
abbrev pub AreFound : {A : Type 0} → (A → Data) → List (List ℕ) → List Member → List (Option A) → Type 0
AreFound seen words members found =
    (place : ℕ) → place < length words → option_map seen (get_or found place None) ≡ get_member (get_or words place []) (members_in members)
