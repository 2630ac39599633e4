-- The lines that a session receives in a run of an input, compared with runs of other inputs.
use Rattle.std.specs.Prelude.{◌≡◌, ℕ, Bool, true, List}
use Rattle.isolation.specs.Alone.{alone_lines, items}
use Rattle.isolation.specs.Influence.{IsClosed, influences}
use Rattle.isolation.specs.Pieces.{commands_of, told}
use Rattle.isolation.specs.Slice.{KeepsAtLeast, kept, slice}
use Rattle.isolation.specs.World.{only}
use Rattle.session_model.specs.Machine.{machine}
use Rattle.session_model.specs.Thread.{Settings}
use Rattle.wire_format.specs.Input.{pieces_of, without}
use Rattle.wire_format.specs.Output.{World, answers_to, lines_said_to, said_all, world_of}

-- The commands of `s` are answered as they would be if `s` were alone.
abbrev pub IsToldAlone : Settings → World → List ℕ → List ℕ → Type 0
IsToldAlone settings world input s =
    told (machine settings) s (answers_to settings world input)
    ≡ alone_lines (machine settings) s (world s) (items (machine settings) s world (commands_of (pieces_of input)))

-- An input without the commands of strangers: of sessions to which no chain of joins leads from `s`.
abbrev pub without_strangers : Settings → World → List (List ℕ) → List ℕ → List ℕ → List ℕ
without_strangers settings world known input s =
    without (influences (machine settings) world known (commands_of (pieces_of input)) s) input

-- The lines that name `s` are those that would be written for it without the commands of strangers.
abbrev pub IsToldAsWithout : Settings → World → List (List ℕ) → List ℕ → List ℕ → Type 0
IsToldAsWithout settings world known input s =
    lines_said_to s (said_all settings world input)
    ≡ lines_said_to s (said_all settings world (without_strangers settings world known input s))

-- The commands of `s` are answered in the same way by another input, which leaves `s` in the same state.
pub record IsAlikeFor (settings : Settings) (world : World) (input other s : List ℕ) : Type 0 where
  pub lines : told (machine settings) s (answers_to settings world other) ≡ told (machine settings) s (answers_to settings world input)
  pub state : world_of settings world other s ≡ world_of settings world input s

-- Another input has some of the commands of this one, in their order, and at least those in the slice of `s`. It may
-- have any faulty and blank lines.
pub record IsBetween (settings : Settings) (world : World) (input other s : List ℕ) : Type 0 where
  pub more : List Bool
  pub within : KeepsAtLeast (slice (machine settings) s world (commands_of (pieces_of input))).marks more
  pub commands : commands_of (pieces_of other) ≡ kept more (commands_of (pieces_of input))

-- Each input between the slice of `s` and the whole gives `s` the same answers.
abbrev pub IsToldBetween : Settings → World → List ℕ → List ℕ → Type 0
IsToldBetween settings world input s = (other : List ℕ) → IsBetween settings world input other s → IsAlikeFor settings world input other s

-- Two inputs have the same commands of the sessions that pass the test, in the same order, and in neither of them such a
-- session joins one that does not pass.
pub record HaveSameCommands (settings : Settings) (world : World) (keep : List ℕ → Bool) (input other : List ℕ) : Type 0 where
  pub closed : IsClosed (machine settings) keep world (commands_of (pieces_of input))
  pub closed_too : IsClosed (machine settings) keep world (commands_of (pieces_of other))
  pub same : only keep (commands_of (pieces_of input)) ≡ only keep (commands_of (pieces_of other))

-- Both give `s` the same answers if it passes, wherever the commands of other sessions are.
abbrev pub IsToldInterleaved : Settings → World → List ℕ → List ℕ → Type 0
IsToldInterleaved settings world input s =
    (keep : List ℕ → Bool) → keep s ≡ true → (other : List ℕ) → HaveSameCommands settings world keep input other → IsAlikeFor settings world input other s
