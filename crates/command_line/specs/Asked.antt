-- The request in the words of the command line, without the program's name.
use Rattle.std.specs.Prelude.{◌≡◌, ◌==◌, ◌&&◌, ◌||◌, ℕ, Bool, true, false, List, [], ◌∷◌, Option, Some, None, Result, Ok, Err}
use Rattle.std.specs.Prelude.{codes, is_some, nat_le, unwrap_or, option_map, bytes_eq, chars, slice_get, if◌then◌else◌}
use Rattle.std.specs.List.{after_first, before_first, list_any}
use Rattle.std.specs.Option.{option_map_or}
use Rattle.std.specs.Str.Parse.{digits_value, without_leading_plus}
use Rattle.clap.specs.ValueTests.{is_numeral}
use Rattle.clap.specs.Words.{HasKind, Kinds, first_of, kind_of, matches_of, one_of}
use Rattle.clap.specs.declared.error.Error.{Error}
use Rattle.clap.specs.declared.error.kind.ErrorKind.{ErrorKind}
use Rattle.clap.specs.declared.error.kind.ErrorKind.TheVariants.{DisplayHelp, DisplayVersion, OutOfMemory}
use Rattle.plain_types.specs.Names.{is_name}
use Rattle.command_line.specs.Program.{metad}
use Rattle.command_line.specs.declared.options.Options.{Options}
use Rattle.command_line.specs.declared.options.OptionsError.{OptionsError}
use Rattle.command_line.specs.declared.options.OptionsError.TheVariants.{Words, SessionName}

-- A request: a run with the class file at this path if one is given, this many turns for each command, and for the slice
-- of this session if one is given; the help; or a mistake.
pub data Asked : Type 0 where
  run : Option (List ℕ) → ℕ → Option (List ℕ) → Asked
  help : Asked
  mistake : Asked

-- The options that have a value, `--turns` and `--slice`.
pub data Valued : Type 0 where
  the_turns : Valued
  the_slice : Valued

-- The options in some words: a path, a number of turns, and the name of a slice's session.
pub record Given : Type 0 where
  pub path : Option (List ℕ)
  pub turns : Option ℕ
  pub slice : Option (List ℕ)

abbrev pub nothing : Given
nothing = record { path = None; turns = None; slice = None }

-- The first character after the leading hyphen (45) of a word.
abbrev pub letter_of : List ℕ → Option ℕ
letter_of [] = None
letter_of (byte ∷ rest) = if byte == 45 then slice_get (chars rest) 0 else None

-- Whether a word is an option: a hyphen and another character. A hyphen alone is a path or a value.
abbrev pub is_option : List ℕ → Bool
is_option word = is_some (letter_of word)

-- Whether a word asks for help: `--help`, or `-h` (104) with anything after it.
abbrev pub asks_help : List ℕ → Bool
asks_help word = bytes_eq word (codes "--help") || option_map_or (λ letter. letter == 104) (letter_of word) false

-- The option whose value is in the next word, or after `=` (61) in this one.
abbrev pub option_in : List ℕ → Option Valued
option_in word =
    let name = before_first (λ byte. byte == 61) word in
    if bytes_eq name (codes "--turns") then Some the_turns
    else if bytes_eq name (codes "--slice") then Some the_slice else None

abbrev pub has_value : List ℕ → Bool
has_value word = list_any (λ byte. byte == 61) word

abbrev pub value_in : List ℕ → List ℕ
value_in word = after_first (λ byte. byte == 61) word

-- A number of turns: the decimal digits, with or without a leading plus, of a number from 1 to 1,000,000.
abbrev pub number_in : List ℕ → Option ℕ
number_in text =
    let number = digits_value 10 (without_leading_plus text) in
    if is_numeral (without_leading_plus text) && (nat_le 1 number && nat_le number 1000000) then Some number else None

-- The options with a path, unless there is one already.
abbrev pub with_path : List ℕ → Given → Option Given
with_path path given = if is_some given.path then None else Some (record given { path = Some path })

-- The options with the value of another one, unless there is one already. The turns must be a number of turns.
abbrev pub with_value : Valued → List ℕ → Given → Option Given
with_value the_turns text given = if is_some given.turns then None else option_map (λ number. record given { turns = Some number }) (number_in text)
with_value the_slice text given = if is_some given.slice then None else Some (record given { slice = Some text })

-- Goes on with the options, unless they hold a mistake.
abbrev pub asked_with : Option Given → (Given → Asked) → Asked
asked_with None next = mistake
asked_with (Some given) next = next given

-- The run after the last word, with 10,000 turns if no number was given.
abbrev pub run_with : Given → Asked
run_with given = run given.path (unwrap_or given.turns 10000) given.slice

-- The request in words that are all paths.
abbrev pub asked_by_paths : Given → List (List ℕ) → Asked
asked_by_paths given [] = run_with given
asked_by_paths given (word ∷ rest) = asked_with (with_path word given) (λ more. asked_by_paths more rest)

-- The request in an option and the words after it, which `next` gives.
abbrev pub asked_by_option : Option Valued → List ℕ → Given → (Option Valued → Given → Asked) → Asked
asked_by_option None word given next = if asks_help word then help else mistake
asked_by_option (Some valued) word given next =
    if has_value word then asked_with (with_value valued (value_in word) given) (next None) else next (Some valued) given

-- The request in words after these options. The first word may be the value of an option. The first word that asks for
-- help or is a mistake decides, and after `--` all words are paths.
abbrev pub asked_behind : Option Valued → Given → List (List ℕ) → Asked
asked_behind None given [] = run_with given
asked_behind None given (word ∷ rest) =
    if bytes_eq word (codes "--") then asked_by_paths given rest
    else (if is_option word then asked_by_option (option_in word) word given (λ awaited more. asked_behind awaited more rest)
    else asked_with (with_path word given) (λ more. asked_behind None more rest))
asked_behind (Some valued) given [] = mistake
asked_behind (Some valued) given (word ∷ rest) =
    if is_option word then mistake else asked_with (with_value valued word given) (λ more. asked_behind None more rest)

abbrev pub asked : List (List ℕ) → Asked
asked words = asked_behind None nothing words

-- Whether the name of the slice's session, if one is given, is a valid name.
abbrev pub is_named : Option (List ℕ) → Bool
is_named slice = option_map_or is_name slice true

-- The kind of clap's error fits the request, unless memory ran out. A version is never shown.
abbrev pub Says : Asked → ErrorKind → Type 0
Says wanted OutOfMemory = Unit {0}
Says wanted DisplayHelp = wanted ≡ help
Says wanted DisplayVersion = ⊥
Says wanted _ = wanted ≡ mistake

-- The options are those of the requested run.
abbrev pub AreOf : Asked → Options → Type 0
AreOf wanted options = wanted ≡ run options.classes options.turns options.slice

-- The options are those of the requested run, or the error fits the request.
abbrev pub ReadsWords : Asked → Result Options Error → Type 0
ReadsWords wanted (Ok options) = AreOf wanted options
ReadsWords wanted (Err error) = Says wanted (kind_of error)

-- The options are those of the requested run, or the error fits the request. A run with an invalid session name is
-- refused.
abbrev pub Reads : Asked → Result Options OptionsError → Type 0
Reads wanted (Ok options) = AreOf wanted options × (is_named options.slice ≡ true)
Reads wanted (Err (Words error)) = Says wanted (kind_of error)
Reads wanted (Err SessionName) = (options : Options) × AreOf wanted options × (is_named options.slice ≡ false)

-- The turns in their text, if there is one.
abbrev pub Gives : Option (List ℕ) → ℕ → Type 0
Gives None turns = turns ≡ 10000
Gives (Some text) turns = number_in text ≡ Some turns

-- The options are what clap finds in these words.
pub record AreFound (words : List (List ℕ)) (options : Options) : Type 0 where
  pub classes : options.classes ≡ first_of (codes "classes") (matches_of metad words)
  pub turns : Gives (one_of (codes "turns") (matches_of metad words)) options.turns
  pub slice : options.slice ≡ first_of (codes "slice") (matches_of metad words)

-- If clap reports an error, it has one of these kinds.
abbrev pub FailsByWords : Kinds → Result Options OptionsError → Type 0
FailsByWords kinds (Err (Words error)) = HasKind kinds error
FailsByWords kinds _ = kinds ≡ []
