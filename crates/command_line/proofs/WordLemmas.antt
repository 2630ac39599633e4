-- What clap makes of the words of metad's command line, word by word.
use Rattle.std.proofs.Common.{◌≡◌, ◌∙◌, ◌==◌, ◌&&◌, ℕ, suc, Bool, true, false, refl, sym, ap, List, [], ◌∷◌, Option, Some, None, inl, inr, codes, bytes_eq}
use Rattle.std.proofs.Common.{subst, ap₂, ◌+◌, arith, take, drop}
use Rattle.std.specs.Prelude.{slice_get, is_some, if◌then◌else◌}
use Rattle.std.specs.List.{before_first, after_first, position_or_len}
use Rattle.std.specs.Str.{chars}
use Rattle.std.proofs.lemmas.Bool.{cases_Bool, both_ways, eq-eqb, eqb-true, eqb-false, false_from_ne_true, false≢true, ne_eqb, or_parts, true≢false, and_right}
use Rattle.std.proofs.lemmas.Slice.Eq.{bytes_eq-Decides}
use Rattle.clap.specs.Faults.{settle_fault, use_fault, turn_fault, flags_fault, is_simple_and_free}
use Rattle.clap.specs.Kinds.{or_else}
use Rattle.clap.specs.Lexer.{has_byte, long_of, short_of}
use Rattle.clap.specs.Simple.{built, filled, is_simple, with_index}
use Rattle.clap.specs.Walk.{Held, Waiting, Walk, settled_rows, idle, option, subcommand_met, used, walked, bundle_met}
use Rattle.clap.specs.Words.{Rule, Shape, Text, Row, Kinds}
use Rattle.clap.specs.declared.error.kind.ErrorKind.{ErrorKind}
use Rattle.clap.specs.declared.error.kind.ErrorKind.TheVariants.{DisplayHelp, UnknownArgument, TooManyValues}
use Rattle.clap.proofs.OnLiterals.{clap_on_literals}
use Rattle.command_line.specs.Asked.{Valued, the_turns, the_slice, mistake, asks_help, has_value, is_option, option_in, value_in, Says}
use Rattle.command_line.specs.Program.{metad, slice_rule, turns_rule}

pub simple : is_simple metad ≡ true
unfolding clap_on_literals
simple = refl

pub simple_and_free : is_simple_and_free metad ≡ true
unfolding clap_on_literals
simple_and_free = refl

abbrev pub shape : Shape
shape = (built metad).top

abbrev pub rules : List Rule
rules = shape.rules

-- the name of an option with a value, as it is written, and the option as it was built
abbrev pub name_of : Valued → Text
name_of the_turns = codes "turns"
name_of the_slice = codes "slice"

abbrev pub spelled : Valued → Text
spelled valued = 45 ∷ 45 ∷ name_of valued

abbrev pub rule_of : Valued → Rule
rule_of the_turns = with_index 2 (filled turns_rule)
rule_of the_slice = with_index 2 (filled slice_rule)

abbrev pub Pending : Type 0
Pending = Option (Text × List Text)

abbrev pub held : List Row → Pending → Held
held rows pending = record { rows = rows; pending = pending; skip = 0 }

abbrev position : Option Text → ℕ
position None = 1
position (Some path) = 2

-- the option whose value is awaited
abbrev waiting : Option Valued → Waiting
waiting None = idle
waiting (Some valued) = option (name_of valued)

-- what is pending then
abbrev pub opened : Valued → Pending
opened valued = Some (name_of valued, [])

-- where the walk stands between two words
abbrev pub at : Bool → Option Valued → Option Text → List Row → Pending → Walk
at is_trailing awaits path rows pending =
    record { held = held rows pending; waiting = waiting awaits; position = position path; is_trailing = is_trailing; stopped = None }

-- what is wrong with what is pending, and the rows where it is used
abbrev pub settle : List Row → Pending → Kinds
settle rows pending = settle_fault rules false (held rows pending)

abbrev pub settles : List Row → Pending → List Row
settles rows pending = settled_rows rules pending rows

and_false : (b : Bool) → (b && false) ≡ false
and_false b = and_right b false refl

-- no word is a subcommand
no_subcommand : (awaits : Option Valued) (word : Text) → subcommand_met [] (waiting awaits) word ≡ None
no_subcommand None word = refl
no_subcommand (Some valued) word = refl

-- ---- one word

abbrev pub IsTurn : Walk → Text → Kinds → Type 0
IsTurn from word kinds = turn_fault shape [] from word ≡ kinds

abbrev pub GoesTo : Walk → Text → Walk → Type 0
GoesTo from word to = walked rules [] from word ≡ to

-- a word of which the walk makes nothing but a path
abbrev pub IsPathWord : Bool → Option Valued → Text → Type 0
IsPathWord t a word = (rows : List Row) (pending : Pending)
    → IsTurn (at t a None rows pending) word (settle rows pending)
    × GoesTo (at t a None rows pending) word (at t None (Some word) (settles rows pending) (Some (codes "classes", word ∷ [])))
    × ((path : Text) → IsTurn (at t a (Some path) rows pending) word (UnknownArgument ∷ []))

-- behind `--` each word is one
pub path_behind_dashes : (awaits : Option Valued) (word : Text) → IsPathWord true awaits word
unfolding walked
path_behind_dashes awaits word rows pending = (rw and_false refl, rw and_false refl, λ path. refl)

pub dashes : (awaits : Option Valued) (path : Option Text) (rows : List Row) (pending : Pending)
    → IsTurn (at false awaits path rows pending) (codes "--") [] × GoesTo (at false awaits path rows pending) (codes "--") (at true awaits path rows pending)
unfolding walked
dashes awaits path rows pending = (rw no_subcommand refl, rw no_subcommand refl)

-- a word that names no option
plain_word : (word : Text) → bytes_eq word (codes "--") ≡ false → long_of word ≡ None → short_of word ≡ None → IsPathWord false None word
unfolding walked
plain_word word no_dashes no_long no_short rows pending =
    (rw (no_dashes, no_long, no_short, and_false) refl, rw (no_dashes, no_long, no_short, and_false) refl, λ path. rw (no_dashes, no_long, no_short) refl)

-- a hyphen with no character behind it
blank_word : (word : Text) (byte : ℕ) (rest : Text) → bytes_eq word (codes "--") ≡ false → long_of word ≡ None → short_of word ≡ Some (byte ∷ rest)
    → slice_get (chars (byte ∷ rest)) 0 ≡ None → IsPathWord false None word
unfolding walked bundle_met flags_fault
blank_word word byte rest no_dashes no_long a_short no_letter rows pending = (
  rw (no_dashes, no_long, a_short, no_letter, and_false) refl,
  rw (no_dashes, no_long, a_short, no_letter, and_false) refl,
  λ path. rw (no_dashes, no_long, a_short, no_letter) refl,
)

-- such words where the value of an option is awaited
abbrev IsValueWord : Valued → Text → Type 0
IsValueWord valued word = (path : Option Text) (rows : List Row) → IsTurn (at false (Some valued) path rows (opened valued)) word []
    × GoesTo (at false (Some valued) path rows (opened valued)) word (at false None path rows (Some (name_of valued, word ∷ [])))

plain_value : (valued : Valued) (word : Text) → bytes_eq word (codes "--") ≡ false → long_of word ≡ None → short_of word ≡ None → IsValueWord valued word
unfolding walked
plain_value the_turns word no_dashes no_long no_short path rows = (rw (no_dashes, no_long, no_short) refl, rw (no_dashes, no_long, no_short) refl)
plain_value the_slice word no_dashes no_long no_short path rows = (rw (no_dashes, no_long, no_short) refl, rw (no_dashes, no_long, no_short) refl)

blank_value : (valued : Valued) (word : Text) (byte : ℕ) (rest : Text) → bytes_eq word (codes "--") ≡ false → long_of word ≡ None
    → short_of word ≡ Some (byte ∷ rest) → slice_get (chars (byte ∷ rest)) 0 ≡ None → IsValueWord valued word
unfolding walked bundle_met flags_fault
blank_value the_turns word byte rest no_dashes no_long a_short no_letter path rows =
    (rw (no_dashes, no_long, a_short, no_letter) refl, rw (no_dashes, no_long, a_short, no_letter) refl)
blank_value the_slice word byte rest no_dashes no_long a_short no_letter path rows =
    (rw (no_dashes, no_long, a_short, no_letter) refl, rw (no_dashes, no_long, a_short, no_letter) refl)

abbrev short_kinds : Bool → Kinds → Kinds
short_kinds true s = or_else s (DisplayHelp ∷ [])
short_kinds false s = UnknownArgument ∷ []

-- a hyphen with a character behind it
short_word : (awaits : Option Valued) (path : Option Text) (rows : List Row) (pending : Pending) (s : Kinds) (word : Text) (byte : ℕ) (rest : Text) (letter : ℕ)
    (is_h : Bool)
    → settle rows pending ≡ s → bytes_eq word (codes "--") ≡ false → long_of word ≡ None → short_of word ≡ Some (byte ∷ rest)
    → slice_get (chars (byte ∷ rest)) 0 ≡ Some letter → (104 == letter) ≡ is_h → IsTurn (at false awaits path rows pending) word (short_kinds is_h s)
unfolding walked bundle_met flags_fault
short_word awaits path rows pending [] word byte rest letter true is no_dashes no_long a_short a_letter h =
    rw (no_subcommand, no_dashes, no_long, a_short, a_letter, h, is) refl
short_word awaits path rows pending (k ∷ ks) word byte rest letter true is no_dashes no_long a_short a_letter h =
    rw (no_subcommand, no_dashes, no_long, a_short, a_letter, h, is) refl
short_word awaits path rows pending s word byte rest letter false is no_dashes no_long a_short a_letter h =
    rw (no_subcommand, no_dashes, no_long, a_short, a_letter, h) refl

abbrev long_kinds : Bool → Option Text → Kinds → Kinds
long_kinds true None s = or_else s (DisplayHelp ∷ [])
long_kinds true (Some value) s = TooManyValues ∷ []
long_kinds false value s = UnknownArgument ∷ []

-- a name that is none of an option with a value
abbrev IsNoName : Text → Type 0
IsNoName name = (bytes_eq (codes "turns") name ≡ false) × (bytes_eq (codes "slice") name ≡ false)

-- two hyphens with such a name behind them
long_word : (awaits : Option Valued) (path : Option Text) (rows : List Row) (pending : Pending) (s : Kinds) (word : Text) (name : Text) (value : Option Text)
    (is_help : Bool)
    → settle rows pending ≡ s → bytes_eq word (codes "--") ≡ false → long_of word ≡ Some (name, value)
    → IsNoName name → bytes_eq (codes "help") name ≡ is_help → IsTurn (at false awaits path rows pending) word (long_kinds is_help value s)
unfolding walked
long_word awaits path rows pending [] word name None true is no_dashes a_long no_name h =
    rw (no_subcommand, no_dashes, a_long, no_name.0, no_name.1, h, is) refl
long_word awaits path rows pending (k ∷ ks) word name None true is no_dashes a_long no_name h =
    rw (no_subcommand, no_dashes, a_long, no_name.0, no_name.1, h, is) refl
long_word awaits path rows pending s word name (Some value) true is no_dashes a_long no_name h =
    rw (no_subcommand, no_dashes, a_long, no_name.0, no_name.1, h) refl
long_word awaits path rows pending s word name value false is no_dashes a_long no_name h = rw (no_subcommand, no_dashes, a_long, no_name.0, no_name.1, h) refl

or_nothing : (kinds : Kinds) → or_else kinds [] ≡ kinds
or_nothing [] = refl
or_nothing (k ∷ ks) = refl

-- an option with its value attached
abbrev TakesValue : Valued → Option Valued → Option Text → List Row → Pending → Text → Text → Type 0
TakesValue valued awaits path rows pending word value =
    IsTurn (at false awaits path rows pending) word (or_else (settle rows pending) (use_fault false (rule_of valued) (value ∷ []) (settles rows pending)))
    × GoesTo (at false awaits path rows pending) word (at false None path (used (rule_of valued) (value ∷ []) (settles rows pending)) None)

pub value_attached : (valued : Valued) (awaits : Option Valued) (path : Option Text) (rows : List Row) (pending : Pending) (word value : Text)
    → bytes_eq word (codes "--") ≡ false → long_of word ≡ Some (name_of valued, Some value) → TakesValue valued awaits path rows pending word value
unfolding walked
value_attached the_turns awaits path rows pending word value no_dashes a_long = (
  rw (no_subcommand, no_dashes, a_long) (or_nothing
      (or_else (settle rows pending) (use_fault false (rule_of the_turns) (value ∷ []) (settles rows pending)))),
  rw (no_subcommand, no_dashes, a_long) refl,
)
value_attached the_slice awaits path rows pending word value no_dashes a_long = (
  rw (no_subcommand, no_dashes, a_long) (or_nothing
      (or_else (settle rows pending) (use_fault false (rule_of the_slice) (value ∷ []) (settles rows pending)))),
  rw (no_subcommand, no_dashes, a_long) refl,
)

-- and alone
pub value_awaited : (valued : Valued) (awaits : Option Valued) (path : Option Text) (rows : List Row) (pending : Pending)
    → IsTurn (at false awaits path rows pending) (spelled valued) (settle rows pending)
    × GoesTo (at false awaits path rows pending) (spelled valued) (at false (Some valued) path (settles rows pending) (opened valued))
unfolding walked
value_awaited the_turns awaits path rows pending = (rw no_subcommand (or_nothing (settle rows pending)), rw no_subcommand refl)
value_awaited the_slice awaits path rows pending = (rw no_subcommand (or_nothing (settle rows pending)), rw no_subcommand refl)

-- ---- what may be said of words

abbrev pub IsMistake : Kinds → Type 0
IsMistake kinds = (k : ErrorKind) × (kinds ≡ k ∷ []) × Says mistake k

-- whether what is pending is a mistake
abbrev Stands : Bool → Kinds → Type 0
Stands false s = s ≡ []
Stands true s = IsMistake s

-- what the walk says of an option, by whether what is pending is a mistake and whether it asks for help
abbrev pub Refuses : Bool → Bool → Kinds → Type 0
Refuses false true kinds = kinds ≡ DisplayHelp ∷ []
Refuses _ _ kinds = IsMistake kinds

pub unknown : (kinds : Kinds) → kinds ≡ UnknownArgument ∷ [] → IsMistake kinds
unknown kinds is = (UnknownArgument, is, refl)

refuses_other : (is_bad : Bool) (kinds : Kinds) → IsMistake kinds → Refuses is_bad false kinds
refuses_other false kinds is = is
refuses_other true kinds is = is

refuses_help : (is_bad : Bool) (s kinds : Kinds) → Stands is_bad s → kinds ≡ or_else s (DisplayHelp ∷ []) → Refuses is_bad true kinds
refuses_help false s kinds stands is = is ∙ ap (λ x. or_else x (DisplayHelp ∷ [])) stands
refuses_help true s kinds stands is = (stands.0, is ∙ ap (λ x. or_else x (DisplayHelp ∷ [])) stands.1, stands.2)

-- ---- how words are spelled

before_more : (byte : ℕ) (rest : Text) → (byte == 61) ≡ false → before_first (λ x. x == 61) (byte ∷ rest) ≡ byte ∷ before_first (λ x. x == 61) rest
before_more byte rest other =
    let n = position_or_len (λ y. y == 61) rest in
    let more : 1 + n ≡ suc n = omega arith in
    rw other (ap (λ k. take k (byte ∷ rest)) more)

after_more : (byte : ℕ) (rest : Text) → (byte == 61) ≡ false → after_first (λ x. x == 61) (byte ∷ rest) ≡ after_first (λ x. x == 61) rest
after_more byte rest other =
    let n = position_or_len (λ y. y == 61) rest in
    let more : 1 + n + 1 ≡ suc (n + 1) = omega arith in
    rw other (ap (λ k. drop k (byte ∷ rest)) more)

all_before : (text : Text) → has_byte 61 text ≡ false → before_first (λ x. x == 61) text ≡ text
all_before [] h = refl
all_before (x ∷ rest) h =
    let parts = or_parts (x == 61) (has_byte 61 rest) h in
    before_more x rest parts.0 ∙ ap (λ l. x ∷ l) (all_before rest parts.1)

differs : (text other : Text) → bytes_eq text other ≡ false → bytes_eq other text ≡ false
differs text other unlike = false_from_ne_true _
    (λ yes. let same : other ≡ text = (bytes_eq-Decides other text).0 yes in both_ways _ unlike ((bytes_eq-Decides text other).1 (sym same)))

hyphen_first : (rest : Text) → slice_get (chars (45 ∷ rest)) 0 ≡ Some 45
unfolding chars
hyphen_first [] = refl
hyphen_first (byte ∷ rest) = refl

nothing_first : slice_get (chars []) 0 ≡ None
unfolding chars
nothing_first = refl

two_before : (text : Text) → before_first (λ x. x == 61) (45 ∷ 45 ∷ text) ≡ 45 ∷ 45 ∷ before_first (λ x. x == 61) text
two_before text = before_more 45 (45 ∷ text) refl ∙ ap (λ l. 45 ∷ l) (before_more 45 text refl)

two_after : (text : Text) → after_first (λ x. x == 61) (45 ∷ 45 ∷ text) ≡ after_first (λ x. x == 61) text
two_after text = after_more 45 (45 ∷ text) refl ∙ after_more 45 text refl

-- ---- options without a value

abbrev named : Text → Text
named word = before_first (λ x. x == 61) word

abbrev option_by : Bool → Bool → Option Valued
option_by turns slice = if turns then Some the_turns else if slice then Some the_slice else None

names_none : (turns slice : Bool) → option_by turns slice ≡ None → (turns ≡ false) × (slice ≡ false)
names_none true slice is = let bad : Some the_turns ≡ None = is in cc
names_none false true is = let bad : Some the_slice ≡ None = is in cc
names_none false false is = (refl, refl)

an_option : (turns slice : Bool) (valued : Valued) (word : Text) → option_by turns slice ≡ Some valued → bytes_eq (named word) (codes "--turns") ≡ turns
    → bytes_eq (named word) (codes "--slice") ≡ slice → named word ≡ spelled valued
an_option true slice the_turns word is turns_is slice_is = (bytes_eq-Decides _ _).0 turns_is
an_option true slice the_slice word is turns_is slice_is = let bad : Some the_turns ≡ Some the_slice = is in cc
an_option false true the_turns word is turns_is slice_is = let bad : Some the_slice ≡ Some the_turns = is in cc
an_option false true the_slice word is turns_is slice_is = (bytes_eq-Decides _ _).0 slice_is
an_option false false valued word is turns_is slice_is = let bad : None ≡ Some valued = is in cc

-- what a word has before its `=` where it names an option with a value
pub option_named : (word : Text) (valued : Valued) → option_in word ≡ Some valued → named word ≡ spelled valued
option_named word valued is = an_option _ _ valued word is refl refl

unlike_name : (valued : Valued) (text : Text) → bytes_eq (named (45 ∷ 45 ∷ text)) (spelled valued) ≡ false → bytes_eq (name_of valued) (named text) ≡ false
unlike_name valued text other = false_from_ne_true _ (λ yes.
    let same : name_of valued ≡ named text = (bytes_eq-Decides _ _).0 yes in
    let whole : named (45 ∷ 45 ∷ text) ≡ spelled valued = two_before text ∙ ap (λ l. 45 ∷ 45 ∷ l) (sym same) in
    both_ways _ other ((bytes_eq-Decides (named (45 ∷ 45 ∷ text)) (spelled valued)).1 whole))

-- a word with two hyphens that names none
no_name : (text : Text) → option_in (45 ∷ 45 ∷ text) ≡ None → IsNoName (named text)
no_name text is =
    let none = names_none (bytes_eq (named (45 ∷ 45 ∷ text)) (codes "--turns")) (bytes_eq (named (45 ∷ 45 ∷ text)) (codes "--slice")) is in
    (unlike_name the_turns text none.0, unlike_name the_slice text none.1)

-- the walk's turn at an option, by what it asks for
abbrev AtOption : Option Valued → Kinds → Bool → Text → Type 0
AtOption awaits s is_help word = (is_bad : Bool) (path : Option Text) (rows : List Row) (pending : Pending)
    → settle rows pending ≡ s → Stands is_bad s → Refuses is_bad is_help (turn_fault shape [] (at false awaits path rows pending) word)

help_long : (awaits : Option Valued) (s : Kinds) → AtOption awaits s true (codes "--help")
help_long awaits s is_bad path rows pending is stands =
    refuses_help is_bad s _ stands (long_word awaits path rows pending s (codes "--help") (codes "help") None true is refl refl (refl, refl) refl)

other_long : (awaits : Option Valued) (s : Kinds) (byte : ℕ) (rest : Text) (has : Bool) → has_byte 61 (byte ∷ rest) ≡ has
    → option_in (45 ∷ 45 ∷ byte ∷ rest) ≡ None → bytes_eq (byte ∷ rest) (codes "help") ≡ false
    → AtOption awaits s false (45 ∷ 45 ∷ byte ∷ rest)
other_long awaits s byte rest false no_value unnamed no_help is_bad path rows pending is stands =
    let whole = all_before (byte ∷ rest) no_value in
    refuses_other is_bad _ (unknown _ (long_word awaits path rows pending s (45 ∷ 45 ∷ byte ∷ rest) (byte ∷ rest) None false is refl (rw (no_value, whole) refl)
    (subst IsNoName whole (no_name (byte ∷ rest) unnamed)) (differs (byte ∷ rest) (codes "help") no_help)))
other_long awaits s byte rest true value unnamed no_help is_bad path rows pending is stands =
    let name = named (byte ∷ rest) in
    let after = value_in (byte ∷ rest) in
    let a_long : long_of (45 ∷ 45 ∷ byte ∷ rest) ≡ Some (name, Some after) = rw value refl in
    refuses_other is_bad _ (elim (cases_Bool (bytes_eq (codes "help") name)) [
      | inl like ↦ (
        TooManyValues,
        long_word awaits path rows pending s (45 ∷ 45 ∷ byte ∷ rest) name (Some after) true is refl a_long
            (no_name (byte ∷ rest) unnamed) like,
        refl,
      )
      | inr unlike ↦ unknown _ (long_word awaits path rows pending s (45 ∷ 45 ∷ byte ∷ rest) name (Some after) false is refl a_long
          (no_name (byte ∷ rest) unnamed) unlike)
    ])

long_refused : (awaits : Option Valued) (s : Kinds) (byte : ℕ) (rest : Text) (is_help : Bool) → option_in (45 ∷ 45 ∷ byte ∷ rest) ≡ None
    → bytes_eq (byte ∷ rest) (codes "help") ≡ is_help
    → AtOption awaits s is_help (45 ∷ 45 ∷ byte ∷ rest)
long_refused awaits s byte rest true unnamed is_help =
    let same : byte ∷ rest ≡ codes "help" = (bytes_eq-Decides (byte ∷ rest) (codes "help")).0 is_help in
    subst (λ text. AtOption awaits s true (45 ∷ 45 ∷ text)) (sym same) (help_long awaits s)
long_refused awaits s byte rest false unnamed no_help = other_long awaits s byte rest (has_byte 61 (byte ∷ rest)) refl unnamed no_help

-- which letter stands behind a hyphen, where it is no hyphen
short_refused : (awaits : Option Valued) (s : Kinds) (byte : ℕ) (rest : Text) (letter : ℕ) (is_h : Bool) → (byte == 45) ≡ false
    → slice_get (chars (byte ∷ rest)) 0 ≡ Some letter
    → (letter == 104) ≡ is_h → AtOption awaits s is_h (45 ∷ byte ∷ rest)
short_refused awaits s byte rest letter true no_hyphen a_letter h is_bad path rows pending is stands =
    let same : letter ≡ 104 = eqb-true letter 104 h in
    refuses_help is_bad s _ stands (short_word awaits path rows pending s (45 ∷ byte ∷ rest) byte rest letter true is (rw no_hyphen refl) (rw no_hyphen refl)
    (rw no_hyphen refl) a_letter (eq-eqb 104 letter (sym same)))
short_refused awaits s byte rest letter false no_hyphen a_letter h is_bad path rows pending is stands =
    refuses_other is_bad _ (unknown _ (short_word awaits path rows pending s (45 ∷ byte ∷ rest) byte rest letter false is (rw no_hyphen refl)
    (rw no_hyphen refl) (rw no_hyphen refl) a_letter
    (ne_eqb 104 letter (λ same. eqb-false letter 104 h (sym same)))))

-- what the definition says of an option
asks_long : (byte : ℕ) (rest : Text) (is_help : Bool) → bytes_eq (byte ∷ rest) (codes "help") ≡ is_help → asks_help (45 ∷ 45 ∷ byte ∷ rest) ≡ is_help
asks_long byte rest true h = rw h refl
asks_long byte rest false h = rw (h, hyphen_first (byte ∷ rest)) refl

asks_short : (byte : ℕ) (rest : Text) (letter : ℕ) (is_h : Bool) → (byte == 45) ≡ false → slice_get (chars (byte ∷ rest)) 0 ≡ Some letter
    → (letter == 104) ≡ is_h → asks_help (45 ∷ byte ∷ rest) ≡ is_h
asks_short byte rest letter is_h no_hyphen a_letter h = rw (no_hyphen, a_letter) h

option_after : (awaits : Option Valued) (s : Kinds) (rest : Text) (letter : Option ℕ) → bytes_eq (45 ∷ rest) (codes "--") ≡ false → option_in (45 ∷ rest) ≡ None
    → slice_get (chars rest) 0 ≡ letter → is_some letter ≡ true
    → AtOption awaits s (asks_help (45 ∷ rest)) (45 ∷ rest)
option_after awaits s rest None no_dashes unnamed is some = absurd (false≢true some)
option_after awaits s [] (Some letter) no_dashes unnamed is some = let bad : None ≡ Some letter = sym nothing_first ∙ is in cc
option_after awaits s (byte ∷ rest) (Some letter) no_dashes unnamed is some = elim (cases_Bool (byte == 45)) [
  | inl hyphen ↦ subst Holds (sym (eqb-true byte 45 hyphen)) (long rest) no_dashes unnamed
  | inr other ↦
      subst (λ h. AtOption awaits s h (45 ∷ byte ∷ rest)) (sym (asks_short byte rest letter (letter == 104) other is refl))
      (short_refused awaits s byte rest letter (letter == 104) other is refl)
]
  where
    Holds : ℕ → Type 0
    Holds b = bytes_eq (45 ∷ b ∷ rest) (codes "--") ≡ false → option_in (45 ∷ b ∷ rest) ≡ None → AtOption awaits s (asks_help (45 ∷ b ∷ rest)) (45 ∷ b ∷ rest)

    long : (text : Text) → bytes_eq (45 ∷ 45 ∷ text) (codes "--") ≡ false → option_in (45 ∷ 45 ∷ text) ≡ None
        → AtOption awaits s (asks_help (45 ∷ 45 ∷ text)) (45 ∷ 45 ∷ text)
    long [] unlike unnamed = absurd (true≢false unlike)
    long (b ∷ text) unlike unnamed =
        subst (λ h. AtOption awaits s h (45 ∷ 45 ∷ b ∷ text)) (sym (asks_long b text (bytes_eq (b ∷ text) (codes "help")) refl))
        (long_refused awaits s b text (bytes_eq (b ∷ text) (codes "help")) unnamed refl)

-- what the walk says of a word that the definition calls an option
pub option_word : (awaits : Option Valued) (s : Kinds) (word : Text) → bytes_eq word (codes "--") ≡ false → option_in word ≡ None → is_option word ≡ true
    → AtOption awaits s (asks_help word) word
option_word awaits s [] no_dashes unnamed dashed = absurd (false≢true dashed)
option_word awaits s (byte ∷ rest) no_dashes unnamed dashed = elim (cases_Bool (byte == 45)) [
  | inl hyphen ↦ subst Holds (sym (eqb-true byte 45 hyphen)) (λ unlike other is. option_after awaits s rest (slice_get (chars rest) 0) unlike other refl is)
      no_dashes unnamed dashed
  | inr other ↦ let bad : false ≡ true = rw other at dashed in absurd (false≢true bad)
]
  where
    Holds : ℕ → Type 0
    Holds b = bytes_eq (b ∷ rest) (codes "--") ≡ false → option_in (b ∷ rest) ≡ None → is_option (b ∷ rest) ≡ true
        → AtOption awaits s (asks_help (b ∷ rest)) (b ∷ rest)

-- ---- words that are none

abbrev IsPlain : Text → Type 0
IsPlain word = IsPathWord false None word × ((valued : Valued) → IsValueWord valued word)

path_after : (rest : Text) (letter : Option ℕ) → bytes_eq (45 ∷ rest) (codes "--") ≡ false → slice_get (chars rest) 0 ≡ letter → is_some letter ≡ false
    → IsPlain (45 ∷ rest)
path_after rest (Some letter) no_dashes is some = absurd (true≢false some)
path_after [] None no_dashes is some = (plain_word (45 ∷ []) no_dashes refl refl, λ valued. plain_value valued (45 ∷ []) no_dashes refl refl)
path_after (byte ∷ rest) None no_dashes is some = elim (cases_Bool (byte == 45)) [
  | inl hyphen ↦
      let nothing : Some 45 ≡ None = sym (hyphen_first rest) ∙ (ap (λ b. slice_get (chars (b ∷ rest)) 0) (sym (eqb-true byte 45 hyphen)) ∙ is) in
      absurd (true≢false (ap (λ (o : Option ℕ). is_some o) nothing))
  | inr other ↦ (
    blank_word (45 ∷ byte ∷ rest) byte rest no_dashes (rw other refl) (rw other refl) is,
    λ valued. blank_value valued (45 ∷ byte ∷ rest) byte rest no_dashes (rw other refl) (rw other refl) is,
  )
]

bare_word : (byte : ℕ) (rest : Text) → bytes_eq (byte ∷ rest) (codes "--") ≡ false → (byte == 45) ≡ false → IsPlain (byte ∷ rest)
bare_word byte rest no_dashes other = (
  plain_word (byte ∷ rest) no_dashes (rw other refl) (rw other refl),
  λ valued. plain_value valued (byte ∷ rest) no_dashes (rw other refl) (rw other refl),
)

-- a word that it calls none is not `--`
no_dashes : (word : Text) → is_option word ≡ false → bytes_eq word (codes "--") ≡ false
unfolding chars
no_dashes word no_option = false_from_ne_true _ (λ yes.
    let same : word ≡ codes "--" = (bytes_eq-Decides word (codes "--")).0 yes in
    let dashed : true ≡ false = subst (λ w. is_option w ≡ false) same no_option in
    absurd (true≢false dashed))

plain_by : (word : Text) → bytes_eq word (codes "--") ≡ false → is_option word ≡ false → IsPlain word
plain_by [] no_dashes no_option = (plain_word [] no_dashes refl refl, λ valued. plain_value valued [] no_dashes refl refl)
plain_by (byte ∷ rest) no_dashes no_option = elim (cases_Bool (byte == 45)) [
  | inl hyphen ↦ subst Holds (sym (eqb-true byte 45 hyphen)) (λ unlike is. path_after rest (slice_get (chars rest) 0) unlike refl is) no_dashes no_option
  | inr other ↦ bare_word byte rest no_dashes other
]
  where
    Holds : ℕ → Type 0
    Holds b = bytes_eq (b ∷ rest) (codes "--") ≡ false → is_option (b ∷ rest) ≡ false → IsPlain (b ∷ rest)

-- and what the walk says of such a word
pub path_word : (word : Text) → is_option word ≡ false → IsPlain word
path_word word no_option = plain_by word (no_dashes word no_option) no_option

-- ---- words that name an option with a value

head_before : (byte : ℕ) (rest : Text) (first : ℕ) (more : Text) → before_first (λ x. x == 61) (byte ∷ rest) ≡ first ∷ more
    → (byte ≡ first) × (before_first (λ x. x == 61) rest ≡ more)
head_before byte rest first more is = elim (cases_Bool (byte == 61)) [
  | inl equals ↦ let none : [] ≡ first ∷ more = rw equals at is in cc
  | inr other ↦
      let same : byte ∷ before_first (λ x. x == 61) rest ≡ first ∷ more = sym (before_more byte rest other) ∙ is in
      let head : byte ≡ first = cc in
      let tail : before_first (λ x. x == 61) rest ≡ more = cc in
      (head, tail)
]

-- with the value attached
abbrev pub HasValue : Valued → Text → Type 0
HasValue valued word = (bytes_eq word (codes "--") ≡ false) × (long_of word ≡ Some (name_of valued, Some (value_in word)))

has_its_value : (valued : Valued) (text : Text) → named text ≡ name_of valued → has_byte 61 text ≡ true → HasValue valued (45 ∷ 45 ∷ text)
has_its_value valued [] is value = absurd (false≢true value)
has_its_value valued (byte ∷ rest) is value = (refl, rw value (ap₂ (λ (name after : Text). Some (name, Some after)) is (sym (two_after (byte ∷ rest)))))

pub value_with : (valued : Valued) (word : Text) → named word ≡ spelled valued → has_value word ≡ true → HasValue valued word
value_with valued [] is value = absurd (false≢true value)
value_with valued (a ∷ []) is value = let bad : [] ≡ 45 ∷ name_of valued = (head_before a [] 45 (45 ∷ name_of valued) is).1 in cc
value_with valued (a ∷ b ∷ text) is value =
    let first = head_before a (b ∷ text) 45 (45 ∷ name_of valued) is in
    let second = head_before b text 45 (name_of valued) first.1 in
    let same : a ∷ b ∷ text ≡ 45 ∷ 45 ∷ text = ap₂ (λ (x y : ℕ). x ∷ y ∷ text) first.0 second.0 in
    subst (HasValue valued) (sym same) (has_its_value valued text second.1 (subst (λ w. has_value w ≡ true) same value))

-- or alone
pub value_without : (valued : Valued) (word : Text) → named word ≡ spelled valued → has_value word ≡ false → word ≡ spelled valued
value_without valued word is no_value = sym (all_before word no_value) ∙ is
