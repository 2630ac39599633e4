-- The rows that clap has for what words have given, and what it makes of a further path or value.
use Rattle.std.proofs.Common.{◌≡◌, ◌∙◌, ◌++◌, ℕ, true, false, refl, sym, ap, subst, List, [], ◌∷◌, Option, Some, None, codes, bytes_eq, append-nil, find}
use Rattle.std.proofs.Common.{is_some, option_map, inl, inr}
use Rattle.std.specs.Prelude.{if◌then◌else◌, option_and_then, slice_get, unwrap_or}
use Rattle.std.proofs.lemmas.Bool.{cases_Bool}
use Rattle.clap.specs.Faults.{use_fault}
use Rattle.clap.specs.Lexer.{without_minus}
use Rattle.clap.specs.ValueTests.{accepts}
use Rattle.clap.specs.Walk.{at_row, has_row, more_values, used, with_values, without}
use Rattle.clap.specs.Words.{Row, Text, first_of, one_of}
use Rattle.clap.specs.declared.builder.value_parser.Reading.{Reading}
use Rattle.clap.specs.declared.builder.value_parser.Reading.TheVariants.{AsWritten, WithoutMinus}
use Rattle.clap.specs.declared.error.kind.ErrorKind.TheVariants.{ArgumentConflict, ValueValidation}
use Rattle.clap.specs.declared.parser.matches.ValueSource.TheVariants.{CommandLine}
use Rattle.command_line.specs.Asked.{Given, Gives, Valued, nothing, number_in, the_slice, the_turns, with_value}
use Rattle.command_line.proofs.NumberLemmas.{accepts-number, number_plain, parser}
use Rattle.command_line.proofs.WordLemmas.{IsMistake, Pending, name_of, rule_of, settle, settles}

-- ---- rows by their ids

abbrev pub row_in : Text → List Row → Option Row
row_in id rows = find (λ r. bytes_eq r.id id) rows

has_none : (id : Text) (rows : List Row) → row_in id rows ≡ None → has_row id rows ≡ false
has_none id [] none = refl
has_none id (row ∷ rest) none = elim (cases_Bool (bytes_eq row.id id)) [
  | inl is ↦ let bad : Some row ≡ None = rw is at none in cc
  | inr other ↦ let below : row_in id rest ≡ None = rw other at none in rw other (has_none id rest below)
]

has_some : (id : Text) (rows : List Row) (row : Row) → row_in id rows ≡ Some row → has_row id rows ≡ true
has_some id [] row some = let bad : None ≡ Some row = some in cc
has_some id (first ∷ rest) row some = elim (cases_Bool (bytes_eq first.id id)) [
  | inl is ↦ rw is refl
  | inr other ↦ let below : row_in id rest ≡ Some row = rw other at some in rw other (has_some id rest row below)
]

-- a change of a row that is not there
at_none : (id : Text) (change : Row → List Row) (missing rows : List Row) → row_in id rows ≡ None → at_row id change missing rows ≡ rows ++ missing
at_none id change missing [] none = refl
at_none id change missing (row ∷ rest) none = elim (cases_Bool (bytes_eq row.id id)) [
  | inl is ↦ let bad : Some row ≡ None = rw is at none in cc
  | inr other ↦ let below : row_in id rest ≡ None = rw other at none in rw other (ap (λ l. row ∷ l) (at_none id change missing rest below))
]

-- a row that is put behind the others is the one of its id, and those of other ids stay
added : (id : Text) (rows : List Row) (new : Row) → row_in id rows ≡ None → bytes_eq new.id id ≡ true → row_in id (rows ++ new ∷ []) ≡ Some new
added id [] new none is = rw is refl
added id (row ∷ rest) new none is = elim (cases_Bool (bytes_eq row.id id)) [
  | inl same ↦ let bad : Some row ≡ None = rw same at none in cc
  | inr other ↦ let below : row_in id rest ≡ None = rw other at none in rw other (added id rest new below is)
]

stays : (id : Text) (rows : List Row) (new : Row) → bytes_eq new.id id ≡ false → row_in id (rows ++ new ∷ []) ≡ row_in id rows
stays id [] new unlike = rw unlike refl
stays id (row ∷ rest) new unlike = elim (cases_Bool (bytes_eq row.id id)) [
  | inl same ↦ rw same refl
  | inr other ↦ rw other (stays id rest new unlike)
]

-- ---- what was given

abbrev row_of : Text → Reading → Text → Row
row_of id reading text = record { id = id; values = text ∷ []; count = None; source = Some CommandLine; reading = reading }

abbrev path_row : Text → Row
path_row = row_of (codes "classes") AsWritten

abbrev turns_row : Text → Row
turns_row = row_of (codes "turns") WithoutMinus

abbrev slice_row : Text → Row
slice_row = row_of (codes "slice") AsWritten

-- the text of a row is the number
abbrev IsRead : Option ℕ → Option Row → Type 0
IsRead None found = found ≡ None
IsRead (Some number) found = (text : Text) × (found ≡ Some (turns_row text)) × (number_in text ≡ Some number)

-- each thing that was given has its row, and nothing else has one
abbrev pub AreRows : Given → List Row → Type 0
AreRows given rows =
    (row_in (codes "classes") rows ≡ option_map path_row given.path)
    × IsRead given.turns (row_in (codes "turns") rows)
    × (row_in (codes "slice") rows ≡ option_map slice_row given.slice)

pub no_rows : AreRows nothing []
no_rows = (refl, refl, refl)

-- what is pending is no mistake, and comes to these rows
abbrev pub HoldsWell : Given → List Row → Pending → Type 0
HoldsWell given rows pending = (settle rows pending ≡ []) × AreRows given (settles rows pending)

-- a first use
used_first : (id : Text) (reading : Reading) (text : Text) (rows : List Row) → row_in id rows ≡ None
    → with_values id reading CommandLine (text ∷ []) (without id rows) ≡ rows ++ row_of id reading text ∷ []
used_first id reading text rows none =
    let kept : without id rows ≡ rows = at_none id (λ _. []) [] rows none ∙ append-nil rows in
    ap (with_values id reading CommandLine (text ∷ [])) kept ∙ at_none id (more_values CommandLine (text ∷ [])) (row_of id reading text ∷ []) rows none

path_added : (given : Given) (rows : List Row) (path : Text) → given.path ≡ None → AreRows given rows
    → AreRows (record given { path = Some path }) (rows ++ path_row path ∷ [])
path_added given rows path first are = (
  added (codes "classes") rows (path_row path) (are.0 ∙ ap (option_map path_row) first) refl,
  subst (IsRead given.turns) (sym (stays (codes "turns") rows (path_row path) refl)) are.1,
  stays (codes "slice") rows (path_row path) refl ∙ are.2,
)

turns_added : (given : Given) (rows : List Row) (text : Text) (number : ℕ) → row_in (codes "turns") rows ≡ None → number_in text ≡ Some number
    → AreRows given rows
    → AreRows (record given { turns = Some number }) (rows ++ turns_row text ∷ [])
turns_added given rows text number none is are = (
  stays (codes "classes") rows (turns_row text) refl ∙ are.0,
  (text, added (codes "turns") rows (turns_row text) none refl, is),
  stays (codes "slice") rows (turns_row text) refl ∙ are.2,
)

slice_added : (given : Given) (rows : List Row) (name : Text) → given.slice ≡ None → AreRows given rows
    → AreRows (record given { slice = Some name }) (rows ++ slice_row name ∷ [])
slice_added given rows name first are = (
  stays (codes "classes") rows (slice_row name) refl ∙ are.0,
  subst (IsRead given.turns) (sym (stays (codes "turns") rows (slice_row name) refl)) are.1,
  added (codes "slice") rows (slice_row name) (are.2 ∙ ap (option_map slice_row) first) refl,
)

-- a first path
pub path_held : (given : Given) (rows : List Row) (path : Text) → given.path ≡ None → AreRows given rows
    → HoldsWell (record given { path = Some path }) rows (Some (codes "classes", path ∷ []))
path_held given rows path first are =
    let none : row_in (codes "classes") rows ≡ None = are.0 ∙ ap (option_map path_row) first in (
      rw (has_none (codes "classes") rows none) refl,
      subst (AreRows (record given { path = Some path })) (sym (used_first (codes "classes") AsWritten path rows none)) (path_added given rows path first are),
    )

-- ---- a value of an option

-- what clap makes of a value: a mistake, or what is given then
abbrev pub Takes : Valued → Text → Given → List Row → Option Given → Type 0
Takes valued text given rows None = IsMistake (use_fault false (rule_of valued) (text ∷ []) rows)
Takes valued text given rows (Some more) =
    (use_fault false (rule_of valued) (text ∷ []) rows ≡ []) × (more.path ≡ given.path) × AreRows more (used (rule_of valued) (text ∷ []) rows)

-- a second use
used_twice : (valued : Valued) (text : Text) (rows : List Row) (row : Row) → row_in (name_of valued) rows ≡ Some row
    → IsMistake (use_fault false (rule_of valued) (text ∷ []) rows)
used_twice the_turns text rows row some = (ArgumentConflict, rw (has_some (codes "turns") rows row some) refl, refl)
used_twice the_slice text rows row some = (ArgumentConflict, rw (has_some (codes "slice") rows row some) refl, refl)

accepted : (text : Text) (number : Option ℕ) → number_in text ≡ number → accepts false parser text ≡ is_some number
accepted text number is = accepts-number text ∙ ap (λ (o : Option ℕ). is_some o) is

turns_taken : (given : Given) (rows : List Row) (text : Text) (before number : Option ℕ) → given.turns ≡ before → number_in text ≡ number → AreRows given rows
    → Takes the_turns text given rows (if is_some before then None else option_map (λ number. record given { turns = Some number }) number)
turns_taken given rows text (Some n) number was is are =
    let found : IsRead (Some n) (row_in (codes "turns") rows) = subst (λ o. IsRead o (row_in (codes "turns") rows)) was are.1 in
    used_twice the_turns text rows (turns_row found.0) found.1
turns_taken given rows text None None was is are =
    let none : row_in (codes "turns") rows ≡ None = subst (λ o. IsRead o (row_in (codes "turns") rows)) was are.1 in
    (ValueValidation, rw (has_none (codes "turns") rows none, accepted text None is) refl, refl)
turns_taken given rows text None (Some number) was is are =
    let none : row_in (codes "turns") rows ≡ None = subst (λ o. IsRead o (row_in (codes "turns") rows)) was are.1 in (
      rw (has_none (codes "turns") rows none, accepted text (Some number) is) refl,
      refl,
      subst (AreRows (record given { turns = Some number })) (sym (used_first (codes "turns") WithoutMinus text rows none))
          (turns_added given rows text number none is are),
    )

slice_taken : (given : Given) (rows : List Row) (name : Text) (before : Option Text) → given.slice ≡ before → AreRows given rows
    → Takes the_slice name given rows (if is_some before then None else Some (record given { slice = Some name }))
slice_taken given rows name (Some text) was are = used_twice the_slice name rows (slice_row text) (are.2 ∙ ap (option_map slice_row) was)
slice_taken given rows name None was are =
    let none : row_in (codes "slice") rows ≡ None = are.2 ∙ ap (option_map slice_row) was in (
      rw (has_none (codes "slice") rows none) refl,
      refl,
      subst (AreRows (record given { slice = Some name })) (sym (used_first (codes "slice") AsWritten name rows none)) (slice_added given rows name was are),
    )

pub value_taken : (valued : Valued) (text : Text) (given : Given) (rows : List Row) → AreRows given rows
    → Takes valued text given rows (with_value valued text given)
value_taken the_turns text given rows are = turns_taken given rows text given.turns (number_in text) refl refl are
value_taken the_slice text given rows are = slice_taken given rows text given.slice refl are

-- ---- what is found at the end

text_in : (found : Option Row) (text : Option Text) (id : Text) (reading : Reading) → found ≡ option_map (row_of id reading) text
    → option_and_then (λ r. slice_get r.values 0) found ≡ text
text_in found None id reading is = rw is refl
text_in found (Some text) id reading is = rw is refl

pub path_found : (given : Given) (rows : List Row) → AreRows given rows → first_of (codes "classes") rows ≡ given.path
path_found given rows are = text_in (row_in (codes "classes") rows) given.path (codes "classes") AsWritten are.0

pub slice_found : (given : Given) (rows : List Row) → AreRows given rows → first_of (codes "slice") rows ≡ given.slice
slice_found given rows are = text_in (row_in (codes "slice") rows) given.slice (codes "slice") AsWritten are.2

given_turns : (text : Text) (number : ℕ) → number_in text ≡ Some number → Gives (Some (without_minus text)) number
given_turns text number is = rw (number_plain text number is) is

turns_read : (turns : Option ℕ) (rows : List Row) → IsRead turns (row_in (codes "turns") rows) → Gives (one_of (codes "turns") rows) (unwrap_or turns 10000)
turns_read None rows is = rw is refl
turns_read (Some number) rows is = rw is.1 (given_turns is.0 number is.2)

pub turns_found : (given : Given) (rows : List Row) → AreRows given rows → Gives (one_of (codes "turns") rows) (unwrap_or given.turns 10000)
turns_found given rows are = turns_read given.turns rows are.1
