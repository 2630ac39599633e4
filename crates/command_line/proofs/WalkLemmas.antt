-- What clap makes of all words of metad's command line, and that it is what they ask for.
use Rattle.std.proofs.Common.{◌≡◌, ◌∙◌, ◌⊎◌, ◌||◌, ℕ, Bool, true, false, refl, sym, ap, List, [], ◌∷◌, Option, Some, None, inl, inr, codes, bytes_eq, subst}
use Rattle.std.specs.Prelude.{if◌then◌else◌, is_some, fold, unwrap_or, Result, Ok, Err, IsErrAnd}
use Rattle.std.proofs.lemmas.Bool.{cases_Bool}
use Rattle.std.proofs.lemmas.Slice.Eq.{bytes_eq-Decides}
use Rattle.clap.specs.Faults.{check_fault, default_fault, defaults_fault, entered_fault, given_default_fault, settle_fault, use_fault, walk_fault, turn_fault}
use Rattle.clap.specs.Kinds.{or_else}
use Rattle.clap.specs.Simple.{built, entered}
use Rattle.clap.specs.Walk.{Rule, Walk, default_rows, finished, has_row, is_empty, reading_by, settled, used, walked, with_default}
use Rattle.clap.specs.Words.{Text, Row, fault_of, matches_of, first_of, one_of, IsAmong, Kinds, kind_of}
use Rattle.clap.specs.declared.error.Error.{Error}
use Rattle.clap.specs.declared.error.kind.ErrorKind.{ErrorKind}
use Rattle.clap.specs.declared.error.kind.ErrorKind.TheVariants.{DisplayHelp, InvalidValue, OutOfMemory}
use Rattle.command_line.specs.Asked.{Asked, Given, Valued, the_turns, the_slice, nothing, run, help, mistake, asked, asked_behind, asked_by_option}
use Rattle.command_line.specs.Asked.{asked_by_paths, asked_with, asks_help, has_value, is_option, option_in, run_with, value_in, with_path, with_value, Gives}
use Rattle.command_line.specs.Asked.{ReadsWords, Says}
use Rattle.command_line.specs.Program.{metad}
use Rattle.command_line.specs.declared.options.Options.{Options}
use Rattle.command_line.proofs.RowLemmas.{AreRows, HoldsWell, Takes, no_rows, path_found, path_held, slice_found, turns_found, value_taken}
use Rattle.command_line.proofs.WordLemmas.{shape, rules, rule_of, name_of, spelled, opened, Pending, held, at, settle, settles, IsTurn, GoesTo, IsPathWord}
use Rattle.command_line.proofs.WordLemmas.{path_behind_dashes, dashes, value_attached, value_awaited, IsMistake, Refuses, unknown, option_named, option_word}
use Rattle.command_line.proofs.WordLemmas.{path_word, value_with, value_without}

-- ---- the whole walk

-- what clap says of words: what it refuses them by, and the rows that it finds
abbrev Told : Asked → Kinds → List Row → Type 0
Told (run path number slice) kinds rows =
    (kinds ≡ []) × (first_of (codes "classes") rows ≡ path) × Gives (one_of (codes "turns") rows) number × (first_of (codes "slice") rows ≡ slice)
Told help kinds rows = kinds ≡ DisplayHelp ∷ []
Told mistake kinds rows = IsMistake kinds

-- what the walk's end comes to
abbrev judged : Kinds → Walk → Kinds
judged kinds end = or_else kinds
    (or_else (entered_fault (built metad) end.stopped)
    (or_else (settle_fault rules shape.args_override_self end.held)
    (or_else (defaults_fault (settled rules end.held).rows rules)
    (check_fault shape (finished rules end.held) (is_some (entered (built metad) end.stopped))))))

abbrev walk_end : Walk → List Text → Walk
walk_end = fold (walked rules [])

-- what is said of these words, from here on
abbrev pub Walks : Asked → Walk → List Text → Type 0
Walks wanted from words = Told wanted (judged (walk_fault shape [] from words) (walk_end from words)) (finished rules (walk_end from words).held)

-- a word that is taken
goes_on : (wanted : Asked) (from to : Walk) (word : Text) (rest : List Text) → IsTurn from word [] → GoesTo from word to → Walks wanted to rest
    → Walks wanted from (word ∷ rest)
unfolding walk_fault
goes_on wanted from to word rest turn goes walks =
    let step : walk_fault shape [] from (word ∷ rest) ≡ walk_fault shape [] (walked rules [] from word) rest = rw turn refl in
    let next : Walks wanted (walked rules [] from word) rest = subst (λ w. Walks wanted w rest) (sym goes) walks in
    let end = walk_end from (word ∷ rest) in
    subst (λ kinds. Told wanted (judged kinds end) (finished rules end.held)) (sym step) next

-- a word that is refused
stops : (from : Walk) (word : Text) (rest : List Text) → IsMistake (turn_fault shape [] from word) → Walks mistake from (word ∷ rest)
unfolding walk_fault
stops from word rest is = (is.0, rw is.1 refl, is.2)

shows_help : (from : Walk) (word : Text) (rest : List Text) → turn_fault shape [] from word ≡ DisplayHelp ∷ [] → Walks help from (word ∷ rest)
unfolding walk_fault
shows_help from word rest is = rw is refl

along : (kinds other : Kinds) → kinds ≡ other → IsMistake other → IsMistake kinds
along kinds other is bad = (bad.0, is ∙ bad.1, bad.2)

-- ---- where what is pending is a mistake

refused_badly : (is_help : Bool) (kinds : Kinds) → Refuses true is_help kinds → IsMistake kinds
refused_badly true kinds is = is
refused_badly false kinds is = is

module _ (path : Option Text) (rows : List Row) (pending : Pending) (bad : IsMistake (settle rows pending)) where
  abbrev behind : Bool → Option Valued → Walk
  behind t awaits = at t awaits path rows pending

  ends_badly : (t : Bool) (awaits : Option Valued) → Walks mistake (behind t awaits) []
  unfolding walk_fault
  ends_badly t awaits = (bad.0, rw bad.1 refl, bad.2)

  -- each path is refused,
  path_refused : (t : Bool) (awaits : Option Valued) (word : Text) → IsPathWord t awaits word → IsMistake (turn_fault shape [] (behind t awaits) word)
  path_refused t awaits word is = go path
    where
      go : (path : Option Text) → IsMistake (turn_fault shape [] (at t awaits path rows pending) word)
      go None = along _ _ (is rows pending).0 bad
      go (Some path) = unknown _ ((is rows pending).2 path)

  bad_paths : (awaits : Option Valued) (words : List Text) → Walks mistake (behind true awaits) words
  bad_paths awaits [] = ends_badly true awaits
  bad_paths awaits (word ∷ rest) = stops (behind true awaits) word rest (path_refused true awaits word (path_behind_dashes awaits word))

  bad_dashes : (awaits : Option Valued) (word : Text) (rest : List Text) → bytes_eq word (codes "--") ≡ true
      → Walks mistake (behind false awaits) (word ∷ rest)
  bad_dashes awaits word rest is =
      let same : word ≡ codes "--" = (bytes_eq-Decides word (codes "--")).0 is in
      let turn = dashes awaits path rows pending in
      subst (λ w. Walks mistake (behind false awaits) (w ∷ rest)) (sym same)
      (goes_on mistake (behind false awaits) (behind true awaits) (codes "--") rest turn.0 turn.1 (bad_paths awaits rest))

  bad_value : (valued : Valued) (awaits : Option Valued) (word : Text) (has : Bool) → option_in word ≡ Some valued → has_value word ≡ has
      → IsMistake (turn_fault shape [] (behind false awaits) word)
  bad_value valued awaits word true is value =
      let attached = value_with valued word (option_named word valued is) value in
      let wrong = use_fault false (rule_of valued) (value_in word ∷ []) (settles rows pending) in
      along _ _ ((value_attached valued awaits path rows pending word (value_in word) attached.0 attached.1).0 ∙ ap (λ k. or_else k wrong) bad.1)
      (bad.0, refl, bad.2)
  bad_value valued awaits word false is no_value =
      subst (λ w. IsMistake (turn_fault shape [] (behind false awaits) w)) (sym (value_without valued word (option_named word valued is) no_value))
      (along _ _ (value_awaited valued awaits path rows pending).0 bad)

  -- and so is each option
  bad_option : (awaits : Option Valued) (word : Text) (option : Option Valued) → bytes_eq word (codes "--") ≡ false → is_option word ≡ true
      → option_in word ≡ option → IsMistake (turn_fault shape [] (behind false awaits) word)
  bad_option awaits word None no_dashes dashed is =
      refused_badly (asks_help word) _ (option_word awaits (settle rows pending) word no_dashes is dashed true path rows pending refl bad)
  bad_option awaits word (Some valued) no_dashes dashed is = bad_value valued awaits word (has_value word) is refl

  bad_dashed : (awaits : Option Valued) (word : Text) (rest : List Text) → is_option word ≡ true → Walks mistake (behind false awaits) (word ∷ rest)
  bad_dashed awaits word rest dashed = elim (cases_Bool (bytes_eq word (codes "--"))) [
    | inl is_dashes ↦ bad_dashes awaits word rest is_dashes
    | inr no_dashes ↦ stops (behind false awaits) word rest (bad_option awaits word (option_in word) no_dashes dashed refl)
  ]

  bad_words : (words : List Text) → Walks mistake (behind false None) words
  bad_words [] = ends_badly false None
  bad_words (word ∷ rest) = elim (cases_Bool (is_option word)) [
    | inl dashed ↦ bad_dashed None word rest dashed
    | inr no_option ↦ stops (behind false None) word rest (path_refused false None word (path_word word no_option).0)
  ]

-- a value is missing
missing : (valued : Valued) (rows : List Row) → IsMistake (settle rows (opened valued))
missing the_turns rows = (InvalidValue, refl, refl)
missing the_slice rows = (InvalidValue, refl, refl)

-- ---- where it is well

-- no argument has a value where none was given
abbrev NoDefaults : List Rule → Type 0
NoDefaults [] = Unit {0}
NoDefaults (a ∷ rest) = (a.defaults ≡ []) × NoDefaults rest

bare : NoDefaults rules
bare = (refl, (refl, (refl, (refl, tt))))

no_default : (rows : List Row) (a : Rule) → a.defaults ≡ [] → (default_fault rows a ≡ []) × (with_default rows a ≡ rows)
no_default rows a none = go (has_row a.id rows)
  where
    go : (b : Bool) → ((if b || is_empty a.defaults then [] else given_default_fault a a.defaults) ≡ [])
        × ((if b then rows else default_rows a.id (reading_by a) a.defaults rows) ≡ rows)
    go true = (refl, refl)
    go false = rw none (refl, refl)

no_defaults : (rows : List Row) (among : List Rule) → NoDefaults among → (defaults_fault rows among ≡ []) × (fold with_default rows among ≡ rows)
unfolding defaults_fault
no_defaults rows [] none = (refl, refl)
no_defaults rows (a ∷ rest) none =
    let first = no_default rows a none.0 in
    let below = no_defaults rows rest none.1 in (
      ap (λ kinds. or_else kinds (defaults_fault (with_default rows a) rest)) first.0 ∙ (ap (λ r. defaults_fault r rest) first.1 ∙ below.0),
      ap (λ r. fold with_default r rest) first.1 ∙ below.1,
    )

rows_at_end : (rows : List Row) (pending : Pending) → finished rules (held rows pending) ≡ settles rows pending
rows_at_end rows pending = (no_defaults (settles rows pending) rules bare).1

end_judged : (t : Bool) (path : Option Text) (rows : List Row) (pending : Pending) → settle rows pending ≡ [] → judged [] (at t None path rows pending) ≡ []
end_judged t path rows pending is =
    let none : defaults_fault (settles rows pending) rules ≡ [] = (no_defaults (settles rows pending) rules bare).0 in
    rw (is, none) refl

-- what is said of these words where nothing, or the value of an option, is awaited
abbrev WalksWords : Option Valued → List Text → Type 0
WalksWords None words = (given : Given) (rows : List Row) (pending : Pending) → HoldsWell given rows pending
    → Walks (asked_behind None given words) (at false None given.path rows pending) words
WalksWords (Some valued) words = (given : Given) (rows : List Row) → AreRows given rows
    → Walks (asked_behind (Some valued) given words) (at false (Some valued) given.path rows (opened valued)) words

module _ (given : Given) (rows : List Row) (pending : Pending) (well : HoldsWell given rows pending) where
  abbrev here : Bool → Walk
  here t = at t None given.path rows pending

  ends_well : (t : Bool) → Walks (run_with given) (here t) []
  unfolding walk_fault
  ends_well t =
      let same = rows_at_end rows pending in (
        end_judged t given.path rows pending well.0,
        ap (first_of (codes "classes")) same ∙ path_found given (settles rows pending) well.1,
        subst (λ found. Gives (one_of (codes "turns") found) (unwrap_or given.turns 10000)) (sym same) (turns_found given (settles rows pending) well.1),
        ap (first_of (codes "slice")) same ∙ slice_found given (settles rows pending) well.1,
      )

  -- a word that is a path, where there is none yet or one already
  one_more : (t : Bool) (word : Text) (rest : List Text) (next : Given → Asked) → IsPathWord t None word
      → ((more : Given) (rows : List Row) (pending : Pending) → HoldsWell more rows pending → Walks (next more) (at t None more.path rows pending) rest)
      → Walks (asked_with (with_path word given) next) (here t) (word ∷ rest)
  one_more t word rest next is walks = go given.path refl
    where
      go : (path : Option Text) → given.path ≡ path → Walks (asked_with (if is_some path then None else Some (record given { path = Some word })) next)
          (at t None path rows pending) (word ∷ rest)
      go None first =
          let turn = is rows pending in
          let to = settles rows pending in
          goes_on (next (record given { path = Some word })) (at t None None rows pending)
          (at t None (Some word) to (Some (codes "classes", word ∷ []))) word rest (turn.0 ∙ well.0) turn.1
          (walks (record given { path = Some word }) to (Some (codes "classes", word ∷ [])) (path_held given to word first well.1))
      go (Some path) was = stops (at t None (Some path) rows pending) word rest (unknown _ ((is rows pending).2 path))

walks_paths : (given : Given) (rows : List Row) (pending : Pending) (words : List Text) → HoldsWell given rows pending
    → Walks (asked_by_paths given words) (at true None given.path rows pending) words
walks_paths given rows pending [] well = ends_well given rows pending well true
walks_paths given rows pending (word ∷ rest) well =
    one_more given rows pending well true word rest (λ more. asked_by_paths more rest) (path_behind_dashes None word)
    (λ (more : Given) (to : List Row) (new : Pending) well. walks_paths more to new rest well)

walks_option : (from : Walk) (word : Text) (rest : List Text) (is_help : Bool) → Refuses false is_help (turn_fault shape [] from word)
    → Walks (if is_help then help else mistake) from (word ∷ rest)
walks_option from word rest true refused = shows_help from word rest refused
walks_option from word rest false refused = stops from word rest refused

-- what is pending behind a value that was awaited
used_badly : (valued : Valued) (rows : List Row) (text : Text) → IsMistake (use_fault false (rule_of valued) (text ∷ []) rows)
    → IsMistake (settle rows (Some (name_of valued, text ∷ [])))
used_badly the_turns rows text bad = bad
used_badly the_slice rows text bad = bad

used_well : (valued : Valued) (rows : List Row) (text : Text) (more : Given) → use_fault false (rule_of valued) (text ∷ []) rows ≡ []
    → AreRows more (used (rule_of valued) (text ∷ []) rows) → HoldsWell more rows (Some (name_of valued, text ∷ []))
used_well the_turns rows text more none are = (none, are)
used_well the_slice rows text more none are = (none, are)

-- ---- the definition's cases

module _ (rest : List Text) (walks : WalksWords None rest) where
  -- the words behind one that is no path
  abbrev on : Given → Asked
  on more = asked_behind None more rest

  module _ (given : Given) (rows : List Row) (pending : Pending) (well : HoldsWell given rows pending) where
    abbrev from : Walk
    from = at false None given.path rows pending

    walks_dashes : Walks (asked_by_paths given rest) from (codes "--" ∷ rest)
    walks_dashes =
        let turn = dashes None given.path rows pending in
        goes_on _ from (at true None given.path rows pending) (codes "--") rest turn.0 turn.1 (walks_paths given rows pending rest well)

    -- a value that stands in the word
    walks_attached : (valued : Valued) (word : Text) (more : Option Given) → option_in word ≡ Some valued → has_value word ≡ true
        → Takes valued (value_in word) given (settles rows pending) more → Walks (asked_with more on) from (word ∷ rest)
    walks_attached valued word more is value taken = go more taken
      where
        wrong : Kinds
        wrong = use_fault false (rule_of valued) (value_in word ∷ []) (settles rows pending)

        to : Walk
        to = at false None given.path (used (rule_of valued) (value_in word ∷ []) (settles rows pending)) None

        turn : IsTurn from word wrong × GoesTo from word to
        turn =
            let attached = value_with valued word (option_named word valued is) value in
            let taken = value_attached valued None given.path rows pending word (value_in word) attached.0 attached.1 in
            (taken.0 ∙ ap (λ k. or_else k wrong) well.0, taken.1)

        go : (more : Option Given) → Takes valued (value_in word) given (settles rows pending) more → Walks (asked_with more on) from (word ∷ rest)
        go None taken = stops from word rest (along _ wrong turn.0 taken)
        go (Some more) taken =
            let new = used (rule_of valued) (value_in word ∷ []) (settles rows pending) in
            goes_on _ from to word rest (turn.0 ∙ taken.0) turn.1
            (subst (λ path. Walks (on more) (at false None path new None) rest) taken.1 (walks more new None (refl, taken.2)))

    module _ (awaits : (valued : Valued) → WalksWords (Some valued) rest) where
      -- a word that names an option with a value
      walks_valued : (valued : Valued) (word : Text) (has : Bool) → option_in word ≡ Some valued → has_value word ≡ has
          → Walks (if has then asked_with (with_value valued (value_in word) given) on else asked_behind (Some valued) given rest) from (word ∷ rest)
      walks_valued valued word true is value =
          walks_attached valued word (with_value valued (value_in word) given) is value (value_taken valued (value_in word) given (settles rows pending) well.1)
      walks_valued valued word false is no_value =
          let turn = value_awaited valued None given.path rows pending in
          let next = asked_behind (Some valued) given rest in
          subst (λ w. Walks next from (w ∷ rest)) (sym (value_without valued word (option_named word valued is) no_value))
          (goes_on next from (at false (Some valued) given.path (settles rows pending) (opened valued)) (spelled valued) rest (turn.0 ∙ well.0) turn.1
          (awaits valued given (settles rows pending) well.1))

      -- any option
      walks_dashed : (word : Text) (option : Option Valued) → bytes_eq word (codes "--") ≡ false → is_option word ≡ true → option_in word ≡ option
          → Walks (asked_by_option option word given (λ awaited more. asked_behind awaited more rest)) from (word ∷ rest)
      walks_dashed word None no_dashes dashed is =
          walks_option from word rest (asks_help word)
          (option_word None (settle rows pending) word no_dashes is dashed false given.path rows pending refl well.0)
      walks_dashed word (Some valued) no_dashes dashed is = walks_valued valued word (has_value word) is refl

      -- any word, where nothing is awaited
      walks_word : (word : Text) → Walks (asked_behind None given (word ∷ rest)) from (word ∷ rest)
      walks_word word = elim (cases_Bool (bytes_eq word (codes "--"))) [
        | inl is_dashes ↦
            let same : word ≡ codes "--" = (bytes_eq-Decides word (codes "--")).0 is_dashes in
            subst (λ w. Holds (asked_behind None given (w ∷ rest)) w) (sym same) walks_dashes
        | inr no_dashes ↦ elim (cases_Bool (is_option word)) [
          | inl dashed ↦
              let means : asked_behind None given (word ∷ rest) ≡ asked_by_option (option_in word) word given (λ awaited more. asked_behind awaited more rest) =
              rw (no_dashes, dashed) refl in
              subst (λ a. Holds a word) (sym means) (walks_dashed word (option_in word) no_dashes dashed refl)
          | inr no_option ↦
              let means : asked_behind None given (word ∷ rest) ≡ asked_with (with_path word given) on = rw (no_dashes, no_option) refl in
              subst (λ a. Holds a word) (sym means) (one_more given rows pending well false word rest on (path_word word no_option).0 walks)
        ]
      ]
        where
          Holds : Asked → Text → Type 0
          Holds a w = Walks a from (w ∷ rest)

  -- a value that is awaited
  module _ (valued : Valued) (given : Given) (rows : List Row) where
    abbrev waits : Walk
    waits = at false (Some valued) given.path rows (opened valued)

    walks_value : (more : Option Given) (word : Text) → is_option word ≡ false → Takes valued word given rows more
        → Walks (asked_with more on) waits (word ∷ rest)
    walks_value None word no_option taken =
        let turn = (path_word word no_option).1 valued given.path rows in
        let new : Pending = Some (name_of valued, word ∷ []) in
        goes_on mistake _ (at false None given.path rows new) word rest turn.0 turn.1 (bad_words given.path rows new (used_badly valued rows word taken) rest)
    walks_value (Some more) word no_option taken =
        let turn = (path_word word no_option).1 valued given.path rows in
        let new : Pending = Some (name_of valued, word ∷ []) in
        goes_on _ waits (at false None given.path rows new) word rest turn.0 turn.1
        (subst (λ path. Walks (on more) (at false None path rows new) rest) taken.1 (walks more rows new (used_well valued rows word more taken.0 taken.2)))

    walks_awaited : (word : Text) → AreRows given rows → Walks (asked_behind (Some valued) given (word ∷ rest)) waits (word ∷ rest)
    walks_awaited word are = elim (cases_Bool (is_option word)) [
      | inl dashed ↦
          let means : asked_behind (Some valued) given (word ∷ rest) ≡ mistake = rw dashed refl in
          subst Holds (sym means) (bad_dashed given.path rows (opened valued) (missing valued rows) (Some valued) word rest dashed)
      | inr no_option ↦
          let means : asked_behind (Some valued) given (word ∷ rest) ≡ asked_with (with_value valued word given) on = rw no_option refl in
          subst Holds (sym means) (walks_value (with_value valued word given) word no_option (value_taken valued word given rows are))
    ]
      where
        Holds : Asked → Type 0
        Holds a = Walks a waits (word ∷ rest)

walks_words : (awaits : Option Valued) (words : List Text) → WalksWords awaits words
walks_words (Some valued) [] = λ given rows are. ends_badly given.path rows (opened valued) (missing valued rows) false (Some valued)
walks_words (Some valued) (word ∷ rest) = λ given rows are. walks_awaited rest (walks_words None rest) valued given rows word are
walks_words None [] = λ given rows pending well. ends_well given rows pending well false
walks_words None (word ∷ rest) = λ given rows pending well. walks_word rest (walks_words None rest) given rows pending well
    (λ valued. walks_words (Some valued) rest) word

-- ---- the whole command line

pub asked_told : (words : List Text) → Told (asked words) (fault_of metad words) (matches_of metad words)
asked_told words = walks_words None words nothing [] None (refl, no_rows)

runs : (wanted : Asked) (kinds : Kinds) (rows : List Row) → Told wanted kinds rows → kinds ≡ []
    → (number : ℕ) × (wanted ≡ run (first_of (codes "classes") rows) number (first_of (codes "slice") rows)) × Gives (one_of (codes "turns") rows) number
runs (run path number slice) kinds rows (none, path_is, gives, slice_is) no_kinds = (number, rw (path_is, slice_is) refl, gives)
runs help kinds rows t none = let bad : DisplayHelp ∷ [] ≡ [] = sym t ∙ none in cc
runs mistake kinds rows t none = let bad : t.0 ∷ [] ≡ [] = sym t.1 ∙ none in cc

-- where clap takes the words, a run is asked for with the path, the turns and the name that it finds
pub run_asked : (words : List Text) → fault_of metad words ≡ []
    → (number : ℕ) × (asked words ≡ run (first_of (codes "classes") (matches_of metad words)) number (first_of (codes "slice") (matches_of metad words)))
    × Gives (one_of (codes "turns") (matches_of metad words)) number
run_asked words none = runs (asked words) (fault_of metad words) (matches_of metad words) (asked_told words) none

pub same_run : (path other : Option Text) (number turns : ℕ) (slice name : Option Text) → other ≡ path → number ≡ turns → name ≡ slice
    → run path number slice ≡ run other turns name
same_run path other number turns slice name path_is turns_is slice_is = rw (path_is, turns_is, slice_is) refl

says : (wanted : Asked) (kinds : Kinds) (rows : List Row) (kind : ErrorKind) → Told wanted kinds rows → IsAmong kind kinds → Says wanted kind
says (run path number slice) kinds rows kind t among = absurd (subst (IsAmong kind) t.0 among)
says help kinds rows kind t among = elim (subst (IsAmong kind) t among) [ inl is ↦ subst (Says help) (sym is) refl | inr none ↦ absurd none ]
says mistake kinds rows kind t among = elim (subst (IsAmong kind) t.1 among) [ inl is ↦ subst (Says mistake) (sym is) t.2 | inr none ↦ absurd none ]

-- where clap refuses them, the kind says what is asked for
pub kind_says : (words : List Text) (kind : ErrorKind) → (kind ≡ OutOfMemory) ⊎ IsAmong kind (fault_of metad words) → Says (asked words) kind
kind_says words kind (inl memory) = subst (Says (asked words)) (sym memory) tt
kind_says words kind (inr among) = says (asked words) (fault_of metad words) (matches_of metad words) kind (asked_told words) among

-- the kind of the error that is passed on says it too
pub reads_refusal : (wanted : Asked) (result : Result Options Error) (error : Error) → IsErrAnd result (λ e. e ≡ error) → Says wanted (kind_of error)
    → ReadsWords wanted result
reads_refusal wanted (Ok options) error same says = absurd same
reads_refusal wanted (Err e) error same says = subst (λ (x : Error). Says wanted (kind_of x)) (sym same) says
