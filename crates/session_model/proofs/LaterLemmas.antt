-- What becomes of connections while an agenda is done: some are broken, and those that are made have
-- greater numbers.
use Rattle.std.proofs.Common.{◌≡◌, ◌<◌, ◌≤◌, ◌+◌, ◌&&◌, ℕ, Bool, true, not, List, [], ◌∷◌, ◌++◌, ◌==◌, All, Option, Some, None, filter, map, refl}
use Rattle.std.proofs.Common.{sym, ap, ap₂, subst, ◌∙◌, append_assoc, arith}
use Rattle.std.proofs.lemmas.List.{append-nil, map-append}
use Rattle.std.proofs.lemmas.List.Elements.{filter-append, All-append, All-cons, All-filter, All-nil, All-weaker}
use Rattle.session_model.proofs.Common.{Connection, NewConnection, matches, touches, Rows, has_number, numbered, Operation, step, with_operation, Execution}
use Rattle.session_model.proofs.Common.{Item, run, Settings, State, Nothing, Writing, with_writing}
use Rattle.connection_list.specs.declared.pattern.Pattern.{Pattern}
use Rattle.connection_list.specs.declared.pattern.Receiver.{Receiver}
use Rattle.connection_list.specs.Ends.{allows, allows_receiver}
use Rattle.connection_list.proofs.ForCallers.{IsUnseen, filter-changed, stepped-same, stepped_row}
use Rattle.session_model.specs.declared.operation.Operation.TheVariants as d
use Rattle.session_model.proofs.FilterLemmas.{filter-all, filter-both}
use Rattle.session_model.proofs.RunLemmas.{run_keeps}
use Rattle.session_model.proofs.StepLemmas.{HoldsOfStates, of_states, step_holds}

-- of the connections some are left, and those that were made since have greater numbers
pub record IsLater (old new : Rows) : Type 0 where
  pub left : Connection → Bool
  pub added : List Connection
  pub rows : new.rows ≡ filter left old.rows ++ added
  pub above : All (λ row. old.last_number < row.number) added
  pub last : old.last_number ≤ new.last_number

above-nothing : (last : ℕ) → All (λ (row : Connection). last < row.number) []
above-nothing last = All-nil (λ (row : Connection). last < row.number)

pub later_same : {place : Rows} → IsLater place place
later_same {place} = record {
  left = λ row. true;
  added = [];
  rows = sym (filter-all place.rows) ∙ sym (append-nil (filter (λ row. true) place.rows));
  above = above-nothing place.last_number;
  last = omega arith;
}

later_without : (test : Connection → Bool) {place : Rows} → IsLater place
    (record { rows = filter (λ row. not (test row)) place.rows; last_number = place.last_number })
later_without test {place} = record {
  left = λ row. not (test row);
  added = [];
  rows = sym (append-nil (filter (λ row. not (test row)) place.rows));
  above = above-nothing place.last_number;
  last = omega arith;
}

later_linked : {place : Rows} (new : NewConnection) → IsLater place
    (record { rows = place.rows ++ numbered (place.last_number + 1) new ∷ []; last_number = place.last_number + 1 })
later_linked {place} new = record {
  left = λ row. true;
  added = numbered (place.last_number + 1) new ∷ [];
  rows = ap (λ rows. rows ++ numbered (place.last_number + 1) new ∷ []) (sym (filter-all place.rows));
  above = All-cons (λ (row : Connection). place.last_number < row.number) (numbered (place.last_number + 1) new) [] (omega arith)
      (above-nothing place.last_number);
  last = omega arith;
}

pub later_both : {one two three : Rows} → IsLater one two → IsLater two three → IsLater one three
later_both {one} {two} first second = record {
  left = λ row. first.left row && second.left row;
  added = filter second.left first.added ++ second.added;
  rows =
      second.rows
      ∙ ap (λ rows. filter second.left rows ++ second.added) first.rows
      ∙ ap (λ rows. rows ++ second.added) (filter-append second.left (filter first.left one.rows) first.added)
      ∙ append_assoc (filter second.left (filter first.left one.rows)) (filter second.left first.added) second.added
      ∙ ap (λ rows. rows ++ (filter second.left first.added ++ second.added)) (filter-both first.left second.left one.rows);
  above = All-append (λ (row : Connection). one.last_number < row.number) (filter second.left first.added) second.added
      (All-filter second.left (λ (row : Connection). one.last_number < row.number) first.added first.above)
      (All-weaker (λ (row : Connection). two.last_number < row.number) (λ (row : Connection). one.last_number < row.number)
      (λ row h. omega (arith, first.last, h)) second.added second.above);
  last = omega (arith, first.last, second.last);
}

-- connections without what their functors keep, which changes while they stand
abbrev pub bare_row : Connection → Connection
bare_row row = record row { state = 0 }

abbrev pub bare : Rows → Rows
bare place = record { rows = map bare_row place.rows; last_number = place.last_number }

bare_without : (test : Connection → Bool) → IsUnseen bare_row test → (place : Rows)
    → IsLater (bare place) (bare (record { rows = filter (λ row. not (test row)) place.rows; last_number = place.last_number }))
bare_without test keeps place =
    subst (λ rows. IsLater (bare place) (record { rows = rows; last_number = place.last_number }))
    (filter-changed bare_row (λ row. not (test row)) (λ row. ap not (keeps row)) place.rows) (later_without test)

-- a pattern does not ask for them
bare_matches : (pattern : Pattern) → IsUnseen bare_row (matches pattern)
bare_matches pattern row = ap (λ b. pattern.sender == row.sender && allows pattern.signal row.signal && b) (by pattern.receiver)
  where
    by : (wanted : Option Receiver) → allows_receiver wanted (bare_row row) ≡ allows_receiver wanted row
    by None = refl
    by (Some wanted) = refl

bare_linked : (place : Rows) (new : NewConnection) → IsLater (bare place)
    (bare (record { rows = place.rows ++ numbered (place.last_number + 1) new ∷ []; last_number = place.last_number + 1 }))
bare_linked place new =
    subst (λ rows. IsLater (bare place) (record { rows = rows; last_number = place.last_number + 1 }))
    (sym (map-append bare_row place.rows (numbered (place.last_number + 1) new ∷ []))) (later_linked new)

bare_stepped : (number next : ℕ) (rows : List Connection) → map bare_row (map (stepped_row number next) rows) ≡ map bare_row rows
bare_stepped number next [] = refl
bare_stepped number next (row ∷ rows) = ap₂ (λ row rows. row ∷ rows) (stepped-same number next bare_row (λ row. refl) row) (bare_stepped number next rows)

-- the connections after a change of a session, or after what an item comes to, whatever their functors keep
abbrev IsAfter : State → State → Type 0
IsAfter old new = IsLater (bare old.connections) (bare new.connections)

abbrev pub Later : Execution → Execution → Type 0
Later old new = IsAfter old.state new.state

unchanged : (state : State) → IsAfter state state
unchanged state = later_same

operation_later : (state : State) (operation : Operation) → IsAfter state (with_operation state operation)
operation_later state (d.Connect new unique) = bare_linked state.connections new
operation_later state (d.Disconnect pattern) = bare_without (matches pattern) (bare_matches pattern) state.connections
operation_later state _ = unchanged state

written_later : (state : State) (target : ℕ) (writing : Writing) → IsAfter state (with_writing state target writing)
written_later state target Nothing = unchanged state
written_later state target _ = unchanged state

-- what each change makes of the connections
holds : HoldsOfStates IsAfter
holds = record {
  same = unchanged;
  both = λ one two three. later_both;
  breaks = λ state number. bare_without (has_number number) (λ row. refl) state.connections;
  posts = λ state event. unchanged state;
  loses = unchanged;
  takes = unchanged;
  does = operation_later;
  writes = written_later;
  marks = λ state target. unchanged state;
  severs = λ state target. bare_without (touches target) (λ row. refl) state.connections;
  goes = λ state target. unchanged state;
  steps = λ state number next. subst (λ rows. IsLater (bare state.connections)
      (record { rows = rows; last_number = state.connections.last_number })) (sym (bare_stepped number next state.connections.rows))
      (unchanged state);
}

module _ (settings : Settings) where
  pub step_later : (item : Item) (doing : Execution) → Later doing (step settings item doing).doing
  step_later = step_holds settings Later (of_states IsAfter holds)

  pub run_later : (agenda : List Item) (doing : Execution) → Later doing (run settings agenda doing)
  run_later agenda doing = run_keeps settings (λ items new. Later doing new)
      (λ item rest new before. later_both before (step_later item new)) agenda doing (unchanged doing.state)
