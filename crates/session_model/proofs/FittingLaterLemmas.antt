-- While items are done objects keep their classes, and the numbers of connections are never given again.
use Rattle.std.proofs.Common.{◌≡◌, ◌+◌, ◌≤◌, ℕ, Bool, true, not, List, Some, arith}
use Rattle.std.specs.List.{All}
use Rattle.std.proofs.lemmas.List.Elements.{All-filter, All-push}
use Rattle.session_model.proofs.Common.{Value, Connection, matches, touches, Rows, has_number, numbered, is_there, AreArguments, all_stepped, Operation, step}
use Rattle.session_model.proofs.Common.{kinds_of, with_operation, Execution, dying, IsFittingItem, Act, Call, Emit, Item, Run, RunFunctor, Settings}
use Rattle.session_model.proofs.Common.{IsWhole, State, without_connections, Nothing, Writing, with_writing, Row}
use Rattle.plain_types.specs.declared.callee.Callee.TheVariants as callee
use Rattle.session_model.specs.declared.operation.Operation.TheVariants as d
use Rattle.session_model.specs.Fitting.{IsCalledBy}
use Rattle.session_model.proofs.ForestLemmas.{OfEach, each_blocked, each_marked, each_removed, each_reparented}
use Rattle.session_model.proofs.FittingClassLemmas.{SameClass, arguments_moved, call_moved, class_at, kept_class, sent_moved, was_there}
use Rattle.session_model.proofs.StepLemmas.{HoldsOfStates, of_states, step_holds}

module _ (G : ℕ → ℕ → Type 0) (number : ℕ) (Q : Connection → Type 0)
    (stateless : (row : Connection) (state : ℕ) → Q row → Q (record row { state = state })) where
  -- what is said of each object, dying or not
  abbrev Each : ℕ → ℕ → Bool → Type 0
  Each number class dying = G number class

  -- what is said of the connection of this number
  abbrev Called : Rows → Type 0
  Called connections = All (λ row. row.number ≡ number → Q row) connections.rows

  -- what is said of each object by its number and its class stays, and what is said of that connection
  record StaysIn (old_rows new_rows : List Row) (old new : Rows) : Type 0 where
    classes : OfEach Each old_rows → OfEach Each new_rows
    last : old.last_number ≤ new.last_number
    calls : number ≤ old.last_number → Called old → Called new

  abbrev Stays : State → State → Type 0
  Stays old new = StaysIn old.forest.rows new.forest.rows old.connections new.connections

  -- where neither objects nor connections change
  unmoved : (rows : List Row) (connections : Rows) → StaysIn rows rows connections connections
  unmoved rows connections = record { classes = λ all. all; last = omega arith; calls = λ given all. all }

  writing_stays : (state : State) (object : ℕ) (writing : Writing) → Stays state (with_writing state object writing)
  writing_stays state object Nothing = unmoved state.forest.rows state.connections
  writing_stays state object _ = unmoved state.forest.rows state.connections

  without_stays : (state : State) (test : Connection → Bool) → Stays state (without_connections state test)
  without_stays state test = record {
    classes = λ all. all;
    last = omega arith;
    calls = λ given all. All-filter (λ row. not (test row)) (λ (row : Connection). row.number ≡ number → Q row) state.connections.rows all;
  }

  operation_stays : (state : State) (operation : Operation) → Stays state (with_operation state operation)
  operation_stays state (d.Connect new unique) = record {
    classes = λ all. all;
    last = omega arith;
    calls = λ given all. All-push (λ (row : Connection). row.number ≡ number → Q row) state.connections.rows
        (numbered (state.connections.last_number + 1) new) all (λ same. absurd (omega (arith, given, same)));
  }
  operation_stays state (d.Disconnect pattern) = without_stays state (matches pattern)
  operation_stays state (d.SetParent target parent) =
      record { classes = each_reparented Each state.forest target parent; last = omega arith; calls = λ given all. all }
  operation_stays state (d.DeleteLater target) = unmoved state.forest.rows state.connections
  operation_stays state (d.Block target on) = record { classes = each_blocked Each state.forest target on; last = omega arith; calls = λ given all. all }

  both_stay : (one two three : State) → Stays one two → Stays two three → Stays one three
  both_stay one two three first second = record {
    classes = λ all. second.classes (first.classes all);
    last = omega (arith, first.last, second.last);
    calls = λ given all. second.calls (omega (arith, given, first.last)) (first.calls given all);
  }

  stay : HoldsOfStates Stays
  stay = record {
    same = λ state. unmoved state.forest.rows state.connections;
    both = both_stay;
    breaks = λ state broken. without_stays state (has_number broken);
    posts = λ state event. unmoved state.forest.rows state.connections;
    loses = λ state. unmoved state.forest.rows state.connections;
    takes = λ state. unmoved state.forest.rows state.connections;
    does = operation_stays;
    writes = writing_stays;
    marks = λ state target. record {
      classes = each_marked Each Each state.forest target (λ class dying holds. holds) (λ n class dying apart holds. holds);
      last = omega arith;
      calls = λ given all. all;
    };
    severs = λ state target. without_stays state (touches target);
    goes = λ state target. record {
      classes = each_removed Each Each state.forest target (λ n class dying apart holds. holds);
      last = omega arith;
      calls = λ given all. all;
    };
    steps = λ state stepped next. record {
      classes = λ all. all;
      last = omega arith;
      calls = λ given all. all_stepped stepped next (λ (row : Connection). row.number ≡ number → Q row)
          (λ row holds same. stateless row next (holds same)) state.connections.rows all;
    };
  }

  -- and so with each item
  item_stay : (settings : Settings) (item : Item) (doing : Execution) → Stays doing.state (step settings item doing).doing.state
  item_stay settings = step_holds settings (λ old new. Stays old.state new.state) (of_states Stays stay)

-- what is said of each object by its number and its class stays with each item
pub classes_stay : (G : ℕ → ℕ → Type 0) (settings : Settings) (item : Item) (doing : Execution)
    → OfEach (λ number class dying. G number class) doing.state.forest.rows
    → OfEach (λ number class dying. G number class) (step settings item doing).doing.state.forest.rows
classes_stay G settings item doing = (item_stay G 0 (λ row. Unit {0}) (λ row state h. h) settings item doing).classes

-- and with each operation
pub operation_classes : (G : ℕ → ℕ → Type 0) (state : State) (operation : Operation) → OfEach (λ number class dying. G number class) state.forest.rows
    → OfEach (λ number class dying. G number class) (with_operation state operation).forest.rows
operation_classes G state operation = (operation_stays G 0 (λ row. Unit {0}) (λ row state h. h) state operation).classes

module _ (settings : Settings) (item : Item) (doing : Execution) (whole : IsWhole (step settings item doing).doing.state)
    (kept : All (λ row. class_at doing.state.forest.rows row.number ≡ Some row.class) (step settings item doing).doing.state.forest.rows) where
  abbrev after : State
  after = (step settings item doing).doing.state

  same : (number : ℕ) → is_there after.forest.rows number ≡ true → SameClass doing.state.forest.rows after.forest.rows number
  same = kept_class doing.state.forest.rows after.forest.rows kept

  was : (number : ℕ) → is_there after.forest.rows number ≡ true → is_there doing.state.forest.rows number ≡ true
  was number there = was_there doing.state.forest.rows after.forest.rows number there (same number there)

  -- the arguments of a call are of the kinds of the connection's signal still
  called_stays : (number : ℕ) (args : List Value) → IsCalledBy settings doing.state number args → IsCalledBy settings after number args
  called_stays number args fit = record {
    given = omega (arith, fit.given, stays.last);
    arguments = λ index default within is.
        arguments_moved settings doing.state.forest.rows after.forest.rows _ _ args (same _ (whole.ends index default within).sender)
        (stays.calls fit.given fit.arguments index default within is);
  }
    where
      its : Connection → Type 0
      its row = AreArguments (kinds_of settings.classes doing.state.forest.rows row.sender row.signal) args

      stateless' : (row : Connection) (state : ℕ) → its row → its (record row { state = state })
      stateless' row state h = h

      stays : Stays (λ n class. Unit {0}) number its stateless' doing.state after
      stays = item_stay (λ n class. Unit {0}) number its stateless' settings item doing

  -- and so does each item that is still to be done fit
  pub item_stays : (other : Item) → IsFittingItem settings doing.state other → IsFittingItem settings after other
  item_stays (Emit target signal args depth) fit = λ there. sent_moved settings doing.state.forest.rows after.forest.rows target signal args (same target there)
      (fit (was target there))
  item_stays (Call number args depth) fit = called_stays number args fit
  item_stays (Run target method sender args depth) fit = λ there. call_moved settings doing.state.forest.rows after.forest.rows target
      (callee.Method method) args (same target there) (fit (was target there))
  item_stays (RunFunctor target functor sender connection args depth) fit = record { callee = fit.callee; arguments = fit.arguments }
  item_stays (Act action args self sender depth) fit = fit
  item_stays _ fit = tt
