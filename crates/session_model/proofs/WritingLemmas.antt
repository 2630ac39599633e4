-- The rules by which properties are written: one for each way that it goes.
use Rattle.std.proofs.Common.{◌≡◌, ◌∙◌, ℕ, Bool, true, false, cond, List, [], None, Option, refl, ap}
use Rattle.session_model.proofs.Common.{Value, with_dynamic, without_dynamic, is_open, Execution, in_state, Next, puts, Settings, changes, showing, State}
use Rattle.session_model.proofs.Common.{Dynamic, Nothing, Removed, Writing, with_writing, written}
use Rattle.property_store.specs.declared.property.Property.{Property as At}
use Rattle.binding_values.specs.Graph as graph
use Rattle.session_model.specs.Showing.{comes_to as comes_to_state}
use Rattle.session_model.proofs.QuietLemmas.{nothing_changed, showing_same}
use Rattle.session_model.proofs.ShowingLemmas.{tells}

-- the session with what is written
abbrev pub after : Execution → ℕ → Writing → Execution
after doing object writing = in_state doing (with_writing doing.state object writing)

-- nothing has changed where all declared properties show what they showed
pub unchanged : (before after : State) (written : Option At) → showing after ≡ showing before → changes before after written ≡ []
unchanged before after written same = by (is_open after.graph)
  where
    told : graph.changes (showing before) (showing after) written ≡ []
    told = ap (λ now. graph.changes (showing before) now written) same ∙ nothing_changed before.store before.graph.bindings written

    by : (deep : Bool) → cond deep [] (graph.changes (showing before) (showing after) written) ≡ []
    by true = refl
    by false = told

module _ (settings : Settings) (doing : Execution) (depth : ℕ) where
  -- nothing is told where nothing has changed
  pub told_nothing : (after : State) (written : Option At) → showing after ≡ showing doing.state
      → comes_to_state settings doing depth after written ≡ puts [] (in_state doing after)
  told_nothing after written same = ap (λ changes. puts (tells settings after depth changes) (in_state doing after)) (unchanged doing.state after written same)

module _ (settings : Settings) (doing : Execution) (object depth : ℕ) where
  -- what a writing comes to
  abbrev pub comes_to : Writing → Next
  comes_to writing = written settings doing object depth writing

  -- nothing is told of a dynamic property
  pub dynamic_set : (name : List ℕ) (value : Value) → comes_to (Dynamic name value) ≡ puts [] (after doing object (Dynamic name value))
  dynamic_set name value = told_nothing settings doing depth (with_writing doing.state object (Dynamic name value)) None
      (showing_same (with_dynamic name value) object (λ of. refl) (λ of. refl) (λ of. refl) doing.state.store doing.state.graph.bindings)

  pub dynamic_removed : (name : List ℕ) → comes_to (Removed name) ≡ puts [] (after doing object (Removed name))
  dynamic_removed name = told_nothing settings doing depth (with_writing doing.state object (Removed name)) None
      (showing_same (without_dynamic name) object (λ of. refl) (λ of. refl) (λ of. refl) doing.state.store doing.state.graph.bindings)

  pub nothing_written : comes_to Nothing ≡ puts [] doing
  nothing_written = told_nothing settings doing depth doing.state None refl
