-- Each object keeps the properties that its class declares.
use Rattle.object_tree.specs.Changes.{added}
use Rattle.property_store.proofs.ForCallers.{added_found, added_others}
use Rattle.property_store.specs.declared.property.Property.{Property as At}
use Rattle.std.proofs.Common.{Bool, List, None, Option, Some, ap, arith, false, get_or, refl, ℕ, ◌+◌, ◌==◌, ◌∙◌, ◌≡◌, ◌≤◌}
use Rattle.std.proofs.lemmas.Bool.{cond_both}
use Rattle.std.proofs.lemmas.Bool.Decides.{nat_tests}
use Rattle.std.proofs.lemmas.List.Elements.{All-push, All-weaker}
use Rattle.std.specs.List.{All}
use Rattle.std.specs.Option.{option_map, option_map_or}
use Rattle.session_model.proofs.Common.{is_bound, unbound, value_in, Class, Row, changed_fields, without_others, Properties, fitting, properties_of, with_value}
use Rattle.session_model.proofs.Common.{step, with_operation, Execution, dying, Item, run, IsDeclared, State, fields_of, with_binding_taken, with_object}
use Rattle.session_model.proofs.Common.{with_properties, without_object, Nothing, Writing, with_writing, Operation, Post, Value}
use Rattle.session_model.proofs.RunLemmas.{run_keeps}
use Rattle.session_model.proofs.StepLemmas.{HoldsOfStates, of_states, step_holds}
use Rattle.session_model.specs.Thread.{Settings, arrives}
use Rattle.session_model.specs.declared.operation.Operation.TheVariants as d
use Rattle.property_store.specs.Store as stored
use Rattle.session_model.proofs.ForestLemmas.{each_blocked, each_marked, each_removed, each_reparented}

-- an object of this number has the properties that this class declares
abbrev Has : List Class → State → ℕ → ℕ → Bool → Type 0
Has classes state number class dying = option_map (λ of. of.fields) (properties_of state.store number) ≡ Some (fields_of classes class)

module _ (classes : List Class) (state : State) (declared : IsDeclared classes state) where
  declared_with_properties : (number : ℕ) (change : Properties → Properties) → ((of : Properties) → (change of).object ≡ of.object)
      → ((of : Properties) → (change of).fields ≡ of.fields) → IsDeclared classes (with_properties state number change)
  declared_with_properties number change same fields =
      All-weaker (λ row. Has classes state row.number row.class row.dying)
      (λ row. Has classes (with_properties state number change) row.number row.class row.dying)
      (λ row has. changed_fields change number same fields state.store row.number ∙ has) state.forest.rows declared

  pub declared_with_writing : (object : ℕ) (writing : Writing) → IsDeclared classes (with_writing state object writing)
  declared_with_writing object Nothing = declared
  declared_with_writing object _ = declared_with_properties object _ (λ of. refl) (λ of. refl)

  -- what a bound property shows is stored
  pub declared_with_binding_taken : (at : At) → IsDeclared classes (with_binding_taken state at)
  declared_with_binding_taken at =
      cond_both (is_bound state.graph.bindings at) (stored.written state.store at.object at.number shows) state.store
      (λ store. IsDeclared classes (record state { store = store; graph = unbound state.graph at }))
      (λ bound. by (fitting state.store at.object at.number shows))
      (λ free. declared)
    where
      shows : Value
      shows = (value_in state.store state.graph at).0

      by : (fit : Option Value) → IsDeclared classes
          (record state {
            store = option_map_or (λ fit. stored.changed (with_value at.number fit) at.object state.store) fit state.store;
            graph = unbound state.graph at;
          })
      by None = declared
      by (Some fit) = declared_with_properties at.object (with_value at.number fit) (λ of. refl) (λ of. refl)

  -- a new object has those of its class, and its number is new
  pub declared_with_object : (parent : Option ℕ) (class : ℕ) → All (λ row. row.number ≤ state.forest.last_number) state.forest.rows
      → IsDeclared classes (with_object classes state parent class)
  unfolding added
  declared_with_object parent class known = All-push (λ (row : Row). Has classes (with_object classes state parent class) row.number row.class row.dying)
      state.forest.rows _
      (λ index default within. old (get_or state.forest.rows index default) (known index default within) (declared index default within))
      (ap (option_map (λ of. of.fields)) (added_found state.store (state.forest.last_number + 1) (fields_of classes class)))
    where
      old : (row : Row) → row.number ≤ state.forest.last_number → Has classes state row.number row.class row.dying
          → Has classes (with_object classes state parent class) row.number row.class row.dying
      old row below has =
          let apart : (state.forest.last_number + 1 == row.number) ≡ false = grind (arith, nat_tests, below) in
          ap (option_map (λ of. of.fields)) (added_others state.store (state.forest.last_number + 1) (fields_of classes class) row.number apart) ∙ has

  pub operation_declared : (operation : Operation) → IsDeclared classes (with_operation state operation)
  operation_declared (d.SetParent target parent) = each_reparented (Has classes state) state.forest target parent declared
  operation_declared (d.Block target on) = each_blocked (Has classes state) state.forest target on declared
  operation_declared _ = declared

  gone_declared : (target : ℕ) → IsDeclared classes (without_object state target)
  gone_declared target = each_removed (Has classes state) (Has classes (without_object state target)) state.forest target
      (λ number class dying apart has. ap (option_map (λ of. of.fields)) (without_others state.store target number apart) ∙ has) declared

-- with each change
abbrev Keeps : List Class → State → State → Type 0
Keeps classes old new = IsDeclared classes old → IsDeclared classes new

holds : (classes : List Class) → HoldsOfStates (Keeps classes)
holds classes = record {
  same = λ state declared. declared;
  both = λ one two three first second declared. second (first declared);
  breaks = λ state number declared. declared;
  posts = λ state event declared. declared;
  loses = λ state declared. declared;
  takes = λ state declared. declared;
  does = λ state operation declared. operation_declared classes state declared operation;
  writes = λ state target writing declared. declared_with_writing classes state declared target writing;
  marks = λ state target declared. each_marked (Has classes state) (Has classes state) state.forest target
      (λ class dying has. has) (λ number class dying apart has. has) declared;
  severs = λ state target declared. declared;
  goes = λ state target declared. gone_declared classes state declared target;
  steps = λ state number next declared. declared;
}

pub item_declared : (settings : Settings) (item : Item) (doing : Execution) → IsDeclared settings.classes doing.state
    → IsDeclared settings.classes (step settings item doing).doing.state
item_declared settings = step_holds settings (λ old new. Keeps settings.classes old.state new.state)
    (of_states (Keeps settings.classes) (holds settings.classes))

-- and after an agenda is done
pub run_declared : (settings : Settings) (agenda : List Item) (doing : Execution) → IsDeclared settings.classes doing.state
    → IsDeclared settings.classes (run settings agenda doing).state
run_declared settings agenda doing declared = run_keeps settings (λ items doing. IsDeclared settings.classes doing.state)
    (λ item agenda doing. item_declared settings item doing) agenda doing declared

-- and after a post
pub post_declared : (classes : List Class) (state : State) (from : List ℕ) (post : Post) → IsDeclared classes state
    → IsDeclared classes (arrives classes state from post)
unfolding arrives
post_declared classes state from post declared = declared
