-- The objects that an action names, and the values of its expressions.
use Rattle.std.specs.Prelude.{ℕ, Bool, List, [], ◌∷◌, Option, Ok, Err, if◌then◌else◌}
use Rattle.std.specs.Option.{ok_or, option_map, unwrap_or}
use Rattle.plain_types.specs.declared.code.Code.TheVariants.{BadValue, NoSuchObject, NoSuchProperty}
use Rattle.signature_core.specs.declared.kind.Kind.{Kind}
use Rattle.variant_value.specs.declared.value.Value.{Value}
use Rattle.variant_value.specs.Values.{converted, truth_in}
use Rattle.term_core.specs.declared.target.Target.{Target}
use Rattle.term_core.specs.declared.target.Target.TheVariants.{Itself, Sender, Child, Object}
use Rattle.term_core.specs.Term.{Term}
use Rattle.term_evaluation.specs.Evaluation.{eval_by}
use Rattle.term_evaluation.specs.Outcomes.{Answer, own, refused}
use Rattle.object_tree.specs.Finding.{found_below}
use Rattle.object_tree.specs.Rows.{is_there}
use Rattle.session_model.specs.Methods.{Found, ◌>>=◌}
use Rattle.session_model.specs.Showing.{named_value}
use Rattle.session_model.specs.State.{State, is_text, title_of}

-- The number of the object that a target is for the slot of `self`; 0 if there is none.
abbrev pub object_of : State → ℕ → ℕ → Target → ℕ
object_of state self sender Itself = self
object_of state self sender Sender = sender
object_of state self sender (Child title) = unwrap_or (found_below state.forest.rows self (λ number. is_text title (title_of state number))) 0
object_of state self sender (Object number) = number

-- The number of the object that a target is, if a target is named.
abbrev pub named_object_of : State → ℕ → ℕ → Option Target → Option ℕ
named_object_of state self sender target = option_map (object_of state self sender) target

-- The value of a property of an object, declared or dynamic.
abbrev pub property_of : State → ℕ → List ℕ → Answer (Unit {0})
property_of state object name =
    if is_there state.forest.rows object
    then ok_or (named_value state object name) (refused NoSuchProperty)
    else Err (refused NoSuchObject)

-- The value of a property that the slot of `self` reads.
abbrev pub reads : State → ℕ → ℕ → Target → List ℕ → Answer (Unit {0})
reads state self sender target name = property_of state (object_of state self sender target) name

-- The value with which an evaluation ends, or why there is none. Reading properties for a slot has no faults of its own.
abbrev pub outcome : Answer (Unit {0}) → Found Value
outcome (Ok value) = Ok value
outcome (Err (refused code)) = Err code
outcome (Err (own fault)) = Err BadValue

-- The value of an expression of the slot of `self`, with the slot's arguments.
unfoldable pub evaluated : State → ℕ → ℕ → List Value → Term → Found Value
evaluated state self sender args term = outcome (eval_by args (reads state self sender) term)

-- The values of expressions from left to right, up to the first fault.
abbrev pub all_evaluated : State → ℕ → ℕ → List Value → List Term → Found (List Value)
all_evaluated state self sender args [] = Ok []
all_evaluated state self sender args (term ∷ rest) =
    evaluated state self sender args term >>= λ value.
    all_evaluated state self sender args rest >>= λ values. Ok (value ∷ values)

-- The truth value of an expression.
abbrev pub truth_evaluated : State → ℕ → ℕ → List Value → Term → Found Bool
truth_evaluated state self sender args term = evaluated state self sender args term >>= λ value. ok_or (truth_in value) BadValue

-- One value for each kind, converted to that kind.
abbrev pub all_converted : List Kind → List Value → Found (List Value)
all_converted [] [] = Ok []
all_converted (kind ∷ kinds) (value ∷ values) =
    ok_or (converted kind value) BadValue >>= λ first.
    all_converted kinds values >>= λ rest. Ok (first ∷ rest)
all_converted _ _ = Err BadValue
