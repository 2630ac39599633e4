-- The value of a property.
use Rattle.std.specs.Prelude.{ℕ, zero, suc, Bool, true, false, cond, List, [], ◌∷◌, length, Option, Some, None, Result, Ok, Err, find, filter_map, option_map}
use Rattle.std.specs.Option.{ok_or, option_map_or}
use Rattle.plain_types.specs.declared.code.Code.TheVariants.{NoSuchProperty}
use Rattle.signature_core.specs.declared.kind.Kind.{Kind}
use Rattle.variant_value.specs.declared.value.Value.{Value}
use Rattle.variant_value.specs.Values.{converted}
use Rattle.term_core.specs.declared.target.Target.{Target}
use Rattle.term_core.specs.Term.{Term}
use Rattle.term_evaluation.specs.Evaluation.{eval_by}
use Rattle.term_evaluation.specs.Outcomes.{Answer, own, refused}
use Rattle.property_store.specs.Property.{among, is_property}
use Rattle.binding_values.specs.declared.binding.Binding.{Binding}
use Rattle.property_store.specs.declared.property.Property.{Property}
use Rattle.binding_values.specs.declared.property.BindingError.{BindingError}
use Rattle.binding_values.specs.declared.property.BindingError.TheVariants.{BindingLoop, EvaluationError}
use Rattle.term_evaluation.specs.Met.{met_by}

-- A value, or why there is none.
abbrev pub Outcome : Type 0
Outcome = Result Value BindingError

-- A declared property's kind, and the value that is stored.
pub record Cell : Type 0 where
  pub kind : Kind
  pub value : Value

-- Everything on which the value of a property depends.
pub record Scene : Type 0 where
  pub bindings : List Binding
  -- The cell of a property, if it exists.
  pub cell_at : Property → Option Cell
  -- The property with a name, as a binding of an object's property reads it. If there is none, it is a property that
  -- does not exist.
  pub named : ℕ → Target → List ℕ → Option Property

-- The expression to which a property is bound.
abbrev pub term_at : List Binding → Property → Option Term
term_at bindings q = option_map (λ binding. binding.expr) (find (λ binding. is_property q binding.at) bindings)

-- The stored value. A property that does not exist has no value.
abbrev pub stored : Scene → Property → Outcome
stored scene q = option_map_or (λ cell. Ok cell.value) (scene.cell_at q) (Err EvaluationError)

-- The answer for a property with this value or error that the binding of another one reads.
abbrev pub passed_on : Outcome → Answer BindingError
passed_on (Ok value) = Ok value
passed_on (Err error) = Err (own error)

abbrev pub reading : (Property → Outcome) → Option Property → Answer BindingError
reading value None = Err (refused NoSuchProperty)
reading value (Some q) = passed_on (value q)

-- The answers for an expression's properties, by their values.
abbrev pub reader : Scene → (Property → Outcome) → ℕ → Target → List ℕ → Answer BindingError
reader scene value object target name = reading value (scene.named object target name)

-- The outcome of an evaluation, converted to a kind. The error of a property that was read is passed on, and any other
-- fault is an evaluation error.
abbrev pub settled : Kind → Answer BindingError → Outcome
settled kind (Ok value) = ok_or (converted kind value) EvaluationError
settled kind (Err (own error)) = Err error
settled kind (Err (refused code)) = Err EvaluationError

-- The value of a binding's expression, by the values of properties.
abbrev pub evaluated : Scene → (Property → Outcome) → ℕ → Kind → Term → Outcome
evaluated scene value object kind term = settled kind (eval_by [] (reader scene value object) term)

-- The properties that this evaluation really reads, in order.
abbrev pub met : Scene → (Property → Outcome) → ℕ → Term → List Property
met scene value object term = filter_map (λ read. scene.named object read.target read.name) (met_by [] (reader scene value object) term)

-- A loop if the property was seen before; the stored value if it is unbound; otherwise the value of its expression.
abbrev pub choose : Bool → Option Cell → Option Term → (Cell → Term → Outcome) → Outcome
choose true cell term evaluate = Err BindingLoop
choose false None term evaluate = Err EvaluationError
choose false (Some cell) None evaluate = Ok cell.value
choose false (Some cell) (Some term) evaluate = evaluate cell term

-- The value of a property, by the values of the others once this one was seen too.
abbrev pub by_rule : Scene → (List Property → Property → Outcome) → List Property → Property → Outcome
by_rule scene value seen q =
    choose (among q seen) (scene.cell_at q) (term_at scene.bindings q) (λ cell term. evaluated scene (value (q ∷ seen)) q.object cell.kind term)

abbrev pub within : Scene → ℕ → List Property → Property → Outcome
within scene zero = by_rule scene (λ seen q. Err BindingLoop)
within scene (suc n) = by_rule scene (within scene n)

-- The value of a property, if some were seen before.
unfoldable pub plain : Scene → List Property → Property → Outcome
plain scene = within scene (length scene.bindings)

-- The number of bindings of properties that were not seen.
unfoldable pub unmet : List Property → List Binding → ℕ
unmet seen [] = 0
unmet seen (b ∷ bs) = cond (among b.at seen) (unmet seen bs) (suc (unmet seen bs))
