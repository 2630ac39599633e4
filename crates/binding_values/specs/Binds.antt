-- The bindings of a place.
use Rattle.std.specs.Prelude.{◌≤◌, ◌++◌, List, ◌∷◌, All, Option, Some, None, filter, if◌then◌else◌, length, nat_le, IsTrue}
use Rattle.std.specs.Option.{is_some}
use Rattle.plain_types.specs.declared.code.Code.{Code}
use Rattle.plain_types.specs.declared.code.Code.TheVariants.{Limit}
use Rattle.property_store.specs.declared.property.Property.{Property}
use Rattle.term_core.specs.Forms.{is_within_limits}
use Rattle.binding_values.specs.declared.binding.Binding.{Binding}
use Rattle.binding_values.specs.Scene.{term_at}
use Rattle.binding_values.specs.Sorted.{IsRising, is_before}

-- The bindings with another one, which replaces that of the same property.
abbrev pub with_binding : Binding → List Binding → List Binding
with_binding new bindings = filter (λ binding. is_before binding.at new.at) bindings ++ new ∷ filter (λ binding. is_before new.at binding.at) bindings

-- Why another binding is refused: there are too many already.
abbrev pub put_refusal : List Binding → Property → Option Code
put_refusal bindings q = if is_some (term_at bindings q) then None else (if nat_le 1024 (length bindings) then Some Limit else None)

-- What holds for the bindings of every place.
pub record AreBindings (bindings : List Binding) : Type 0 where
  pub few : length bindings ≤ 1024
  pub rising : IsRising (λ binding. binding.at) bindings
  pub limited : All (λ binding. IsTrue (is_within_limits binding.expr)) bindings
