-- The laws of the values of bound properties.
use Rattle.std.specs.Prelude.{◌≡◌, ◌⊎◌, true, List, [], ◌∷◌, Some, Err, Contains}
use Rattle.term_core.specs.Term.{Term}
use Rattle.property_store.specs.declared.property.Property.{Property}
use Rattle.binding_values.specs.declared.property.BindingError.TheVariants.{BindingLoop}
use Rattle.binding_values.specs.Scene.{Scene, Cell, by_rule, met, plain, term_at}
use Rattle.property_store.specs.Property.{among}

-- The rule is the value's whole definition.
abbrev pub PlainIsByRule : Type 0
PlainIsByRule = (scene : Scene) (seen : List Property) (q : Property) → plain scene seen q ≡ by_rule scene (plain scene) seen q

-- If more properties were seen, a property has the same value, or it is a loop.
abbrev pub IsSubset : List Property → List Property → Type 0
IsSubset some more = (q : Property) → among q some ≡ true → among q more ≡ true

abbrev pub SameOrLoop : Type 0
SameOrLoop = (scene : Scene) (some more : List Property)
    → IsSubset some more → (q : Property) → (plain scene more q ≡ plain scene some q) ⊎ (plain scene more q ≡ Err BindingLoop)

-- The evaluation of `p` really reads `q`, if those before it were seen.
pub record ReallyReads (scene : Scene) (before : List Property) (p q : Property) : Type 0 where
  pub cell : Cell
  pub term : Term
  pub there : scene.cell_at p ≡ Some cell
  pub bound : term_at scene.bindings p ≡ Some term
  pub reads : Contains (met scene (plain scene (p ∷ before)) p.object term) q

-- A chain: its last property, and those before it, the latest first.
abbrev pub IsChain : Scene → List Property → Property → Type 0
IsChain scene [] q = Unit {0}
IsChain scene (p ∷ before) q = IsChain scene before p × ReallyReads scene before p q

-- The last property of a chain has the same value if those before it were seen as if nothing was.
abbrev pub ChainLaw : Type 0
ChainLaw = (scene : Scene) (before : List Property) (q : Property) → IsChain scene before q → plain scene before q ≡ plain scene [] q
