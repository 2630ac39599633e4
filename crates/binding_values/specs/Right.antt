-- When the cached results of a place are right.
use Rattle.std.specs.Prelude.{◌≡◌, ◌⊎◌, ◌∷◌, [], ℕ, false, List, All, Some, None, if◌then◌else◌}
use Rattle.term_core.specs.declared.target.Target.{Target}
use Rattle.property_store.specs.declared.property.Property.{Property}
use Rattle.property_store.specs.Marks.{Marks, is_marked}
use Rattle.property_store.specs.Pending.{only}
use Rattle.binding_values.specs.Scene.{Scene, term_at}
use Rattle.binding_values.specs.declared.eval_result.EvalResult.{EvalResult}
use Rattle.binding_values.specs.EvalResult.{IsClosed, IsKept, IsRight, IsUnbound, IsWithin, Keeping}

-- Neither the property of a result nor any that it has read is marked.
pub record IsClearAt (marks : Marks) (q : Property) (kept : EvalResult) : Type 0 where
  pub own : is_marked marks q ≡ false
  pub reads : All (λ r. is_marked marks r ≡ false) kept.reads

abbrev pub IsClear : Marks → Keeping → Type 0
IsClear marks keeping = (q : Property) (kept : EvalResult) → keeping q ≡ Some kept → IsClearAt marks q kept

-- The cached results are right, except at properties that a marked one reaches: each part of them is right if it has
-- read only itself and unbound properties, and no marked ones.
abbrev pub IsRightBut : Scene → Marks → Keeping → Type 0
IsRightBut scene marks keeping = (part : Keeping) → IsWithin part keeping → IsClosed scene part → IsClear marks part → IsRight scene part

-- Every bound property has a cached result or is marked.
abbrev pub IsWhole : Scene → Marks → Keeping → Type 0
IsWhole scene marks keeping = (q : Property) → is_marked marks q ≡ false → IsKept keeping q ⊎ IsUnbound scene q

-- Every bound property has a cached result, and all are right.
pub record IsComplete (scene : Scene) (keeping : Keeping) : Type 0 where
  pub right : IsRight scene keeping
  pub closed : IsClosed scene keeping
  pub whole : (q : Property) → IsKept keeping q ⊎ IsUnbound scene q

-- A property has no cached result, and if it alone is marked, all bound properties have right cached results.
pub record IsApart (scene : Scene) (keeping : Keeping) (at : Property) : Type 0 where
  pub absent : keeping at ≡ None
  pub complete : IsRightBut scene (only (at ∷ [])) keeping → IsWhole scene (only (at ∷ [])) keeping → IsComplete scene keeping

-- Two scenes differ only in marked properties.
pub record DiffersAt (marks : Marks) (a b : Scene) : Type 0 where
  pub cells : (q : Property) → is_marked marks q ≡ false → a.cell_at q ≡ b.cell_at q
  pub terms : (q : Property) → is_marked marks q ≡ false → term_at a.bindings q ≡ term_at b.bindings q
  -- A name is of the same property, unless that is marked.
  pub names : (object : ℕ) (target : Target) (name : List ℕ) (q : Property)
      → a.named object target name ≡ Some q → is_marked marks q ≡ false → b.named object target name ≡ Some q
  pub nameless : (object : ℕ) (target : Target) (name : List ℕ) → a.named object target name ≡ None → b.named object target name ≡ None
  -- Unless everything is marked, no property is removed.
  pub there : marks.all ≡ false → (q : Property) → b.cell_at q ≡ None → a.cell_at q ≡ None

-- Everything that reads a marked property is marked, and so is everything bound without a cached result.
pub record IsSpread (scene : Scene) (marks : Marks) (keeping : Keeping) : Type 0 where
  pub read : (q : Property) (kept : EvalResult) → keeping q ≡ Some kept → is_marked marks q ≡ false → All (λ r. is_marked marks r ≡ false) kept.reads
  pub bound : (q : Property) → is_marked marks q ≡ false → IsKept keeping q ⊎ IsUnbound scene q

-- The cached results of properties that are not marked.
abbrev pub unmarked : Marks → Keeping → Keeping
unmarked marks keeping q = if is_marked marks q then None else keeping q
