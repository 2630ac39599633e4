-- How values are computed with a stack.
use Rattle.std.specs.Prelude.{◌≡◌, ◌⊎◌, ◌<◌, ◌+◌, ◌*◌, ℕ, Bool, true, false, List, [], ◌∷◌, ◌++◌, All, length, map, reverse, Option, Some, None, Ok, Err}
use Rattle.term_core.specs.Term.{Term}
use Rattle.binding_values.specs.declared.eval_result.CacheEntry.{CacheEntry}
use Rattle.binding_values.specs.declared.eval_result.EvalResult.{EvalResult}
use Rattle.property_store.specs.declared.property.Property.{Property}
use Rattle.binding_values.specs.declared.property.BindingError.TheVariants.{BindingLoop, EvaluationError}
use Rattle.binding_values.specs.Scene.{Cell, Outcome, Scene, evaluated, met, term_at, unmet}
use Rattle.property_store.specs.Property.{among}
use Rattle.binding_values.specs.EvalResult.{IsClosed, IsKept, IsRight, IsUnbound, IsWithin, Keeping, kept_of, known}
use Rattle.binding_values.specs.Laws.{ReallyReads}

-- The value of a property is known: it has a cached result, or is unbound.
abbrev pub IsSettled : Scene → Keeping → Property → Type 0
IsSettled scene keeping q = IsKept keeping q ⊎ IsUnbound scene q

-- Whether an outcome is a loop.
abbrev pub is_loop : Outcome → Bool
is_loop (Err BindingLoop) = true
is_loop (Err EvaluationError) = false
is_loop (Ok value) = false

-- The result of an evaluation with the cached results.
pub record IsTried (scene : Scene) (keeping : Keeping) (q : Property) (kept : EvalResult) : Type 0 where
  pub cell : Cell
  pub term : Term
  pub there : scene.cell_at q ≡ Some cell
  pub bound : term_at scene.bindings q ≡ Some term
  pub absent : keeping q ≡ None
  pub outcome : evaluated scene (known scene keeping) q.object cell.kind term ≡ kept.outcome
  pub reads : met scene (known scene keeping) q.object term ≡ kept.reads

-- An evaluation ended at a property whose value is not known yet.
pub record WaitsFor (scene : Scene) (keeping : Keeping) (reads : List Property) (next : Property) : Type 0 where
  pub front : List Property
  pub last : reads ≡ front ++ next ∷ []
  pub settled : All (IsSettled scene keeping) front
  pub term : Term
  pub bound : term_at scene.bindings next ≡ Some term
  pub absent : keeping next ≡ None

abbrev pub ats : List CacheEntry → List Property
ats rows = map (λ row. row.at) rows

-- A row of the stack, whose evaluation waits for the property above it.
pub record IsStackedOn (scene : Scene) (keeping : Keeping) (row : CacheEntry) (before : List Property) (next : Property) : Type 0 where
  pub tried : IsTried scene keeping row.at row.kept
  pub waits : WaitsFor scene keeping row.kept.reads next
  pub reads : ReallyReads scene before row.at next
  pub fresh : among row.at before ≡ false

-- The rows of the stack, the latest first.
abbrev pub Stacked : Scene → Keeping → List CacheEntry → Property → Type 0
Stacked scene keeping [] top = Unit {0}
Stacked scene keeping (row ∷ rest) top = IsStackedOn scene keeping row (ats rest) top × Stacked scene keeping rest row.at

-- The cached results are right, and the value of the property on top is needed for those on the stack.
pub record IsRunning (scene : Scene) (done below : List CacheEntry) (top : Property) : Type 0 where
  pub right : IsRight scene (kept_of done)
  pub closed : IsClosed scene (kept_of done)
  pub absent : kept_of done top ≡ None
  pub term : Term
  pub bound : term_at scene.bindings top ≡ Some term
  pub fresh : among top (ats (reverse below)) ≡ false
  pub stacked : Stacked scene (kept_of done) (reverse below) top

-- The property for which all others are needed.
abbrev pub bottom : List CacheEntry → Property → Property
bottom [] top = top
bottom (row ∷ rest) top = row.at

-- A bound on the work that is left.
abbrev pub work : Scene → List CacheEntry → List CacheEntry → Property → ℕ
work scene done below top = 2 * unmet (ats done ++ top ∷ ats (reverse below)) scene.bindings + length below

-- A step: everything needed has a result, or there is another property on top and less work left.
abbrev pub Stepped : Scene → List CacheEntry → List CacheEntry → Property → List CacheEntry → List CacheEntry → Option Property → Type 0
Stepped scene done below top done' below' None =
    IsRight scene (kept_of done') × IsClosed scene (kept_of done') × IsWithin (kept_of done) (kept_of done') × IsKept (kept_of done') (bottom below top)
Stepped scene done below top done' below' (Some next) =
    IsRunning scene done' below' next × IsWithin (kept_of done) (kept_of done')
    × (bottom below' next ≡ bottom below top) × (work scene done' below' next < work scene done below top)
