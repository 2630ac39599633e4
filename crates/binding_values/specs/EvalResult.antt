-- The cached results of evaluations.
use Rattle.std.specs.Prelude.{◌≡◌, ◌⊎◌, true, List, [], All, Option, Some, None, Err, find, option_map}
use Rattle.std.specs.Option.{option_map_or}
use Rattle.term_core.specs.Term.{Term}
use Rattle.binding_values.specs.declared.eval_result.CacheEntry.{CacheEntry}
use Rattle.binding_values.specs.declared.eval_result.EvalResult.{EvalResult}
use Rattle.property_store.specs.declared.property.Property.{Property}
use Rattle.binding_values.specs.declared.property.BindingError.TheVariants.{BindingLoop}
use Rattle.term_evaluation.specs.Met.{met_by}
use Rattle.binding_values.specs.Scene.{Outcome, Scene, Cell, evaluated, met, plain, reader, stored, term_at}
use Rattle.property_store.specs.Property.{among, is_property}

-- The cached result of each property, if there is one.
abbrev pub Keeping : Type 0
Keeping = Property → Option EvalResult

-- The results in these rows.
abbrev pub kept_of : List CacheEntry → Keeping
kept_of rows q = option_map (λ row. row.kept) (find (λ row. is_property q row.at) rows)

-- The value of a property without a cached result. A bound one counts as a loop.
abbrev pub at_hand : Scene → Property → Outcome
at_hand scene q = option_map_or (λ term. Err BindingLoop) (term_at scene.bindings q) (stored scene q)

-- The value of a property by the cached results.
abbrev pub known : Scene → Keeping → Property → Outcome
known scene keeping q = option_map_or (λ kept. kept.outcome) (keeping q) (at_hand scene q)

-- The cached result of a property is the outcome of its evaluation with all cached results, with the properties that
-- this reads, and it is the value of the property.
pub record IsRightAt (scene : Scene) (keeping : Keeping) (q : Property) (kept : EvalResult) : Type 0 where
  pub cell : Cell
  pub term : Term
  pub there : scene.cell_at q ≡ Some cell
  pub bound : term_at scene.bindings q ≡ Some term
  pub outcome : evaluated scene (known scene keeping) q.object cell.kind term ≡ kept.outcome
  pub reads : met scene (known scene keeping) q.object term ≡ kept.reads
  pub value : plain scene [] q ≡ kept.outcome

abbrev pub IsRight : Scene → Keeping → Type 0
IsRight scene keeping = (q : Property) (kept : EvalResult) → keeping q ≡ Some kept → IsRightAt scene keeping q kept

-- The property has a cached result.
abbrev pub IsKept : Keeping → Property → Type 0
IsKept keeping q = (kept : EvalResult) × keeping q ≡ Some kept

abbrev pub IsUnbound : Scene → Property → Type 0
IsUnbound scene q = term_at scene.bindings q ≡ None

-- Everything that was read is unbound or has a cached result.
abbrev pub IsClosed : Scene → Keeping → Type 0
IsClosed scene keeping = (q : Property) (kept : EvalResult) → keeping q ≡ Some kept → All (λ r. IsKept keeping r ⊎ IsUnbound scene r) kept.reads

-- No property that was seen is unbound or has a cached result.
pub record Apart (scene : Scene) (keeping : Keeping) (seen : List Property) : Type 0 where
  pub absent : (q : Property) → among q seen ≡ true → keeping q ≡ None
  pub bound : (q : Property) → among q seen ≡ true → IsUnbound scene q → ⊥

-- The cached results are the values, for all seen properties without one.
abbrev pub Knows : Scene → Keeping → Type 0
Knows scene keeping =
    (q : Property) (kept : EvalResult) → keeping q ≡ Some kept → (seen : List Property) → Apart scene keeping seen → plain scene seen q ≡ kept.outcome

-- Some of the cached results, unchanged.
abbrev pub IsWithin : Keeping → Keeping → Type 0
IsWithin less keeping = (q : Property) (kept : EvalResult) → less q ≡ Some kept → keeping q ≡ Some kept

-- A property that was read has a cached result, or it is unbound in both scenes, with the same value.
abbrev pub IsSteady : Scene → Scene → Keeping → Property → Type 0
IsSteady a b keeping r = IsKept keeping r ⊎ (IsUnbound a r × IsUnbound b r × (stored a r ≡ stored b r))

-- Nothing in which two scenes differ concerns a cached result: its property has the same binding and kind in both, the
-- names that it read are of the same properties, and these are steady.
pub record AgreesAt (a b : Scene) (keeping : Keeping) (q : Property) (kept : EvalResult) : Type 0 where
  pub kind : option_map (λ cell. cell.kind) (a.cell_at q) ≡ option_map (λ cell. cell.kind) (b.cell_at q)
  pub term : term_at a.bindings q ≡ term_at b.bindings q
  pub names : (term : Term) → term_at a.bindings q ≡ Some term → All (λ read. a.named q.object read.target read.name
      ≡ b.named q.object read.target read.name) (met_by [] (reader a (known a keeping) q.object) term)
  pub reads : All (IsSteady a b keeping) kept.reads

abbrev pub Agrees : Scene → Scene → Keeping → Type 0
Agrees a b keeping = (q : Property) (kept : EvalResult) → keeping q ≡ Some kept → AgreesAt a b keeping q kept
