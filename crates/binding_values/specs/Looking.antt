-- The outcome of an evaluation.
use Rattle.std.specs.Prelude.{◌≡◌, None, Some}
use Rattle.shared_rows.specs.Table.{IsPlace}
use Rattle.property_store.specs.Table.{store_at}
use Rattle.binding_values.specs.declared.known.BoundProperty.{BoundProperty}
use Rattle.binding_values.specs.declared.known.Known.{Known}
use Rattle.property_store.specs.declared.property.Property.{Property}
use Rattle.binding_values.specs.EvalResult.{IsUnbound, kept_of, known}
use Rattle.binding_values.specs.Scene.{Cell, Outcome, Scene, term_at}
use Rattle.binding_values.specs.Stored.{scene_of}

abbrev pub scene_in : Known → Scene
scene_in knows = scene_of (store_at knows.stores.now.shelves knows.place) knows.bindings.now

-- The place is there, and no unbound property has a cached result.
pub record IsReady (knows : Known) : Type 0 where
  pub place : IsPlace knows.stores.now.shelves.table knows.place
  pub unkept : (q : Property) → IsUnbound (scene_in knows) q → kept_of knows.done.now q ≡ None

-- The property exists, and it is of this kind and bound to this expression.
pub record IsBoundAs (scene : Scene) (bound : BoundProperty) : Type 0 where
  pub cell : Cell
  pub there : scene.cell_at bound.at ≡ Some cell
  pub same : cell.kind ≡ bound.kind
  pub term : term_at scene.bindings bound.at ≡ Some bound.expr.now

abbrev pub values_in : Known → Property → Outcome
values_in knows = known (scene_in knows) (kept_of knows.done.now)
