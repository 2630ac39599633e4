use Rattle.std.proofs.Common.{◌≡◌, ◌∙◌, Bool, true, false, cond, Option, Some, None, Ok, Err, is_some, refl, sym, ap}
use Rattle.std.specs.Option.{option_map_or}
use Rattle.property_store.specs.Table.{store_at}
use Rattle.property_store.specs.declared.property.Property.{Property}
use Rattle.term_core.specs.Term.{Term}
use Rattle.binding_values.specs.declared.known.Known.{Known}
use Rattle.binding_values.specs.declared.property.BindingError.TheVariants.{BindingLoop, EvaluationError}
use Rattle.binding_values.specs.EvalResult.{at_hand, kept_of}
use Rattle.binding_values.specs.Looking.{IsReady, scene_in, values_in}
use Rattle.binding_values.specs.Scene.{Cell, Outcome, passed_on, stored, term_at}
use Rattle.binding_values.specs.Stored.{cell_in}
use Rattle.binding_values.proofs.KeptLemmas.{hand_unbound, known_none}
use Rattle.binding_values.proofs.MapLemmas.{not_there, some_kept}
use Rattle.binding_values.proofs.StoredLemmas.{term_there}
use Rattle.binding_values.proofs.known.Known.read.Goals as goal

module _ (knows : Known) (q : Property) where
  nothing : (t : Bool) (o : Option Term) → o ≡ None → cond t o None ≡ None
  nothing true o e = e
  nothing false o e = refl

  -- the value of what is not bound
  unbound : IsReady knows → term_at knows.bindings.now q ≡ None → values_in knows q ≡ stored (scene_in knows) q
  unbound ready none =
      let store = store_at knows.stores.now.shelves knows.place in
      let free : term_at (scene_in knows).bindings q ≡ None = term_there store q knows.bindings.now
      ∙ nothing (is_some (cell_in store q)) (term_at knows.bindings.now q) none in
      known_none (scene_in knows) (kept_of knows.done.now) q (ready.unkept q free) ∙ hand_unbound (scene_in knows) q free

  -- the value of what is bound and not kept, by its cell
  unkept : is_some (term_at knows.bindings.now q) ≡ true → kept_of knows.done.now q ≡ None → (cell : Option Cell)
      → cell_in (store_at knows.stores.now.shelves knows.place) q ≡ cell
      → values_in knows q ≡ option_map_or (λ (cell : Cell). Err BindingLoop) cell (Err EvaluationError)
  unkept bound none cell is = known_none (scene_in knows) (kept_of knows.done.now) q none
      ∙ by cell is (term_at knows.bindings.now q) bound (term_there (store_at knows.stores.now.shelves knows.place) q knows.bindings.now)
    where
      value : Outcome
      value = stored (scene_in knows) q

      by : (cell : Option Cell) → cell_in (store_at knows.stores.now.shelves knows.place) q ≡ cell → (term : Option Term) → is_some term ≡ true
          → term_at (scene_in knows).bindings q ≡ cond (is_some (cell_in (store_at knows.stores.now.shelves knows.place) q)) term None
          → at_hand (scene_in knows) q ≡ option_map_or (λ (cell : Cell). Err BindingLoop) cell (Err EvaluationError)
      by (Some cell) is (Some term) bound there =
          ap (λ (term : Option Term). option_map_or (λ (term : Term). Err BindingLoop) term value)
          (there ∙ ap (λ (cell : Option Cell). cond (is_some cell) (Some term) None) is)
      by (Some cell) is None bound there = absurd (cc)
      by None is term bound there =
          ap (λ (term : Option Term). option_map_or (λ (term : Term). Err BindingLoop) term value)
          (there ∙ ap (λ (cell : Option Cell). cond (is_some cell) term None) is)
          ∙ ap (λ (cell : Option Cell). option_map_or (λ (cell : Cell). Ok cell.value) cell (Err EvaluationError)) is

pub returns-in_ok-copy-in-Some : goal.returns-in_ok-copy-in-Some
returns-in_ok-copy-in-Some c =
    ap passed_on (unbound c.args.self.now c.args.at c.requires (not_there _ c.expr_at.result _ c.expr_at.ensures c.if-is_none.ensures)
    ∙ ap (λ (cell : Option Cell). option_map_or (λ (cell : Cell). Ok cell.value) cell (Err EvaluationError)) (sym c.in-Some.ensures))
    ∙ ap Ok (sym c.in_ok-copy-in-Some.ensures)

pub returns-in-None : goal.returns-in-None
returns-in-None c =
    ap passed_on (unbound c.args.self.now c.args.at c.requires (not_there _ c.expr_at.result _ c.expr_at.ensures c.if-is_none.ensures)
    ∙ ap (λ (cell : Option Cell). option_map_or (λ (cell : Cell). Ok cell.value) cell (Err EvaluationError)) (sym c.in-None.ensures))

pub returns-in-Some-cell_at : goal.returns-in-Some-cell_at
returns-in-Some-cell_at c =
    ap passed_on (unkept c.args.self.now c.args.at (sym (some_kept _ c.expr_at.result _ c.expr_at.ensures) ∙ c.if-is_none.ensures)
    (sym c.in_default.ensures) (Some _) (sym c.in-Some-cell_at.ensures))

pub returns-in-None-cell_at : goal.returns-in-None-cell_at
returns-in-None-cell_at c =
    ap passed_on (unkept c.args.self.now c.args.at (sym (some_kept _ c.expr_at.result _ c.expr_at.ensures) ∙ c.if-is_none.ensures)
    (sym c.in_default.ensures) None (sym c.in-None-cell_at.ensures))
