-- What properties show, as contracts see it.
use Rattle.std.proofs.Common.{◌≡◌, ◌∙◌, ◌&&◌, ℕ, Bool, true, false, cond, List, [], Option, Some, None, Ok, Err, is_some, option_map, refl, sym, ap}
use Rattle.std.specs.Option.{option_map_or}
use Rattle.variant_value.specs.declared.value.Value.{Value}
use Rattle.variant_value.specs.declared.value.Value.TheVariants.{Invalid}
use Rattle.shared_rows.specs.Table.{Table}
use Rattle.property_store.specs.Store.{Store, written}
use Rattle.term_core.specs.Term.{Term}
use Rattle.binding_values.specs.declared.property.BindingError.{BindingError}
use Rattle.binding_values.specs.declared.property.BindingError.TheVariants.{EvaluationError}
use Rattle.property_store.specs.declared.property.Property.{Property}
use Rattle.binding_values.specs.declared.shown.Shown.{Shown}
use Rattle.binding_values.specs.Graph.{Graph, fresh, is_bound, is_open, shown_as, shown_at, shown_now, taken, value_in}
use Rattle.binding_values.specs.Scene.{Cell, Outcome, term_at}
use Rattle.binding_values.specs.Stored.{cell_in, outcome_in, scene_of}
use Rattle.binding_graph.specs.Table.{graph_at}
use Rattle.binding_values.proofs.ForCallers.{fresh_unbound, term_there}
use Rattle.session_model.specs.State.{closed}
use Rattle.session_tables.specs.Bound.{all_closed}
use Rattle.session_tables.proofs.SettledLemmas.{closed_at, closed_bindings}

-- the value that is shown, and its error
abbrev pub value_of : Option Shown → Value × Option BindingError
value_of shown = option_map_or (λ shown. (shown.value, shown.error)) shown (Invalid, None)

-- what is kept is shown in groups alone
pub value_kept : (store : Store) (graph : Graph) (q : Property) (last : List Shown) → is_open graph ≡ false
    → value_in store (record graph { last = last }) q ≡ value_in store graph q
value_kept store graph q last shut = ap (λ deep. value_of (shows (record graph { last = last }) deep (is_bound graph.bindings q))) shut
    ∙ sym (ap (λ deep. value_of (shows graph deep (is_bound graph.bindings q))) shut)
  where
    shows : Graph → Bool → Bool → Option Shown
    shows graph deep bound = cond (deep && bound)
        (option_map (λ cell. option_map_or (λ (shown : Shown). shown) (shown_at graph.last q) (fresh q cell.kind)) (cell_in store q))
        (shown_now store graph.bindings q)

pub value_closed : (store : Store) (graph : Graph) (q : Property) → value_in store (closed graph) q ≡ value_in store graph q
value_closed store graph q = by (is_open graph) refl
  where
    by : (deep : Bool) → is_open graph ≡ deep → value_in store (cond deep graph (record graph { last = [] })) q ≡ value_in store graph q
    by true e = refl
    by false e = value_kept store graph q [] e

pub value_seen : (store : Store) (graphs seen : Table Graph) (place : ℕ) (q : Property) → all_closed graphs ≡ seen
    → value_in store (graph_at seen place) q ≡ value_in store (graph_at graphs place) q
value_seen store graphs seen place q is = ap (λ graphs. value_in store (graph_at graphs place) q) (sym is)
    ∙ (ap (λ graph. value_in store graph q) (closed_at graphs place) ∙ value_closed store (graph_at graphs place) q)

-- a property that is not bound shows what is stored
pub unbound_shown : (store : Store) (graph : Graph) (q : Property) → is_bound graph.bindings q ≡ false
    → value_in store graph q ≡ (option_map_or (λ (cell : Cell). cell.value) (cell_in store q) Invalid, None)
unbound_shown store graph q unbound = ap value_of (by (is_open graph))
    ∙ (ap (λ (outcome : Outcome). value_of (option_map (λ (cell : Cell). shown_as q cell.kind outcome) (cell_in store q))) now ∙ stored (cell_in store q))
  where
    kept : Option Shown
    kept = option_map (λ (cell : Cell). option_map_or (λ (shown : Shown). shown) (shown_at graph.last q) (fresh q cell.kind)) (cell_in store q)

    by : (deep : Bool) → cond (deep && is_bound graph.bindings q) kept (shown_now store graph.bindings q) ≡ shown_now store graph.bindings q
    by true = ap (λ bound. cond bound kept (shown_now store graph.bindings q)) unbound
    by false = refl

    none : (term : Option Term) → is_some term ≡ false → term ≡ None
    none None e = refl
    none (Some term) e = absurd (cc)

    never : (there : Bool) → cond there None None ≡ (let nothing : Option Term = None in nothing)
    never true = refl
    never false = refl

    now : outcome_in store graph.bindings q ≡ option_map_or (λ (cell : Cell). Ok cell.value) (cell_in store q) (Err EvaluationError)
    now = fresh_unbound (scene_of store graph.bindings) [] q
        (term_there store q graph.bindings ∙ (ap (λ term. cond (is_some (cell_in store q)) term None) (none (term_at graph.bindings q) unbound)
        ∙ never (is_some (cell_in store q)))) refl

    stored : (found : Option Cell) → value_of
        (option_map (λ (cell : Cell). shown_as q cell.kind (option_map_or (λ (cell : Cell). Ok cell.value) found (Err EvaluationError))) found)
        ≡ (option_map_or (λ (cell : Cell). cell.value) found Invalid, None)
    stored None = refl
    stored (Some cell) = refl

-- what is found in two ways is one value
pub one_value : {X Y : Type 0} (f : X → Value) (g : Y → Value) (x : Option X) (y : Option Y) → option_map f x ≡ option_map g y
    → option_map_or f x Invalid ≡ option_map_or g y Invalid
one_value f g None None e = refl
one_value f g None (Some b) e = absurd (cc)
one_value f g (Some a) None e = absurd (cc)
one_value f g (Some a) (Some b) e = cc

-- so what is taken is the same
pub taken_closed : (store : Store) (graph : Graph) (q : Property) → taken store (closed graph) q ≡ taken store graph q
taken_closed store graph q =
    ap (λ bindings. cond (is_bound bindings q) (written store q.object q.number (value_in store (closed graph) q).0) store) (closed_bindings graph)
    ∙ ap (λ (value : Value × Option BindingError). cond (is_bound graph.bindings q) (written store q.object q.number value.0) store)
    (value_closed store graph q)
