use Rattle.std.proofs.Common.{◌≡◌, ◌∙◌, Option, Result, Ok, Err, IfOk, ap, subst, sym}
use Rattle.variant_value.specs.declared.value.Value.{Value}
use Rattle.variant_value.specs.Values.{IsShort}
use Rattle.binding_values.specs.declared.property.BindingError.{BindingError}
use Rattle.property_store.specs.Table.{store_at}
use Rattle.binding_graph.specs.GraphAndCache.{GraphAndCache, IsAt}
use Rattle.binding_values.specs.Graph.{IsSound}
use Rattle.binding_values.proofs.ForCallers.{value_short}
use Rattle.binding_graph.proofs.PlaceLemmas.{pair_in_step}
use Rattle.binding_graph.proofs.bindings.Bindings.value.Goals as goal

carried : {E : Type 0} (r : Result (Value × Option BindingError) E) (v : Value × Option BindingError) → IsShort v.0 → IfOk r (λ found. found ≡ v)
    → IfOk r (λ found. IsShort found.0)
carried (Ok found) v short is = subst (λ (f : Value × Option BindingError). IsShort f.0) (sym is) short
carried (Err e) v short is = tt

pub value-requires-clause-step : goal.value-requires-clause-step
value-requires-clause-step c = subst (IsAt c.args.stores.now c.args.place) (sym c.in-Some.ensures.some)
    (pair_in_step c.args.stores.now c.args.self.now c.requires.step c.args.place)

pub returns-in-Some-clause-short : goal.returns-in-Some-clause-short
returns-in-Some-clause-short c = carried c.value.result _
    (value_short (store_at c.args.stores.now.shelves c.args.place) c.count.ensures.sound c.in-Some.graph.now.graph
    (subst IsSound (sym (ap (λ (pair : GraphAndCache). pair.graph) c.in-Some.ensures.some)) c.count-2.ensures.sound) c.args.at) c.value.ensures

pub returns-in-None-clause-short : goal.returns-in-None-clause-short
returns-in-None-clause-short c = carried c.value-in-None-2.result _
    (value_short (store_at c.args.stores.now.shelves c.args.place) c.count.ensures.sound c.new.result.graph
    (subst IsSound (ap (λ (pair : GraphAndCache). pair.graph) (c.in-None.ensures.none ∙ sym c.new.ensures)) c.count-2.ensures.sound) c.args.at)
    c.value-in-None-2.ensures
