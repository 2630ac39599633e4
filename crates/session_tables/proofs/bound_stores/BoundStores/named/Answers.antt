use Rattle.std.proofs.Common.{◌≡◌, ◌∙◌, Some, Option, Bor, option_map, option_and_then, sym, ap, subst}
use Rattle.property_store.specs.Store.{IsSound, named_value, properties_of}
use Rattle.variant_value.specs.declared.value.Value.{Value}
use Rattle.binding_values.specs.declared.property.BindingError.{BindingError}
use Rattle.binding_values.specs.Graph.{value_in}
use Rattle.binding_graph.specs.Table.{graph_at}
use Rattle.session_tables.specs.Bound.{BoundShelves, bound_at, stored_at}
use Rattle.session_tables.proofs.ShowingLemmas.{value_seen}
use Rattle.session_tables.proofs.ReadingLemmas.{named_bound, named_unbound, no_some}
use Rattle.session_tables.proofs.bound_stores.BoundStores.named.Goals as goal

pub returns-in-Some : goal.returns-in-Some
returns-in-Some c =
    let store = stored_at c.args.self.now c.args.place in
    let value : c.in_ok-value.value ≡ (value_in store (bound_at c.args.self.now c.args.place) c.in-Some.at).0 =
    ap (λ (found : Value × Option BindingError). found.0) c.in_ok-value.ensures.value
    ∙ (ap (λ (bound : BoundShelves). (value_in (stored_at bound c.args.place) (graph_at c.self.inside.bindings.graphs c.args.place) c.in-Some.at).0)
    c.self.view_is
    ∙ sym (ap (λ (found : Value × Option BindingError). found.0)
    (value_seen store c.self.inside.bindings.graphs c.args.self.now.graphs c.args.place c.in-Some.at
    (ap (λ (bound : BoundShelves). bound.graphs) c.self.view_is)))) in
    ap Some value ∙ sym (named_bound store (bound_at c.args.self.now c.args.place) c.args.object c.args.name.now c.in-Some.at
    (sym c.bound_named.ensures ∙ c.in-Some.is))

pub returns-in_ok-copy-in-Some-value_named : goal.returns-in_ok-copy-in-Some-value_named
returns-in_ok-copy-in-Some-value_named c =
    ap Some c.in_ok-copy-in-Some-value_named.ensures
    ∙ (sym (ap (option_map (λ (value : Bor Value). value.now)) c.in-Some-value_named.is)
    ∙ (c.value_named.ensures ∙ ap (λ (bound : BoundShelves). option_and_then (named_value c.args.name.now)
    (properties_of (stored_at bound c.args.place) c.args.object)) c.self.view_is)
    ∙ sym (named_unbound (stored_at c.args.self.now c.args.place) (bound_at c.args.self.now c.args.place) c.args.object c.args.name.now
    (subst (λ (bound : BoundShelves). IsSound (stored_at bound c.args.place)) c.self.view_is c.count.ensures.sound)
    (no_some c.bound_named.ensures c.in_default.not-Some)))

pub returns-in-None : goal.returns-in-None
returns-in-None c = sym (ap (option_map (λ (value : Bor Value). value.now)) c.in-None.is)
    ∙ (c.value_named.ensures ∙ ap (λ (bound : BoundShelves). option_and_then (named_value c.args.name.now)
    (properties_of (stored_at bound c.args.place) c.args.object)) c.self.view_is)
    ∙ sym (named_unbound (stored_at c.args.self.now c.args.place) (bound_at c.args.self.now c.args.place) c.args.object c.args.name.now
    (subst (λ (bound : BoundShelves). IsSound (stored_at bound c.args.place)) c.self.view_is c.count.ensures.sound)
    (no_some c.bound_named.ensures c.in_default.not-Some))
