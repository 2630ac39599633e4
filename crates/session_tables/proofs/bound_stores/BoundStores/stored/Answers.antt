use Rattle.std.proofs.Common.{◌≡◌, ◌∙◌, None, Some, Option, IfSome, Bor, option_map, sym, ap, subst}
use Rattle.property_store.specs.Store.{value_at, IsSound}
use Rattle.variant_value.specs.declared.value.Value.{Value}
use Rattle.variant_value.specs.Values.{IsShort}
use Rattle.property_store.specs.Table.{store_at}
use Rattle.binding_values.specs.Scene.{Cell}
use Rattle.binding_values.specs.Stored.{cell_in}
use Rattle.session_tables.specs.Bound.{BoundShelves, bound_at, stored_at}
use Rattle.session_tables.proofs.ShowingLemmas.{one_value, unbound_shown}
use Rattle.session_tables.proofs.CellLemmas.{cell_value, stored_short}
use Rattle.session_tables.proofs.bound_stores.BoundStores.stored.Goals as goal

pub returns-clause-value : goal.returns-clause-value
returns-clause-value c =
    let now = c.args.self.now in
    let store = stored_at now c.args.place in
    let found : option_map (λ (value : Bor Value). value.now) c.value.result ≡ option_map (λ (cell : Cell). cell.value) (cell_in store c.args.at) =
    c.value.ensures.value ∙ (ap (λ (bound : BoundShelves). value_at (stored_at bound c.args.place) c.args.at.object c.args.at.number) c.self.view_is
    ∙ sym (cell_value store (subst (λ (bound : BoundShelves). IsSound (stored_at bound c.args.place)) c.self.view_is c.count.ensures.sound) c.args.at)) in
    ap (λ value. (value, None)) (one_value (λ (value : Bor Value). value.now) (λ (cell : Cell). cell.value) c.value.result (cell_in store c.args.at) found)
    ∙ sym (unbound_shown store (bound_at now c.args.place) c.args.at c.requires.unbound)

pub returns-clause-short : goal.returns-clause-short
returns-clause-short c = by c.value.result c.value.ensures.value
  where
    by : (found : Option (Bor Value)) → option_map (λ value. value.now) found
        ≡ value_at (store_at c.self.inside.stores.shelves c.args.place) c.args.at.object c.args.at.number → IfSome found (λ value. IsShort value.now)
    by None e = tt
    by (Some value) e = stored_short (store_at c.self.inside.stores.shelves c.args.place) c.count.ensures.sound c.args.at.object c.args.at.number value.now
        (sym e)
