use Rattle.std.proofs.Common.{◌≡◌, ◌∙◌, ◌++◌, ◌∷◌, [], List, Option, add-one, ap, append_assoc, drop, filter_map, suc, sym}
use Rattle.property_store.specs.Table.{store_at}
use Rattle.property_store.specs.declared.property.Property.{Property}
use Rattle.binding_values.specs.declared.shown.Shown.{Shown}
use Rattle.binding_values.specs.Graph.{shown_now}
use Rattle.binding_values.specs.Stored.{numbered}
use Rattle.binding_values.proofs.ForCallers.{next_numbered}
use Rattle.binding_graph.proofs.show.show_object.Goals as goal

pub loop-number-preserved : goal.loop-number-preserved
loop-number-preserved c = rw (add-one, c.in_ok-put_shown.ensures) rows
  where
    f : Property → Option Shown
    f = shown_now (store_at c.args.stores.now.shelves c.args.place) c.args.bindings.now

    at : Property
    at = record { object = c.object_at-object.result.0; number = c.loop-number.number }

    rest : List Property
    rest = numbered c.object_at-object.result.0 (suc c.loop-number.number) (drop (suc c.loop-number.number) c.object_at-object.result.1.now)

    rows : (c.loop-number.rows.items ++ filter_map f (at ∷ [])) ++ filter_map f rest ≡ c.args.rows.now.items
        ++ filter_map f (numbered c.object_at-object.result.0 0 c.object_at-object.result.1.now)
    rows =
        append_assoc c.loop-number.rows.items (filter_map f (at ∷ [])) (filter_map f rest)
        ∙ (ap (λ ys. c.loop-number.rows.items ++ ys)
        (sym (next_numbered f c.object_at-object.result.0 c.loop-number.number c.loop-number.number c.object_at-object.result.1.now
        c.loop-number-test.true)) ∙ c.loop-number.invariant)
