use Rattle.std.proofs.Common.{◌∙◌, ◌++◌, [], add-one, ap, filter_map, get_or, subst, sym, arith}
use Rattle.std.specs.List.{flat_map}
use Rattle.std.proofs.lemmas.List.{take_all}
use Rattle.property_store.specs.Store.{Properties}
use Rattle.property_store.specs.Table.{store_at}
use Rattle.binding_values.specs.Graph.{AreShown, shown_now}
use Rattle.binding_values.specs.Stored.{properties_of_object}
use Rattle.binding_values.proofs.ForCallers.{all_shown_sound, next_object}
use Rattle.binding_graph.proofs.show.show_all.Goals as goal

nothing : Properties
nothing = record { object = 0; fields = []; values = []; dynamic = [] }

pub loop-position-preserved : goal.loop-position-preserved
loop-position-preserved c = rw add-one (c.in_ok-show_object.ensures nothing
    ∙ (ap (λ ys. ys ++ filter_map (shown_now (store_at c.args.stores.now.shelves c.args.place) c.args.bindings.now)
    (properties_of_object (get_or (store_at c.args.stores.now.shelves c.args.place) c.loop-position.position nothing))) c.loop-position.invariant
    ∙ sym (next_object (shown_now (store_at c.args.stores.now.shelves c.args.place) c.args.bindings.now)
    (store_at c.args.stores.now.shelves c.args.place) c.loop-position.position nothing
    (omega (arith, c.loop-position-test.true, c.count-position-end.ensures.count)))))

pub from_rows-requires : goal.from_rows-requires
from_rows-requires c =
    subst AreShown
    (sym (c.loop-position.invariant ∙ ap (λ store. filter_map (shown_now (store_at c.args.stores.now.shelves c.args.place) c.args.bindings.now)
    (flat_map properties_of_object store)) (take_all c.loop-position.position (store_at c.args.stores.now.shelves c.args.place)
    (omega (arith, c.loop-position-test.false, c.count-position-end.ensures.count)))))
    (all_shown_sound (store_at c.args.stores.now.shelves c.args.place) c.count-position-end.ensures.sound c.args.bindings.now c.len.ensures.sound)
