use Rattle.std.proofs.Common.{[], sym, subst}
use Rattle.property_store.specs.Pending.{only}
use Rattle.property_store.specs.Table.{store_at}
use Rattle.binding_values.specs.EvalResult.{kept_of}
use Rattle.binding_values.specs.Stored.{scene_of}
use Rattle.binding_values.specs.Right.{IsWhole}
use Rattle.binding_values.proofs.SettlingLemmas.{bound_or_not}
use Rattle.binding_values.proofs.kept_index.KeptIndex.settle_all.Goals as goal

pub settle-requires-clause-whole : goal.settle-requires-clause-whole
settle-requires-clause-whole c =
    let store = store_at c.args.stores.now.shelves c.args.place in
    subst (λ rows. IsWhole (scene_of store c.args.bindings.now) (only c.in_ok-bound.bound.items) (kept_of rows)) (sym c.clear.ensures)
    (subst (λ touched. IsWhole (scene_of store c.args.bindings.now) (only touched) (kept_of [])) (sym c.in_ok-bound.ensures)
    (bound_or_not store c.args.bindings.now))
