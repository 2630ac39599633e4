use Rattle.std.proofs.Common.{◌∙◌, Some, ap}
use Rattle.property_store.specs.Table.{store_at}
use Rattle.binding_values.specs.EvalResult.{kept_of}
use Rattle.binding_graph.proofs.KnownLemmas.{shown_so}
use Rattle.binding_graph.proofs.show.show_kept.Goals as goal

pub returns : goal.returns
returns c = ap Some c.shown_as.ensures ∙ shown_so (store_at c.args.stores.now.shelves c.args.place) c.args.bindings.now
    (kept_of c.args.kept.now) c.requires.complete c.args.at (record { kind = c.in-Some.kind; value = c.in-Some.stored.now }) c.in-Some.ensures
    c.in_ok-outcome.outcome c.in_ok-outcome.ensures
