use Rattle.std.proofs.Common.{◌∙◌, ap, rules}
use Rattle.property_store.specs.Table.{store_at}
use Rattle.binding_values.specs.Graph.{stored_value}
use Rattle.binding_graph.specs.WriteChanges.{changes_in}
use Rattle.binding_graph.proofs.AloneLemmas.{alone_changes}
use Rattle.binding_graph.proofs.SettlingLemmas.{drained_in_step}
use Rattle.binding_graph.proofs.graph.BindingGraph.settle_written.Goals as goal

pub refresh_alone-requires-clause-step : goal.refresh_alone-requires-clause-step
refresh_alone-requires-clause-step c =
    drained_in_step c.drain.ensures.stores c.drain.ensures.kept (rw (← c.self.view_is) at c.requires.step)

pub returns-in-Some-clause-told : goal.returns-in-Some-clause-told
returns-in-Some-clause-told c =
    ap (changes_in c.args.at (stored_value (store_at c.args.stores.now.shelves c.args.place) c.args.at)) c.alone.ensures
    ∙ (alone_changes c.args.at (stored_value (store_at c.args.stores.now.shelves c.args.place) c.args.at) c.in-Some.is_change ∙ search rules)
