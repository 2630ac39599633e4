use Rattle.std.proofs.Common.{None, refl}
use Rattle.binding_values.specs.Graph.{no_graph}
use Rattle.binding_graph.specs.Cache.{no_cache}
use Rattle.property_store.specs.Table.{store_at}
use Rattle.property_store.specs.Marks.{marks_at}
use Rattle.binding_graph.proofs.StepLemmas.{all_in_step}
use Rattle.binding_graph.proofs.PlaceLemmas.{kept_here, others_kept, place_there, put_in_step, with_pair}
use Rattle.binding_graph.proofs.bindings.Bindings.clear.Goals as goal

pub returns-clause-cleared : goal.returns-clause-cleared
returns-clause-cleared c = rw (← c.self.view_is) (with_pair c.self.inside.graphs c.args.place None)

pub returns-clause-nothing : goal.returns-clause-nothing
returns-clause-nothing c = kept_here c.self.inside.graphs c.args.place None
    (place_there c.self.inside.graphs c.args.place (rw (← c.self.view_is) at c.requires))

pub returns-clause-others : goal.returns-clause-others
returns-clause-others c = rw (← c.self.view_is) (others_kept c.self.inside.graphs c.args.place None)

pub returns-clause-step : goal.returns-clause-step
returns-clause-step c =
    rw (← c.self.view_is)
    (λ stores step. put_in_step stores stores c.self.inside.graphs c.args.place None
    (place_there c.self.inside.graphs c.args.place (rw (← c.self.view_is) at c.requires)) (λ other apart. refl) (λ other apart. refl)
    (all_in_step (store_at stores.shelves c.args.place) (marks_at stores.marks c.args.place) no_graph no_cache refl refl) step)
