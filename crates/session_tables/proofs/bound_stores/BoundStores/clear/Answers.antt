use Rattle.std.proofs.Common.{[], refl}
use Rattle.binding_values.specs.Graph.{no_graph}
use Rattle.session_tables.proofs.SeenLemmas.{put_seen}
use Rattle.session_tables.proofs.bound_stores.BoundStores.clear.Goals as goal

pub returns : goal.returns
returns c = rw (← c.self.view_is) (put_seen c.self.inside.stores.shelves c.clear.new.self.shelves c.self.inside.bindings c.clear-2.new.self c.args.place
    [] no_graph no_graph c.clear.ensures.stores c.clear-2.ensures.cleared refl)
