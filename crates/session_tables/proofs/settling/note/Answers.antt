use Rattle.property_store.specs.Table.{store_at}
use Rattle.session_tables.proofs.PlaceLemmas.{settled_alike}
use Rattle.session_tables.proofs.settling.note.Goals as goal

pub returns-in_ok-settle-clause-graphs : goal.returns-in_ok-settle-clause-graphs
returns-in_ok-settle-clause-graphs c =
    settled_alike (store_at c.args.stores.now.shelves c.args.place) c.args.bindings.now.graphs c.settle.new.self.graphs c.args.place c.in_ok-settle.ensures.ok
