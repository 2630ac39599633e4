use Rattle.std.proofs.Common.{refl}
use Rattle.property_store.specs.Store.{without_dynamic}
use Rattle.session_tables.proofs.HereLemmas.{graph_stands, shelf_stands}
use Rattle.session_tables.proofs.InvariantLemmas.{settled_changed}
use Rattle.session_tables.proofs.tables.Tables.remove_dynamic.Goals as goal

pub invariant_of-self : goal.invariant_of-self
invariant_of-self c =
    let stores = c.self.inside.0.1.0.stores in
    let place = shelf_stands stores.shelves c.self.inside.0.1.0.bindings c.self.view_is c.requires in
    let there = graph_stands stores.shelves c.self.inside.0.1.0.bindings c.self.view_is c.requires in
    settled_changed (without_dynamic c.args.name.now) c.args.object (λ of. refl) (λ of. refl)
    (λ of. refl) stores c.remove_dynamic.new.self c.self.inside.0.1.0.bindings c.args.place place there c.self.invariant c.remove_dynamic.ensures.stores
    (c.law_steps.ensures.remove_dynamic stores c.remove_dynamic.new.self c.args.place c.args.object c.args.name.now place c.remove_dynamic.ensures.stores
    c.remove_dynamic.ensures.marks c.self.inside.0.1.0.bindings c.self.invariant.step)
