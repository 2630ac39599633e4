use Rattle.std.proofs.Common.{◌≡◌, Ok, Err, Result, OnOk, OnErr, refl, sym, subst}
use Rattle.plain_types.specs.declared.fault.Fault.{Fault}
use Rattle.shared_rows.specs.Table.{IsPlace}
use Rattle.property_store.specs.Store.{changed, with_dynamic}
use Rattle.property_store.specs.Table.{StoresView, store_at}
use Rattle.binding_graph.specs.Step.{HasStore}
use Rattle.session_tables.specs.Settled.{AllSettled}
use Rattle.session_tables.proofs.HereLemmas.{graph_stands, shelf_stands}
use Rattle.session_tables.proofs.InvariantLemmas.{settled_changed}
use Rattle.session_tables.proofs.tables.Tables.set_dynamic.Goals as goal

pub invariant_of-self : goal.invariant_of-self
invariant_of-self c = by c.set_dynamic.result c.set_dynamic.ensures.ok c.set_dynamic.ensures.err
  where
    stores : StoresView
    stores = c.self.inside.0.1.0.stores

    place : IsPlace stores.shelves.table c.args.place
    place = shelf_stands stores.shelves c.self.inside.0.1.0.bindings c.self.view_is c.requires.place

    by : (result : Result (Unit {0}) Fault) →
        OnOk result (HasStore c.args.place (changed (with_dynamic c.args.name c.args.value) c.args.object (store_at stores.shelves c.args.place)) stores
        c.set_dynamic.new.self) → OnErr result (c.set_dynamic.new.self ≡ stores) → AllSettled c.set_dynamic.new.self c.self.inside.0.1.0.bindings
    by (Ok done) ok err =
        settled_changed (with_dynamic c.args.name c.args.value) c.args.object (λ of. refl) (λ of. refl)
        (λ of. refl) stores c.set_dynamic.new.self c.self.inside.0.1.0.bindings c.args.place place
        (graph_stands stores.shelves c.self.inside.0.1.0.bindings c.self.view_is c.requires.place) c.self.invariant ok
        (c.law_steps.ensures.set_dynamic stores c.set_dynamic.new.self c.args.place c.args.object c.args.name c.args.value place ok c.set_dynamic.ensures.marks
        c.self.inside.0.1.0.bindings c.self.invariant.step)
    by (Err fault) ok err = subst (λ stores. AllSettled stores c.self.inside.0.1.0.bindings) (sym err) c.self.invariant
