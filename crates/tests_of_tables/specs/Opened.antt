-- The stores and bindings with which the tests begin.
use Rattle.std.specs.Prelude.{◌≡◌, length}
use Rattle.property_store.specs.Table.{StoresView}
use Rattle.binding_graph.specs.Step.{InStep}
use Rattle.binding_graph.specs.Table.{Graphs}

-- Two places are open in both tables, which are in step.
pub record AreTwo (stores : StoresView) (bindings : Graphs) : Type 0 where
  pub step : InStep stores bindings
  pub shelves : length stores.shelves.table.places ≡ 2
  pub graphs : length bindings.graphs.places ≡ 2
