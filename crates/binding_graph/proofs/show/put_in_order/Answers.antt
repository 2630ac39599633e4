use Rattle.std.proofs.Common.{sym}
use Rattle.std.proofs.lemmas.List.Sorted.{list_any-IsPermutation}
use Rattle.property_store.specs.Property.{is_property}
use Rattle.binding_graph.proofs.show.put_in_order.Goals as goal

pub returns : goal.returns
returns c = λ q. sym (list_any-IsPermutation (is_property q) c.args.properties.now c.sort_unstable_by_key.new.self c.sort_unstable_by_key.ensures.permutation)
