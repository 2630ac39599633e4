-- How the logic stores bindings, and the results of evaluations.
use Rattle.std.specs.Prelude.{List}
use Rattle.std.specs.Coded.{Coded, coded_list}
use Rattle.binding_values.specs.declared.binding.Binding.{Binding}
use Rattle.binding_values.specs.declared.eval_result.CacheEntry.{CacheEntry}
use Rattle.binding_values.specs.contracts.binding.Binding as binding
use Rattle.binding_values.specs.contracts.eval_result.CacheEntry as done

abbrev pub coded_bindings : Coded (List Binding)
coded_bindings = coded_list binding.the_row.coded

abbrev pub coded_eval_cache : Coded (List CacheEntry)
coded_eval_cache = coded_list done.the_row.coded
