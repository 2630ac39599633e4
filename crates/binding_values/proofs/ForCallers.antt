-- What other crates prove by.
pub use Rattle.binding_values.proofs.BoundLemmas.{fewer_sound, with_limited}
pub use Rattle.binding_values.proofs.FuelLemmas.{by_unmet, is_itself, plain_rule, property_eq}
pub use Rattle.binding_values.proofs.EvalCacheLemmas.{inserted_other}
pub use Rattle.binding_values.proofs.KeepingLemmas.{set_here, set_other}
pub use Rattle.binding_values.proofs.KeptLemmas.{cell_there, fresh_unbound, hand_unbound, known_kept, known_none}
pub use Rattle.binding_values.proofs.KeptLemmas.{known_steady, known_unbound, knows, none_some, same_evaluation}
pub use Rattle.binding_values.proofs.KeptLemmas.{steady_reads, unbound_unkept}
pub use Rattle.binding_values.proofs.MapLemmas.{all_given, each_given, pairs_append, pairs_given, some_kept}
pub use Rattle.binding_values.proofs.ReachedLemmas.{among_contains, longer_among}
pub use Rattle.binding_values.proofs.SortedLemmas.{before_trans, found_none, found_row, gap_there, insert_rising}
pub use Rattle.binding_values.proofs.SortedLemmas.{inserted, is_behind, is_its_row, is_other, is_property_sym}
pub use Rattle.binding_values.proofs.SortedLemmas.{never_before, not_behind, others_before, replaced, row_there}
pub use Rattle.binding_values.proofs.SortedLemmas.{set_rising, with_rising, without_none, without_row}
pub use Rattle.binding_values.proofs.StoredLemmas.{term_there}
pub use Rattle.binding_values.proofs.CompletenessLemmas.{complete_is_known, complete_is_right, unmarked_is_complete}
pub use Rattle.binding_values.proofs.StepLemmas.{AreAlikeBut, alike, stays_right, stays_whole}
pub use Rattle.binding_values.proofs.StoreLemmas.{addition_is_marked, all_may_change, binding_is_marked, cell_gone}
pub use Rattle.binding_values.proofs.StoreLemmas.{cell_stays, dynamic_is_nothing, kept_objects, no_dynamic_is_nothing}
pub use Rattle.binding_values.proofs.StoreLemmas.{removal_is_alike, unbinding_is_marked, write_is_marked}
pub use Rattle.binding_values.proofs.FoundLemmas.{found_in_all, shown_of}
pub use Rattle.binding_values.proofs.FitLemmas.{shown_now_fits}
pub use Rattle.binding_values.proofs.ShownLemmas.{all_shown_sound, next_numbered, next_object, value_short}
pub use Rattle.binding_values.proofs.ToldLemmas.{changes_fit, settling_sound}
pub use Rattle.binding_values.proofs.TouchedLemmas.{behind_first, changes_of_touched, found_filter, merged_is_all, none_behind}
pub use Rattle.binding_values.proofs.TouchedLemmas.{same_rows, same_value, without_first}
