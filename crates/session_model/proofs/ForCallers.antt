-- What other crates prove by.
pub use Rattle.session_model.proofs.ActionLemmas.{operation_is_done, set_done, set_faulty, when_failed, when_faulty}
pub use Rattle.session_model.proofs.ActionLemmas.{when_held}
pub use Rattle.session_model.proofs.AloneLemmas.{going_told, its_cell, write_told}
pub use Rattle.session_model.proofs.ArrivingLemmas.{arrive_all-append, arrive_all-is}
pub use Rattle.session_model.proofs.BindLemmas.{bind_done, bind_found, performs_begin, performs_end}
pub use Rattle.session_model.proofs.BindLemmas.{refusal_begin, refusal_bind, refusal_end}
pub use Rattle.session_model.proofs.BindLemmas.{refusal_unbind, unbind_done}
pub use Rattle.session_model.proofs.BindableLemmas.{may_be_bound}
pub use Rattle.session_model.proofs.ClassLemmas.{class_there, described_at}
pub use Rattle.session_model.proofs.CommandLemmas.{keeps_declared, keeps_fitting, keeps_named, keeps_sound}
pub use Rattle.session_model.proofs.DeletionLemmas.{detach_delete_children, delete_none, delete_some, gone_now, delete_child_none, delete_child_some}
pub use Rattle.session_model.proofs.EmissionLemmas.{call_spent, call_taken, emit_absent, emit_calls, emit_deep}
pub use Rattle.session_model.proofs.EmissionLemmas.{emit_held_back, run_functor, run_functor_absent, run_slot}
pub use Rattle.session_model.proofs.EmissionLemmas.{warn_of_told, warn_told}
pub use Rattle.session_model.proofs.EventLemmas.{performs_do, performs_spin, refusal_do, refusal_spin}
pub use Rattle.session_model.proofs.EventLemmas.{spin_empty, spin_spent, spin_taken}
pub use Rattle.session_model.proofs.FallLemmas.{falls}
pub use Rattle.session_model.proofs.FilterLemmas.{find-passes}
pub use Rattle.session_model.proofs.FittingAskedLemmas.{asked_fits}
pub use Rattle.session_model.proofs.InPlaceLemmas.{acts-put_in}
pub use Rattle.session_model.proofs.JoinLemmas.{post_stranger}
pub use Rattle.session_model.proofs.LaterLemmas.{run_later}
pub use Rattle.session_model.proofs.Lawful.{lawful}
pub use Rattle.session_model.proofs.LivingLemmas.{living_rows}
pub use Rattle.session_model.proofs.NextCallLemmas.{calls_to, emission_end, emission_first, emission_next}
pub use Rattle.session_model.proofs.PropertyLemmas.{refusal_set, set_written}
pub use Rattle.session_model.proofs.QuietLemmas.{showing_same}
pub use Rattle.session_model.proofs.RemainingLemmas.{remaining}
pub use Rattle.session_model.proofs.RunLemmas.{after_first, at_end, by_change, by_step, in_parts, run_keeps}
pub use Rattle.session_model.proofs.RunLemmas.{run_shrinks}
pub use Rattle.session_model.proofs.SharingLemmas.{performs_join, performs_leave, performs_publish, performs_reset}
pub use Rattle.session_model.proofs.SharingLemmas.{performs_unpublish, refusal_join, refusal_leave, refusal_publish}
pub use Rattle.session_model.proofs.SharingLemmas.{refusal_reset, refusal_unpublish}
pub use Rattle.session_model.proofs.ShowingLemmas.{tells}
pub use Rattle.session_model.proofs.ShrinkLemmas.{Shrinks, dying_less, severed_shrinks}
pub use Rattle.session_model.proofs.SignalLemmas.{invoke_none, performs_connect, performs_connect_functor}
pub use Rattle.session_model.proofs.SignalLemmas.{performs_disconnect, performs_disconnect_one, performs_invoke}
pub use Rattle.session_model.proofs.SignalLemmas.{refusal_connect, refusal_connect_functor, refusal_disconnect}
pub use Rattle.session_model.proofs.SignalLemmas.{refusal_disconnect_one, refusal_invoke}
pub use Rattle.session_model.proofs.StepLemmas.{Holds, step_holds}
pub use Rattle.session_model.proofs.ThreadLemmas.{query_passed, query_refused, query_replies, replies_last, spun_last}
pub use Rattle.session_model.proofs.TreeLemmas.{performs_delete, performs_new, refusal_delete, refusal_new}
pub use Rattle.session_model.proofs.WeightLemmas.{functor-size}
pub use Rattle.session_model.proofs.WritingLemmas.{dynamic_removed, dynamic_set, nothing_written}
