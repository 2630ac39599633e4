-- The words in which most proofs of this crate speak, passed on from the modules that define them.
pub use Rattle.class_table.specs.declared.class.Class.{Class}
pub use Rattle.dispatch.proofs.ForCallers.{does_none, front_same, here}
pub use Rattle.dispatch.specs.Agenda.{RunsItems}
pub use Rattle.dispatch.specs.CommandOutput.{doing_at, fresh_output}
pub use Rattle.dispatch.specs.Prefix.{IsPrefix}
pub use Rattle.dispatch.specs.declared.command_output.CommandOutput.{CommandOutput}
pub use Rattle.isolation.specs.World.{all_arrive}
pub use Rattle.plain_types.specs.Answers.{Answers}
pub use Rattle.plain_types.specs.declared.code.Code.{Code}
pub use Rattle.plain_types.specs.declared.code.Code.TheVariants.{SessionFailed}
pub use Rattle.plain_types.specs.declared.fault.Fault.{Fault}
pub use Rattle.plain_types.specs.declared.fault.Fault.TheVariants.{Memory, Refused}
pub use Rattle.property_store.specs.Store.{fields_in}
pub use Rattle.serde_json.specs.Data.{Data}
pub use Rattle.serde_json.specs.View.{view}
pub use Rattle.session_effects.proofs.ForCallers.{keeps_same}
pub use Rattle.session_effects.specs.Setup.{settings_of}
pub use Rattle.session_effects.specs.Writing.{told_items}
pub use Rattle.session_effects.specs.declared.session_context.SessionContext.{SessionContext}
pub use Rattle.session_engine.specs.Commands.{Performs, its_effect, its_refusal, reply_after}
pub use Rattle.session_engine.specs.Core.{EngineState, IsKept, IsWhole, engine_state, place, seen_by_name, sessions, states}
pub use Rattle.session_engine.specs.Engine.{seen_engine}
pub use Rattle.session_engine.specs.Items.{Coming, HasArrived, HasCome, HaveCome, item_of}
pub use Rattle.session_engine.specs.Sessions.{AreSound, Fails, IsStep, Sessions, is_reset, is_shut, session_after, session_does, session_refusal}
pub use Rattle.session_model.proofs.ForCallers.{at_end, performs_do, refusal_do}
pub use Rattle.session_model.specs.Agenda.{method_items}
pub use Rattle.session_model.specs.Asked.{Asked, asked}
pub use Rattle.session_model.specs.Binding.{reads_refusal}
pub use Rattle.session_model.specs.Effects.{does_next, ended, replies, unless}
pub use Rattle.session_model.specs.Execution.{begun, in_state, line_told}
pub use Rattle.session_model.specs.Fitting.{AreSettings, IsFittingAsked, IsRightPost}
pub use Rattle.session_model.specs.Items.{Item, Next, Spin, puts}
pub use Rattle.session_model.specs.Machine.{machine}
pub use Rattle.session_model.specs.Methods.{Found, ◌>>=◌}
pub use Rattle.session_model.specs.Operations.{found_refusal}
pub use Rattle.session_model.specs.Refusing.{refusal}
pub use Rattle.session_model.specs.Run.{run}
pub use Rattle.session_model.specs.Settings.{Settings}
pub use Rattle.session_model.specs.State.{State}
pub use Rattle.session_model.specs.Thread.{performs}
pub use Rattle.session_model.specs.declared.line.Line.{Line}
pub use Rattle.session_model.specs.declared.post.Post.{Post}
pub use Rattle.session_queries.proofs.ForCallers.{behind_first, behind_second}
pub use Rattle.session_tables.proofs.ForCallers.{changes_same, session_past, state_with}
pub use Rattle.session_tables.specs.Reaching.{Reaches, ReceivesPosts, after_posts}
pub use Rattle.session_tables.specs.Session.{Session, failed_session, fresh}
pub use Rattle.session_tables.specs.Tables.{ChangesOnly, IsPlaced, session_at, state_at}
pub use Rattle.session_tables.specs.declared.tables.Tables.{Tables}
pub use Rattle.signature_core.specs.declared.kind.Kind.{Kind}
