-- What is told of changes, by nested calls.
use Rattle.std.proofs.Common.{◌≡◌, ℕ, List, [], ◌∷◌, ap, ◌∙◌}
use Rattle.binding_values.specs.declared.property.BindingError.{BindingError}
use Rattle.property_store.specs.declared.property.Property.{Property}
use Rattle.session_model.specs.declared.line.Line.TheVariants.{BindingWarning}
use Rattle.session_model.specs.declared.post.Post.{Post}
use Rattle.session_model.specs.Agenda.{binding_line}
use Rattle.session_model.specs.Items.{WarnOf}
use Rattle.session_model.specs.Run.{run}
use Rattle.session_model.specs.Settings.{Settings}
use Rattle.session_model.proofs.ForCallers as rule
use Rattle.session_model.proofs.ForCallers.{after_first, at_end, by_change}
use Rattle.session_tables.specs.declared.tables.Tables.{Tables}
use Rattle.session_tables.specs.Tables.{state_at}
use Rattle.session_effects.specs.Writing.{name_of}
use Rattle.dispatch.specs.declared.command_output.CommandOutput.{CommandOutput}
use Rattle.dispatch.specs.CommandOutput.{doing_at, with_line}
use Rattle.dispatch.proofs.AgendaLemmas.{told_is}

-- the error of a bound property is warned of by its name
pub warn_of_done : (settings : Settings) (place : ℕ) (tables : Tables) (before after : CommandOutput) (earlier : List Post) (at : Property)
    (error : BindingError) (name : List ℕ) → name ≡ name_of settings (state_at tables place) at → after ≡ with_line before (BindingWarning at.object name error)
    → run settings (WarnOf at error ∷ []) (doing_at place tables before earlier) ≡ doing_at place tables after earlier
warn_of_done settings place tables before after earlier at error name named e =
    by_change settings (WarnOf at error) (doing_at place tables before earlier) _ (rule.warn_of_told settings (doing_at place tables before earlier) at error)
    ∙ told_is place tables before after earlier (binding_line settings (state_at tables place) at error)
    (e ∙ ap (λ name. with_line before (BindingWarning at.object name error)) named)
