use Rattle.session_model.proofs.CommandLemmas.{keeps_declared, keeps_fitting, keeps_named, keeps_sound}
use Rattle.session_model.proofs.LawLemmas.{keeps_under_way}
use Rattle.session_model.proofs.commands_keep_sessions_sound.Goals as goal

pub returns-clause-commands : goal.returns-clause-commands
returns-clause-commands c = keeps_sound

pub returns-clause-items : goal.returns-clause-items
returns-clause-items c = keeps_under_way

pub returns-clause-properties : goal.returns-clause-properties
returns-clause-properties c = keeps_declared

pub returns-clause-fitting : goal.returns-clause-fitting
returns-clause-fitting c = keeps_fitting

pub returns-clause-names : goal.returns-clause-names
returns-clause-names c = keeps_named
