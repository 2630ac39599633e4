use Rattle.wire_commands.proofs.NamedLemmas.{asked_named}
use Rattle.wire_commands.proofs.commands_use_names.Goals as goal

pub returns : goal.returns
returns c = asked_named
