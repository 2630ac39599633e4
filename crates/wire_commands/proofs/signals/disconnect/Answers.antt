use Rattle.std.proofs.Common.{refl, arith}
use Rattle.std.proofs.lemmas.Grind.{common_steps}
use Rattle.wire_commands.specs.Signals.{disconnect}
use Rattle.wire_commands.proofs.signals.disconnect.Goals as goal

pub returns-in_default : goal.returns-in_default
returns-in_default c =
    let is = c.if-not-held_by.ensures.held disconnect refl in
    grind (arith, common_steps)
