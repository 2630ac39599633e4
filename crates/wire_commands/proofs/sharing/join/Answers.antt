use Rattle.std.proofs.Common.{refl, arith}
use Rattle.std.proofs.lemmas.Grind.{common_steps}
use Rattle.wire_commands.specs.Sharing.{join}
use Rattle.wire_commands.proofs.sharing.join.Goals as goal

pub returns : goal.returns
returns c =
    let is = c.if-not-held_by.ensures.held join refl in
    grind (arith, common_steps)
