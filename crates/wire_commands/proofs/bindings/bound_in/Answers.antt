use Rattle.std.proofs.Common.{◌≡◌, length, arith}
use Rattle.std.proofs.lemmas.Grind.{common_steps}
use Rattle.serde_json.specs.Data.{object}
use Rattle.json_reading.specs.Members.{members_in}
use Rattle.wire_commands.proofs.BindLemmas.{bound_among}
use Rattle.wire_commands.proofs.bindings.bound_in.Goals as goal

pub returns-in-Some-2 : goal.returns-in-Some-2
returns-in-Some-2 c =
    let long : length c.held_by.new.room ≡ 3 = c.if-not-held_by.ensures.room in
    let all = bound_among (object (members_in c.args.members.now)) c.held_by.new.room c.index-held-0.result c.index-held-1.result long
    c.index-held-0.is c.index-held-1.is c.if-not-held_by.ensures.held in
    grind (arith, common_steps)
