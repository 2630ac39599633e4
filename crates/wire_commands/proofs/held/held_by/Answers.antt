use Rattle.std.proofs.Common.{◌<◌, ◌≤◌, ◌∙◌, length, refl, take, arith}
use Rattle.std.proofs.lemmas.List.{take_more_set}
use Rattle.serde_json.specs.Data.{object}
use Rattle.json_reading.specs.Members.{data_of, members_in}
use Rattle.wire_commands.proofs.FormLemmas.{are_held}
use Rattle.wire_commands.proofs.FoundLemmas.{held_found}
use Rattle.wire_commands.proofs.HeldLemmas.{all_read, none_read, not_only, one_more}
use Rattle.wire_commands.proofs.held.held_by.Goals as goal

pub returns-then-not-find_values-clause-held : goal.returns-then-not-find_values-clause-held
returns-then-not-find_values-clause-held c =
    let json = object (members_in c.args.members.now) in
    are_held json (not_only json c.args.keys.now c.if-not-find_values.ensures.known)

pub loop-place-preserved : goal.loop-place-preserved
loop-place-preserved c =
    let keys = c.args.keys.now in
    let members = c.args.members.now in
    let room = c.loop-place.room in
    let place = c.loop-place.place in
    let held = c.hold.new.room in
    let test = c.loop-place-test.true in
    let within : place < length room = omega (arith, c.requires.room, c.loop-place.auto.room) in
    let enough : length keys ≤ length c.find_values.new.found = omega (arith, c.requires.few, c.find_values.auto.found) in
    let found = held_found (λ field. data_of field.now) keys members c.find_values.new.found place _ _ test enough (c.if-not-find_values.ensures.found refl) in
    rw (take_more_set room place held within)
    (one_more (object (members_in members)) (take place room) held keys place _ test (c.if-not-hold.ensures ∙ found) ∙ c.loop-place.invariant)

pub returns-then-not-hold-clause-held : goal.returns-then-not-hold-clause-held
returns-then-not-hold-clause-held c =
    let keys = c.args.keys.now in
    let members = c.args.members.now in
    let json = object (members_in members) in
    let place = c.loop-place.place in
    let test = c.loop-place-test.true in
    let enough : length keys ≤ length c.find_values.new.found = omega (arith, c.requires.few, c.find_values.auto.found) in
    let found = held_found (λ field. data_of field.now) keys members c.find_values.new.found place _ _ test enough (c.if-not-find_values.ensures.found refl) in
    are_held json
    (none_read json keys (take place c.loop-place.room) place _ test (c.if-not-hold.ensures ∙ found) c.if-not-find_values.ensures.known c.loop-place.invariant)

pub returns-clause-held : goal.returns-clause-held
returns-clause-held c =
    let json = object (members_in c.args.members.now) in
    let long = c.loop-place.auto.room ∙ c.requires.room in
    are_held json
    (all_read json c.args.keys.now c.loop-place.room c.loop-place.place c.loop-place-test.false long c.if-not-find_values.ensures.known c.loop-place.invariant)
