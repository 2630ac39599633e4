use Rattle.std.proofs.Common.{◌≡◌, Some, arith}
use Rattle.json.specs.Json.{read_key}
use Rattle.json.proofs.Grammar.{read_key-shorter}
use Rattle.serde_json.specs.Data.{no_members}
use Rattle.json_reading.proofs.MemberLemmas.{members_from-push}
use Rattle.json_reading.proofs.Reading.{members_over, no_further_key, no_further_member, no_members_yet, one_more_member}
use Rattle.json_reading.proofs.token.rest_of_members.Goals as goal

pub members-init : goal.members-init
members-init c = rw c.in_ok-found.ensures.items (no_members_yet 126 c.args.reader.now)

pub returns-in_err-key-clause-not_json : goal.returns-in_err-key-clause-not_json
returns-in_err-key-clause-not_json c refused = no_further_key c.members.invariant c.in_err-key.ensures.value

pub returns-in_err-value-clause-not_json : goal.returns-in_err-value-clause-not_json
returns-in_err-value-clause-not_json c refused =
    let named : read_key c.members.reader ≡ Some (Some c.in-Some.key.now, c.next_key.new.self) = grind arith in
    no_further_member c.members.invariant named (c.token_field.ensures.not_json (grind arith))

pub members-preserved : goal.members-preserved
members-preserved c =
    let named : read_key c.members.reader ≡ Some (Some c.in-Some.key.now, c.next_key.new.self) = grind arith in
    let done = c.in_ok-value.ensures in
    rw (c.in_ok-push.ensures.items, members_from-push no_members c.members.found.items _) (one_more_member c.members.invariant named done.ok done.shorter)

pub members-smaller : goal.members-smaller
members-smaller c =
    let named : read_key c.members.reader ≡ Some (Some c.in-Some.key.now, c.next_key.new.self) = grind arith in
    omega (arith, read_key-shorter _ _ _ named, c.in_ok-value.ensures.shorter)

pub returns-clause-ok : goal.returns-clause-ok
returns-clause-ok c = members_over c.members.invariant (grind arith)
