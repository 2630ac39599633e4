use Rattle.std.proofs.Common.{◌≡◌, ◌<◌, [], ◌∷◌, length, Some, string_bytes, refl, sym, ap, ◌∙◌, arith, rules}
use Rattle.json.specs.Token.{begin_array, begin_object}
use Rattle.json.specs.Json.{parse_map, read_key, value}
use Rattle.json.specs.Reads.{token_of}
use Rattle.json.proofs.Grammar.{value_is, read_key-shorter}
use Rattle.serde_json.specs.Data.{array, object}
use Rattle.serde_json.specs.Read.{of_json, converted}
use Rattle.serde_json.proofs.Views.{view-Array, view-Object, members_view-insert_entry}
use Rattle.json_reading.proofs.Reading.{array_begun, object_begun, too_deep, no_items_yet, one_more_item, no_further_item, items_over}
use Rattle.json_reading.proofs.Reading.{no_members_yet, one_more_member, no_further_member, no_further_key, members_over}
use Rattle.json_reading.proofs.Grammar.{scalar_turn}
use Rattle.json_reading.proofs.value.+value.Goals as goal

pub read_value-returns-in_err-token-clause-not_json : goal.read_value-returns-in_err-token-clause-not_json
read_value-returns-in_err-token-clause-not_json t c refused =
    let empty : c.args.reader.now ≡ [] = grind arith in
    ap (converted of_json) (ap (value c.args.depth) empty ∙ value_is c.args.depth [])

pub read_value-returns-then-depth-eq0-clause-not_json : goal.read_value-returns-then-depth-eq0-clause-not_json
unfolding value
read_value-returns-then-depth-eq0-clause-not_json t c never =
    too_deep begin_array c.args.depth c.args.reader.now c.next.new.self refl (omega arith) (grind arith)

pub read_value-returns-then-depth-eq0-2-clause-not_json : goal.read_value-returns-then-depth-eq0-2-clause-not_json
unfolding value
read_value-returns-then-depth-eq0-2-clause-not_json t c never =
    too_deep begin_object c.args.depth c.args.reader.now c.next.new.self refl (omega arith) (grind arith)

pub read_value-returns-in_err-read_items-in-BeginArray-clause-not_json : goal.read_value-returns-in_err-read_items-in-BeginArray-clause-not_json
read_value-returns-in_err-read_items-in-BeginArray-clause-not_json t c refused =
    array_begun c.args.depth c.args.reader.now c.next.new.self (omega arith) (grind arith)
    ∙ ap (parse_map array) (c.read_items.ensures.not_json (grind arith))

pub read_value-returns-in_err-read_members-in-BeginObject-clause-not_json : goal.read_value-returns-in_err-read_members-in-BeginObject-clause-not_json
read_value-returns-in_err-read_members-in-BeginObject-clause-not_json t c refused =
    object_begun c.args.depth c.args.reader.now c.next.new.self (omega arith) (grind arith)
    ∙ ap (parse_map object) (c.read_members.ensures.not_json (grind arith))

pub read_value-returns-in_ok-read_items-in-BeginArray-clause-ok : goal.read_value-returns-in_ok-read_items-in-BeginArray-clause-ok
read_value-returns-in_ok-read_items-in-BeginArray-clause-ok t c =
    let found = c.in_ok-read_items-in-BeginArray in
    array_begun c.args.depth c.args.reader.now c.next.new.self (omega arith) (grind arith)
    ∙ ap (parse_map array) found.ensures.ok
    ∙ ap (λ d. Some (d, c.read_items.new.reader)) (sym (view-Array found.field-0))

pub read_value-returns-in_ok-read_members-in-BeginObject-clause-ok : goal.read_value-returns-in_ok-read_members-in-BeginObject-clause-ok
read_value-returns-in_ok-read_members-in-BeginObject-clause-ok t c =
    let found = c.in_ok-read_members-in-BeginObject in
    object_begun c.args.depth c.args.reader.now c.next.new.self (omega arith) (grind arith)
    ∙ ap (parse_map object) found.ensures.ok
    ∙ ap (λ d. Some (d, c.read_members.new.reader)) (sym (view-Object found.field-0))

pub read_items-items-init : goal.read_items-items-init
read_items-items-init t c = rw c.new-found.ensures.items (no_items_yet c.args.depth c.args.reader.now, omega arith)

pub read_items-returns-in_err-item-clause-not_json : goal.read_items-returns-in_err-item-clause-not_json
read_items-returns-in_err-item-clause-not_json t c refused =
    let same : c.take_end_array.new.self ≡ c.items.reader = grind arith in
    no_further_item c.items.invariant.0 (grind arith) (rw (← same) (c.read_value.ensures.not_json (grind arith)))

pub read_items-items-preserved : goal.read_items-items-preserved
read_items-items-preserved t c =
    let same : c.take_end_array.new.self ≡ c.items.reader = grind arith in
    let shorter : length c.read_value.new.reader < length c.items.reader = rw (← same) c.in_ok-item.ensures.shorter in
    rw c.in_ok-push.ensures.items
    (one_more_item c.in_ok-item.item c.items.invariant.0 (grind arith) (rw (← same) c.in_ok-item.ensures.ok) shorter, omega (arith, c.items.invariant.1))

pub read_items-returns-clause-ok : goal.read_items-returns-clause-ok
read_items-returns-clause-ok t c = items_over c.items.invariant.0 (grind arith)

pub read_members-members-init : goal.read_members-members-init
read_members-members-init t c = rw c.new-found.ensures.empty (no_members_yet c.args.depth c.args.reader.now, omega arith)

pub read_members-returns-in_err-name-clause-not_json : goal.read_members-returns-in_err-name-clause-not_json
read_members-returns-in_err-name-clause-not_json t c refused = no_further_key c.members.invariant.0 c.in_err-name.ensures.value

pub read_members-returns-in_err-member-clause-not_json : goal.read_members-returns-in_err-member-clause-not_json
read_members-returns-in_err-member-clause-not_json t c refused =
    let named : read_key c.members.reader ≡ Some (Some c.in-Some.name.now, c.next_key.new.self) = grind arith in
    no_further_member c.members.invariant.0 named (c.read_value.ensures.not_json (grind arith))

pub read_members-members-preserved : goal.read_members-members-preserved
read_members-members-preserved t c =
    let named : read_key c.members.reader ≡ Some (Some c.in-Some.name.now, c.next_key.new.self) = grind arith in
    let done = c.in_ok-member.ensures in
    let shorter = read_key-shorter c.members.reader (Some c.in-Some.name.now) c.next_key.new.self named in
    let later = done.shorter in
    let copied : string_bytes c.in_ok-key.key ≡ c.in-Some.name.now = search rules in
    rw (c.in_ok-insert.ensures.entries, members_view-insert_entry c.members.found.entries c.in_ok-key.key c.in_ok-member.member, copied)
    (one_more_member c.members.invariant.0 named done.ok later, omega (arith, c.members.invariant.1))

pub read_members-returns-clause-ok : goal.read_members-returns-clause-ok
read_members-returns-clause-ok t c = members_over c.members.invariant.0 (grind arith)

pub read_value-returns-in_ok-scalar_json-in_default : goal.read_value-returns-in_ok-scalar_json-in_default
read_value-returns-in_ok-scalar_json-in_default t c =
    let scalar = c.in_ok-scalar-in_default.scalar in
    let found = c.in_ok-scalar-in_default.ensures.ok in
    let rest = c.next.new.self in
    let first : c.args.reader.now ≡ token_of c.in_ok-token.token ∷ rest = grind arith in
    let copied = c.in_ok-scalar_json-in_default.ensures in
    record {
      ok = ap (λ ts. converted of_json (value c.args.depth ts)) (first ∙ ap (λ token. token ∷ rest) found.0) ∙ scalar_turn c.args.depth scalar rest found.1
          ∙ ap (λ json. Some (json, rest)) (sym copied);
      shorter = omega (arith, ap length first);
      not_json = λ refused. absurd (cc);
    }
