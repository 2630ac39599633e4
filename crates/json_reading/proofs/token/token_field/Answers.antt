use Rattle.std.proofs.Common.{◌≡◌, [], ◌∷◌, length, map, Some, sym, ap, ◌∙◌, append_assoc, arith}
use Rattle.json.specs.Token.{begin_array, begin_object, end_array}
use Rattle.json.specs.Json.{parse_map, value}
use Rattle.json.specs.Reads.{token_of}
use Rattle.json.proofs.Grammar.{value_is}
use Rattle.serde_json.specs.Data.{object}
use Rattle.serde_json.specs.Read.{converted, of_json}
use Rattle.serde_json.specs.View.{view}
use Rattle.json_reading.specs.declared.field.Field.TheVariants as field
use Rattle.json_reading.specs.Spelling.{scalar_token}
use Rattle.json_reading.proofs.Grammar.{field_turn, no_list, scalar_turn}
use Rattle.json_reading.proofs.Reading.{object_begun}
use Rattle.json_reading.proofs.token.token_field.Goals as goal

pub returns-in_err-token-clause-not_json : goal.returns-in_err-token-clause-not_json
returns-in_err-token-clause-not_json c = λ refused.
    let empty : c.args.reader.now ≡ [] = grind arith in
    ap (converted of_json) (ap (value 126) empty ∙ value_is 126 [])

pub returns-in_err-token_items-in-BeginArray-clause-not_json : goal.returns-in_err-token_items-in-BeginArray-clause-not_json
returns-in_err-token_items-in-BeginArray-clause-not_json c = λ refused.
    let first : c.args.reader.now ≡ begin_array ∷ c.next.new.self = grind arith in
    ap (converted of_json) (ap (value 126) first ∙ no_list c.next.new.self (c.token_items.ensures.not_json (grind arith)))

pub returns-in_ok-token_items-in-BeginArray-clause-ok : goal.returns-in_ok-token_items-in-BeginArray-clause-ok
returns-in_ok-token_items-in-BeginArray-clause-ok c =
    let first : c.args.reader.now ≡ begin_array ∷ c.next.new.self = grind arith in
    let ss = c.in_ok-token_items-in-BeginArray.field-0 in
    let found = c.in_ok-token_items-in-BeginArray.ensures.ok in
    let rest = c.token_items.new.reader in
    let spelled = first ∙ ap (λ ts. begin_array ∷ ts) (found.0 ∙ sym (append_assoc (map scalar_token ss.items) (end_array ∷ []) rest)) in
    ap (λ ts. converted of_json (value 126 ts)) spelled ∙ field_turn (field.List ss) found.1 rest

pub returns-in_err-members-in-BeginObject-clause-not_json : goal.returns-in_err-members-in-BeginObject-clause-not_json
returns-in_err-members-in-BeginObject-clause-not_json c = λ refused.
    let first : c.args.reader.now ≡ begin_object ∷ c.next.new.self = grind arith in
    object_begun 126 c.args.reader.now c.next.new.self (omega arith) first ∙ ap (parse_map object) (c.read_members.ensures.not_json (grind arith))

pub returns-in_ok-new-in-BeginObject-clause-ok : goal.returns-in_ok-new-in-BeginObject-clause-ok
returns-in_ok-new-in-BeginObject-clause-ok c =
    let first : c.args.reader.now ≡ begin_object ∷ c.next.new.self = grind arith in
    let owned = ap (λ own. view own.json) c.in_ok-new-in-BeginObject.ensures.ok ∙ c.object.ensures in
    object_begun 126 c.args.reader.now c.next.new.self (omega arith) first ∙ ap (parse_map object) c.in_ok-members-in-BeginObject.ensures.ok
    ∙ ap (λ json. Some (json, c.read_members.new.reader)) (sym owned)

pub returns-in_ok-token_scalar-in_default : goal.returns-in_ok-token_scalar-in_default
returns-in_ok-token_scalar-in_default c =
    let scalar = c.in_ok-token_scalar-in_default.field-0 in
    let found = c.in_ok-token_scalar-in_default.ensures.ok in
    let rest = c.next.new.self in
    let first : c.args.reader.now ≡ token_of c.in_ok-token.token ∷ rest = grind arith in
    record {
      ok = ap (λ ts. converted of_json (value 126 ts)) (first ∙ ap (λ token. token ∷ rest) found.0) ∙ scalar_turn 126 scalar rest found.1;
      shorter = omega (arith, ap length first);
      not_json = λ refused. absurd (cc);
    }
