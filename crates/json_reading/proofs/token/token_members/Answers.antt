use Rattle.std.proofs.Common.{◌≡◌, [], ◌∷◌, Some, ap, ◌∙◌, arith}
use Rattle.json.specs.Token.{bad, begin_object}
use Rattle.json.specs.Json.{parse_map, value}
use Rattle.json.specs.Lex.{tokens}
use Rattle.json.specs.Reads.{token_of}
use Rattle.json.proofs.Grammar.{value_is}
use Rattle.serde_json.specs.Data.{object}
use Rattle.json_reading.specs.Members.{members_in}
use Rattle.json_reading.proofs.Grammar.{nothing_read}
use Rattle.json_reading.proofs.Reading.{object_begun, whole_and_more, whole_read, whole_refused}
use Rattle.json_reading.proofs.token.token_members.Goals as goal

pub returns-in-None-next-clause-ok : goal.returns-in-None-next-clause-ok
returns-in-None-next-clause-ok c =
    let all = tokens c.args.text.now in
    let ms = c.in_ok-found.found.items in
    let opening : all ≡ begin_object ∷ c.next.new.self = grind arith in
    let nothing : c.rest_of_members.new.reader ≡ [] = grind arith in
    whole_read (value 127 all) (object (members_in ms))
    (object_begun 127 all c.next.new.self (omega arith) opening ∙ ap (parse_map object) c.in_ok-found.ensures.ok
    ∙ ap (λ rest. Some (object (members_in ms), rest)) nothing)

pub returns-in-Some-Bad-clause-not_json : goal.returns-in-Some-Bad-clause-not_json
returns-in-Some-Bad-clause-not_json c = λ refused.
    let text = c.args.text.now in
    let first : tokens text ≡ bad ∷ c.next.new.self = grind arith in
    nothing_read text (ap (value 127) first ∙ value_is 127 _)

pub returns-in-None-clause-not_json : goal.returns-in-None-clause-not_json
returns-in-None-clause-not_json c = λ refused.
    let text = c.args.text.now in
    let empty : tokens text ≡ [] = grind arith in
    nothing_read text (ap (value 127) empty ∙ value_is 127 [])

pub returns-in_err-found-clause-not_json : goal.returns-in_err-found-clause-not_json
returns-in_err-found-clause-not_json c = λ refused.
    let all = tokens c.args.text.now in
    let opening : all ≡ begin_object ∷ c.next.new.self = grind arith in
    whole_refused (value 127 all) (object_begun 127 all c.next.new.self (omega arith) opening
    ∙ ap (parse_map object) (c.rest_of_members.ensures.not_json (grind arith)))

pub returns-clause-not_json : goal.returns-clause-not_json
returns-clause-not_json c = λ refused.
    let all = tokens c.args.text.now in
    let ms = c.in_ok-found.found.items in
    let opening : all ≡ begin_object ∷ c.next.new.self = grind arith in
    let more : c.rest_of_members.new.reader ≡ token_of c.in-Some-next.field-0 ∷ c.next-2.new.self = grind arith in
    whole_and_more (value 127 all) (object (members_in ms)) (token_of c.in-Some-next.field-0) c.next-2.new.self
    (object_begun 127 all c.next.new.self (omega arith) opening ∙ ap (parse_map object) c.in_ok-found.ensures.ok
    ∙ ap (λ rest. Some (object (members_in ms), rest)) more)
