use Rattle.std.proofs.Common.{◌≡◌, [], arith}
use Rattle.json.specs.Json.{value}
use Rattle.json.specs.Lex.{tokens}
use Rattle.json_reading.proofs.Reading.{whole_read, whole_refused}
use Rattle.json_reading.proofs.value.whole_json.Goals as goal

pub returns-in-None-clause-ok : goal.returns-in-None-clause-ok
returns-in-None-clause-ok c =
    let none : c.read_value.new.reader ≡ [] = grind arith in
    whole_read (value 127 (tokens c.args.text.now)) _ (rw (c.in_ok-reader.ensures.ok, none) at c.in_ok-json.ensures.ok)

pub returns-in_err-json-clause-not_json : goal.returns-in_err-json-clause-not_json
returns-in_err-json-clause-not_json c = λ refused.
    whole_refused (value 127 (tokens c.args.text.now)) (rw c.in_ok-reader.ensures.ok at c.read_value.ensures.not_json (grind arith))
