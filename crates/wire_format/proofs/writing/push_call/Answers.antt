use Rattle.std.proofs.Common.{◌≡◌, ℕ, List, ◌++◌, ◌∙◌, codes, string_bytes, sym, ap, append_assoc}
use Rattle.serde_json.specs.Data.{string}
use Rattle.serde_json.specs.Written.{compact_text}
use Rattle.variant_value.specs.Values.{json_of}
use Rattle.wire_format.specs.Json.{array_of}
use Rattle.wire_format.proofs.LineTexts.{call_line}
use Rattle.wire_format.proofs.writing.push_call.Goals as goal

-- the values, the slot between two keys, a number, a key with a number, and the rest
in_turn : (a0 a1 a2 a3 a4 a5 k1 v1 k2 v2 k3 v3 k4 v4 last : List ℕ)
    → a1 ≡ a0 ++ (k1 ++ v1) → a2 ≡ a1 ++ (k2 ++ (v2 ++ k3)) → a3 ≡ a2 ++ v3 → a4 ≡ a3 ++ (k4 ++ v4) → a5 ≡ a4 ++ last
    → a5 ≡ a0 ++ (k1 ++ (v1 ++ (k2 ++ (v2 ++ (k3 ++ (v3 ++ (k4 ++ (v4 ++ last))))))))
in_turn a0 a1 a2 a3 a4 a5 k1 v1 k2 v2 k3 v3 k4 v4 last e1 e2 e3 e4 e5 = rw (e5, e4, e3, e2, e1) (simp append_assoc)

pub returns : goal.returns
returns c =
    let args = c.in_ok-push_args.ensures ∙ ap (λ values. string_bytes c.args.buffer.now ++ (codes "{\"args\":" ++ compact_text (array_of json_of values)))
    c.as_slice.ensures in
    let method = c.in_ok-push_method.ensures
    ∙ ap (λ text. string_bytes c.push_args.new.buffer ++ (codes ",\"call\":" ++ (compact_text (string text) ++ codes ",\"object\":")))
    c.as_str.ensures in
    in_turn _ _ _ _ _ _ (codes "{\"args\":") _ (codes ",\"call\":") (compact_text (string c.args.call.now.method)) (codes ",\"object\":") _
    (codes ",\"sender\":") _ _ args method c.in_ok-push.ensures c.in_ok-put.ensures c.in_ok-push_session.ensures
    ∙ ap (λ line. string_bytes c.args.buffer.now ++ line) (sym (call_line c.args.call.now c.args.session.now))
