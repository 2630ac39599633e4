use Rattle.std.proofs.Common.{◌≡◌, ◌∷◌, ◌++◌, ◌∙◌, [], List, ℕ, append_assoc, string_bytes, ap}
use Rattle.serde_json.proofs.OnLiterals.{serde_json_on_literals}
use Rattle.serde_json.specs.Data.{string}
use Rattle.serde_json.specs.Written.{compact_text}
use Rattle.wire_format.specs.Terms.{json_of_term, operator_key}
use Rattle.wire_format.proofs.expressions.+expressions.Goals as goal

-- two operands between brackets, with the key before them
two_inside : (k a b : List ℕ) → (123 ∷ (k ++ 58 ∷ 91 ∷ [])) ++ (a ++ (44 ∷ (b ++ 93 ∷ 125 ∷ [])))
    ≡ 123 ∷ (k ++ 58 ∷ 91 ∷ ((a ++ 44 ∷ (b ++ 93 ∷ [])) ++ 125 ∷ []))
two_inside k a b = simp append_assoc

-- five texts behind one another
five_behind : (a b c d e f x1 x2 x3 x4 x5 : List ℕ) → b ≡ a ++ x1 → c ≡ b ++ x2 → d ≡ c ++ x3 → e ≡ d ++ x4 → f ≡ e ++ x5
    → f ≡ a ++ (x1 ++ (x2 ++ (x3 ++ (x4 ++ x5))))
five_behind a b c d e f x1 x2 x3 x4 x5 h i j k l = rw (l, k, j, i, h) (simp append_assoc)

pub push_binary-returns : goal.push_binary-returns
push_binary-returns t c =
    five_behind _ _ _ _ _ _ _ _ _ _ _ (c.in_ok-push_str.ensures.bytes ∙ ap (λ text. string_bytes c.args.buffer.now ++ text) c.operator_opening.ensures)
    c.in_ok-push_expression.ensures c.in_ok-push_str-2.ensures.bytes c.in_ok-push_expression-2.ensures c.in_ok-push_str-3.ensures.bytes
    ∙ ap (λ text. string_bytes c.args.buffer.now ++ text)
    (two_inside (compact_text (string (operator_key c.args.operator))) (compact_text (json_of_term c.args.a.now)) (compact_text (json_of_term c.args.b.now)))

pub push_choice-returns : goal.push_choice-returns
unfolding serde_json_on_literals
push_choice-returns t c =
    rw (
      c.in_ok-push_str-4.ensures.bytes,
      c.in_ok-push_expression-3.ensures,
      c.in_ok-push_str-3.ensures.bytes,
      c.in_ok-push_expression-2.ensures,
      c.in_ok-push_str-2.ensures.bytes,
      c.in_ok-push_expression.ensures,
      c.in_ok-push_str.ensures.bytes,
    ) (simp append_assoc)
