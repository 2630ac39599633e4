use Rattle.std.proofs.Common.{◌≡◌, None, subst, List, [], ◌∷◌, ◌++◌, map, sym, ap, ◌∙◌, arith, append_assoc}
use Rattle.json.specs.Token.{Token}
use Rattle.json.specs.Json.{after_end_array, value}
use Rattle.json.specs.Reads.{token_of}
use Rattle.json.proofs.Grammar.{value_is}
use Rattle.json_reading.specs.declared.field.Scalar.{Scalar}
use Rattle.json_reading.specs.Faults.{HasNoItems}
use Rattle.json_reading.specs.Spelling.{scalar_token}
use Rattle.json_reading.proofs.Grammar.{no_items_behind, no_items_from}
use Rattle.json_reading.proofs.ItemLemmas.{tokens_push, AllFit-push}
use Rattle.json_reading.proofs.token.token_items.Goals as goal

-- an item has been taken from what was left
took_item : (all left rest : List Token) (ss : List Scalar) (s : Scalar) → all ≡ map scalar_token ss ++ left → left ≡ scalar_token s ∷ rest
    → all ≡ map scalar_token (ss ++ s ∷ []) ++ rest
took_item all left rest ss s so_far taken =
    so_far ∙ ap (λ ts. map scalar_token ss ++ ts) taken ∙ sym (append_assoc (map scalar_token ss) (scalar_token s ∷ []) rest)
    ∙ ap (λ ts. ts ++ rest) (sym (tokens_push ss s))

pub items-preserved : goal.items-preserved
items-preserved c =
    let l = c.items in
    let s = c.in_ok-token_scalar.field-0 in
    let found = c.in_ok-token_scalar.ensures.ok in
    let same : c.take_end_array.new.self ≡ l.reader = grind arith in
    let first : c.take_end_array.new.self ≡ token_of c.in_ok-token.token ∷ c.next.new.self = grind arith in
    rw c.in_ok-push.ensures.items
    (record {
      tokens = took_item _ l.reader c.next.new.self l.found.items s l.invariant.tokens (sym same ∙ first ∙ ap (λ t. t ∷ c.next.new.self) found.0);
      fit = AllFit-push l.found.items s l.invariant.fit found.1;
    })

pub returns-in_err-token-clause-not_json : goal.returns-in_err-token-clause-not_json
returns-in_err-token-clause-not_json c = λ refused.
    let l = c.items in
    let same : c.take_end_array.new.self ≡ l.reader = grind arith in
    let going : after_end_array l.reader ≡ None = grind arith in
    let empty : c.take_end_array.new.self ≡ [] = grind arith in
    let none = ap (value 125) (sym same ∙ empty) ∙ value_is 125 [] in
    subst HasNoItems (sym l.invariant.tokens) (no_items_behind l.found.items l.reader (no_items_from l.reader going none))

pub returns-in_err-token_scalar-clause-not_json : goal.returns-in_err-token_scalar-clause-not_json
returns-in_err-token_scalar-clause-not_json c = λ refused.
    let l = c.items in
    let same : c.take_end_array.new.self ≡ l.reader = grind arith in
    let going : after_end_array l.reader ≡ None = grind arith in
    let first : c.take_end_array.new.self ≡ token_of c.in_ok-token.token ∷ c.next.new.self = grind arith in
    let none = ap (value 125) (sym same ∙ first) ∙ c.token_scalar.ensures.not_json (grind arith) 125 c.next.new.self in
    subst HasNoItems (sym l.invariant.tokens) (no_items_behind l.found.items l.reader (no_items_from l.reader going none))
