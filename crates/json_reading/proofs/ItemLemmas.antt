-- The text of a list, as it grows by one item, and its tokens.
use Rattle.std.proofs.Common.{◌≡◌, ℕ, ◌+◌, ◌≤◌, Bool, true, false, List, [], ◌∷◌, ◌++◌, map, fold, drop, get_or, refl, sym, ap, ◌∙◌, arith, append_assoc}
use Rattle.json.specs.Token.{Token, begin_array, end_array}
use Rattle.json.specs.Print.{token_text, ends, separator, print_from, print}
use Rattle.json.proofs.Printed.Tokens.{print_from_push}
use Rattle.json_reading.specs.declared.field.Scalar.{Scalar}
use Rattle.json_reading.specs.declared.field.Scalar.TheVariants.{Null}
use Rattle.json_reading.specs.Spelling.{scalar_token, Fits, AllFit, StandsAt}
use Rattle.json_reading.proofs.Printing.{comma_after, comma_after-push, scalar_ends, grows}
use Rattle.json_reading.proofs.Standing.{byte_stands}

-- the items of a list that is not closed yet
abbrev pub items_text : List Scalar → List ℕ
items_text ss = print (map scalar_token ss)

pub tokens_push : (ss : List Scalar) (s : Scalar) → map scalar_token (ss ++ s ∷ []) ≡ map scalar_token ss ++ scalar_token s ∷ []
tokens_push [] s = refl
tokens_push (r ∷ ss) s = ap (λ ts. scalar_token r ∷ ts) (tokens_push ss s)

pub AllFit-push : (ss : List Scalar) (s : Scalar) → AllFit ss → Fits s → AllFit (ss ++ s ∷ [])
AllFit-push [] s h k = (k, tt)
AllFit-push (r ∷ ss) s h k = (h.0, AllFit-push ss s h.1 k)

-- ---- the text

items_end : (c : Bool) (s : Scalar) (ss : List Scalar) → fold (λ _ t. ends t) c (map scalar_token (s ∷ ss)) ≡ true
items_end c s [] = scalar_ends s
items_end c s (r ∷ ss) = items_end (ends (scalar_token s)) r ss

after_item : (s : Scalar) → separator true (scalar_token s) ≡ 44 ∷ []
after_item Null = refl
after_item other = refl

before_item : (ss : List Scalar) (s : Scalar) → separator (fold (λ _ t. ends t) false (map scalar_token ss)) (scalar_token s) ≡ comma_after ss
before_item [] s = refl
before_item (r ∷ ss) s = ap (λ b. separator b (scalar_token s)) (items_end false r ss) ∙ after_item s

items_text-push : (ss : List Scalar) (s : Scalar) → items_text (ss ++ s ∷ []) ≡ items_text ss ++ (comma_after ss ++ token_text (scalar_token s))
items_text-push ss s =
    ap print (tokens_push ss s) ∙ print_from_push false (map scalar_token ss) (scalar_token s)
    ∙ ap (λ l. items_text ss ++ (l ++ token_text (scalar_token s))) (before_item ss s)

no_comma : (b : Bool) → separator b end_array ≡ []
no_comma true = refl
no_comma false = refl

closed : (ss : List Scalar) → print (map scalar_token ss ++ end_array ∷ []) ≡ items_text ss ++ 93 ∷ []
closed ss =
    print_from_push false (map scalar_token ss) end_array ∙ ap (λ l. items_text ss ++ (l ++ 93 ∷ []))
    (no_comma (fold (λ _ t. ends t) false (map scalar_token ss)))

item_grown : (d : List ℕ) (ss : List Scalar) (s : Scalar) (from at end : ℕ) → drop from d ≡ items_text ss ++ (comma_after ss ++ drop at d)
    → StandsAt d at (token_text (scalar_token s)) end
    → drop from d ≡ items_text (ss ++ s ∷ []) ++ drop end d
item_grown d ss s from at end so_far stands =
    grows (drop from d) (items_text ss) (comma_after ss) (token_text (scalar_token s)) (drop at d) (drop end d) (items_text (ss ++ s ∷ [])) so_far stands.text
    (items_text-push ss s)

pub item_grown_by_comma : (d : List ℕ) (ss : List Scalar) (s : Scalar) (from at end : ℕ) → drop from d ≡ items_text ss ++ (comma_after ss ++ drop at d)
    → StandsAt d at (token_text (scalar_token s)) end → get_or d end 0 ≡ 44
    → drop from d ≡ items_text (ss ++ s ∷ []) ++ (comma_after (ss ++ s ∷ []) ++ drop (end + 1) d)
item_grown_by_comma d ss s from at end so_far stands comma =
    item_grown d ss s from at end so_far stands
    ∙ ap (λ l. items_text (ss ++ s ∷ []) ++ l) ((byte_stands d end 44 comma (omega arith)).text ∙ ap (λ l. l ++ drop (end + 1) d) (sym (comma_after-push ss s)))

-- the closing bracket stands behind the items
closes : (d : List ℕ) (ss : List Scalar) (from end : ℕ) → drop from d ≡ items_text ss ++ drop end d → get_or d end 0 ≡ 93
    → drop from d ≡ print (map scalar_token ss ++ end_array ∷ []) ++ drop (end + 1) d
closes d ss from end so_far bracket =
    so_far ∙ ap (λ l. items_text ss ++ l) (byte_stands d end 93 bracket (omega arith)).text ∙ sym (append_assoc (items_text ss) (93 ∷ []) (drop (end + 1) d))
    ∙ ap (λ l. l ++ drop (end + 1) d) (sym (closed ss))

pub item_grown_to_end : (d : List ℕ) (ss : List Scalar) (s : Scalar) (from at end : ℕ) → from ≤ at
    → drop from d ≡ items_text ss ++ (comma_after ss ++ drop at d) → StandsAt d at (token_text (scalar_token s)) end → get_or d end 0 ≡ 93
    → StandsAt d from (print (map scalar_token (ss ++ s ∷ []) ++ end_array ∷ [])) (end + 1)
item_grown_to_end d ss s from at end before so_far stands bracket =
    record {
      text = closes d (ss ++ s ∷ []) from end (item_grown d ss s from at end so_far stands) bracket;
      later = omega (arith, stands.later);
      within = (byte_stands d end 93 bracket (omega arith)).within;
    }

pub no_items_stand : (d : List ℕ) (from : ℕ) → get_or d from 0 ≡ 93 → StandsAt d from (print (end_array ∷ [])) (from + 1)
unfolding print_from
no_items_stand d from bracket = byte_stands d from 93 bracket (omega arith)

-- a list stands where its opening bracket does
pub list_stands : (d : List ℕ) (ts : List Token) (at end : ℕ) → get_or d at 0 ≡ 91 → StandsAt d (at + 1) (print ts) end
    → StandsAt d at (print (begin_array ∷ ts)) end
unfolding print_from
list_stands d ts at end bracket inside =
    record {
      text = (byte_stands d at 91 bracket (omega arith)).text ∙ ap (λ l. 91 ∷ l) inside.text;
      later = omega (arith, inside.later);
      within = inside.within;
    }
