-- The text of members, as it grows by one, and that its tokens are those of the members.
use Rattle.std.proofs.Common.{◌≡◌, ℕ, ◌+◌, Bool, true, false, List, [], ◌∷◌, ◌++◌, map, fold, length, drop, get_or, refl, sym, ap, ◌∙◌, arith, append_assoc}
use Rattle.std.proofs.Common.{append-nil}
use Rattle.std.proofs.lemmas.List.{drop_all}
use Rattle.std.proofs.lemmas.List.Sums.{fold-append}
use Rattle.json.specs.Token.{Token, begin_object, end_object, end_array, key}
use Rattle.json.specs.Lex.{tokens}
use Rattle.json.specs.Print.{quoted, ends, separator, print_from, print, ArePrintable}
use Rattle.json.proofs.Printed.Tokens.{tokens-print, print_from_push, print_from-append, ends_push, ArePrintable-push}
use Rattle.json.proofs.Printed.Decimals.{IsNumber-decimal, IsNumber-signed_decimal}
use Rattle.json_reading.specs.declared.field.Scalar.{Scalar}
use Rattle.json_reading.specs.declared.field.Scalar.TheVariants.{Null, Number, Signed, Real}
use Rattle.json_reading.specs.declared.field.Field.{Field}
use Rattle.json_reading.specs.declared.field.Field.TheVariants as field
use Rattle.json_reading.specs.declared.field.Member.{Member}
use Rattle.json_reading.specs.Spelling.{scalar_token, field_tokens, member_tokens, object_tokens, member_text, AllFit, IsSpelled, AreSpelled, StandsAt}
use Rattle.json_reading.proofs.Standing.{byte_stands}

-- a comma stands between members
abbrev pub comma_after : {A : Type 0} → List A → List ℕ
comma_after [] = []
comma_after (x ∷ xs) = 44 ∷ []

-- an object that is not closed yet
abbrev pub opened : List Member → List ℕ
opened ms = print_from false (begin_object ∷ member_tokens ms)

pub member_tokens-push : (ms : List Member) (m : Member) → member_tokens (ms ++ m ∷ []) ≡ member_tokens ms ++ key m.key.now ∷ field_tokens m.value
member_tokens-push [] m = ap (λ ts. key m.key.now ∷ ts) (append-nil (field_tokens m.value))
member_tokens-push (n ∷ ms) m =
    ap (λ ts. key n.key.now ∷ (field_tokens n.value ++ ts)) (member_tokens-push ms m)
    ∙ ap (λ ts. key n.key.now ∷ ts) (sym (append_assoc (field_tokens n.value) (member_tokens ms) _))

pub AreSpelled-push : (ms : List Member) (m : Member) → AreSpelled ms → IsSpelled m.value → AreSpelled (ms ++ m ∷ [])
AreSpelled-push [] m h k = (k, tt)
AreSpelled-push (n ∷ ms) m h k = (h.0, AreSpelled-push ms m h.1 k)

-- ---- a value has ended after each member

abbrev ended : Bool → List Token → Bool
ended c ts = fold (λ _ t. ends t) c ts

pub scalar_ends : (s : Scalar) → ends (scalar_token s) ≡ true
scalar_ends Null = refl
scalar_ends other = refl

field_ends : (f : Field) → IsSpelled f → ended false (field_tokens f) ≡ true
field_ends (field.Plain s) h = scalar_ends s
field_ends (field.List ss) h = ends_push false (map scalar_token ss.items) end_array
field_ends (field.Tree v) h = absurd h
field_ends (field.Owned b) h = absurd h

member_ends : (c : Bool) (m : Member) (ms : List Member) → AreSpelled (m ∷ ms) → ended c (member_tokens (m ∷ ms)) ≡ true
member_ends c m [] h = fold-append _ false (field_tokens m.value) [] ∙ field_ends m.value h.0
member_ends c m (n ∷ ms) h =
    fold-append _ false (field_tokens m.value) (member_tokens (n ∷ ms)) ∙ member_ends (ended false (field_tokens m.value)) n ms h.1

-- ---- the text

before_key : (ms : List Member) (k : List ℕ) → AreSpelled ms → separator (ended false (begin_object ∷ member_tokens ms)) (key k) ≡ comma_after ms
before_key [] k h = refl
before_key (m ∷ ms) k h = ap (λ b. separator b (key k)) (member_ends false m ms h)

opened-push : (ms : List Member) (m : Member) → AreSpelled ms → opened (ms ++ m ∷ []) ≡ opened ms ++ (comma_after ms ++ member_text m)
unfolding print_from
opened-push ms m h =
    let before = begin_object ∷ member_tokens ms in
    ap (λ ts. print_from false (begin_object ∷ ts)) (member_tokens-push ms m)
    ∙ print_from-append false before (key m.key.now ∷ field_tokens m.value)
    ∙ ap (λ l. print_from false before ++ l)
    (ap (λ l. separator (ended false before) (key m.key.now) ++ l) (append_assoc (quoted m.key.now) (58 ∷ []) (print (field_tokens m.value)))
    ∙ ap (λ l. l ++ member_text m) (before_key ms m.key.now h))

no_comma : (b : Bool) → separator b end_object ≡ []
no_comma true = refl
no_comma false = refl

closed : (ms : List Member) → opened ms ++ 125 ∷ [] ≡ print (object_tokens ms)
closed ms =
    let before = begin_object ∷ member_tokens ms in
    sym (print_from_push false before end_object ∙ ap (λ l. print_from false before ++ (l ++ 125 ∷ [])) (no_comma (ended false before)))

pub comma_after-push : {A : Type 0} (ms : List A) (m : A) → comma_after (ms ++ m ∷ []) ≡ 44 ∷ []
comma_after-push [] m = refl
comma_after-push (n ∷ ms) m = refl

-- a part more has been passed
pub grows : (all text comma more left rest grown_text : List ℕ) → all ≡ text ++ (comma ++ left) → left ≡ more ++ rest → grown_text ≡ text ++ (comma ++ more)
    → all ≡ grown_text ++ rest
grows all text comma more left rest grown_text so_far passed is =
    so_far ∙ ap (λ l. text ++ (comma ++ l)) passed ∙ ap (λ l. text ++ l) (sym (append_assoc comma more rest)) ∙ sym (append_assoc text (comma ++ more) rest)
    ∙ ap (λ l. l ++ rest) (sym is)

-- a member more has been passed
grown : (d : List ℕ) (ms : List Member) (m : Member) (at end : ℕ) → d ≡ opened ms ++ (comma_after ms ++ drop at d) → AreSpelled ms
    → StandsAt d at (member_text m) end → d ≡ opened (ms ++ m ∷ []) ++ drop end d
grown d ms m at end so_far h stands = grows d (opened ms) (comma_after ms) (member_text m) (drop at d) (drop end d) (opened (ms ++ m ∷ [])) so_far stands.text
    (opened-push ms m h)

pub grown_by_comma : (d : List ℕ) (ms : List Member) (m : Member) (at end : ℕ) → d ≡ opened ms ++ (comma_after ms ++ drop at d) → AreSpelled ms
    → StandsAt d at (member_text m) end → get_or d end 0 ≡ 44
    → d ≡ opened (ms ++ m ∷ []) ++ (comma_after (ms ++ m ∷ []) ++ drop (end + 1) d)
grown_by_comma d ms m at end so_far h stands comma =
    grown d ms m at end so_far h stands
    ∙ ap (λ l. opened (ms ++ m ∷ []) ++ l) ((byte_stands d end 44 comma (omega arith)).text ∙ ap (λ l. l ++ drop (end + 1) d) (sym (comma_after-push ms m)))

pub grown_to_end : (d : List ℕ) (ms : List Member) (m : Member) (at end : ℕ) → d ≡ opened ms ++ (comma_after ms ++ drop at d) → AreSpelled ms
    → StandsAt d at (member_text m) end → get_or d end 0 ≡ 125 → end + 1 ≡ length d
    → d ≡ opened (ms ++ m ∷ []) ++ 125 ∷ []
grown_to_end d ms m at end so_far h stands brace last =
    grown d ms m at end so_far h stands
    ∙ ap (λ l. opened (ms ++ m ∷ []) ++ l) ((byte_stands d end 125 brace (omega arith)).text ∙ ap (λ l. 125 ∷ l) (drop_all (end + 1) d (omega arith)))

pub nothing_opened : opened [] ≡ 123 ∷ []
unfolding print_from
nothing_opened = refl

-- ---- its tokens

ArePrintable-append : (ts us : List Token) → ArePrintable ts → ArePrintable us → ArePrintable (ts ++ us)
unfolding ArePrintable
ArePrintable-append [] us h k = k
ArePrintable-append (t ∷ ts) us h k = (h.0, ArePrintable-append ts us h.1 k)

scalars_printable : (ss : List Scalar) → AllFit ss → ArePrintable (map scalar_token ss)
unfolding ArePrintable
scalars_printable [] h = tt
scalars_printable (Number n ∷ ss) h = (IsNumber-decimal n h.0, scalars_printable ss h.1)
scalars_printable (Signed z ∷ ss) h = (IsNumber-signed_decimal z h.0.sfits, scalars_printable ss h.1)
scalars_printable (Real r ∷ ss) h = (r.spelled, scalars_printable ss h.1)
scalars_printable (other ∷ ss) h = (tt, scalars_printable ss h.1)

field_printable : (f : Field) → IsSpelled f → ArePrintable (field_tokens f)
unfolding ArePrintable
field_printable (field.Plain s) h = scalars_printable (s ∷ []) (h, tt)
field_printable (field.List ss) h = (tt, ArePrintable-push (map scalar_token ss.items) end_array (scalars_printable ss.items h) tt)
field_printable (field.Tree v) h = absurd h
field_printable (field.Owned b) h = absurd h

members_printable : (ms : List Member) → AreSpelled ms → ArePrintable (member_tokens ms)
unfolding ArePrintable
members_printable [] h = tt
members_printable (m ∷ ms) h = (tt, ArePrintable-append (field_tokens m.value) (member_tokens ms) (field_printable m.value h.0) (members_printable ms h.1))

pub tokens-closed : (d : List ℕ) (ms : List Member) → AreSpelled ms → d ≡ opened ms ++ 125 ∷ [] → tokens d ≡ object_tokens ms
unfolding ArePrintable
tokens-closed d ms h e =
    ap tokens (e ∙ closed ms) ∙ tokens-print (object_tokens ms) (tt, ArePrintable-push (member_tokens ms) end_object (members_printable ms h) tt)
