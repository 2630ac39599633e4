-- What the grammar makes of the tokens of members, and what data that is.
use Rattle.std.proofs.Common.{◌≡◌, ℕ, zero, suc, ◌-◌, ◌≤◌, List, [], ◌∷◌, ◌++◌, length, map, Some, None, option_map, option_and_then, decimal, refl}
use Rattle.std.proofs.Common.{ap, ◌∙◌, arith}
use Rattle.std.proofs.Common.{append_assoc, length-append}
use Rattle.std.proofs.Common.{ℤ, pos, negsuc, FitsSigned}
use Rattle.std.specs.Int.{w64}
use Rattle.std.specs.Fmt.{signed_decimal}
use Rattle.json.specs.Token.{Token}
use Rattle.json.specs.Token as token
use Rattle.json.specs.Lex.{tokens}
use Rattle.json.specs.Json.{Json, Parse, parse_map, after_end_array, if_last, items, members, read_key, value}
use Rattle.json.specs.Json as json
use Rattle.json.proofs.Grammar.{value_is, value-begin_array, value-begin_object, items_end, items_fail, items_more, members_end}
use Rattle.json.proofs.Grammar.{members_more}
use Rattle.serde_json.specs.Data.{Members, array, object, number, no_members, put}
use Rattle.serde_json.specs.Find.{of_integer}
use Rattle.serde_json.specs.Read.{converted, number_of, of_json, of_items, of_members, read}
use Rattle.serde_json.proofs.Numbers.{number_of-decimal, number_of-negative}
use Rattle.json_reading.specs.declared.field.Scalar.{Scalar}
use Rattle.json_reading.specs.declared.field.Scalar.TheVariants.{Null, Truth, Number, Signed, Real, Text}
use Rattle.json_reading.specs.declared.field.Field.{Field}
use Rattle.json_reading.specs.declared.field.Field.TheVariants as field
use Rattle.json_reading.specs.declared.field.Member.{Member}
use Rattle.json_reading.specs.Faults.{HasNoItems}
use Rattle.json_reading.specs.Members.{scalar_data, items_in, data_of, members_from, members_in}
use Rattle.json_reading.proofs.RealLemmas.{number_of_float}
use Rattle.json_reading.specs.Spelling.{scalar_token, field_tokens, member_tokens, object_tokens, Fits, AllFit, IsSpelled, AreSpelled}

abbrev scalar_json : Scalar → Json
scalar_json Null = json.null
scalar_json (Truth t) = json.boolean t
scalar_json (Number n) = json.number (decimal n)
scalar_json (Signed z) = json.number (signed_decimal z)
scalar_json (Real r) = json.number r.text.now
scalar_json (Text t) = json.string t.now

abbrev items_json : List Scalar → json.Items
items_json [] = json.no_items
items_json (s ∷ ss) = json.item (scalar_json s) (items_json ss)

abbrev field_json : Field → Json
field_json (field.Plain s) = scalar_json s
field_json (field.List ss) = json.array (items_json ss.items)
field_json (field.Tree v) = json.null
field_json (field.Owned b) = json.null

abbrev members_json : List Member → json.Members
members_json [] = json.no_members
members_json (m ∷ ms) = json.member m.key.now (field_json m.value) (members_json ms)

-- ---- the data

signed_read : (z : ℤ) → FitsSigned w64 z → number_of (signed_decimal z) ≡ Some (of_integer z)
signed_read (pos n) h = number_of-decimal n (omega (arith, h.sfits))
signed_read (negsuc n) h = number_of-negative n h.sfits

scalar_read : (s : Scalar) → Fits s → of_json (scalar_json s) ≡ Some (scalar_data s)
scalar_read (Number n) h = ap (option_map number) (number_of-decimal n h)
scalar_read (Signed z) h = ap (option_map number) (signed_read z h)
scalar_read (Real r) h = ap (option_map number) (number_of_float r.text.now r.finite)
scalar_read other h = refl

items_read : (ss : List Scalar) → AllFit ss → of_items (items_json ss) ≡ Some (items_in ss)
items_read [] h = refl
items_read (s ∷ ss) h = rw (scalar_read s h.0, items_read ss h.1) refl

field_read : (f : Field) → IsSpelled f → of_json (field_json f) ≡ Some (data_of f)
field_read (field.Plain s) h = scalar_read s h
field_read (field.List ss) h = ap (option_map array) (items_read ss.items h)
field_read (field.Tree v) h = absurd h
field_read (field.Owned b) h = absurd h

members_read : (found : Members) (ms : List Member) → AreSpelled ms → of_members (members_json ms) found ≡ Some (members_from found ms)
members_read found [] h = refl
members_read found (m ∷ ms) h = rw (field_read m.value h.0) (members_read (put m.key.now (data_of m.value) found) ms h.1)

-- ---- the grammar

scalar_value : (depth : ℕ) (s : Scalar) (rest : List Token) → value depth (scalar_token s ∷ rest) ≡ Some (scalar_json s, rest)
scalar_value depth Null rest = value_is depth _
scalar_value depth other rest = value_is depth _

no_end : (s : Scalar) (rest : List Token) → after_end_array (scalar_token s ∷ rest) ≡ None
no_end Null rest = refl
no_end other rest = refl

items_value : (depth : ℕ) (ss : List Scalar) (rest : List Token) (n : ℕ) → length (map scalar_token ss ++ token.end_array ∷ rest) ≤ n
    → items (value depth) n (map scalar_token ss ++ token.end_array ∷ rest) ≡ Some (items_json ss, rest)
items_value depth [] rest n h = items_end (value depth) n _ rest h refl
items_value depth (s ∷ ss) rest n h =
    let left = map scalar_token ss ++ token.end_array ∷ rest in
    items_more (value depth) n (scalar_token s ∷ left) left (scalar_json s) (omega arith) (no_end s left) (scalar_value depth s left)
    ∙ ap (parse_map (json.item (scalar_json s))) (items_value depth ss rest (n - 1) (omega arith))

field_value : (f : Field) → IsSpelled f → (rest : List Token) → value 126 (field_tokens f ++ rest) ≡ Some (field_json f, rest)
field_value (field.Plain s) h rest = scalar_value 126 s rest
field_value (field.List ss) h rest =
    let left = map scalar_token ss.items ++ token.end_array ∷ rest in
    ap (λ ts. value 126 (token.begin_array ∷ ts)) (append_assoc (map scalar_token ss.items) (token.end_array ∷ []) rest)
    ∙ value-begin_array 126 left (omega arith) ∙ ap (parse_map json.array) (items_value 125 ss.items rest (length left) (omega arith))
field_value (field.Tree v) h rest = absurd h
field_value (field.Owned b) h rest = absurd h

members_value : (ms : List Member) → AreSpelled ms → (rest : List Token) (n : ℕ) → length (member_tokens ms ++ token.end_object ∷ rest) ≤ n
    → members (value 126) n (member_tokens ms ++ token.end_object ∷ rest) ≡ Some (members_json ms, rest)
members_value [] h rest n le = members_end (value 126) n _ rest le refl
members_value (m ∷ ms) h rest n le =
    let first = field_tokens m.value in
    let left = member_tokens ms ++ token.end_object ∷ rest in
    let same = append_assoc first (member_tokens ms) (token.end_object ∷ rest) in
    members_more (value 126) n m.key.now (token.key m.key.now ∷ ((first ++ member_tokens ms) ++ token.end_object ∷ rest))
    ((first ++ member_tokens ms) ++ token.end_object ∷ rest) left (field_json m.value)
    (omega arith) refl (ap (value 126) same ∙ field_value m.value h.0 left)
    ∙ ap (parse_map (json.member m.key.now (field_json m.value))) (members_value ms h.1 rest (n - 1) (omega (arith, ap length same, length-append first left)))

-- a text with these tokens is read as the object of these members
pub reads_members : (text : List ℕ) (ms : List Member) → AreSpelled ms → tokens text ≡ object_tokens ms → read text ≡ Some (object (members_in ms))
reads_members text ms h e =
    let left = member_tokens ms ++ token.end_object ∷ [] in
    ap (λ ts. option_and_then of_json (option_and_then (λ p. if_last p.0 p.1) (value 127 ts))) e
    ∙ ap (λ o. option_and_then of_json (option_and_then (λ p. if_last p.0 p.1) o))
    (value-begin_object 127 left (omega arith) ∙ ap (parse_map json.object) (members_value ms h [] (length left) (omega arith)))
    ∙ ap (option_map object) (members_read no_members ms h)

-- a value without parts, where one is read
pub scalar_turn : (depth : ℕ) (s : Scalar) (rest : List Token) → Fits s → converted of_json (value depth (scalar_token s ∷ rest)) ≡ Some (scalar_data s, rest)
scalar_turn depth s rest h = ap (converted of_json) (scalar_value depth s rest) ∙ ap (option_map (λ json. (json, rest))) (scalar_read s h)

-- a value that is borrowed, likewise
pub field_turn : (f : Field) → IsSpelled f → (rest : List Token) → converted of_json (value 126 (field_tokens f ++ rest)) ≡ Some (data_of f, rest)
field_turn f h rest = ap (converted of_json) (field_value f h rest) ∙ ap (option_map (λ json. (json, rest))) (field_read f h)

-- ---- tokens that no JSON has

no_item_turns : (p : Parse Json) (ts : List Token) → items p 0 ts ≡ None
unfolding items
no_item_turns p ts = refl

-- items stand in front of what ends no list
pub no_items_behind : (ss : List Scalar) (rest : List Token) → HasNoItems rest → HasNoItems (map scalar_token ss ++ rest)
no_items_behind [] rest none turns = none turns
no_items_behind (s ∷ ss) rest none zero = no_item_turns (value 125) _
no_items_behind (s ∷ ss) rest none (suc turns) =
    let left = map scalar_token ss ++ rest in
    items_more (value 125) (suc turns) (scalar_token s ∷ left) left (scalar_json s) (omega arith) (no_end s left) (scalar_value 125 s left)
    ∙ ap (parse_map (json.item (scalar_json s))) (no_items_behind ss rest none (suc turns - 1))

-- a list does not go on with a token that begins no value
pub no_items_from : (ts : List Token) → after_end_array ts ≡ None → value 125 ts ≡ None → HasNoItems ts
no_items_from ts going none turns = items_fail (value 125) turns ts going none

pub no_list : (ts : List Token) → HasNoItems ts → value 126 (token.begin_array ∷ ts) ≡ None
no_list ts none = value-begin_array 126 ts (omega arith) ∙ ap (parse_map json.array) (none (length ts))

pub nothing_read : (text : List ℕ) → value 127 (tokens text) ≡ None → read text ≡ None
nothing_read text none = ap (λ o. option_and_then of_json (option_and_then (λ p. if_last p.0 p.1) o)) none
