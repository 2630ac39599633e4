-- The keys of members, as the code and as the definitions go over them.
use Rattle.std.proofs.Common.{◌≡◌, ℕ, Bool, true, false, ◌&&◌, List, [], ◌∷◌, Ordering, Less, Equal, Greater, is_eq, nat_cmp, refl, sym, ap, ◌∙◌}
use Rattle.std.proofs.lemmas.Map.Text.{is_eq-slice_cmp}
use Rattle.std.proofs.lemmas.Slice.Eq.{bytes_eq-Decides}
use Rattle.std.specs.Cmp.Lexicographic.{slice_cmp}
use Rattle.std.specs.List.{list_all}
use Rattle.std.specs.Ordering.{match_ordering}
use Rattle.serde_json.specs.Data.{Data, Members, no_members, member, put}
use Rattle.json_reading.specs.declared.field.Member.{Member}
use Rattle.json_reading.specs.Fields.{all_keys}
use Rattle.json_reading.specs.Members.{data_of, members_from, members_in}

twice : (a b : Bool) → (a && (a && b)) ≡ (a && b)
twice true b = refl
twice false b = refl

swapped : (a b c : Bool) → (a && (b && c)) ≡ (b && (a && c))
swapped true b c = refl
swapped false true c = refl
swapped false false c = refl

grouped : (a b c : Bool) → (a && (b && c)) ≡ ((a && b) && c)
grouped true b c = refl
grouped false b c = refl

put_key_at : (o : Ordering) (test : List ℕ → Bool) (k l : List ℕ) (d e : Data) (ms : Members) → slice_cmp nat_cmp k l ≡ o
    → all_keys test (put k d ms) ≡ (test k && all_keys test ms)
    → all_keys test (match_ordering o (member k d (member l e ms)) (member l d ms) (member l e (put k d ms))) ≡ (test k && all_keys test (member l e ms))
put_key_at Less test k l d e ms is later = refl
put_key_at Equal test k l d e ms is later =
    let same : k ≡ l = (bytes_eq-Decides k l).0 (sym (is_eq-slice_cmp k l) ∙ ap is_eq is) in
    sym (twice (test l) (all_keys test ms)) ∙ ap (λ key. test key && (test l && all_keys test ms)) (sym same)
put_key_at Greater test k l d e ms is later =
    ap (λ rest. test l && rest) later ∙ swapped (test l) (test k) (all_keys test ms)

put_key : (test : List ℕ → Bool) (k : List ℕ) (d : Data) (ms : Members) → all_keys test (put k d ms) ≡ (test k && all_keys test ms)
put_key test k d no_members = refl
put_key test k d (member l e ms) = put_key_at _ test k l d e ms refl (put_key test k d ms)

keys_from : (test : List ℕ → Bool) (found : Members) (ms : List Member)
    → all_keys test (members_from found ms) ≡ (list_all (λ m. test m.key.now) ms && all_keys test found)
keys_from test found [] = refl
keys_from test found (m ∷ ms) =
    keys_from test (put m.key.now (data_of m.value) found) ms
    ∙ ap (λ rest. list_all (λ n. test n.key.now) ms && rest) (put_key test m.key.now (data_of m.value) found)
    ∙ swapped (list_all (λ n. test n.key.now) ms) (test m.key.now) (all_keys test found)
    ∙ grouped (test m.key.now) (list_all (λ n. test n.key.now) ms) (all_keys test found)

and_true : (b : Bool) → (b && true) ≡ b
and_true true = refl
and_true false = refl

pub all_keys_in : (test : List ℕ → Bool) (ms : List Member) → all_keys test (members_in ms) ≡ list_all (λ m. test m.key.now) ms
all_keys_in test ms = keys_from test no_members ms ∙ and_true _
