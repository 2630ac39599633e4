-- The grammar's loops, a turn at a time, under the conversion to data.
use Rattle.std.proofs.Common.{◌≡◌, ℕ, zero, suc, ◌-◌, ◌<◌, ◌≤◌, List, [], ◌∷◌, ◌++◌, length, Option, Some, None}
use Rattle.std.proofs.Common.{option_map, option_and_then, refl, ap, ap₂, ◌∙◌, arith}
use Rattle.json.specs.Token.{Token}
use Rattle.json.specs.Token as token
use Rattle.json.specs.Json as json
use Rattle.json.specs.Json.{Parse, parse_map, after_end_array, read_key, items_step, items, members, value, if_last}
use Rattle.json.proofs.Grammar.{items_end, items_more, members_end, members_no_key, members_more, read_key-shorter, value-begin_array, value-begin_object}
use Rattle.serde_json.specs.Data.{Data, array, object, Items, no_items, item, Members, no_members, put}
use Rattle.serde_json.specs.Read.{of_json, of_items, of_members, converted}
use Rattle.serde_json.specs.View.{view, items_view}
use Rattle.serde_json.specs.declared.value.Value.{Value}
use Rattle.json_reading.specs.Tokens.{rest_of_items, rest_of_members, value_in}

abbrev pick : {A : Type 0} → A → Option A → A
pick d None = d
pick d (Some a) = a

found : {A B : Type 0} (a : A) (r s : List Token) (x : Option B) (b : B) → option_map {U = B × List Token} (λ y. (y, r)) x ≡ Some (b, s)
    → (r ≡ s) × (x ≡ Some b)
found a r s None b e = absurd (cc)
found a r s (Some y) b e = let same = ap (pick (y, r)) e in (ap (λ p. p.1) same, ap (λ p. Some p.0) same)

pub converted_some : {A B : Type 0} (f : A → Option B) (o : Option (A × List Token)) (b : B) (r : List Token) → converted f o ≡ Some (b, r)
    → (a : A) × (o ≡ Some (a, r)) × (f a ≡ Some b)
converted_some f None b r e = absurd (cc)
converted_some f (Some p) b r e = let both = found p.0 p.1 r (f p.0) b e in (p.0, ap (λ s. Some (p.0, s)) both.0, both.1)

refused : {B : Type 0} (r : List Token) (x : Option B) → option_map {U = B × List Token} (λ y. (y, r)) x ≡ None → x ≡ None
refused r None e = refl
refused r (Some y) e = absurd (cc)

twice : {A B : Type 0} (g : A → B) (r : List Token) (x : Option A) → option_map (λ b. (b, r)) (option_map g x) ≡ parse_map g (option_map (λ a. (a, r)) x)
twice g r None = refl
twice g r (Some a) = refl

converted-array : (o : Option (json.Items × List Token)) → converted of_json (parse_map json.array o) ≡ parse_map array (converted of_items o)
converted-array None = refl
converted-array (Some p) = twice array p.1 (of_items p.0)

converted-object : (o : Option (json.Members × List Token))
    → converted of_json (parse_map json.object o) ≡ parse_map object (converted (λ ms. of_members ms no_members) o)
converted-object None = refl
converted-object (Some p) = twice object p.1 (of_members p.0 no_members)

with_item : (j : json.Json) (d : Data) → of_json j ≡ Some d → (o : Option (json.Items × List Token))
    → converted of_items (parse_map (json.item j) o) ≡ parse_map (item d) (converted of_items o)
with_item j d e None = refl
with_item j d e (Some p) = rw e (twice (item d) p.1 (of_items p.0))

without_item : (j : json.Json) → of_json j ≡ None → (o : Option (json.Items × List Token)) → converted of_items (parse_map (json.item j) o) ≡ None
without_item j e None = refl
without_item j e (Some p) = rw e

with_member : (k : List ℕ) (j : json.Json) (d : Data) (old : Members) → of_json j ≡ Some d → (o : Option (json.Members × List Token))
    → converted (λ ms. of_members ms old) (parse_map (json.member k j) o) ≡ converted (λ ms. of_members ms (put k d old)) o
with_member k j d old e None = refl
with_member k j d old e (Some p) = rw e

without_member : (k : List ℕ) (j : json.Json) (old : Members) → of_json j ≡ None → (o : Option (json.Members × List Token))
    → converted (λ ms. of_members ms old) (parse_map (json.member k j) o) ≡ None
without_member k j old e None = refl
without_member k j old e (Some p) = rw e

-- ---- a list that grows at its end

abbrev pub items_before : List Value → Items → Items
items_before [] rest = rest
items_before (v ∷ vs) rest = item (view v) (items_before vs rest)

items_before-no_items : (vs : List Value) → items_before vs no_items ≡ items_view vs
items_before-no_items [] = refl
items_before-no_items (v ∷ vs) = ap (item (view v)) (items_before-no_items vs)

items_push : (vs : List Value) (v : Value) (rest : Items) → items_before vs (item (view v) rest) ≡ items_before (vs ++ v ∷ []) rest
items_push [] v rest = refl
items_push (w ∷ vs) v rest = ap (item (view w)) (items_push vs v rest)

items_push_read : (vs : List Value) (v : Value) (r : Option (Items × List Token))
    → parse_map (items_before vs) (parse_map (item (view v)) r) ≡ parse_map (items_before (vs ++ v ∷ [])) r
items_push_read vs v None = refl
items_push_read vs v (Some p) = ap (λ ds. Some (ds, p.1)) (items_push vs v p.0)

none_before : (r : Option (Items × List Token)) → r ≡ parse_map (λ a. a) r
none_before None = refl
none_before (Some p) = refl

-- The items of a list as far as these have been found: the rest is read from the tokens that are left.
pub record ItemsSoFar (depth : ℕ) (found : List Value) (all left : List Token) : Type 0 where
  pub turns : ℕ
  pub enough : length left ≤ turns
  pub rest : rest_of_items depth all ≡ parse_map (items_before found) (converted of_items (items (value depth) turns left))

pub no_items_yet : (depth : ℕ) (all : List Token) → ItemsSoFar depth [] all all
no_items_yet depth all = record { turns = length all; enough = omega arith; rest = none_before _ }

pub one_more_item : {depth : ℕ} {vs : List Value} {all left r : List Token} (v : Value) → ItemsSoFar depth vs all left → after_end_array left ≡ None
    → value_in depth left ≡ Some (view v, r) → length r < length left → ItemsSoFar depth (vs ++ v ∷ []) all r
one_more_item {depth} {vs} {all} {left} {r} v so_far going e less =
    let n = so_far.turns in
    let enough : length left ≤ n = so_far.enough in
    let j = converted_some of_json (value depth left) (view v) r e in
    record {
      turns = n - 1;
      enough = omega arith;
      rest = so_far.rest
          ∙ ap (parse_map (items_before vs))
          (ap (converted of_items) (items_more (value depth) n left r j.0 (omega arith) going j.1) ∙ with_item j.0 (view v) j.2 _)
          ∙ items_push_read vs v _;
    }

no_item : (more : Parse json.Items) (o : Option (json.Json × List Token)) → converted of_json o ≡ None
    → converted of_items (option_and_then (λ q. parse_map (json.item q.0) (more q.1)) o) ≡ None
no_item more None e = refl
no_item more (Some q) e = without_item q.0 (refused q.1 (of_json q.0) e) (more q.1)

item_refused : (p : Parse json.Json) (n : ℕ) (ts : List Token) → after_end_array ts ≡ None → converted of_json (p ts) ≡ None
    → converted of_items (items p n ts) ≡ None
unfolding items
item_refused p zero ts going e = refl
item_refused p (suc n) ts going e = ap (λ o. converted of_items (items_step p (items p n) ts o)) going ∙ no_item (items p n) (p ts) e

pub no_further_item : {depth : ℕ} {vs : List Value} {all left : List Token} → ItemsSoFar depth vs all left → after_end_array left ≡ None
    → value_in depth left ≡ None → rest_of_items depth all ≡ None
no_further_item {depth} {vs} {all} {left} so_far going e = so_far.rest ∙ ap (parse_map (items_before vs)) (item_refused (value depth) so_far.turns left going e)

pub items_over : {depth : ℕ} {vs : List Value} {all left r : List Token} → ItemsSoFar depth vs all left → after_end_array left ≡ Some r
    → rest_of_items depth all ≡ Some (items_view vs, r)
items_over {depth} {vs} {all} {left} {r} so_far e =
    so_far.rest
    ∙ ap (parse_map (items_before vs)) (ap (converted of_items) (items_end (value depth) so_far.turns left r so_far.enough e))
    ∙ ap (λ ds. Some (ds, r)) (items_before-no_items vs)

-- ---- an object that grows at its end

-- The members of an object as far as these have been found: the rest is read from the tokens that are left.
pub record MembersSoFar (depth : ℕ) (found : Members) (all left : List Token) : Type 0 where
  pub turns : ℕ
  pub enough : length left ≤ turns
  pub rest : rest_of_members depth all ≡ converted (λ ms. of_members ms found) (members (value depth) turns left)

pub no_members_yet : (depth : ℕ) (all : List Token) → MembersSoFar depth no_members all all
no_members_yet depth all = record { turns = length all; enough = omega arith; rest = refl }

pub one_more_member : {depth : ℕ} {found : Members} {all left s r : List Token} {k : List ℕ} {d : Data} → MembersSoFar depth found all left
    → read_key left ≡ Some (Some k, s) → value_in depth s ≡ Some (d, r) → length r < length s → MembersSoFar depth (put k d found) all r
one_more_member {depth} {found} {all} {left} {s} {r} {k} {d} so_far key e less =
    let n = so_far.turns in
    let enough : length left ≤ n = so_far.enough in
    let shorter = read_key-shorter left (Some k) s key in
    let j = converted_some of_json (value depth s) d r e in
    record {
      turns = n - 1;
      enough = omega arith;
      rest = so_far.rest ∙ ap (converted (λ ms. of_members ms found)) (members_more (value depth) n k left s r j.0 (omega arith) key j.1)
          ∙ with_member k j.0 d found j.2 _;
    }

no_member : (k : List ℕ) (old : Members) (more : Parse json.Members) (o : Option (json.Json × List Token)) → converted of_json o ≡ None
    → converted (λ ms. of_members ms old) (option_and_then (λ q. parse_map (json.member k q.0) (more q.1)) o) ≡ None
no_member k old more None e = refl
no_member k old more (Some q) e = without_member k q.0 old (refused q.1 (of_json q.0) e) (more q.1)

member_refused : (p : Parse json.Json) (old : Members) (n : ℕ) (k : List ℕ) (ts s : List Token) → read_key ts ≡ Some (Some k, s)
    → converted of_json (p s) ≡ None → converted (λ ms. of_members ms old) (members p n ts) ≡ None
unfolding members
member_refused p old zero k ts s key e = refl
member_refused p old (suc n) k ts s key e = rw key (no_member k old (members p n) (p s) e)

pub no_further_member : {depth : ℕ} {found : Members} {all left s : List Token} {k : List ℕ} → MembersSoFar depth found all left
    → read_key left ≡ Some (Some k, s) → value_in depth s ≡ None → rest_of_members depth all ≡ None
no_further_member {depth} {found} {all} {left} {s} {k} so_far key e = so_far.rest ∙ member_refused (value depth) found so_far.turns k left s key e

pub no_further_key : {depth : ℕ} {found : Members} {all left : List Token} → MembersSoFar depth found all left → read_key left ≡ None
    → rest_of_members depth all ≡ None
no_further_key {depth} {found} {all} {left} so_far e =
    so_far.rest ∙ ap (converted (λ ms. of_members ms found)) (members_no_key (value depth) so_far.turns left e)

pub members_over : {depth : ℕ} {found : Members} {all left r : List Token} → MembersSoFar depth found all left → read_key left ≡ Some (None, r)
    → rest_of_members depth all ≡ Some (found, r)
members_over {depth} {found} {all} {left} {r} so_far e =
    so_far.rest ∙ ap (converted (λ ms. of_members ms found)) (members_end (value depth) so_far.turns left r so_far.enough e)

-- ---- arrays and objects, by their first token

pub array_begun : (depth : ℕ) (text ts : List Token) → 0 < depth → text ≡ token.begin_array ∷ ts
    → value_in depth text ≡ parse_map array (rest_of_items (depth - 1) ts)
array_begun depth text ts some is = ap (λ all. converted of_json (value depth all)) is ∙ ap (converted of_json) (value-begin_array depth ts some)
    ∙ converted-array (items (value (depth - 1)) (length ts) ts)

pub object_begun : (depth : ℕ) (text ts : List Token) → 0 < depth → text ≡ token.begin_object ∷ ts
    → value_in depth text ≡ parse_map object (rest_of_members (depth - 1) ts)
object_begun depth text ts some is = ap (λ all. converted of_json (value depth all)) is ∙ ap (converted of_json) (value-begin_object depth ts some)
    ∙ converted-object (members (value (depth - 1)) (length ts) ts)

-- at no depth, nothing that has parts is read
pub too_deep : (opening : Token) (depth : ℕ) (text ts : List Token) → converted of_json (value 0 (opening ∷ ts)) ≡ None → depth ≡ 0 → text ≡ opening ∷ ts
    → converted of_json (value depth text) ≡ None
too_deep opening depth text ts none at_end is = ap (converted of_json) (ap₂ value at_end is) ∙ none

-- ---- the whole text

abbrev pub whole : Option (json.Json × List Token) → Option Data
whole o = option_and_then of_json (option_and_then (λ p. if_last p.0 p.1) o)

pub whole_read : (o : Option (json.Json × List Token)) (d : Data) → converted of_json o ≡ Some (d, []) → whole o ≡ Some d
whole_read o d e = let j = converted_some of_json o d [] e in ap whole j.1 ∙ j.2

pub whole_and_more : (o : Option (json.Json × List Token)) (d : Data) (t : Token) (r : List Token) → converted of_json o ≡ Some (d, t ∷ r) → whole o ≡ None
whole_and_more o d t r e = ap whole (converted_some of_json o d (t ∷ r) e).1

pub whole_refused : (o : Option (json.Json × List Token)) → converted of_json o ≡ None → whole o ≡ None
whole_refused None e = refl
whole_refused (Some (j, [])) e = refused [] (of_json j) e
whole_refused (Some (j, t ∷ r)) e = refl
