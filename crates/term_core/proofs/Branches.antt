-- The branches of a choice, looked up by their keys.
use Rattle.std.proofs.Common.{◌≡◌, ◌∙◌, ◌≤◌, ◌<◌, ℕ, zero, suc, List, [], ◌∷◌, Bool, Option, Some, Ok, Ordering, Less, Equal, Greater, option_map, codes}
use Rattle.std.proofs.Common.{length, get_or, refl, ap, is_eq, nat_cmp, cond, arith}
use Rattle.std.specs.Cmp.Lexicographic.{slice_cmp}
use Rattle.std.specs.Ordering.{match_ordering}
use Rattle.std.proofs.lemmas.Map.Text.{is_eq-slice_cmp}
use Rattle.serde_json.specs.Data.{Data, object, Members, no_members, member, depth, items_depth, members_depth}
use Rattle.serde_json.specs.Find.{get, get_member}
use Rattle.serde_json.specs.View.{view, items_view}
use Rattle.serde_json.specs.declared.value.Value.{Value}
use Rattle.term_core.specs.declared.scope.Scope.{Scope}
use Rattle.term_core.specs.Bodies.{made, action_in, act_in, branch_in, actions_in, acts_in}
use Rattle.term_core.specs.Json.{◌>>=◌}
use Rattle.term_core.proofs.Concatenated.{ReadsAll}

chosen : {A B : Type 0} (f : A → B) (x : A) (rest : Option B) (found : Option A) (o : Ordering) (b : Bool) → is_eq o ≡ b → rest ≡ option_map f found
    → cond b (Some (f x)) rest ≡ option_map f (match_ordering o found (Some x) found)
chosen f x rest found Less b e same = rw (← e) same
chosen f x rest found Equal b e same = rw (← e)
chosen f x rest found Greater b e same = rw (← e) same

branch_in-get : (scope : Scope) (key : List ℕ) (ms : Members) → branch_in scope key ms ≡ option_map (actions_in scope) (get_member key ms)
branch_in-get scope key no_members = refl
branch_in-get scope key (member other json rest) = chosen (actions_in scope) json _ _ (slice_cmp nat_cmp key other) _ (is_eq-slice_cmp key other)
    (branch_in-get scope key rest)

pub act_in-action_in : (scope : Scope) (json : Data) → act_in scope json ≡ action_in scope json
act_in-action_in scope (object inside) =
    ap (λ held. made scope (object inside) held (branch_in scope (codes "else") inside)) (branch_in-get scope (codes "then") inside)
    ∙ ap (λ failed. made scope (object inside) (option_map (actions_in scope) (get_member (codes "then") inside)) failed)
    (branch_in-get scope (codes "else") inside)
act_in-action_in scope other = refl

pub acts_in_reads : (scope : Scope) → ReadsAll (action_in scope) (acts_in scope)
acts_in_reads scope json rest = ap (λ r. r >>= λ x. acts_in scope rest >>= λ xs. Ok (x ∷ xs)) (act_in-action_in scope json)

-- what lies inside nests less deep

found_within : (o : Ordering) (n : ℕ) (d e : Data) (rest : Option Data) → (rest ≡ Some e → depth e ≤ n) → depth d ≤ n
    → match_ordering o rest (Some d) rest ≡ Some e → depth e ≤ n
found_within Less n d e rest later here is = later is
found_within Equal n d e rest later here is = let same : d ≡ e = cc in rw (← same) here
found_within Greater n d e rest later here is = later is

get_member_within : (key : List ℕ) (ms : Members) (e : Data) → get_member key ms ≡ Some e → depth e ≤ members_depth ms
get_member_within key no_members e is = absurd (cc)
get_member_within key (member other json rest) e is = found_within (slice_cmp nat_cmp key other) _ json e (get_member key rest)
    (λ later. omega (arith, get_member_within key rest e later)) (omega arith) is

pub get_falls : (key : List ℕ) (json e : Data) → get key json ≡ Some e → depth e < depth json
get_falls key (object inside) e is = omega (arith, get_member_within key inside e is)
get_falls key other e is = absurd (cc)

pub item_within : (vs : List Value) (i : ℕ) (d : Value) → i < length vs → depth (view (get_or vs i d)) ≤ items_depth (items_view vs)
item_within [] i d h = absurd (omega arith)
item_within (v ∷ vs) zero d h = omega arith
item_within (v ∷ vs) (suc i) d h = omega (arith, item_within vs i d (omega arith))
