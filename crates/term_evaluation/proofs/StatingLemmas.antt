-- Bodies with a number in the place of the state: they take the same arguments, and keep to the limits. And a
-- body that nothing is put into.
use Rattle.std.proofs.Common.{◌≡◌, ◌∙◌, ◌&&◌, ℕ, zero, suc, Bool, true, false, List, [], Some, None, map, nat_le, IsTrue, refl, ap, ap₂, sym, arith}
use Rattle.std.specs.Prelude.{◌-◌, ◌^◌, if◌then◌else◌, neg_ℤ, pos, slice_get, unsigned_abs, unwrap_or}
use Rattle.std.specs.Option.{option_map_or, option_or}
use Rattle.variant_value.specs.declared.value.Value.{Value}
use Rattle.variant_value.specs.declared.value.Value.TheVariants as v
use Rattle.variant_value.specs.Values.{is_within}
use Rattle.term_core.specs.declared.body.Body.{Body}
use Rattle.term_core.specs.Act.{Act, acts_of, are_named, counts}
use Rattle.term_core.specs.Arguments.{TakesAtMost, ActsTakeAtMost}
use Rattle.term_core.specs.Bodies.{is_body_limited}
use Rattle.term_core.specs.Forms.{is_within_limits}
use Rattle.term_core.specs.Term.{Term, const, arg, state, prop, binary, choice, nodes, is_short, has_short_texts}
use Rattle.term_evaluation.specs.Stating.{put_in, state_value, stated_term, with_state}
use Rattle.term_evaluation.specs.Unfolding.{act_by, unfolded_body, unfolded_term}
use Rattle.std.proofs.lemmas.Bool.{and_from, and_parts}
use Rattle.term_evaluation.proofs.ChangeLemmas.{body_takes, body_counts, body_named, body_within, body_same, body_twice}

takes_stated : (n m : ℕ) (term : Term) → TakesAtMost m term → TakesAtMost m (stated_term (Some n) term)
takes_stated n m (arg place) h = h
takes_stated n m (binary operator a b) h = (takes_stated n m a h.0, takes_stated n m b h.1)
takes_stated n m (choice test a b) h = (takes_stated n m test h.0, (takes_stated n m a h.1.0, takes_stated n m b h.1.1))
takes_stated n m other h = tt

pub state_takes : (body : Body) (n : ℕ) → ActsTakeAtMost body.params (acts_of body.actions) → ActsTakeAtMost body.params (acts_of (with_state n body).actions)
state_takes body n h = body_takes (stated_term (Some n)) body.params body.params (takes_stated n body.params) body.actions h

nodes_stated : (n : ℕ) (term : Term) → nodes (stated_term (Some n) term) ≡ nodes term
nodes_stated n (binary operator a b) = omega (arith, nodes_stated n a, nodes_stated n b)
nodes_stated n (choice test a b) = omega (arith, nodes_stated n test, nodes_stated n a, nodes_stated n b)
nodes_stated n other = refl

pub state_counts : (body : Body) (n : ℕ) → counts (acts_of (with_state n body).actions) ≡ counts (acts_of body.actions)
state_counts body n = body_counts (stated_term (Some n)) body.actions

pub state_named : (body : Body) (n : ℕ) → are_named (acts_of (with_state n body).actions) ≡ are_named (acts_of body.actions)
state_named body n = body_named (stated_term (Some n)) body.actions

-- a state is no text
short_state : (n : ℕ) → IsTrue (is_short (state_value n))
short_state n = by (is_within (neg_ℤ (pos (2 ^ 31))) (pos (2 ^ 31 - 1)) (pos n)) (is_within (neg_ℤ (pos (2 ^ 63))) (pos (2 ^ 63 - 1)) (pos n))
    (is_within (pos 0) (pos (2 ^ 64 - 1)) (pos n))
  where
    by : (a b c : Bool) → IsTrue (is_short (unwrap_or
        (option_or (if a then Some (v.Int (pos n)) else None)
        (option_or (if b then Some (v.Longlong (pos n)) else None) (if c then Some (v.Ulonglong (unsigned_abs (pos n))) else None))) (v.Ulonglong n)))
    by true b c = refl
    by false true c = refl
    by false false true = refl
    by false false false = refl

texts_stated : (n : ℕ) (term : Term) → IsTrue (has_short_texts term) → IsTrue (has_short_texts (stated_term (Some n) term))
texts_stated n (const value) h = h
texts_stated n (arg place) h = refl
texts_stated n state h = short_state n
texts_stated n (prop target name) h = refl
texts_stated n (binary operator a b) h =
    let each = and_parts (has_short_texts a) (has_short_texts b) h in
    and_from _ _ (texts_stated n a each.0) (texts_stated n b each.1)
texts_stated n (choice test a b) h =
    let first = and_parts (has_short_texts test) (has_short_texts a && has_short_texts b) h in
    let each = and_parts (has_short_texts a) (has_short_texts b) first.1 in
    and_from _ _ (texts_stated n test first.0) (and_from _ _ (texts_stated n a each.0) (texts_stated n b each.1))

within_stated : (n : ℕ) (term : Term) → IsTrue (is_within_limits term) → IsTrue (is_within_limits (stated_term (Some n) term))
within_stated n term h =
    let each = and_parts (nat_le (nodes term) 64) (has_short_texts term) h in
    and_from _ _ (ap (λ m. nat_le m 64) (nodes_stated n term) ∙ each.0) (texts_stated n term each.1)

pub state_limits : (body : Body) (n : ℕ) → IsTrue (is_body_limited body.actions) → IsTrue (is_body_limited (with_state n body).actions)
state_limits body n h = body_within (stated_term (Some n)) (within_stated n) body.actions h

-- both put in at once
pub put_in_both : (n : ℕ) (args : List Value) (body : Body) → map (act_by (put_in (Some n) args)) body.actions ≡ unfolded_body args (with_state n body)
put_in_both n args body = sym (body_twice (stated_term (Some n)) (unfolded_term args) body.actions)

-- nothing put in

argument_same : (place : ℕ) → option_map_or const (slice_get [] place) (arg place) ≡ arg place
argument_same zero = refl
argument_same (suc place) = refl

term_same : (term : Term) → put_in None [] term ≡ term
term_same (arg place) = argument_same place
term_same (binary operator a b) = ap₂ (binary operator) (term_same a) (term_same b)
term_same (choice test a b) =
    ap (λ test. choice test (put_in None [] a) (put_in None [] b)) (term_same test)
    ∙ ap₂ (choice test) (term_same a) (term_same b)
term_same other = refl

pub body_copied : (body : Body) (actions : List Act) → actions ≡ map (act_by (put_in None [])) body.actions
    → record { params = body.params; actions = actions } ≡ body
body_copied body actions is = ap (λ (actions : List Act). record { params = body.params; actions = actions })
    (is ∙ body_same (put_in None []) term_same body.actions)
