-- Bodies with their arguments put in: no argument is left where as many are given as there are parameters,
-- and counts and limits are kept.
use Rattle.std.proofs.Common.{◌≡◌, ◌∙◌, ◌≤◌, ◌<◌, ◌&&◌, ℕ, zero, suc, List, [], ◌∷◌, Option, Some, None, length, nat_le, IsTrue, refl, ap, arith}
use Rattle.std.specs.Prelude.{slice_get}
use Rattle.std.specs.List.{All}
use Rattle.std.specs.Option.{option_map_or}
use Rattle.std.proofs.lemmas.Bool.{le-leb}
use Rattle.std.proofs.lemmas.List.Elements.{All-head, All-tail}
use Rattle.variant_value.specs.declared.value.Value.{Value}
use Rattle.variant_value.specs.declared.value.Value.TheVariants as v
use Rattle.variant_value.specs.Values.{IsShort}
use Rattle.term_core.specs.declared.body.Body.{Body}
use Rattle.term_core.specs.Act.{acts_of, counts}
use Rattle.term_core.specs.Arguments.{TakesAtMost, ActsTakeAtMost}
use Rattle.term_core.specs.Bodies.{is_body_limited}
use Rattle.term_core.specs.Forms.{is_within_limits}
use Rattle.term_core.specs.Term.{Term, const, arg, state, prop, binary, choice, nodes, is_short, has_short_texts}
use Rattle.term_evaluation.specs.Unfolding.{unfolded_term, unfolded_body}
use Rattle.std.proofs.lemmas.Bool.{and_from, and_parts}
use Rattle.term_evaluation.proofs.ChangeLemmas.{body_takes, body_counts, body_within}

given : (args : List Value) (place : ℕ) (other : Term) → place < length args → TakesAtMost 0 (option_map_or const (slice_get args place) other)
given [] place other h = absurd (omega arith)
given (value ∷ rest) zero other h = tt
given (value ∷ rest) (suc place) other h = given rest place other (omega arith)

term_unfolded : (n : ℕ) (args : List Value) → n ≤ length args → (term : Term) → TakesAtMost n term → TakesAtMost 0 (unfolded_term args term)
term_unfolded n args enough (arg place) h = given args place (arg place) (omega arith)
term_unfolded n args enough (binary operator a b) h = (term_unfolded n args enough a h.0, term_unfolded n args enough b h.1)
term_unfolded n args enough (choice test a b) h =
    (term_unfolded n args enough test h.0, (term_unfolded n args enough a h.1.0, term_unfolded n args enough b h.1.1))
term_unfolded n args enough other h = tt

pub no_argument_left : (body : Body) (args : List Value) → ActsTakeAtMost body.params (acts_of body.actions) → body.params ≤ length args
    → ActsTakeAtMost 0 (acts_of (unfolded_body args body))
no_argument_left body args within enough = body_takes (unfolded_term args) body.params 0 (term_unfolded body.params args enough) body.actions within

-- how much there is

counted : (o : Option Value) (place : ℕ) → nodes (option_map_or const o (arg place)) ≡ 1
counted None place = refl
counted (Some value) place = refl

pub nodes_unfolded : (term : Term) (args : List Value) → nodes (unfolded_term args term) ≡ nodes term
nodes_unfolded (arg place) args = counted (slice_get args place) place
nodes_unfolded (binary operator a b) args = omega (arith, nodes_unfolded a args, nodes_unfolded b args)
nodes_unfolded (choice test a b) args = omega (arith, nodes_unfolded test args, nodes_unfolded a args, nodes_unfolded b args)
nodes_unfolded other args = refl

pub actions_kept : (body : Body) (args : List Value) → counts (acts_of (unfolded_body args body)) ≡ counts (acts_of body.actions)
actions_kept body args = body_counts (unfolded_term args) body.actions

-- limits

short : (value : Value) → IsShort value → IsTrue (is_short value)
short (v.Text text) h = le-leb (length text) 4096 h
short other h = refl

short_given : (args : List Value) (place : ℕ) (other : Term) → All IsShort args → IsTrue (has_short_texts other)
    → IsTrue (has_short_texts (option_map_or const (slice_get args place) other))
short_given [] place other all h = h
short_given (value ∷ rest) zero other all h = short value (All-head IsShort value rest all)
short_given (value ∷ rest) (suc place) other all h = short_given rest place other (All-tail IsShort value rest all) h

texts_unfolded : (term : Term) (args : List Value) → All IsShort args → IsTrue (has_short_texts term) → IsTrue (has_short_texts (unfolded_term args term))
texts_unfolded (const value) args all h = h
texts_unfolded (arg place) args all h = short_given args place (arg place) all refl
texts_unfolded state args all h = refl
texts_unfolded (prop target name) args all h = refl
texts_unfolded (binary operator a b) args all h =
    let each = and_parts (has_short_texts a) (has_short_texts b) h in
    and_from _ _ (texts_unfolded a args all each.0) (texts_unfolded b args all each.1)
texts_unfolded (choice test a b) args all h =
    let first = and_parts (has_short_texts test) (has_short_texts a && has_short_texts b) h in
    let each = and_parts (has_short_texts a) (has_short_texts b) first.1 in
    and_from _ _ (texts_unfolded test args all first.0) (and_from _ _ (texts_unfolded a args all each.0) (texts_unfolded b args all each.1))

term_within : (args : List Value) → All IsShort args → (term : Term) → IsTrue (is_within_limits term) → IsTrue (is_within_limits (unfolded_term args term))
term_within args all term h =
    let each = and_parts (nat_le (nodes term) 64) (has_short_texts term) h in
    and_from _ _ (ap (λ n. nat_le n 64) (nodes_unfolded term args) ∙ each.0) (texts_unfolded term args all each.1)

pub limits_kept : (body : Body) (args : List Value) → All IsShort args → IsTrue (is_body_limited body.actions)
    → IsTrue (is_body_limited (unfolded_body args body))
limits_kept body args all h = body_within (unfolded_term args) (term_within args all) body.actions h
