-- The laws of evaluation and of unfolding.
use Rattle.std.specs.Prelude.{◌≡◌, ◌≤◌, ℕ, List, [], length, map, IfOk, IsTrue}
use Rattle.std.specs.List.{All}
use Rattle.variant_value.specs.declared.value.Value.{Value}
use Rattle.variant_value.specs.Values.{IsShort}
use Rattle.term_core.specs.declared.body.Body.{Body}
use Rattle.term_core.specs.declared.target.Target.{Target}
use Rattle.term_core.specs.Act.{acts_of, counts}
use Rattle.term_core.specs.Arguments.{ActsTakeAtMost}
use Rattle.term_core.specs.Bodies.{is_body_limited}
use Rattle.term_core.specs.Term.{Term, nodes, has_short_texts}
use Rattle.term_evaluation.specs.declared.reading.Read.{Read}
use Rattle.term_evaluation.specs.Evaluation.{eval_by}
use Rattle.term_evaluation.specs.Known.{Known, read_of}
use Rattle.term_evaluation.specs.Met.{met_by}
use Rattle.term_evaluation.specs.Outcomes.{Answer}
use Rattle.term_evaluation.specs.Reading.{reads_of}
use Rattle.term_evaluation.specs.Stating.{with_state}
use Rattle.term_evaluation.specs.Unfolding.{unfolded_body, unfolded_term}

-- Two readers give the same answers for these properties.
abbrev pub AgreeOn : {O : Type 0} → List Read → (Target → List ℕ → Answer O) → (Target → List ℕ → Answer O) → Type 0
AgreeOn reads one other = All (λ read. one read.target read.name ≡ other read.target read.name) reads

-- The value of an expression depends only on the properties that it reads.
abbrev pub ReadsSuffice : Type 0 → Type 0
ReadsSuffice O = (term : Term) (args : List Value) (one other : Target → List ℕ → Answer O)
    → AgreeOn (reads_of term) one other → eval_by args one term ≡ eval_by args other term

-- It depends only on the properties that its evaluation really reads. With the same answers for these, the same
-- properties are read again.
abbrev pub MetSuffice : Type 0 → Type 0
MetSuffice O = (term : Term) (args : List Value) (one other : Target → List ℕ → Answer O) → AgreeOn (met_by args one term) one other
    → (eval_by args other term ≡ eval_by args one term) × (met_by args other term ≡ met_by args one term)

-- The answer of a reader for a property, as a row.
abbrev pub known_by : {O : Type 0} → (Target → List ℕ → Answer O) → Read → Known O
known_by read property = record { target = property.target; name = property.name; answer = read property.target property.name }

-- A reader may be replaced by the finite map of its answers for the properties that the expression reads.
abbrev pub FiniteReadsSuffice : Type 0 → Type 0
FiniteReadsSuffice O = (term : Term) (args : List Value) (read : Target → List ℕ → Answer O)
    → eval_by args (read_of (map (known_by read) (reads_of term))) term ≡ eval_by args read term

-- Evaluating with arguments is evaluating the expression in which they are put in.
abbrev pub EvaluatesInPlace : Type 0 → Type 0
EvaluatesInPlace O = (term : Term) (args : List Value) (read : Target → List ℕ → Answer O) → eval_by args read term ≡ eval_by [] read (unfolded_term args term)

-- If constants, arguments and the values that are read are short, the value of the expression is too.
abbrev pub ValuesAreShort : Type 0 → Type 0
ValuesAreShort O = (term : Term) (args : List Value) (read : Target → List ℕ → Answer O) → IsTrue (has_short_texts term)
    → All IsShort args → ((target : Target) (name : List ℕ) → IfOk (read target name) IsShort) → IfOk (eval_by args read term) IsShort

-- A body that takes only its parameters has no arguments left after it is unfolded with at least that many values.
abbrev pub UnfoldingLeavesNoArgument : Type 0
UnfoldingLeavesNoArgument = (body : Body) (args : List Value) → ActsTakeAtMost body.params (acts_of body.actions)
    → body.params ≤ length args → ActsTakeAtMost 0 (acts_of (unfolded_body args body))

-- Unfolding preserves the number of forms in an expression, and the number of actions in a body.
abbrev pub UnfoldingKeepsNodes : Type 0
UnfoldingKeepsNodes = (term : Term) (args : List Value) → nodes (unfolded_term args term) ≡ nodes term

abbrev pub UnfoldingKeepsActions : Type 0
UnfoldingKeepsActions = (body : Body) (args : List Value) → counts (acts_of (unfolded_body args body)) ≡ counts (acts_of body.actions)

-- With short arguments, an unfolded body keeps to the limits.
abbrev pub UnfoldingKeepsLimits : Type 0
UnfoldingKeepsLimits =
    (body : Body) (args : List Value) → All IsShort args → IsTrue (is_body_limited body.actions) → IsTrue (is_body_limited (unfolded_body args body))

-- A body in which a number replaces the state takes no other arguments, has the same number of actions, and still keeps
-- to the limits.
abbrev pub StateTakesNoArgument : Type 0
StateTakesNoArgument =
    (body : Body) (n : ℕ) → ActsTakeAtMost body.params (acts_of body.actions) → ActsTakeAtMost body.params (acts_of (with_state n body).actions)

abbrev pub StateKeepsActions : Type 0
StateKeepsActions = (body : Body) (n : ℕ) → counts (acts_of (with_state n body).actions) ≡ counts (acts_of body.actions)

abbrev pub StateKeepsLimits : Type 0
StateKeepsLimits = (body : Body) (n : ℕ) → IsTrue (is_body_limited body.actions) → IsTrue (is_body_limited (with_state n body).actions)
