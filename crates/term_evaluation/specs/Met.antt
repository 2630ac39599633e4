-- The properties that an evaluation really reads.
use Rattle.std.specs.Prelude.{◌<◌, ℕ, suc, Bool, true, false, List, [], ◌∷◌, ◌++◌, length, slice_index_or, Option, Some, None, Ok, Err}
use Rattle.variant_value.specs.declared.value.Value.{Value}
use Rattle.variant_value.specs.Values.{truth_in}
use Rattle.term_core.specs.declared.target.Target.{Target}
use Rattle.term_core.specs.Term.{Term, const, arg, state, prop, binary, choice}
use Rattle.term_evaluation.specs.declared.reading.Read.{Read}
use Rattle.term_evaluation.specs.Evaluation.{eval_by}
use Rattle.term_evaluation.specs.Outcomes.{Answer}

-- What is read after a first answer, by its value; nothing after a fault.
abbrev pub behind : {O : Type 0} → Answer O → (Value → List Read) → List Read
behind (Ok value) f = f value
behind (Err cause) f = []

-- What is read in the branch that is taken.
abbrev pub in_branch : Option Bool → List Read → List Read → List Read
in_branch None held failed = []
in_branch (Some true) held failed = held
in_branch (Some false) held failed = failed

-- The properties that the evaluation of an expression really reads, in order, up to the first fault. Of a choice these
-- are those of the test and of the branch that is taken.
abbrev pub met_by : {O : Type 0} → List Value → (Target → List ℕ → Answer O) → Term → List Read
met_by args read (const value) = []
met_by args read (arg place) = []
met_by args read state = []
met_by args read (prop target name) = record { target = target; name = name } ∷ []
met_by args read (binary operator a b) = met_by args read a ++ behind (eval_by args read a) (λ x. met_by args read b)
met_by args read (choice test a b) =
    met_by args read test ++ behind (eval_by args read test) (λ t. in_branch (truth_in t) (met_by args read a) (met_by args read b))

-- It is true of all but the last.
abbrev pub EachButLast : {X : Type 0} → (X → Type 0) → List X → Type 0
EachButLast {X} P xs = (k : ℕ) (d : X) → suc k < length xs → P (slice_index_or xs k d)
