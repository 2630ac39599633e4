-- A reader, and the finite map of what it answers.
use Rattle.std.proofs.Common.{◌≡◌, ℕ, zero, suc, ◌<◌, ◌&&◌, Bool, true, false, cond, List, [], ◌∷◌, Some, length, get_or, map, refl, sym, ap, ap₂, arith}
use Rattle.std.specs.Prelude.{bytes_eq}
use Rattle.std.specs.List.{find}
use Rattle.std.specs.Option.{option_map_or}
use Rattle.std.proofs.lemmas.Bool.{and_parts, eqb-true, eq-eqb}
use Rattle.variant_value.specs.declared.value.Value.{Value}
use Rattle.term_core.specs.declared.target.Target.{Target}
use Rattle.term_core.specs.declared.target.Target.TheVariants.{Itself, Sender, Child, Object}
use Rattle.term_core.specs.Term.{Term}
use Rattle.term_evaluation.specs.declared.reading.Read.{Read}
use Rattle.term_evaluation.specs.Evaluation.{eval_by}
use Rattle.term_evaluation.specs.Known.{Known, is_about, is_target, read_of}
use Rattle.term_evaluation.specs.Laws.{known_by}
use Rattle.term_evaluation.specs.Outcomes.{Answer}
use Rattle.term_evaluation.specs.Reading.{reads_of}
use Rattle.term_evaluation.proofs.EvaluationLemmas.{same_value}
use Rattle.std.proofs.lemmas.Slice.Eq.{bytes_eq-Decides}
use Rattle.std.specs.Bool.{Decides}

target_decides : (a b : Target) → Decides (is_target a b) (a ≡ b)
target_decides Itself Itself = (λ e. refl, λ e. refl)
target_decides Sender Sender = (λ e. refl, λ e. refl)
target_decides (Child m) (Child n) = (λ e. ap Child ((bytes_eq-Decides m n).0 e), λ e. (bytes_eq-Decides m n).1 (cc))
target_decides (Object m) (Object n) = (λ e. ap Object (eqb-true m n e), λ e. eq-eqb m n (cc))
target_decides a b = (λ e. absurd (cc), λ e. absurd (cc))

-- the row is about the property of its read, and about no other
about_itself : {O : Type 0} (read : Target → List ℕ → Answer O) (target : Target) (name : List ℕ)
    → is_about target name (known_by read (record { target = target; name = name })) ≡ true
about_itself read target name = by (is_target target target) (bytes_eq name name) ((target_decides target target).1 refl) ((bytes_eq-Decides name name).1 refl)
  where
    by : (a b : Bool) → a ≡ true → b ≡ true → (a && b) ≡ true
    by true true e f = refl
    by true false e f = absurd (cc)
    by false b e f = absurd (cc)

about : {O : Type 0} (read : Target → List ℕ → Answer O) (target : Target) (name : List ℕ) (r : Read) → is_about target name (known_by read r) ≡ true
    → (target ≡ r.target) × (name ≡ r.name)
about read target name r e =
    let both = and_parts (is_target target r.target) (bytes_eq name r.name) e in
    ((target_decides target r.target).0 both.0, (bytes_eq-Decides name r.name).0 both.1)

found : {O : Type 0} (read : Target → List ℕ → Answer O) (otherwise : Answer O) (reads : List Read) (k : ℕ) (d : Read) → k < length reads
    → option_map_or (λ known. known.answer) (find (is_about (get_or reads k d).target (get_or reads k d).name) (map (known_by read) reads)) otherwise
    ≡ read (get_or reads k d).target (get_or reads k d).name
found read otherwise [] k d lt = absurd (omega arith)
found {O} read otherwise (r ∷ rs) zero d lt = by (is_about r.target r.name (known_by read r)) (about_itself read r.target r.name)
  where
    by : (t : Bool) → t ≡ true → option_map_or (λ (known : Known O). known.answer)
        (cond t (Some (known_by read r)) (find (is_about r.target r.name) (map (known_by read) rs))) otherwise ≡ read r.target r.name
    by true e = refl
    by false e = absurd (cc)
found {O} read otherwise (r ∷ rs) (suc k) d lt = by (is_about wanted.target wanted.name (known_by read r)) refl (found read otherwise rs k d (omega arith))
  where
    wanted : Read
    wanted = get_or rs k d

    by : (t : Bool) → is_about wanted.target wanted.name (known_by read r) ≡ t
        → option_map_or (λ (known : Known O). known.answer) (find (is_about wanted.target wanted.name) (map (known_by read) rs)) otherwise
        ≡ read wanted.target wanted.name → option_map_or (λ (known : Known O). known.answer)
        (cond t (Some (known_by read r)) (find (is_about wanted.target wanted.name) (map (known_by read) rs))) otherwise ≡ read wanted.target wanted.name
    by true e rest = let same = about read wanted.target wanted.name r e in ap₂ read (sym same.0) (sym same.1)
    by false e rest = rest

pub same_over_known : {O : Type 0} (term : Term) (args : List Value) (read : Target → List ℕ → Answer O)
    → eval_by args (read_of (map (known_by read) (reads_of term))) term ≡ eval_by args read term
same_over_known term args read = same_value term args (read_of (map (known_by read) (reads_of term))) read (λ k d lt. found read _ (reads_of term) k d lt)
