-- What is kept stays right where nothing changes that it has read, and as right as before where what changes is marked.
use Rattle.std.proofs.Common.{◌≡◌, ◌∙◌, ◌⊎◌, ℕ, List, false, [], Option, Some, None, Ok, Err, IfSome, All, option_map, refl, sym, ap, ap₂, subst, inl, inr}
use Rattle.std.specs.Option.{option_map_or}
use Rattle.std.proofs.lemmas.Bool.{both_ways, false_from_ne_true}
use Rattle.term_core.specs.declared.target.Target.{Target}
use Rattle.term_core.specs.Term.{Term}
use Rattle.term_evaluation.specs.declared.reading.Read.{Read}
use Rattle.term_evaluation.specs.Met.{met_by}
use Rattle.property_store.specs.declared.property.Property.{Property}
use Rattle.property_store.specs.Marks.{Marks, is_marked}
use Rattle.property_store.specs.Pending.{AreMore}
use Rattle.binding_values.specs.declared.property.BindingError.TheVariants.{EvaluationError}
use Rattle.binding_values.specs.Scene.{Cell, Scene, reader, settled, term_at}
use Rattle.binding_values.specs.EvalResult.{Agrees, IsKept, IsRight, IsSteady, IsUnbound, Keeping, known}
use Rattle.binding_values.proofs.KeptLemmas.{cell_there, known_steady, knows, same_evaluation, steady_reads}
use Rattle.binding_values.proofs.MapLemmas.{each_given}
use Rattle.binding_values.specs.Right.{DiffersAt, IsRightBut, IsWhole}

-- in a scene that agrees on all that is kept and read

pub kept_stays_right : (a b : Scene) (keeping : Keeping) → IsRight a keeping → Agrees a b keeping → IsRight b keeping
kept_stays_right a b keeping right agrees q kept is =
    let r = right q kept is in
    let there = cell_there a b keeping right agrees q kept is in
    let same = same_evaluation a b (known a keeping) (known b keeping) q.object r.term ((agrees q kept is).names r.term r.bound)
    (λ k d lt. known_steady a b keeping right _ (steady_reads a b keeping right agrees q kept is k d lt)) in
    record {
      cell = there.0;
      term = r.term;
      there = there.1;
      bound = sym (agrees q kept is).term ∙ r.bound;
      outcome = ap₂ settled (sym there.2) same.value ∙ r.outcome;
      reads = same.reads ∙ r.reads;
      value = knows a b keeping right agrees q kept is [] (record { absent = λ z h. absurd (both_ways false refl h); bound = λ z h u. both_ways false refl h });
    }

-- where what changes is marked

same_name : (marks : Marks) (o p : Option Property) → IfSome o (λ q. is_marked marks q ≡ false)
    → ((q : Property) → o ≡ Some q → is_marked marks q ≡ false → p ≡ Some q) → (o ≡ None → p ≡ None) → o ≡ p
same_name marks None p clear names nameless = sym (nameless refl)
same_name marks (Some q) p clear names nameless = sym (names q refl clear)

-- two scenes are alike but for marked properties, of which some may go
pub record AreAlikeBut (marks : Marks) (a b : Scene) : Type 0 where
  pub cells : (q : Property) → is_marked marks q ≡ false → a.cell_at q ≡ b.cell_at q
  pub terms : (q : Property) → is_marked marks q ≡ false → term_at a.bindings q ≡ term_at b.bindings q
  pub names : (object : ℕ) (target : Target) (name : List ℕ) (q : Property) → a.named object target name ≡ Some q → is_marked marks q ≡ false
      → b.named object target name ≡ Some q
  pub nameless : (object : ℕ) (target : Target) (name : List ℕ) → a.named object target name ≡ None → b.named object target name ≡ None

pub alike : (marks : Marks) (a b : Scene) → DiffersAt marks a b → AreAlikeBut marks a b
alike marks a b differs = record { cells = differs.cells; terms = differs.terms; names = differs.names; nameless = differs.nameless }

module _ (a b : Scene) (marks more : Marks) (keeping : Keeping) (are_more : AreMore marks more) (differs : AreAlikeBut more a b) where
  was_clear : (r : Property) → is_marked more r ≡ false → is_marked marks r ≡ false
  was_clear r off = false_from_ne_true (is_marked marks r) (λ on. both_ways (is_marked more r) off (are_more r on))

  pub stays_right : IsRightBut a marks keeping → IsRightBut b more keeping
  stays_right before part within closed clear = kept_stays_right a b part right agrees
    where
      unbound_in_a : (r : Property) → is_marked more r ≡ false → IsUnbound b r → IsUnbound a r
      unbound_in_a r off unbound = differs.terms r off ∙ unbound

      still : (r : Property) → is_marked more r ≡ false → IsKept part r ⊎ IsUnbound b r → IsKept part r ⊎ IsUnbound a r
      still r off (inl kept) = inl kept
      still r off (inr unbound) = inr (unbound_in_a r off unbound)

      right : IsRight a part
      right = before part within
          (λ q kept is k d lt. still _ ((clear q kept is).reads k d lt) (closed q kept is k d lt))
          (λ q kept is. record { own = was_clear q (clear q kept is).own; reads = λ k d lt. was_clear _ ((clear q kept is).reads k d lt) })

      steady : (r : Property) → is_marked more r ≡ false → IsKept part r ⊎ IsUnbound b r → IsSteady a b part r
      steady r off (inl kept) = inl kept
      steady r off (inr unbound) = inr (
        unbound_in_a r off unbound,
        unbound,
        ap (λ o. option_map_or (λ (cell : Cell). Ok cell.value) o (Err EvaluationError)) (differs.cells r off),
      )

      agrees : Agrees a b part
      agrees q kept is =
          let c = clear q kept is in
          let r = right q kept is in
          record {
            kind = ap (option_map (λ (cell : Cell). cell.kind)) (differs.cells q c.own);
            term = differs.terms q c.own;
            names = names;
            reads = λ k d lt. steady _ (c.reads k d lt) (closed q kept is k d lt);
          }
        where
          names : (term : Term) → term_at a.bindings q ≡ Some term
              → All (λ read. a.named q.object read.target read.name ≡ b.named q.object read.target read.name)
              (met_by [] (reader a (known a part) q.object) term)
          names term bound =
              let c = clear q kept is in
              let r = right q kept is in
              let one : r.term ≡ term = (let both : Some r.term ≡ Some term = sym r.bound ∙ bound in cc) in
              subst (λ term. All (λ read. a.named q.object read.target read.name ≡ b.named q.object read.target read.name)
              (met_by [] (reader a (known a part) q.object) term)) one
              (λ k d lt. same_name more _ _
              (each_given (λ (read : Read). a.named q.object read.target read.name) (λ r. is_marked more r ≡ false)
              (met_by [] (reader a (known a part) q.object) r.term) (subst (All (λ r. is_marked more r ≡ false)) (sym r.reads) c.reads) k d lt)
              (λ p e off. differs.names q.object _ _ p e off) (λ e. differs.nameless q.object _ _ e))

  pub stays_whole : IsWhole a marks keeping → IsWhole b more keeping
  stays_whole whole q off = by (whole q (was_clear q off))
    where
      by : IsKept keeping q ⊎ IsUnbound a q → IsKept keeping q ⊎ IsUnbound b q
      by (inl kept) = inl kept
      by (inr unbound) = inr (sym (differs.terms q off) ∙ unbound)
