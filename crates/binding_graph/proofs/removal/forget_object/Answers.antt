use Rattle.std.proofs.Common.{◌≡◌, ◌<◌, ◌≤◌, true, arith, subst, ⊎_elim}
use Rattle.std.proofs.lemmas.Bool.{cases_lt}
use Rattle.property_store.specs.Marks.{is_marked}
use Rattle.binding_graph.proofs.removal.forget_object.Goals as goal

pub loop-number-init : goal.loop-number-init
loop-number-init c = record {
  last = c.forget.ensures.marked;
  marked = λ number less. absurd (omega (arith, less));
  step = c.forget.ensures.step;
}

pub loop-number-preserved : goal.loop-number-preserved
loop-number-preserved c = record {
  last = c.forget-in-loop-number.ensures.more _ c.loop-number.invariant.last;
  marked = λ number less. ⊎_elim
      (λ (before : number < c.loop-number.number). c.forget-in-loop-number.ensures.more _ (c.loop-number.invariant.marked number before))
      (λ (level : c.loop-number.number ≤ number). let same : c.loop-number.number ≡ number = omega (arith, less, level) in subst
      (λ number. is_marked c.forget-in-loop-number.new.pending (record { object = c.args.object; number = number }) ≡ true) same
      c.forget-in-loop-number.ensures.marked)
      (cases_lt number c.loop-number.number);
  step = λ store marks graph evaluations step. c.forget-in-loop-number.ensures.step store marks graph evaluations
      (c.loop-number.invariant.step store marks graph evaluations step);
}

pub returns-clause-marked : goal.returns-clause-marked
returns-clause-marked c = λ number within. ⊎_elim
    (λ (before : number < c.args.count). c.loop-number.invariant.marked number (omega (arith, before, c.loop-number-test.false)))
    (λ (level : c.args.count ≤ number). let same : c.args.count ≡ number = omega (arith, within, level) in subst
    (λ number. is_marked c.loop-number.pending (record { object = c.args.object; number = number }) ≡ true) same c.loop-number.invariant.last)
    (cases_lt number c.args.count)
