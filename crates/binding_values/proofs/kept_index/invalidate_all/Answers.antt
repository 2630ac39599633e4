use Rattle.std.proofs.Common.{◌+◌, ◌∙◌, take, sym, subst}
use Rattle.std.proofs.lemmas.List.{take_all}
use Rattle.binding_values.specs.EvalResult.{kept_of}
use Rattle.binding_values.specs.Keeping.{standing}
use Rattle.binding_values.specs.Reached.{AreLetGo}
use Rattle.binding_values.proofs.ReachedLemmas.{gone_more}
use Rattle.binding_values.proofs.kept_index.invalidate_all.Goals as goal

pub loop-at-preserved : goal.loop-at-preserved
loop-at-preserved c = record {
  gone = subst (AreLetGo (kept_of (standing c.args.rows.now)) (take (c.loop-at.at-index + 1) c.args.touched.now)) (sym c.invalidate.ensures.standing)
      (gone_more (kept_of (standing c.args.rows.now)) c.args.touched.now c.loop-at.at-index
      (record { object = 0; number = 0 }) (standing c.loop-at.rows) c.loop-at-test.true c.loop-at.invariant.gone);
  same = c.invalidate.ensures.entries ∙ c.loop-at.invariant.same;
}

pub returns-clause-gone : goal.returns-clause-gone
returns-clause-gone c = subst (λ some. AreLetGo (kept_of (standing c.args.rows.now)) some (standing c.loop-at.rows))
    (take_all c.loop-at.at-index c.args.touched.now c.loop-at-test.false) c.loop-at.invariant.gone
