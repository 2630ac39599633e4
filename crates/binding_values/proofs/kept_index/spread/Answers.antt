use Rattle.std.proofs.Common.{◌∙◌, All, arith, subst, sym}
use Rattle.std.proofs.lemmas.List.{take_all}
use Rattle.binding_values.specs.EvalResult.{kept_of}
use Rattle.binding_values.specs.Keeping.{entries, standing}
use Rattle.binding_values.specs.Reached.{HasReaders, IsUnread}
use Rattle.binding_values.proofs.KeepingLemmas.{fresh_is_last}
use Rattle.binding_values.proofs.ReachedLemmas.{longer_length, longer_then, nothing_reads, unread_more}
use Rattle.binding_values.proofs.kept_index.spread.Goals as goal

pub loop-at-preserved : goal.loop-at-preserved
loop-at-preserved c =
    let longer = c.in_ok-touch_readers.ensures.longer in
    let length_rises = longer_length c.loop-at.touched.items c.touch_readers.new.touched.items longer in
    record {
      within = omega (arith, length_rises, c.loop-at-test.true);
      gone = c.in_ok-touch_readers.ensures.gone (kept_of (standing c.args.rows.now)) c.loop-at.invariant.gone;
      same = c.in_ok-touch_readers.ensures.entries ∙ c.loop-at.invariant.same;
      unread = unread_more c.loop-at.touched.items c.touch_readers.new.touched.items c.args.readers.now (standing c.loop-at.rows)
          (standing c.touch_readers.new.rows) c.loop-at.at c.index.result.now (omega (arith, c.loop-at-test.true)) longer
          c.in_ok-touch_readers.ensures.within c.loop-at.invariant.unread
          (subst (IsUnread c.args.readers.now (standing c.touch_readers.new.rows)) c.index.ensures c.in_ok-touch_readers.ensures.unread);
      longer = longer_then c.args.touched.now.items c.loop-at.touched.items c.touch_readers.new.touched.items c.loop-at.invariant.longer longer;
    }

pub returns-clause-reached : goal.returns-clause-reached
returns-clause-reached c =
    nothing_reads (kept_of (standing c.args.rows.now)) c.loop-at.touched.items (standing c.loop-at.rows) (entries c.loop-at.rows) c.args.readers.now
    c.loop-at.invariant.gone
    (subst (All (IsUnread c.args.readers.now (standing c.loop-at.rows))) (take_all c.loop-at.at c.loop-at.touched.items (omega (arith, c.loop-at-test.false)))
    c.loop-at.invariant.unread)
    (fresh_is_last c.loop-at.rows c.count.ensures)
    (subst (λ rows. HasReaders rows c.args.readers.now) (sym c.loop-at.invariant.same) c.requires)
