use Rattle.std.proofs.Common.{◌∙◌, false, true, refl, sym}
use Rattle.binding_values.specs.Keeping.{standing}
use Rattle.binding_values.proofs.ReachedLemmas.{done_all, touched_first, touched_next}
use Rattle.binding_values.proofs.kept_index.touch_readers.Goals as goal

pub readers-init : goal.readers-init
readers-init c = touched_first c.args.readers.now c.args.read c.args.rows.now c.args.touched.now.items c.start_of-at.result c.start_of-at.ensures

pub readers-preserved-in_ok-push : goal.readers-preserved-in_ok-push
readers-preserved-in_ok-push c = touched_next c.readers.invariant c.in-Some.reader c.in-Some.next c.in-Some.ensures.found.0 c.in-Some.ensures.found.1
    true (sym c.if-invalidate.true ∙ c.invalidate.ensures.stood) c.push.new.self.items c.in_ok-push.ensures.items
    c.invalidate.new.self c.invalidate.ensures.standing c.invalidate.ensures.entries

pub readers-preserved : goal.readers-preserved
readers-preserved c = touched_next c.readers.invariant c.in-Some.reader c.in-Some.next c.in-Some.ensures.found.0 c.in-Some.ensures.found.1
    false (sym c.if-invalidate.false ∙ c.invalidate.ensures.stood) c.readers.touched.items refl
    c.invalidate.new.self c.invalidate.ensures.standing c.invalidate.ensures.entries

pub returns-clause-unread : goal.returns-clause-unread
returns-clause-unread c = done_all c.args.readers.now (standing c.readers.rows) c.args.read c.readers.at c.readers.invariant.done c.in_default.ensures.none
