use Rattle.std.proofs.Common.{All, subst, take}
use Rattle.std.proofs.lemmas.List.{take_all}
use Rattle.std.proofs.lemmas.List.Elements.{All-more, All-weaker}
use Rattle.property_store.specs.Table.{store_at}
use Rattle.binding_values.specs.EvalResult.{kept_of}
use Rattle.binding_values.specs.Run.{IsSettled}
use Rattle.binding_values.specs.Stored.{scene_of}
use Rattle.binding_values.proofs.RunLemmas.{still_settled}
use Rattle.binding_values.proofs.settling.evaluate_all.Goals as goal

pub loop-at-preserved : goal.loop-at-preserved
loop-at-preserved c =
    let scene = scene_of (store_at c.args.stores.now.shelves c.args.place) c.args.bindings.now in
    record {
      right = c.in_ok-find.ensures.right;
      closed = c.in_ok-find.ensures.closed;
      within = λ q kept is. c.in_ok-find.ensures.within q kept (c.loop-at.invariant.within q kept is);
      settled = All-more (IsSettled scene (kept_of c.find.new.done)) c.args.touched.now c.loop-at.at-index
          (record { object = 0; number = 0 }) c.loop-at-test.true
          (All-weaker (IsSettled scene (kept_of c.loop-at.memory)) (IsSettled scene (kept_of c.find.new.done))
          (still_settled scene (kept_of c.loop-at.memory) (kept_of c.find.new.done) c.in_ok-find.ensures.within)
          (take c.loop-at.at-index c.args.touched.now) c.loop-at.invariant.settled)
          c.in_ok-find.ensures.settled;
    }

pub returns-clause-settled : goal.returns-clause-settled
returns-clause-settled c = subst (All (IsSettled (scene_of (store_at c.args.stores.now.shelves c.args.place) c.args.bindings.now) (kept_of c.loop-at.memory)))
    (take_all c.loop-at.at-index c.args.touched.now c.loop-at-test.false) c.loop-at.invariant.settled
