use Rattle.std.proofs.Common.{◌≡◌, ◌∙◌, None, ap, subst, sym}
use Rattle.property_store.specs.Table.{store_at}
use Rattle.term_evaluation.specs.Met.{EachButLast}
use Rattle.binding_values.specs.declared.eval_result.EvalResult.{EvalResult}
use Rattle.binding_values.specs.declared.known.BoundProperty.{BoundProperty}
use Rattle.binding_values.specs.EvalResult.{Keeping, kept_of, known}
use Rattle.binding_values.specs.Looking.{IsBoundAs}
use Rattle.binding_values.specs.Run.{IsSettled, IsTried}
use Rattle.binding_values.specs.Scene.{Scene, evaluated, met}
use Rattle.binding_values.specs.Stored.{scene_of}
use Rattle.binding_values.proofs.KeptLemmas.{unbound_unkept}
use Rattle.binding_values.proofs.RunLemmas.{settled_unless_loop, tried_but_last}
use Rattle.binding_values.proofs.run.look.Goals as goal

was_tried : {scene : Scene} {keeping : Keeping} {top : BoundProperty} → IsBoundAs scene top → keeping top.at ≡ None → (kept : EvalResult)
    → kept.outcome ≡ evaluated scene (known scene keeping) top.at.object top.kind top.expr.now
    → kept.reads ≡ met scene (known scene keeping) top.at.object top.expr.now → IsTried scene keeping top.at kept
was_tried {scene} {keeping} {top} bound absent kept outcome reads = record {
  cell = bound.cell;
  term = top.expr.now;
  there = bound.there;
  bound = bound.term;
  absent = absent;
  outcome = ap (λ kind. evaluated scene (known scene keeping) top.at.object kind top.expr.now) bound.same ∙ sym outcome;
  reads = sym reads;
}

pub attempt-requires : goal.attempt-requires
attempt-requires c = record {
  place = c.requires.ready;
  unkept = unbound_unkept (scene_of (store_at c.args.stores.now.shelves c.args.place) c.args.bindings.now) (kept_of c.args.done.now) c.requires.right;
}

pub returns-then-not-is_loop-clause-settled : goal.returns-then-not-is_loop-clause-settled
returns-then-not-is_loop-clause-settled c =
    let scene = scene_of (store_at c.args.stores.now.shelves c.args.place) c.args.bindings.now in
    settled_unless_loop scene (kept_of c.args.done.now) c.args.top.at c.in_ok-kept.kept
    (was_tried c.requires.bound c.requires.absent c.in_ok-kept.kept c.in_ok-kept.ensures.outcome c.in_ok-kept.ensures.reads)
    (sym c.is_loop.ensures ∙ c.if-not-is_loop.true)

pub waits_for-next-requires-clause-ready : goal.waits_for-next-requires-clause-ready
waits_for-next-requires-clause-ready c = record {
  place = c.requires.ready;
  unkept = unbound_unkept (scene_of (store_at c.args.stores.now.shelves c.args.place) c.args.bindings.now) (kept_of c.args.done.now) c.requires.right;
}

pub waits_for-next-requires-clause-but_last : goal.waits_for-next-requires-clause-but_last
waits_for-next-requires-clause-but_last c =
    let scene = scene_of (store_at c.args.stores.now.shelves c.args.place) c.args.bindings.now in
    subst (EachButLast (IsSettled scene (kept_of c.args.done.now))) (sym c.as_slice.ensures)
    (tried_but_last scene (kept_of c.args.done.now) c.args.top.at c.in_ok-kept.kept
    (was_tried c.requires.bound c.requires.absent c.in_ok-kept.kept c.in_ok-kept.ensures.outcome c.in_ok-kept.ensures.reads))
