use Rattle.std.proofs.Common.{◌∙◌, None, ap, arith, not, refl}
use Rattle.std.proofs.lemmas.Grind.{common_steps}
use Rattle.shared_rows.proofs.ForCallers.{on_err}
use Rattle.binding_graph.specs.Inside.{pair_of}
use Rattle.binding_graph.proofs.PlaceLemmas.{no_some, none_there, unmade}
use Rattle.binding_graph.proofs.bindings.make.Goals as goal

pub returns-in_err-new-clause-same : goal.returns-in_err-new-clause-same
returns-in_err-new-clause-same c = unmade c.args.graphs.now c.args.place _ (c.get_mut-made.ensures.value None) refl

pub returns-in_err-new-clause-err : goal.returns-in_err-new-clause-err
returns-in_err-new-clause-err c = on_err c.from_residual.result (none_there c.args.graphs.now c.args.place c.get_mut-made.result.now
    (c.get_mut-made.ensures.value None) (ap pair_of (no_some c.get_mut-made.result.now (c.is_none.ensures ∙ ap not c.if-is_none.true))))

pub returns-in_ok-new-clause-same : goal.returns-in_ok-new-clause-same
returns-in_ok-new-clause-same c =
    let none = ap pair_of (no_some c.get_mut-made.result.now (c.is_none.ensures ∙ ap not c.if-is_none.true)) in
    unmade c.args.graphs.now c.args.place _ (c.get_mut-made.ensures.value None) (grind (arith, common_steps, none))

pub returns-else-is_none-clause-same : goal.returns-else-is_none-clause-same
returns-else-is_none-clause-same c = unmade c.args.graphs.now c.args.place _ (c.get_mut-made.ensures.value None) refl
