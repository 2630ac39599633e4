use Rattle.std.proofs.Common.{◌∙◌, ◌++◌, ap, lit<, arith, string_bytes}
use Rattle.std.proofs.lemmas.Grind.{common_steps}
use Rattle.signature_core.proofs.Normal.{names_to_first, names_to_more}
use Rattle.signature_core.proofs.signature.push_names.Goals as goal
use Rattle.signature_core.proofs.signature.push_names.Goals.{then-index-gt0+in_ok-push, else-index-gt0}

pub loop-index-preserved : goal.loop-index-preserved
loop-index-preserved c =
    let pushed = c.in_ok-push_str.ensures.bytes in
    elim c.if-index-gt0.branch [
      | then-index-gt0+in_ok-push w ↦
          names_to_more _ c.args.kinds.now c.loop-index.index _ _ _ _ _ (omega arith) (omega arith) c.loop-index.invariant
          (w.in_ok-push.ensures.ascii (lit< tt)) c.name.ensures.value
          (pushed ∙ ap (λ t. t ++ c.name.result.now) (ap string_bytes w.text-is ∙ w.in_ok-push.ensures.bytes))
      | else-index-gt0 w ↦
          names_to_first _ c.args.kinds.now c.loop-index.index _ _ _ _ (omega arith) (omega arith) c.loop-index.invariant c.name.ensures.value
          (pushed ∙ ap (λ t. t ++ c.name.result.now) (ap string_bytes w.text-is))
    ]

pub returns : goal.returns
returns c = grind (arith, common_steps)
