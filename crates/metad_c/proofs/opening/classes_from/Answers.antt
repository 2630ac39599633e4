use Rattle.std.proofs.Common.{Ok, ap, sym, ◌∙◌}
use Rattle.std.proofs.lemmas.Result.{IfErr-weaker, IfOk-weaker}
use Rattle.metad_c.proofs.OpeningLemmas.{for_want, of_none, of_some}
use Rattle.metad_c.proofs.opening.classes_from.Goals as goal

pub returns-then-is_empty-clause-classes : goal.returns-then-is_empty-clause-classes
returns-then-is_empty-clause-classes c =
    IfOk-weaker c.demonstration_classes.result _ _ (λ classes are. of_none c.args.bytes.now c.if-is_empty.ensures ∙ ap Ok (sym are))
    c.demonstration_classes.ensures.classes

pub returns-then-is_empty-clause-stopped : goal.returns-then-is_empty-clause-stopped
returns-then-is_empty-clause-stopped c =
    IfErr-weaker c.demonstration_classes.result _ _ (λ stop is. for_want c.args.bytes.now stop is) c.demonstration_classes.ensures.stopped

pub returns-in-Ok-clause-classes : goal.returns-in-Ok-clause-classes
returns-in-Ok-clause-classes c = of_some c.args.bytes.now c.if-is_empty.ensures ∙ c.in-Ok.ensures

pub returns-in-Err-Fault-clause-stopped : goal.returns-in-Err-Fault-clause-stopped
returns-in-Err-Fault-clause-stopped c = of_some c.args.bytes.now c.if-is_empty.ensures ∙ (rw c.in-Err-Fault.field-0-is at c.in-Err-Fault.ensures)
