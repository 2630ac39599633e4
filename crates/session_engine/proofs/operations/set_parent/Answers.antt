use Rattle.std.proofs.Common.{refl}
use Rattle.session_engine.proofs.Common.{performs_do, refusal_do}
use Rattle.session_model.specs.declared.operation.Operation.TheVariants.{SetParent}
use Rattle.session_engine.proofs.CommandsLemmas.{operation_performed}
use Rattle.session_engine.proofs.operations.set_parent.Goals as goal

pub returns : goal.returns
returns c = operation_performed {operation = SetParent c.args.object c.args.parent} _ c.requires (refusal_do _ _ _ _)
    (performs_do _ _ _ _) refl c.do_operation.ensures.refusal c.do_operation.ensures.answer c.do_operation.ensures.ok c.do_operation.ensures.err
