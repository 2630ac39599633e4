use Rattle.std.proofs.Common.{refl}
use Rattle.session_engine.proofs.Common.{performs_do, refusal_do}
use Rattle.session_model.specs.declared.operation.Operation.TheVariants.{DeleteLater}
use Rattle.session_engine.proofs.CommandsLemmas.{operation_performed}
use Rattle.session_engine.proofs.operations.delete_later.Goals as goal

pub returns : goal.returns
returns c = operation_performed {operation = DeleteLater c.args.object} _ c.requires (refusal_do _ _ _ _)
    (performs_do _ _ _ _) refl c.do_operation.ensures.refusal c.do_operation.ensures.answer c.do_operation.ensures.ok c.do_operation.ensures.err
