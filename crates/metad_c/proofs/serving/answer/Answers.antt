use Rattle.std.proofs.Common.{subst}
use Rattle.session_model.specs.Asked.{tag}
use Rattle.wire_format.specs.Command.{Gives}
use Rattle.metad_c.specs.Answers.{seen}
use Rattle.metad_c.proofs.ServingLemmas.{fault_comes, obeys_comes, unread_comes}
use Rattle.metad_c.proofs.serving.answer.Goals as goal

pub returns-in-Ok : goal.returns-in-Ok
returns-in-Ok c = λ wanted gives.
    obeys_comes (seen c.args.kept.now) (seen c.obey.new.kept) wanted (tag c.in-Ok.given) c.obey.result
    (subst (λ read. Gives tag read wanted) c.in-Ok.is gives) c.obey.ensures

pub returns-in-Err-Fault : goal.returns-in-Err-Fault
returns-in-Err-Fault c = λ wanted gives.
    let given = subst (λ read. Gives tag read wanted) c.in-Err-Fault.is gives in
    fault_comes (seen c.args.kept.now) (seen c.say_fault.new.kept) wanted c.in-Err-Fault.fault c.say_fault.result
    (rw c.in-Err-Fault.field-0-is at given) c.say_fault.ensures

pub returns-in-Err-Memory : goal.returns-in-Err-Memory
returns-in-Err-Memory c = λ wanted gives.
    unread_comes (seen c.args.kept.now) (seen c.say_unread.new.kept) wanted c.say_unread.result c.say_unread.ensures
