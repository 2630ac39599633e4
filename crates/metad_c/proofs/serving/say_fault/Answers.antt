use Rattle.std.proofs.Common.{refl}
use Rattle.metad_c.specs.Answers.{seen}
use Rattle.metad_c.proofs.ServingLemmas.{faulted}
use Rattle.metad_c.proofs.serving.say_fault.Goals as goal

pub returns : goal.returns
returns c =
    faulted (seen c.args.kept.now) _ c.say-said.result c.said_or.result c.args.fault.now c.said_or.ensures refl
    (rw c.blamed.ensures at c.say-said.ensures.ok) c.say-said.ensures.err
