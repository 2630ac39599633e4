use Rattle.std.proofs.Common.{arith}
use Rattle.signature_core.proofs.ParamsLemmas.{loop_none, loop_last, loop_more, loop_out}
use Rattle.signature_core.proofs.reading.params.Goals as goal

pub returns-in_default : goal.returns-in_default
returns-in_default c = loop_none _ c.loop.counter _ _ (omega arith) c.loop.invariant c.in_default.ensures

pub returns-in_default-mark : goal.returns-in_default-mark
returns-in_default-mark c =
    loop_last _ _ c.loop.counter _ _ _ _ (omega arith) c.loop.invariant c.in-Some.ensures c.in_default-mark.ensures c.in_ok-push.ensures.items

pub loop-preserved : goal.loop-preserved
loop-preserved c =
    loop_more _ _ c.loop.counter _ _ _ _ _ (omega arith) c.loop.invariant c.in-Some.ensures c.in-Some-mark.ensures c.in_ok-push.ensures.items

pub returns : goal.returns
returns c = loop_out _ c.loop.counter _ _ (omega arith) c.loop.invariant
