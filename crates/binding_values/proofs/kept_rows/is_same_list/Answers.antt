use Rattle.std.proofs.Common.{◌∙◌, sym, arith}
use Rattle.std.proofs.lemmas.List.{take_all}
use Rattle.binding_values.proofs.kept_rows.is_same_list.Goals as goal

pub returns : goal.returns
returns c = λ same.
    sym (take_all c.loop-i.i c.args.one.now (omega (arith, c.loop-i-test.false)))
    ∙ (c.loop-i.invariant ∙ take_all c.loop-i.i c.args.other.now (omega (arith, c.loop-i-test.false)))
