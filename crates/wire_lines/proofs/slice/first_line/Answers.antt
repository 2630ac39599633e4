use Rattle.std.proofs.Common.{[], ◌∷◌, ◌++◌, length-append, refl, sym, ap, ◌∙◌, arith, append_assoc}
use Rattle.wire_format.specs.Input.{lines_of}
use Rattle.wire_format.proofs.ForCallers.{lines_of-line}
use Rattle.wire_lines.specs.Taking.{first_line}
use Rattle.wire_lines.proofs.FirstLine.{first_line-ended, first_line-last, only_line}
use Rattle.wire_lines.proofs.slice.first_line.Goals as goal

pub returns-in-Some-clause-line : goal.returns-in-Some-clause-line
returns-in-Some-clause-line c = sym (ap first_line c.in-Some.ensures.whole
    ∙ first_line-ended c.in-Some.parts.0.now c.in-Some.parts.1.now c.in-Some.ensures.line)

pub returns-in-Some-clause-lines : goal.returns-in-Some-clause-lines
returns-in-Some-clause-lines c = λ some. ap lines_of c.in-Some.ensures.whole ∙ lines_of-line c.in-Some.parts.0.now c.in-Some.parts.1.now c.in-Some.ensures.line

pub returns-in-Some-clause-behind : goal.returns-in-Some-clause-behind
returns-in-Some-clause-behind c = λ some.
    let front = c.in-Some.parts.0.now ++ 10 ∷ [] in
    let long = length-append c.in-Some.parts.0.now (10 ∷ []) in
    (front, c.in-Some.ensures.whole ∙ sym (append_assoc c.in-Some.parts.0.now (10 ∷ []) c.in-Some.parts.1.now), omega (arith, long))

pub returns-in-None-clause-line : goal.returns-in-None-clause-line
returns-in-None-clause-line c = sym (first_line-last c.args.bytes.now (c.in-None.ensures.none refl))

pub returns-in-None-clause-lines : goal.returns-in-None-clause-lines
returns-in-None-clause-lines c = only_line c.args.bytes.now (c.in-None.ensures.none refl)
