use Rattle.std.proofs.Common.{◌≡◌, ◌+◌, drop, get_or, sym, subst, arith}
use Rattle.std.proofs.lemmas.Str.{IsCharBoundary-after_ascii}
use Rattle.std.specs.List.{prefix_len}
use Rattle.json.specs.Print.{quoted}
use Rattle.json.specs.Run.{is_plain}
use Rattle.std.proofs.lemmas.Grind.{common_steps}
use Rattle.json_reading.specs.Spelling.{StandsAt}
use Rattle.json_reading.proofs.Standing.{text_stands, there_is}
use Rattle.json_reading.proofs.scalar.scan_text.Goals as goal

pub range-requires-clause-start_boundary : goal.range-requires-clause-start_boundary
range-requires-clause-start_boundary c some =
    let d = c.args.text.now in
    let first : get_or d c.args.at 0 ≡ 34 = cc in
    IsCharBoundary-after_ascii d c.args.at c.utf8.text (there_is d c.args.at 34 first (omega arith)) (omega arith)

pub returns : goal.returns
returns c =
    let d = c.args.text.now in
    let at = c.args.at in
    let end = c.plain_end-end.result in
    let first : get_or d at 0 ≡ 34 = cc in
    let last : get_or d end 0 ≡ 34 = cc in
    let is : end ≡ at + 1 + prefix_len is_plain (drop (at + 1) d) = cc in
    subst (λ s. StandsAt d at (quoted s) (end + 1)) (sym c.range.ensures.value) (text_stands d at end first is last)

pub overflow_add-at : goal.overflow_add-at
overflow_add-at c = grind (arith, common_steps)

pub plain_end-end-requires : goal.plain_end-end-requires
plain_end-end-requires c = grind (arith, common_steps)
