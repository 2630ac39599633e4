use Rattle.std.proofs.Common.{◌≡◌, ◌∙◌, true, sym, ap, arith}
use Rattle.std.proofs.lemmas.Grind.{common_steps}
use Rattle.std.specs.List.{list_all}
use Rattle.wire_format.specs.Shown.{text_of_shown}
use Rattle.wire_format.specs.Text.{is_plain_byte, text_of_line}
use Rattle.wire_format.proofs.LineTexts.{text_of_word, text_of_text}
use Rattle.wire_format.proofs.parts.line_parts.Goals as goal

pub returns-in-Word-clause-text : goal.returns-in-Word-clause-text
returns-in-Word-clause-text c =
    let shown = ap text_of_shown (sym c.in-Word.is) ∙ c.shown_as.ensures.text in
    text_of_word c.in-Reply.answer _ _ c.requires shown ∙ ap (text_of_line c.args.session.now) (sym c.in-Reply.is)

pub returns-in-Text-clause-text : goal.returns-in-Text-clause-text
returns-in-Text-clause-text c =
    let plain : list_all is_plain_byte c.in-Text.told.now ≡ true = cc in
    let shown = ap text_of_shown (sym c.in-Text.is) ∙ c.shown_as.ensures.text in
    text_of_text c.in-Reply.answer _ _ c.requires plain shown ∙ ap (text_of_line c.args.session.now) (sym c.in-Reply.is)

pub returns-in-Text-clause-some : goal.returns-in-Text-clause-some
returns-in-Text-clause-some c = grind (arith, common_steps)

pub returns-in_default-clause-some : goal.returns-in_default-clause-some
returns-in_default-clause-some c = grind (arith, common_steps)
