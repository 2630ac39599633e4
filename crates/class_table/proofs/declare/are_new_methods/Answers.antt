use Rattle.std.proofs.Common.{◌∙◌, sym, rules}
use Rattle.class_table.specs.Lookup.{methods}
use Rattle.class_table.proofs.OnceLemmas.{methods_by_text, new_methods_once, once_by_texts}
use Rattle.class_table.proofs.declare.are_new_methods.Goals as goal

pub returns : goal.returns
returns c =
    once_by_texts _ _ _ _ c.in_ok-texts.texts.items c.as_slice.result.now c.are_distinct.result
    (new_methods_once (methods c.args.table.now c.args.base) c.args.signed.now c.requires.once)
    (sym c.are_not_inherited.ensures ∙ c.if-not-are_not_inherited.false)
    (methods_by_text c.args.signed.now c.requires.normal) c.in_ok-texts.ensures (search rules) c.are_distinct.ensures
