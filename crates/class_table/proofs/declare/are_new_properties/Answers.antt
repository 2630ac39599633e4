use Rattle.std.proofs.Common.{◌∙◌, sym, rules}
use Rattle.class_table.specs.Lookup.{properties}
use Rattle.class_table.proofs.OnceLemmas.{new_properties_once, once_by_texts, properties_by_text}
use Rattle.class_table.proofs.declare.are_new_properties.Goals as goal

pub returns : goal.returns
returns c =
    once_by_texts _ _ _ _ c.in_ok-texts.texts.items c.as_slice.result.now c.are_distinct.result
    (new_properties_once (properties c.args.table.now c.args.base) c.args.forms.now c.requires)
    (sym c.names_are_not_inherited.ensures ∙ c.if-not-names_are_not_inherited.false)
    (properties_by_text c.args.forms.now) c.in_ok-texts.ensures (search rules) c.are_distinct.ensures
