use Rattle.std.proofs.Common.{refl, sym}
use Rattle.class_table.proofs.SpelledLemmas.{own_text}
use Rattle.class_table.proofs.class.Class.own_method_of_text.Goals as goal

pub returns : goal.returns
returns c = own_text c.args.text.now c.args.self.now c.in_ok-at.at _ c.in_ok-method.method.now (sym (rw c.as_slice.ensures at c.in_ok-at.ensures.value))
    (sym c.in_ok-method.ensures.value) refl (c.if-not-is_normal.ensures refl)
