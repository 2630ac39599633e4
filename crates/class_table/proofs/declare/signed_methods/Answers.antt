use Rattle.std.proofs.Common.{◌∙◌, refl, sym, subst, arith}
use Rattle.std.specs.List.{All}
use Rattle.std.proofs.lemmas.List.Elements.{All-push}
use Rattle.signature_core.specs.Reading.{IsNormal}
use Rattle.std.proofs.lemmas.Grind.{common_steps}
use Rattle.class_table.specs.Declaring.{signed_of}
use Rattle.class_table.specs.Forms.{method_seen}
use Rattle.class_table.specs.Signed.{signed_seen}
use Rattle.class_table.specs.declared.declare.Signed.{Signed}
use Rattle.class_table.proofs.EachLemmas.{each_next}
use Rattle.class_table.proofs.declare.signed_methods.Goals as goal

abbrev Normal : Signed → Type 0
Normal new = IsNormal new.signature

pub loop-form-preserved : goal.loop-form-preserved
loop-form-preserved c = record {
  read = each_next signed_of method_seen signed_seen c.args.forms.now c.loop-form.form-index c.form-item.result c.loop-form.signed.items c.push.new.self.items
      (record { signature = c.in_ok-signature.signature; body = c.form-item.result.body }) c.loop-form-test.true c.form-item.is c.in_ok-push.ensures.items
      (rw c.in_ok-signature.ensures.exact refl) ∙ c.loop-form.invariant.read;
  normal = subst (All Normal) (sym c.in_ok-push.ensures.items)
      (All-push Normal c.loop-form.signed.items _ c.loop-form.invariant.normal c.in_ok-signature.ensures.normal);
}

pub returns-in_err-signature-clause-exact : goal.returns-in_err-signature-clause-exact
returns-in_err-signature-clause-exact c = grind (arith, common_steps)

pub returns-clause-exact : goal.returns-clause-exact
returns-clause-exact c = grind (arith, common_steps)
