use Rattle.std.proofs.Common.{◌≡◌, drop, map}
use Rattle.std.specs.List.{All}
use Rattle.signature_core.specs.Reading.{IsNormal}
use Rattle.class_table.specs.Declaring.{signed_of}
use Rattle.class_table.specs.Forms.{method_seen}
use Rattle.class_table.specs.Signed.{signed_seen}
use Rattle.class_table.specs.Steps.{each, in_front}
use Rattle.class_table.proofs.declare.signed_methods.Given as goal

abbrev pub invariant-loop-form : goal.invariant-loop-form
invariant-loop-form l = record {
  read : in_front (map signed_seen l.signed.items) (each signed_of (map method_seen (drop l.form-index l.forms))) ≡ each signed_of (map method_seen l.forms);
  normal : All (λ new. IsNormal new.signature) l.signed.items;
}
