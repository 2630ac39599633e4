-- Methods that are found by their texts.
use Rattle.std.specs.Prelude.{◌≡◌, ◌+◌, ℕ, List, Some, slice_get}
use Rattle.signature_core.specs.declared.signature.Signature.{Signature}
use Rattle.signature_core.specs.Reading.{IsNormal, signature_of}
use Rattle.class_table.specs.declared.class.Class.{Class}
use Rattle.class_table.specs.declared.class.Method.{Method}
use Rattle.class_table.specs.Lookup.{method_number}

-- The text spells a signature, and this is the number of the method that has it.
abbrev pub IsSpelled : List ℕ → List Method → ℕ → Type 0
IsSpelled text methods number = (signature : Signature) × (signature_of text ≡ Some signature) × (method_number signature methods ≡ Some number)

-- The class itself declares the method with this number, and this is the text of its signature.
pub record IsOwnText (text : List ℕ) (class : Class) (number : ℕ) : Type 0 where
  pub at : ℕ
  pub method : Method
  pub its_number : number ≡ class.method_offset + at
  pub found : slice_get class.methods at ≡ Some method
  pub its_text : method.text ≡ text
  pub normal : IsNormal method.signature
