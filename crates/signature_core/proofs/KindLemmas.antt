-- Kinds and their names.
use Rattle.std.proofs.Common.{◌≡◌, ◌∙◌, sym, ap, refl, Some}
use Rattle.signature_core.specs.declared.kind.Kind.{Kind}
use Rattle.signature_core.specs.declared.kind.Kind.TheVariants.{Bool as KBool, Int, Uint, Longlong, Ulonglong, Text}
use Rattle.signature_core.specs.Kinds.{kind_name, kind_named}

-- what holds of each of the six kinds holds of all
pub by_kind : (P : Kind → Type 0) → P KBool → P Int → P Uint → P Longlong → P Ulonglong → P Text → (kind : Kind) → P kind
by_kind P a b c d e f KBool = a
by_kind P a b c d e f Int = b
by_kind P a b c d e f Uint = c
by_kind P a b c d e f Longlong = d
by_kind P a b c d e f Ulonglong = e
by_kind P a b c d e f Text = f

pub kind_named-kind_name : (kind : Kind) → kind_named (kind_name kind) ≡ Some kind
kind_named-kind_name = by_kind (λ kind. kind_named (kind_name kind) ≡ Some kind) refl refl refl refl refl refl

pub kind_name_same : (j k : Kind) → kind_name j ≡ kind_name k → j ≡ k
kind_name_same j k e = let h : Some j ≡ Some k = sym (kind_named-kind_name j) ∙ (ap kind_named e ∙ kind_named-kind_name k) in cc
