-- The types of values and their names.
use Rattle.std.specs.Prelude.{ℕ, Bool as Truth, List, [], ◌∷◌, Option, codes, bytes_eq, find}
use Rattle.std.specs.List.{starts_with}
use Rattle.signature_core.specs.declared.kind.Kind.{Kind}
use Rattle.signature_core.specs.declared.kind.Kind.TheVariants.{Bool, Int, Uint, Longlong, Ulonglong, Text}

-- The bytes of a type's name.
abbrev pub kind_name : Kind → List ℕ
kind_name Bool = codes "bool"
kind_name Int = codes "int"
kind_name Uint = codes "uint"
kind_name Longlong = codes "qlonglong"
kind_name Ulonglong = codes "qulonglong"
kind_name Text = codes "QString"

abbrev pub every_kind : List Kind
every_kind = Bool ∷ Int ∷ Uint ∷ Longlong ∷ Ulonglong ∷ Text ∷ []

-- The type with this name.
abbrev pub kind_named : List ℕ → Option Kind
kind_named name = find (λ kind. bytes_eq name (kind_name kind)) every_kind

-- Whether two kinds are equal.
abbrev pub is_same_kind : Kind → Kind → Truth
is_same_kind j k = bytes_eq (kind_name j) (kind_name k)

-- Whether a slot with these kinds can be connected to a signal with those: the slot's kinds are a prefix of the
-- signal's.
abbrev pub fits : List Kind → List Kind → Truth
fits signal slot = starts_with is_same_kind signal slot
