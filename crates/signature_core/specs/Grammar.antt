-- The grammar of signatures as people write them. Each type here is a production of the grammar, over the bytes that it
-- spells, and each constructor is one way to spell it.
use Rattle.std.specs.Prelude.{◌≤◌, ◌==◌, ◌||◌, ℕ, Bool, List, [], ◌∷◌, ◌++◌, IsTrue, codes, length, map}
use Rattle.std.specs.List.{list_all, join_with_byte}
use Rattle.plain_types.specs.Names.{is_name}
use Rattle.signature_core.specs.declared.kind.Kind.{Kind}
use Rattle.signature_core.specs.declared.signature.TheConstants.{PARAMS}
use Rattle.signature_core.specs.Kinds.{kind_name}

-- Space, tab, line feed or carriage return.
abbrev pub is_blank : ℕ → Bool
is_blank byte = byte == 32 || byte == 9 || byte == 10 || byte == 13

-- Any amount of white space.
abbrev pub IsBlank : List ℕ → Type 0
IsBlank s = IsTrue (list_all is_blank s)

-- At least one byte of white space.
pub data Space : List ℕ → Type 0 where
  space : (first : ℕ) (rest : List ℕ) → IsBlank (first ∷ rest) → Space (first ∷ rest)

-- What may follow a parameter with `const`.
pub data Reference : List ℕ → Type 0 where
  no_reference : Reference []
  reference : (gap : List ℕ) → IsBlank gap → Reference (gap ++ codes "&")

-- One parameter: a type's name, with `const` before or after it, or without. A reference may follow only with `const`.
pub data Param : List ℕ → Kind → Type 0 where
  plain : (kind : Kind) → Param (kind_name kind) kind
  const_before : (kind : Kind) (gap mark : List ℕ) → Space gap → Reference mark → Param (codes "const" ++ (gap ++ (kind_name kind ++ mark))) kind
  const_behind : (kind : Kind) (gap mark : List ℕ) → Space gap → Reference mark → Param (kind_name kind ++ (gap ++ (codes "const" ++ mark))) kind

-- One or more parameters, with commas between them.
pub data Params : List ℕ → List Kind → Type 0 where
  last : (kind : Kind) (param : List ℕ) → Param param kind → Params param (kind ∷ [])
  more : (kind : Kind) (kinds : List Kind) (param gap between rest : List ℕ) → Param param kind → IsBlank gap
      → IsBlank between → Params rest kinds → Params (param ++ (gap ++ (codes "," ++ (between ++ rest)))) (kind ∷ kinds)

-- The text between the parentheses: nothing, `void`, or not too many parameters.
pub data Inside : List ℕ → List Kind → Type 0 where
  nothing : Inside [] []
  void : Inside (codes "void") []
  params : (kinds : List Kind) (s : List ℕ) → Params s kinds → length kinds ≤ PARAMS → Inside s kinds

-- The text is a signature with this name and parameters of these kinds.
pub data Spells : List ℕ → List ℕ → List Kind → Type 0 where
  spells : (name : List ℕ) (kinds : List Kind) (before gap opening inside closing after : List ℕ) → IsBlank before
      → IsTrue (is_name name) → IsBlank gap → IsBlank opening → Inside inside kinds → IsBlank closing → IsBlank after
      → Spells (before ++ (name ++ (gap ++ (codes "(" ++ (opening ++ (inside ++ (closing ++ (codes ")" ++ after)))))))) name kinds

-- The normal text of a signature, without white space and `const`. 44 is the comma.
abbrev pub normal_text : List ℕ → List Kind → List ℕ
normal_text name kinds = name ++ (codes "(" ++ (join_with_byte 44 (map kind_name kinds) ++ codes ")"))
