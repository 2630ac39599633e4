-- Reading a signature from its start, one word or mark at a time. The white space after each is skipped, so the rest
-- never begins with white space.
use Rattle.std.specs.Prelude.{◌≤◌, ◌==◌, IsTrue, ℕ, zero, suc, Bool, false, List, [], ◌∷◌, Option, Some, None, codes}
use Rattle.std.specs.Prelude.{length, bytes_eq, drop, if◌then◌else◌, option_map, option_and_then, take_while}
use Rattle.std.specs.Option.{option_map_or}
use Rattle.std.specs.List.{prefix_len}
use Rattle.plain_types.specs.Names.{is_name, is_name_byte}
use Rattle.signature_core.specs.declared.kind.Kind.{Kind}
use Rattle.signature_core.specs.declared.signature.Signature.{Signature}
use Rattle.signature_core.specs.declared.signature.TheConstants.{PARAMS}
use Rattle.signature_core.specs.Kinds.{kind_named}
use Rattle.signature_core.specs.Grammar.{is_blank}

-- What was read, and the text after it.
abbrev pub Read : Type 0 → Type 0
Read A = Option (A × List ℕ)

infixl 10 ◌>>=◌
abbrev pub ◌>>=◌ : {A B : Type 0} → Option A → (A → Option B) → Option B
o >>= f = option_and_then f o

-- The text without leading white space.
unfoldable pub skip : List ℕ → List ℕ
skip s = drop (prefix_len is_blank s) s

-- The text after the first word and the white space that follows it.
unfoldable pub word : List ℕ → List ℕ
word s = take_while is_name_byte s

unfoldable pub behind_word : List ℕ → List ℕ
behind_word s = skip (drop (prefix_len is_name_byte s) s)

-- The text after this mark and the white space that follows it, if the text begins with the mark.
unfoldable pub behind_mark : ℕ → List ℕ → Option (List ℕ)
behind_mark mark [] = None
behind_mark mark (first ∷ rest) = if first == mark then Some (skip rest) else None

-- The text after a leading `&` (38), if there is one.
unfoldable pub behind_reference : List ℕ → List ℕ
behind_reference s = option_map_or (λ rest. rest) (behind_mark 38 s) s

-- The text after the name of a kind, which `const` and a reference may follow.
abbrev pub behind_kind : List ℕ → List ℕ
behind_kind s = if bytes_eq (word (behind_word s)) (codes "const") then behind_reference (behind_word (behind_word s)) else behind_word s

-- One parameter, which its first two words determine.
unfoldable pub param_at : List ℕ → Read Kind
param_at s =
    if bytes_eq (word s) (codes "const")
    then option_map (λ kind. (kind, behind_reference (behind_word (behind_word s)))) (kind_named (word (behind_word s)))
    else option_map (λ kind. (kind, behind_kind s)) (kind_named (word s))

-- One or more parameters, at most n, with commas (44) between them.
unfoldable pub params_at : ℕ → List ℕ → Read (List Kind)
params_at zero s = None
params_at (suc n) s = do
  param ← param_at s
  option_map_or (λ rest. option_map (λ read. (param.0 ∷ read.0, read.1)) (params_at n rest)) (behind_mark 44 param.1) (Some (param.0 ∷ [], param.1))

-- The text between the parentheses.
unfoldable pub inside_at : List ℕ → Read (List Kind)
inside_at s =
    if bytes_eq (word s) [] then Some ([], behind_word s) else (
    if bytes_eq (word s) (codes "void") then Some ([], behind_word s) else params_at PARAMS s)

-- Whether the text is only a `)` (41) and white space.
unfoldable pub is_end : List ℕ → Bool
is_end s = option_map_or (λ rest. length rest == 0) (behind_mark 41 s) false

-- The signature that a text spells; 40 is `(`.
unfoldable pub signature_of : List ℕ → Option Signature
signature_of s = do
  name ← (if is_name (word (skip s)) then Some (word (skip s)) else None)
  opened ← behind_mark 40 (behind_word (skip s))
  inside ← inside_at opened
  if is_end inside.1 then Some (record { name = name; kinds = inside.0 }) else None

-- A signature that some text spells.
abbrev pub IsNormal : Signature → Type 0
IsNormal s = IsTrue (is_name s.name) × (length s.kinds ≤ PARAMS)
