-- Expressions: trees of constants, arguments, a functor's state, properties, and operators over them.
use Rattle.std.specs.Prelude.{ℕ, ◌+◌, ◌&&◌, Bool, true, false, List, length, nat_le}
use Rattle.variant_value.specs.declared.value.TheConstants.{TEXT_BYTES}
use Rattle.variant_value.specs.declared.value.Value.{Value}
use Rattle.variant_value.specs.declared.value.Value.TheVariants as v
use Rattle.term_core.specs.declared.target.Target.{Target}
use Rattle.term_core.specs.declared.operator.Operator.{Operator}

pub data Term : Type 0 where
  const : Value → Term
  arg : ℕ → Term
  state : Term
  prop : Target → List ℕ → Term
  binary : Operator → Term → Term → Term
  choice : Term → Term → Term → Term

-- The number of forms in an expression.
abbrev pub nodes : Term → ℕ
nodes (const value) = 1
nodes (arg place) = 1
nodes state = 1
nodes (prop target name) = 1
nodes (binary operator a b) = nodes a + nodes b + 1
nodes (choice test a b) = nodes test + nodes a + nodes b + 1

-- Whether a value is not a text that is too long.
abbrev pub is_short : Value → Bool
is_short v.Invalid = true
is_short (v.Bool b) = true
is_short (v.Int z) = true
is_short (v.Uint n) = true
is_short (v.Longlong z) = true
is_short (v.Ulonglong n) = true
is_short (v.Text text) = nat_le (length text) TEXT_BYTES

-- Whether no constant is a text that is too long.
abbrev pub has_short_texts : Term → Bool
has_short_texts (const value) = is_short value
has_short_texts (arg place) = true
has_short_texts state = true
has_short_texts (prop target name) = true
has_short_texts (binary operator a b) = has_short_texts a && has_short_texts b
has_short_texts (choice test a b) = has_short_texts test && (has_short_texts a && has_short_texts b)

-- Whether an expression reads no property.
abbrev pub reads_nothing : Term → Bool
reads_nothing (const value) = true
reads_nothing (arg place) = true
reads_nothing state = true
reads_nothing (prop target name) = false
reads_nothing (binary operator a b) = reads_nothing a && reads_nothing b
reads_nothing (choice test a b) = reads_nothing test && (reads_nothing a && reads_nothing b)
