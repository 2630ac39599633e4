-- The stack that the program reserves before anything else.
use Rattle.std.specs.Prelude.{ℕ}

-- What the deepest calls need, in bytes, plus a third.
abbrev pub STACK_BYTES : ℕ
STACK_BYTES = 2097152
