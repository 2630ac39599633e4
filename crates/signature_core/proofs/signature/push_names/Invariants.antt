use Rattle.std.proofs.Common.{◌≡◌, ◌++◌, map, take, string_bytes}
use Rattle.std.specs.List.{join_with_byte}
use Rattle.signature_core.specs.Kinds.{kind_name}
use Rattle.signature_core.proofs.signature.push_names.Given as goal

-- the text and the names of the kinds so far
abbrev pub invariant-loop-index : goal.invariant-loop-index
invariant-loop-index l = string_bytes l.text ≡ string_bytes l.fn.text ++ join_with_byte 44 (map kind_name (take l.index l.fn.kinds))
