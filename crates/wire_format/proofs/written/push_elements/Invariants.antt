use Rattle.std.proofs.Common.{◌≡◌, ◌++◌, false, drop, map, string_bytes}
use Rattle.std.specs.Prelude.{nat_le}
use Rattle.serde_json.specs.View.{items_of}
use Rattle.serde_json.specs.Written.{items_text}
use Rattle.wire_format.proofs.written.push_elements.Given as goal

-- the elements so far, and then those to come
abbrev pub invariant-loop-place : goal.invariant-loop-place
invariant-loop-place g l =
    string_bytes l.buffer ++ items_text (nat_le 1 l.place) (items_of (map g.T.Written.json (drop l.place l.elements)))
    ≡ string_bytes l.fn.buffer ++ items_text false (items_of (map g.T.Written.json l.elements))
