use Rattle.std.proofs.Common.{IsTrue, bytes_eq, take}
use Rattle.class_table.specs.Lookup.{is_distinct}
use Rattle.class_table.proofs.OnceLemmas.{HasSeen}
use Rattle.class_table.proofs.declare.are_distinct.Given as goal

-- The texts that were seen.
abbrev pub invariant-loop-text : goal.invariant-loop-text
invariant-loop-text l = HasSeen (λ key. key.now) l.seen (take l.text-index l.texts) × IsTrue (is_distinct bytes_eq (take l.text-index l.texts))
