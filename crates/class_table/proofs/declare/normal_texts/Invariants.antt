use Rattle.std.proofs.Common.{◌≡◌, map, take}
use Rattle.class_table.specs.Lookup.{text_of}
use Rattle.class_table.proofs.declare.normal_texts.Given as goal

abbrev pub invariant-loop-new : goal.invariant-loop-new
invariant-loop-new l = l.texts.items ≡ map (λ new. text_of new.signature) (take l.new-index l.signed)
