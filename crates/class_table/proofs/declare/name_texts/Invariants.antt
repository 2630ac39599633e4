use Rattle.std.proofs.Common.{◌≡◌, map, take}
use Rattle.class_table.proofs.declare.name_texts.Given as goal

abbrev pub invariant-loop-new : goal.invariant-loop-new
invariant-loop-new l = l.texts.items ≡ map (λ new. new.name.now) (take l.new-index l.forms)
