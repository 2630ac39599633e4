use Rattle.std.proofs.Common.{◌≡◌, map, take}
use Rattle.property_store.specs.Store.{default_of}
use Rattle.property_store.proofs.field.all_defaults.Given as goal

abbrev pub invariant-loop-field : goal.invariant-loop-field
invariant-loop-field l = l.values.items ≡ map (λ field. default_of field.kind) (take l.field-index l.fields)
