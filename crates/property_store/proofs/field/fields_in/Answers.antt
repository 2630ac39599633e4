use Rattle.std.proofs.Common.{◌∙◌, [], ap}
use Rattle.std.specs.Option.{unwrap_or}
use Rattle.std.proofs.lemmas.Option.{unwrap_or-slice_get}
use Rattle.property_store.proofs.field.fields_in.Goals as goal

pub returns-in-None : goal.returns-in-None
returns-in-None c = ap (λ o. unwrap_or o []) c.in-None.ensures.value ∙ unwrap_or-slice_get c.args.layouts.now c.args.class []
