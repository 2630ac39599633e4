-- Lists of values.
use Rattle.std.specs.Prelude.{List, [], ◌∷◌}
use Rattle.variant_value.specs.declared.value.Value.{Value}
use Rattle.variant_value.specs.declared.args.Kept.{Kept}
use Rattle.variant_value.specs.declared.args.Kept.TheVariants as kept

abbrev pub Values : Type 0
Values = List Value

abbrev pub values_kept : Kept → Values
values_kept (kept.One value) = value ∷ []
values_kept (kept.List values) = values.items
