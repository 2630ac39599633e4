-- Properties.
use Rattle.std.specs.Prelude.{◌==◌, ◌&&◌, Bool, List}
use Rattle.std.specs.List.{list_any}
use Rattle.property_store.specs.declared.property.Property.{Property}

abbrev pub is_property : Property → Property → Bool
is_property p q = (p.object == q.object) && (p.number == q.number)

abbrev pub among : Property → List Property → Bool
among q seen = list_any (is_property q) seen
