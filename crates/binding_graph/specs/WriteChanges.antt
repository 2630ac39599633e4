-- The changes that a write causes.
use Rattle.std.specs.Prelude.{Bool, true, false, List, [], ◌∷◌}
use Rattle.variant_value.specs.declared.value.Value.{Value}
use Rattle.property_store.specs.declared.property.Property.{Property}
use Rattle.binding_values.specs.declared.change.Change.{Change}
use Rattle.binding_values.specs.declared.change.ChangeKind.TheVariants as message
use Rattle.binding_graph.specs.declared.write_changes.WriteChanges.{WriteChanges}
use Rattle.binding_graph.specs.declared.write_changes.WriteChanges.TheVariants.{Nothing, Written, Several}

-- The changes of a write after which the written property shows this value.
abbrev pub changes_in : Property → Value → WriteChanges → List Change
changes_in at value Nothing = []
changes_in at value Written = record { at = at; told = message.Value value } ∷ []
changes_in at value (Several changes) = changes

-- The changes of a write after which no other property shows another value.
abbrev pub alone : Bool → WriteChanges
alone true = Written
alone false = Nothing
