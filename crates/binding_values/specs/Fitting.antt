-- What holds for the values that are announced.
use Rattle.std.specs.Prelude.{All, IfSome, Option}
use Rattle.variant_value.specs.Values.{IsOfKind, IsShort}
use Rattle.property_store.specs.Store.{Store}
use Rattle.property_store.specs.Store as store
use Rattle.binding_values.specs.declared.change.ChangeKind.{ChangeKind}
use Rattle.binding_values.specs.declared.change.ChangeKind.TheVariants.{Error, Value}
use Rattle.property_store.specs.declared.property.Property.{Property}
use Rattle.binding_values.specs.Graph.{Graph, settled_changes, settled_graph, value_in}
use Rattle.binding_values.specs.Graph as graph
use Rattle.binding_values.specs.Stored.{cell_in}

-- The value of a property is short.
abbrev pub ValuesAreShort : Type 0
ValuesAreShort = (s : Store) (g : Graph) → store.IsSound s → graph.IsSound g → (q : Property) → IsShort (value_in s g q).0

-- The value of an announced change is of the property's kind.
abbrev pub IsFitting : Store → Property → ChangeKind → Type 0
IsFitting s at (Error error) = Unit {0}
IsFitting s at (Value value) = IfSome (cell_in s at) (λ cell. IsOfKind cell.kind value)

abbrev pub ChangesFit : Type 0
ChangesFit = (s : Store) (g : Graph) → store.IsSound s → graph.IsSound g
    → (written : Option Property) → All (λ change. IsFitting s change.at change.told) (settled_changes s g written)

-- A settled graph is sound.
abbrev pub SettlingIsSound : Type 0
SettlingIsSound = (s : Store) (g : Graph) → store.IsSound s → graph.IsSound g → graph.IsSound (settled_graph s g)
