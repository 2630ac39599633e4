-- The names in a session: those of its dynamic properties and publications, and those in its joins.
use Rattle.std.specs.Prelude.{IsTrue}
use Rattle.std.specs.List.{All}
use Rattle.plain_types.specs.Names.{is_name}
use Rattle.term_core.specs.Act.{is_named}
use Rattle.property_store.specs.Store.{Properties}
use Rattle.publish_board.specs.declared.join.Join.{Join}
use Rattle.publish_board.specs.declared.publication.Publication.{Publication}
use Rattle.session_model.specs.Asked.{Asked, Join as AsksJoin, Publish, Set}
use Rattle.session_model.specs.Items.{Act, Item}
use Rattle.session_model.specs.State.{State}

-- The dynamic properties of an object have valid names.
abbrev pub HasNames : Properties → Type 0
HasNames of = All (λ named. IsTrue (is_name named.name)) of.dynamic

-- A publication has a valid name.
abbrev pub IsNamedPublication : Publication → Type 0
IsNamedPublication row = IsTrue (is_name row.name)

-- A join names a session and a publication, both by valid names.
abbrev pub IsNamedJoin : Join → Type 0
IsNamedJoin join = IsTrue (is_name join.from) × IsTrue (is_name join.name)

-- All names in a session are valid.
pub record AreNamed (state : State) : Type 0 where
  pub store : All HasNames state.store
  pub publications : All IsNamedPublication state.desk.publications
  pub joins : All IsNamedJoin state.desk.joins

-- An item that is an action sets only properties with valid names.
abbrev pub IsNamedItem : Item → Type 0
IsNamedItem (Act action args self sender depth) = IsTrue (is_named action)
IsNamedItem _ = Unit {0}

-- A command sets, publishes and joins under valid names, and joins sessions with valid names.
abbrev pub IsNamedAsked : Asked → Type 0
IsNamedAsked (Set target property value) = IsTrue (is_name property)
IsNamedAsked (Publish target signal name) = IsTrue (is_name name)
IsNamedAsked (AsksJoin from name types target method) = IsTrue (is_name from) × IsTrue (is_name name)
IsNamedAsked _ = Unit {0}
