-- Tests of one publication and of one join.
use Rattle.std.specs.Prelude.{ℕ, ◌==◌, ◌&&◌, Bool, List, bytes_eq, filter, map}
use Rattle.publish_board.specs.declared.join.Join.{Join}
use Rattle.publish_board.specs.declared.publication.Publication.{Publication}

-- Whether the publication has this name.
abbrev pub has_name : List ℕ → Publication → Bool
has_name name row = bytes_eq row.name name

-- Whether the publication is of this signal of this object.
abbrev pub publishes : ℕ → ℕ → Publication → Bool
publishes object signal row = row.object == object && row.signal == signal

-- The names under which a signal of an object is published, in the order in which they were made.
abbrev pub names_of : ℕ → ℕ → List Publication → List (List ℕ)
names_of object signal rows = map (λ row. row.name) (filter (publishes object signal) rows)

-- Whether the join names the session.
abbrev pub is_from : List ℕ → Join → Bool
is_from from join = bytes_eq join.from from

-- Whether the join names what the session publishes under this name.
abbrev pub listens : List ℕ → List ℕ → Join → Bool
listens from name join = bytes_eq join.from from && bytes_eq join.name name

-- Whether the join is equal in these four. The kinds of its parameters are not compared.
abbrev pub is_join : List ℕ → List ℕ → ℕ → ℕ → Join → Bool
is_join from name object method join = listens from name join && join.object == object && join.method == method
