-- What contracts see of the publications and joins of a session.
use Rattle.std.specs.Prelude.{◌≡◌, ℕ, ◌≤◌, ◌==◌, Bool, not, false, nat_le, if◌then◌else◌, List, [], ◌∷◌, ◌++◌, length, filter, Option, Some, None, bytes_eq}
use Rattle.std.specs.List.{AllPairs, list_any}
use Rattle.plain_types.specs.declared.code.Code.{Code}
use Rattle.plain_types.specs.declared.code.Code.TheVariants.{DoesNotFit, Limit, NameTaken, OwnSession}
use Rattle.signature_core.specs.declared.kind.Kind.{Kind}
use Rattle.signature_core.specs.Kinds.{fits}
use Rattle.publish_board.specs.declared.join.Join.{Join}
use Rattle.publish_board.specs.declared.lazy_desk.Counts.{Counts}
use Rattle.publish_board.specs.declared.publication.Publication.{Publication}
use Rattle.publish_board.specs.Rows.{has_name, is_from, is_join, listens}

pub record Desk : Type 0 where
  -- Its publications, in the order in which they were made.
  pub publications : List Publication
  -- Its joins, in the order in which they were made.
  pub joins : List Join

-- The desk of a session that publishes nothing and joins nothing.
abbrev pub no_desk : Desk
no_desk = record { publications = []; joins = [] }

-- The code that refuses to publish under a name.
abbrev pub publish_refusal : Desk → List ℕ → Option Code
publish_refusal desk name =
    if list_any (has_name name) desk.publications then Some NameTaken
    else (if nat_le 1024 (length desk.publications) then Some Limit else None)

-- The desk with another publication.
abbrev pub published : Desk → Publication → Desk
published desk row = record desk { publications = desk.publications ++ row ∷ [] }

-- The desk without the publication with a name.
abbrev pub unpublished : Desk → List ℕ → Desk
unpublished desk name = record desk { publications = filter (λ row. not (has_name name row)) desk.publications }

-- The code that refuses a join to the session named `own`. `wanted` are the kinds of the method's parameters.
abbrev pub join_refusal : List ℕ → Desk → Join → List Kind → Option Code
join_refusal own desk join wanted =
    if not (fits join.kinds wanted) then Some DoesNotFit
    else (if bytes_eq join.from own then Some OwnSession
    else (if nat_le 1024 (length desk.joins) then Some Limit else None))

-- The desk with another join.
abbrev pub with_join : Desk → Join → Desk
with_join desk join = record desk { joins = desk.joins ++ join ∷ [] }

-- The desk without the joins that are equal in these four.
abbrev pub left : Desk → List ℕ → List ℕ → ℕ → ℕ → Desk
left desk from name object method = record desk { joins = filter (λ join. not (is_join from name object method join)) desk.joins }

-- Whether a join names the session.
abbrev pub names_session : List ℕ → Desk → Bool
names_session from desk = list_any (is_from from) desk.joins

-- Whether a join is of what the session publishes under the name.
abbrev pub listens_to : List ℕ → List ℕ → Desk → Bool
listens_to from name desk = list_any (listens from name) desk.joins

-- The desk without an object's publications and the joins that call it.
abbrev pub without_object : ℕ → Desk → Desk
without_object object desk = record {
  publications = filter (λ row. not (row.object == object)) desk.publications;
  joins = filter (λ join. not (join.object == object)) desk.joins;
}

-- What holds for the desk of every place.
pub record IsSound (desk : Desk) : Type 0 where
  pub few_publications : length desk.publications ≤ 1024
  pub few_joins : length desk.joins ≤ 1024
  -- No two publications have the same name.
  pub distinct : AllPairs (λ earlier later. has_name later.name earlier ≡ false) desk.publications

-- The counts of the desk.
abbrev pub counts_of : Desk → Counts
counts_of desk = record { publications = length desk.publications; joins = length desk.joins }
