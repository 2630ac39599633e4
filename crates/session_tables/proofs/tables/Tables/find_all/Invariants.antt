use Rattle.std.proofs.Common.{◌≡◌, ◌++◌, ◌&&◌, drop, filter}
use Rattle.object_tree.specs.Finding.{below_by_depth}
use Rattle.session_model.specs.Trees.{has_title, is_of_class}
use Rattle.session_tables.specs.Tables.{state_at}
use Rattle.session_tables.proofs.tables.Tables.find_all.Given as goal

-- those so far, and then those to come
abbrev pub invariant-below : goal.invariant-below
invariant-below l =
    l.found ++ filter (λ number. has_title (state_at l.self l.place) l.title number && is_of_class l.classes (state_at l.self l.place) l.class number)
    (drop l.number-index (below_by_depth (state_at l.self l.place).forest.rows l.object))
    ≡ filter (λ number. has_title (state_at l.self l.place) l.title number && is_of_class l.classes (state_at l.self l.place) l.class number)
    (below_by_depth (state_at l.self l.place).forest.rows l.object)
