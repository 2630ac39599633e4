use Rattle.server_world.specs.NotedInside.{noted}
use Rattle.server_world.proofs.NotesLemmas.{IsBack}
use Rattle.server_world.proofs.notes.Notes.kept.Given as goal

abbrev pub invariant-rows : goal.invariant-rows
invariant-rows l = IsBack l.session l.sessions (noted l.self-inside.rows.items l.self-inside.lists.items) l.number l.members.items l.places.items
