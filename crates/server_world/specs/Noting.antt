-- The notes about the commands of a run, with sessions given by their places, and the slice that they give.
use Rattle.std.specs.Prelude.{◌+◌, ◌<◌, ℕ, Bool, List, [], ◌∷◌, All, length, map, take, slice_index_or, if◌then◌else◌}
use Rattle.isolation.specs.Machine.{Tagged}
use Rattle.isolation.specs.Slice.{Note, slice, IsNote, AreNotes}
use Rattle.session_model.specs.Asked.{Asked}
use Rattle.session_model.specs.Machine.{machine}
use Rattle.session_model.specs.State.{State}
use Rattle.session_model.specs.Thread.{Settings}
use Rattle.server_world.specs.declared.report.Entry.{Entry}
use Rattle.server_world.specs.Names.{with_name}
use Rattle.server_world.specs.Runs.{AreSteps}
use Rattle.server_world.specs.Server.{Server, OnlyRefused, names, settings, states}

-- The name at a place.
abbrev pub name_at : List (List ℕ) → ℕ → List ℕ
name_at names place = slice_index_or names place []

-- A note with the names of its places.
abbrev pub named : List (List ℕ) → Note ℕ → Note (List ℕ)
named names note = record { session = name_at names note.session; joiners = map (name_at names) note.joiners }

-- All places of a note are below this number.
abbrev pub IsWithin : ℕ → Note ℕ → Type 0
IsWithin count note = (note.session < count) × All (λ place. place < count) note.joiners

-- A right note about a command that is about to be done, with the names that are known then.
pub record IsNoted (server : Server) (t : Tagged (List ℕ) Asked) (note : Note ℕ) : Type 0 where
  pub within : IsWithin (length (with_name (names server) t.session)) note
  pub right : IsNote (machine (settings server)) (states server) t (named (with_name (names server) t.session) note)

-- Right notes about the commands that led from these states to the server.
pub record AreNoted (world : List ℕ → State) (ts : List (Tagged (List ℕ) Asked)) (server : Server) (notes : List (Note ℕ)) : Type 0 where
  pub within : All (IsWithin (length (names server))) notes
  pub right : AreNotes (machine (settings server)) world ts (map (named (names server)) notes)

-- The places of the true marks. Places count from this number.
abbrev pub marked_from : ℕ → List Bool → List ℕ
marked_from first [] = []
marked_from first (mark ∷ marks) = if mark then first ∷ marked_from (first + 1) marks else marked_from (first + 1) marks

-- The places, from 0, of the commands in the slice of a session.
abbrev pub kept_places : Settings → (List ℕ → State) → List (Tagged (List ℕ) Asked) → List ℕ → List ℕ
kept_places settings world ts s = marked_from 0 (slice (machine settings) s world ts).marks

-- Some first commands are done, and then there was no memory for a note.
pub record StopsShort (old new : Server) (ts : List (Tagged (List ℕ) Asked)) : Type 0 where
  pub count : ℕ
  pub between : Server
  pub entries : List Entry
  pub steps : AreSteps old (take count ts) entries between
  pub only : OnlyRefused between new
