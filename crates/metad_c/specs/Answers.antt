-- How a handle's server answers a line of its host program, and what the call returns.
use Rattle.std.specs.Prelude.{◌≡◌, ◌⊎◌, ◌&&◌, ℕ, List, ◌++◌, Option, Some, None, IsFalse, IsTrue, drop, length, min, take}
use Rattle.std.specs.Str.{is_utf8}
use Rattle.plain_types.specs.Names.{is_name}
use Rattle.isolation.specs.Machine.{Tagged}
use Rattle.isolation.specs.Pieces.{Given}
use Rattle.session_model.specs.Asked.{Asked}
use Rattle.server_world.specs.Bare.{seen_bare}
use Rattle.server_world.specs.Server.{Server, OnlyRefused, settings}
use Rattle.wire_format.specs.Input.{Piece}
use Rattle.wire_lines.specs.Steps.{IsAnswered, IsDone}
use Rattle.metad_c.specs.Reading.{piece_for}
use Rattle.metad_c.specs.declared.kept.Kept.{Kept}
use Rattle.metad_c.specs.declared.outcome.Outcome.{Outcome}
use Rattle.metad_c.specs.declared.outcome.Outcome.TheVariants.{Said, Undone, Unsaid}

-- What contracts see of a handle's server.
pub record Seen : Type 0 where
  -- The server.
  pub server : Server
  -- The output that is not fetched yet.
  pub said : List ℕ

abbrev pub seen : Kept → Seen
seen kept = record { server = seen_bare kept.server; said = kept.output.said.items }

-- The line is answered, and the answer is appended to the output.
pub record IsSaid (old new : Seen) (line : Option Piece) : Type 0 where
  pub text : List ℕ
  pub answered : IsAnswered old.server line text new.server
  pub said : new.said ≡ old.said ++ text

-- No command is done; at most it is noted that memory was refused.
pub record IsUndone (old new : Seen) : Type 0 where
  pub server : (new.server ≡ old.server) ⊎ OnlyRefused old.server new.server
  pub settings : settings new.server ≡ settings old.server
  pub said : new.said ≡ old.said

-- The command is done, but its answer is lost.
pub record IsUnsaid (old new : Seen) (line : Option Piece) : Type 0 where
  pub given : Tagged (List ℕ) Asked
  pub command : line ≡ Some (Given given)
  pub text : List ℕ
  pub done : IsDone old.server given text new.server
  pub said : new.said ≡ old.said

-- The outcome of a line.
abbrev pub Comes : Seen → Seen → Option Piece → Outcome → Type 0
Comes old new line Said = IsSaid old new line
Comes old new line Undone = IsUndone old new
Comes old new line Unsaid = IsUnsaid old new line

-- The status of an outcome.
abbrev pub status_of : Outcome → ℕ
status_of Said = 0
status_of Undone = 5
status_of Unsaid = 6

-- A call that gives a line to a handle's server, and its status: 2 if there is no server.
abbrev pub Serves : Option Kept → Option Kept → Option Piece → ℕ → Type 0
Serves None new line status = (new ≡ None) × (status ≡ 2)
Serves (Some old) new line status =
    (kept : Kept) × (outcome : Outcome) × (new ≡ Some kept) × (status ≡ status_of outcome) × Comes (seen old) (seen kept) line outcome

-- A call that gives a line for the session with this name. The status is 3 if these bytes are not a session's name, and
-- also 5 if there was no memory for the name.
abbrev pub ServesFor : Option Kept → Option Kept → List ℕ → List ℕ → ℕ → Type 0
ServesFor old new session line status =
    (IsTrue (is_utf8 session && is_name session) × Serves old new (piece_for session line) status)
    ⊎ ((new ≡ old) × ((status ≡ 3) × IsFalse (is_utf8 session && is_name session) ⊎ (status ≡ 5)))

-- The first bytes of the output are fetched, as many as there is room for; the rest stays.
pub record IsFetched (old new : Seen) (before after : List ℕ) (count : ℕ) : Type 0 where
  pub counted : count ≡ min (length old.said) (length before)
  pub fetched : after ≡ take count old.said ++ drop count before
  pub rest : new.said ≡ drop count old.said
  pub server : new.server ≡ old.server

abbrev pub Fetches : Option Kept → Option Kept → List ℕ → List ℕ → ℕ → Type 0
Fetches None new before after count = (new ≡ None) × (count ≡ 0) × (after ≡ before)
Fetches (Some old) new before after count = (kept : Kept) × (new ≡ Some kept) × IsFetched (seen old) (seen kept) before after count

-- How many bytes can be fetched.
abbrev pub unfetched : Option Kept → ℕ
unfetched None = 0
unfetched (Some kept) = length (seen kept).said
