-- What calls do to the server behind a handle, by what it was and is.
use Rattle.std.proofs.Common.{◌≡◌, ℕ, true, ◌&&◌, List, Option, Some, None, refl, sym, subst}
use Rattle.std.specs.Prelude.{IsTrue}
use Rattle.std.specs.Str.{is_utf8}
use Rattle.plain_types.specs.Names.{is_name}
use Rattle.wire_format.specs.Input.{Piece}
use Rattle.metad_c.specs.declared.kept.Kept.{Kept}
use Rattle.metad_c.specs.declared.outcome.Outcome.{Outcome}
use Rattle.metad_c.specs.Answers.{Comes, Fetches, IsFetched, Serves, seen, status_of}

module _ (old new : Option Kept) where
  -- a handle of no server
  pub serves_none : (line : Option Piece) → old ≡ None → new ≡ None → Serves old new line 2
  serves_none line is gone = subst (λ old. Serves old new line 2) (sym is) (gone, refl)

  -- a handle of a server that answers a line
  pub serves_some : (before after : Kept) (line : Option Piece) (outcome : Outcome) (status : ℕ) → old ≡ Some before → new ≡ Some after
      → status ≡ status_of outcome → Comes (seen before) (seen after) line outcome → Serves old new line status
  serves_some before after line outcome status was is by comes =
      subst (λ old. Serves old new line status) (sym was) (after, outcome, is, by, comes)

  pub fetches_none : (into : List ℕ) → old ≡ None → new ≡ None → Fetches old new into into 0
  fetches_none into is gone = subst (λ old. Fetches old new into into 0) (sym is) (gone, refl, refl)

  pub fetches_some : (before after : Kept) (into out : List ℕ) (count : ℕ) → old ≡ Some before → new ≡ Some after
      → IsFetched (seen before) (seen after) into out count → Fetches old new into out count
  fetches_some before after into out count was is fetched = subst (λ old. Fetches old new into out count) (sym was) (after, is, fetched)

-- these bytes are the name of a session
pub is_named : (session : List ℕ) → is_utf8 session ≡ true → is_name session ≡ true → IsTrue (is_utf8 session && is_name session)
is_named session text name = rw (text, name)
