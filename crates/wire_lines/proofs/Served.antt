-- What a line that is not blank is answered with.
use Rattle.std.proofs.Common.{◌≡◌, ℕ, List, Result, Ok, Err, inl, inr, sym, subst}
use Rattle.std.specs.Prelude.{Some}
use Rattle.isolation.specs.Machine.{Tagged}
use Rattle.session_model.specs.Asked.{Asked}
use Rattle.server_world.specs.Server.{Server}
use Rattle.wire_format.specs.declared.fault.LineFault.{LineFault}
use Rattle.wire_format.specs.Input.{piece_from}
use Rattle.wire_lines.specs.Steps.{IsAnswered, IsDone, IsFaultSaid, IsUnread}

module _ (old new : Server) (read : Result (Tagged (List ℕ) Asked) LineFault) (text : List ℕ) where
  pub answered-given : (given : Tagged (List ℕ) Asked) → read ≡ Ok given → IsDone old given text new → IsAnswered old (Some (piece_from read)) text new
  answered-given given is done = subst (λ read. IsAnswered old (Some (piece_from read)) text new) (sym is) (inl done)

  pub answered-faulty : (fault : LineFault) → read ≡ Err fault → IsFaultSaid old fault text new → IsAnswered old (Some (piece_from read)) text new
  answered-faulty fault is said = subst (λ read. IsAnswered old (Some (piece_from read)) text new) (sym is) (inl said)

pub answered-unread : (old new : Server) (read : Result (Tagged (List ℕ) Asked) LineFault) (text : List ℕ) → IsUnread old text new
    → IsAnswered old (Some (piece_from read)) text new
answered-unread old new (Ok given) text unread = inr unread
answered-unread old new (Err fault) text unread = inr unread
