-- What a line comes to, by what is said to it.
use Rattle.std.proofs.Common.{◌≡◌, ℕ, true, false, List, [], Option, None, Some, Result, Ok, Err, refl, ap, sym, subst, inl, inr, append-nil}
use Rattle.std.specs.Prelude.{OnOk, OnErr, codes}
use Rattle.std.specs.declared.alloc.AllocError.{AllocError}
use Rattle.isolation.specs.Machine.{Tagged}
use Rattle.plain_types.specs.declared.code.Code.TheVariants.{OutOfMemory}
use Rattle.session_model.specs.Asked.{Asked}
use Rattle.session_model.specs.declared.line.Line.TheVariants.{Error}
use Rattle.server_world.specs.Server.{OnlyRefused, settings}
use Rattle.wire_format.specs.declared.fault.LineFault.{LineFault}
use Rattle.wire_format.specs.Command.{command_of, is_blank}
use Rattle.wire_format.specs.Input.{Piece, piece_from, piece_of}
use Rattle.wire_format.specs.Text.{blamed, text_of_line}
use Rattle.wire_lines.specs.Steps.{IsAnswered, IsDone}
use Rattle.wire_lines.proofs.Served.{answered-faulty, answered-given, answered-unread}
use Rattle.metad_c.specs.declared.outcome.Outcome.{Outcome}
use Rattle.metad_c.specs.declared.outcome.Outcome.TheVariants.{Said, Undone, Unsaid}
use Rattle.metad_c.specs.Answers.{Comes, Seen}
use Rattle.metad_c.specs.Reading.{command_for, piece_for}
use Rattle.metad_c.specs.Saying.{Adds, IsSilent, Obeys, SaysFault, SaysUnread, said_or}

-- what follows from an output line, and what follows if it is lost, gives the outcome
by_said : {A B : Type 0} (Holds : Outcome → Type 0) (lost outcome : Outcome) (said : Result (Unit {0}) AllocError) → outcome ≡ said_or lost said
    → OnOk said A → OnErr said B → (A → Holds Said) → (B → Holds lost) → Holds outcome
by_said Holds lost outcome (Ok v) is ok err adds silent = subst Holds (sym is) (adds ok)
by_said Holds lost outcome (Err e) is ok err adds silent = subst Holds (sym is) (silent err)

module _ (old new : Seen) (said : Result (Unit {0}) AllocError) (outcome : Outcome) where
  -- a command that is done
  pub obeyed : (t : Tagged (List ℕ) Asked) (text : List ℕ) → outcome ≡ said_or Unsaid said → IsDone old.server t text new.server
      → OnOk said (Adds old new text) → OnErr said (IsSilent old new) → Obeys old new t outcome
  obeyed t text is done ok err = by_said (Obeys old new t) Unsaid outcome said is ok err (λ adds. (text, done, adds)) (λ silent. (text, done, silent))

  -- a line that is no command
  pub faulted : (fault : LineFault) → outcome ≡ said_or Undone said → new.server ≡ old.server
      → OnOk said (Adds old new (text_of_line (blamed fault) (Error fault.code))) → OnErr said (IsSilent old new) → SaysFault old new fault outcome
  faulted fault is same ok err = by_said (SaysFault old new fault) Undone outcome said is ok err (λ adds. (same, adds)) (λ silent. (same, silent))

  -- a line for which there was no memory
  pub refused : outcome ≡ said_or Undone said → OnlyRefused old.server new.server → settings new.server ≡ settings old.server
      → OnOk said (Adds old new (text_of_line (codes "-") (Error OutOfMemory))) → OnErr said (IsSilent old new) → SaysUnread old new outcome
  refused is only kept ok err =
      by_said (SaysUnread old new) Undone outcome said is ok err (λ adds. (record { only = only; settings = kept; says = refl }, adds))
      (λ silent. (only, kept, silent))

module _ (old new : Seen) (wanted : Result (Tagged (List ℕ) Asked) LineFault) where
  pub obeys_comes : (t : Tagged (List ℕ) Asked) (outcome : Outcome) → wanted ≡ Ok t → Obeys old new t outcome → Comes old new (Some (piece_from wanted)) outcome
  obeys_comes t Said is (text, done, said) =
      record { text = text; answered = answered-given old.server new.server wanted text t is done; said = said }
  obeys_comes t Undone is obeys = absurd obeys
  obeys_comes t Unsaid is (text, done, said) =
      record { given = t; command = ap (λ read. Some (piece_from read)) is; text = text; done = done; said = said }

  pub fault_comes : (fault : LineFault) (outcome : Outcome) → wanted ≡ Err fault → SaysFault old new fault outcome
      → Comes old new (Some (piece_from wanted)) outcome
  fault_comes fault Said is (same, said) =
      let text = text_of_line (blamed fault) (Error fault.code) in
      record {
        text = text;
        answered = answered-faulty old.server new.server wanted text fault is
            (record { stays = same; says = refl });
        said = said;
      }
  fault_comes fault Undone is (same, said) = record { server = inl same; settings = ap settings same; said = said }
  fault_comes fault Unsaid is says = absurd says

  pub unread_comes : (outcome : Outcome) → SaysUnread old new outcome → Comes old new (Some (piece_from wanted)) outcome
  unread_comes Said (unread, said) =
      let text = text_of_line (codes "-") (Error OutOfMemory) in
      record { text = text; answered = answered-unread old.server new.server wanted text unread; said = said }
  unread_comes Undone (only, kept, said) = record { server = inr only; settings = kept; said = said }
  unread_comes Unsaid says = absurd says

-- a line that is not blank is what it is read as
pub piece_of_read : (line : List ℕ) → is_blank line ≡ false → piece_of line ≡ Some (piece_from (command_of line))
unfolding piece_of
piece_of_read line more = rw more

pub piece_for_read : (session line : List ℕ) → is_blank line ≡ false → piece_for session line ≡ Some (piece_from (command_for session line))
unfolding piece_for
piece_for_read session line more = rw more

-- and a blank one is nothing,
pub piece_for_blank : (session line : List ℕ) → is_blank line ≡ true → piece_for session line ≡ None
unfolding piece_for
piece_for_blank session line blank = rw blank

-- which is answered by nothing
pub blank_comes : (kept : Seen) (line : Option Piece) → line ≡ None → Comes kept kept line Said
blank_comes kept line none = record {
  text = [];
  answered = subst (λ line. IsAnswered kept.server line [] kept.server) (sym none) (refl, refl);
  said = sym (append-nil kept.said);
}

-- a line that is not blank comes out as what it is read as
pub read_comes : (old new : Seen) (line : Option Piece) (wanted : Result (Tagged (List ℕ) Asked) LineFault) (outcome : Outcome)
    → line ≡ Some (piece_from wanted) → Comes old new (Some (piece_from wanted)) outcome → Comes old new line outcome
read_comes old new line wanted outcome is comes = subst (λ line. Comes old new line outcome) (sym is) comes
