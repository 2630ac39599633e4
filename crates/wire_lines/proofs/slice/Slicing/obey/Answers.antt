use Rattle.std.proofs.Common.{◌≡◌, inl, inr, Some, Result, refl, sym, subst}
use Rattle.std.specs.Prelude.{IfErr}
use Rattle.isolation.specs.Pieces.{Given}
use Rattle.server_world.specs.Runs.{IsEntry}
use Rattle.server_world.specs.Server.{seen_as}
use Rattle.wire_lines.specs.declared.fault.RunFault.{RunFault}
use Rattle.wire_lines.specs.declared.fault.RunFault.TheVariants.{Memory}
use Rattle.wire_lines.specs.Taking.{RunsShort}
use Rattle.wire_lines.proofs.Answering.{entered_named, only_named, only_sessions}
use Rattle.wire_lines.proofs.Kept.{err_is}
use Rattle.server_world.specs.declared.report.Entry.TheVariants.{Lines, OutOfMemory}
use Rattle.session_model.specs.Asked.{tag}
use Rattle.wire_lines.proofs.slice.Slicing.obey.Goals as goal

pub returns-in_default-clause-stopped : goal.returns-in_default-clause-stopped
returns-in_default-clause-stopped g c = (refl, inl c.note_memory_refused.ensures.refused)

pub returns-in_default-clause-later : goal.returns-in_default-clause-later
returns-in_default-clause-later g c = record {
  settings = c.note_memory_refused.ensures.settings;
  refused = λ was. c.note_memory_refused.ensures.refused.refused;
  named = only_named _ _ c.note_memory_refused.ensures.refused;
  sessions = only_sessions _ _ c.note_memory_refused.ensures.refused;
}

pub returns-in_err-step-clause-stopped : goal.returns-in_err-step-clause-stopped
returns-in_err-step-clause-stopped g c =
    let stepped = c.in_err-step.ensures in
    let does : IsEntry (seen_as c.args.server.now) (seen_as c.step.new.self) (tag c.args.given.now) OutOfMemory =
    record { step = stepped.step; known = stepped.known; there = tt; lost = stepped.lost } in
    let short : RunsShort (Some (Given (tag c.args.given.now))) (seen_as c.args.server.now) (seen_as c.step.new.self) =
    inr (tag c.args.given.now, OutOfMemory, refl, does) in
    subst (λ (r : Result (Unit {0}) RunFault). IfErr r
    (λ fault. (fault ≡ Memory) × RunsShort (Some (Given (tag c.args.given.now))) (seen_as c.args.server.now) (seen_as c.step.new.self)))
    (sym (err_is _ _ c.from_residual.ensures.1)) (refl, short)

pub returns-in_err-step-clause-later : goal.returns-in_err-step-clause-later
returns-in_err-step-clause-later g c = record {
  settings = c.in_err-step.ensures.step.settings;
  refused = c.in_err-step.ensures.step.kept;
  named = c.in_err-step.ensures.step.named c.requires.named;
  sessions = entered_named (seen_as c.args.server.now) (seen_as c.step.new.self) _ c.in_err-step.ensures.known c.requires.session;
}

pub returns-clause-done : goal.returns-clause-done
returns-clause-done g c =
    let (note, right, notes) = c.in-Ok.ensures.noted in
    let stepped = c.in_ok-step.ensures in
    record {
      note = note;
      right = right;
      notes = notes;
      starts = c.in-Ok.ensures.starts;
      entry = Lines c.in_ok-step.field-0;
      does = record { step = stepped.step; known = stepped.known; there = stepped.there; lost = tt };
    }

pub returns-clause-later : goal.returns-clause-later
returns-clause-later g c = record {
  settings = c.in_ok-step.ensures.step.settings;
  refused = c.in_ok-step.ensures.step.kept;
  named = c.in_ok-step.ensures.step.named c.requires.named;
  sessions = entered_named (seen_as c.args.server.now) (seen_as c.step.new.self) _ c.in_ok-step.ensures.known c.requires.session;
}
