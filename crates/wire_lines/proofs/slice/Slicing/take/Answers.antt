use Rattle.std.proofs.Common.{◌≡◌, ◌+◌, Ok, Option, OnOk, refl, sym, subst}
use Rattle.server_world.specs.Server.{seen_as}
use Rattle.session_model.specs.Asked.{tag}
use Rattle.wire_format.specs.Input.{Piece, piece_of}
use Rattle.wire_format.proofs.ForCallers.{piece_of-blank, piece_of-faulty, piece_of-given, read_named, session_is_name}
use Rattle.wire_lines.specs.Taking.{Takes}
use Rattle.wire_lines.specs.Standing.{noted}
use Rattle.wire_lines.proofs.Answering.{Later-same, only_named, only_sessions}
use Rattle.wire_lines.proofs.Taken.{StopsAt-given, on_ok}
use Rattle.wire_lines.proofs.slice.Slicing.take.Goals as goal

pub obey-requires-clause-named : goal.obey-requires-clause-named
obey-requires-clause-named g c = read_named c.args.line.now (Ok c.in-Ok.given) c.in-Ok.ensures

pub obey-requires-clause-session : goal.obey-requires-clause-session
obey-requires-clause-session g c = session_is_name c.args.line.now (tag c.in-Ok.given) c.in-Ok.ensures

pub returns-then-is_blank-clause-taken : goal.returns-then-is_blank-clause-taken
returns-then-is_blank-clause-taken g c =
    let same = noted c.args.self.now (seen_as c.args.server.now) in
    subst (λ (piece : Option Piece). Takes c.args.start piece same same) (sym (piece_of-blank c.args.line.now (sym c.if-is_blank.ensures))) refl

pub returns-then-is_blank-clause-later : goal.returns-then-is_blank-clause-later
returns-then-is_blank-clause-later g c = Later-same (seen_as c.args.server.now) (seen_as c.args.server.now) refl

pub returns-in-Ok-clause-taken : goal.returns-in-Ok-clause-taken
returns-in-Ok-clause-taken g c =
    let old = noted c.args.self.now (seen_as c.args.server.now) in
    let new = noted c.obey.new.self (seen_as c.obey.new.server) in
    subst (λ (piece : Option Piece). OnOk c.obey.result (Takes c.args.start piece old new))
    (sym (piece_of-given c.args.line.now (tag c.in-Ok.given) (sym c.if-is_blank.ensures) c.in-Ok.ensures)) c.obey.ensures.done

pub returns-in-Ok-clause-counted : goal.returns-in-Ok-clause-counted
returns-in-Ok-clause-counted g c = on_ok c.obey.result (c.obey.new.self.count ≡ c.args.self.now.count + 1) c.obey.ensures.count

pub returns-in-Ok-clause-stopped : goal.returns-in-Ok-clause-stopped
returns-in-Ok-clause-stopped g c =
    StopsAt-given c.args.self.now.count (piece_of c.args.line.now) (tag c.in-Ok.given) (seen_as c.args.server.now) (seen_as c.obey.new.server) c.obey.result
    (piece_of-given c.args.line.now (tag c.in-Ok.given) (sym c.if-is_blank.ensures) c.in-Ok.ensures) c.obey.ensures.stopped

pub returns-in-Err-Fault-clause-taken : goal.returns-in-Err-Fault-clause-taken
returns-in-Err-Fault-clause-taken g c =
    let same = noted c.args.self.now (seen_as c.args.server.now) in
    subst (λ (piece : Option Piece). Takes c.args.start piece same same)
    (sym (piece_of-faulty c.args.line.now _ (sym c.if-is_blank.ensures) (rw c.in-Err-Fault.field-0-is at c.in-Err-Fault.ensures))) refl

pub returns-in-Err-Fault-clause-later : goal.returns-in-Err-Fault-clause-later
returns-in-Err-Fault-clause-later g c = Later-same (seen_as c.args.server.now) (seen_as c.args.server.now) refl

pub returns-clause-later : goal.returns-clause-later
returns-clause-later g c = record {
  settings = c.note_memory_refused.ensures.settings;
  refused = λ was. c.note_memory_refused.ensures.refused.refused;
  named = only_named _ _ c.note_memory_refused.ensures.refused;
  sessions = only_sessions _ _ c.note_memory_refused.ensures.refused;
}
