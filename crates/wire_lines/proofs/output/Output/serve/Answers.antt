use Rattle.std.proofs.Common.{ℕ, List, IsTrue, Some, codes, refl, sym, subst}
use Rattle.std.proofs.lemmas.Bool.{or_left}
use Rattle.plain_types.specs.declared.code.Code.TheVariants.{OutOfMemory}
use Rattle.server_world.specs.Server.{seen_as}
use Rattle.session_model.specs.Asked.{tag}
use Rattle.session_model.specs.declared.line.Line.TheVariants.{Error}
use Rattle.wire_format.specs.Command.{command_of}
use Rattle.wire_format.specs.Text.{blamed, is_session_text, text_of_line}
use Rattle.wire_format.proofs.ForCallers.{session_is_name, blamed_is_session_text}
use Rattle.wire_format.specs.Input.{piece_from}
use Rattle.wire_lines.specs.Sending.{out}
use Rattle.wire_lines.specs.Steps.{IsAnswered, IsDone}
use Rattle.wire_lines.proofs.Stuck.{IsStuckBy-means, SendFails-by_sink, SentAll-by_sink, by_sink-memory}
use Rattle.wire_lines.proofs.Served.{answered-faulty, answered-given, answered-unread}
use Rattle.wire_lines.proofs.output.Output.serve.Goals as goal

pub obey-requires : goal.obey-requires
obey-requires g c = or_left _ _ (session_is_name c.args.line.now (tag c.in-Ok.given) c.in-Ok.ensures)

pub say_error-requires : goal.say_error-requires
say_error-requires g c =
    let whole = blamed_is_session_text c.args.line.now c.in-Err-Fault.fault (rw c.in-Err-Fault.field-0-is at c.in-Err-Fault.ensures) in
    subst (λ (text : List ℕ). IsTrue (is_session_text text)) (sym c.blamed.ensures) whole

pub returns-in-Ok-clause-answered : goal.returns-in-Ok-clause-answered
returns-in-Ok-clause-answered g c =
    let (text, done, sent) = c.obey.ensures.answered in (
      text,
      answered-given (seen_as c.args.server.now) (seen_as c.obey.new.server) (command_of c.args.line.now) text (tag c.in-Ok.given) c.in-Ok.ensures done,
      sent,
    )

pub returns-in-Ok-clause-stuck : goal.returns-in-Ok-clause-stuck
returns-in-Ok-clause-stuck g c = λ memory.
    let old = seen_as c.args.server.now in
    let new = seen_as c.obey.new.server in
    IsStuckBy-means (λ text. IsDone old (tag c.in-Ok.given) text new) (λ text. IsAnswered old (Some (piece_from (command_of c.args.line.now))) text new)
    (out (g.W.Sink.held c.args.writer.now) c.args.self.now.gathered) (out (g.W.Sink.held c.obey.new.writer) c.obey.new.self.gathered)
    (λ text done. answered-given old new (command_of c.args.line.now) text (tag c.in-Ok.given) c.in-Ok.ensures done) (c.obey.ensures.stuck memory)

pub returns-in-Err-Fault-clause-answered : goal.returns-in-Err-Fault-clause-answered
returns-in-Err-Fault-clause-answered g c =
    let server = seen_as c.args.server.now in
    let fault = c.in-Err-Fault.fault in
    let text = text_of_line (blamed fault) (Error fault.code) in (
      text,
      answered-faulty server server (command_of c.args.line.now) text fault (rw c.in-Err-Fault.field-0-is at c.in-Err-Fault.ensures)
          (record { stays = refl; says = refl }),
      SentAll-by_sink (out (g.W.Sink.held c.args.writer.now) c.args.self.now.gathered)
          (out (g.W.Sink.held c.say_error.new.writer) c.say_error.new.self.gathered) c.say_error.result text c.by_sink.result c.by_sink.ensures
          (rw c.blamed.ensures at c.say_error.ensures.said),
    )

pub returns-in-Err-Fault-clause-failed : goal.returns-in-Err-Fault-clause-failed
returns-in-Err-Fault-clause-failed g c = SendFails-by_sink _ _ c.say_error.result c.by_sink.result c.by_sink.ensures c.say_error.ensures.failed

pub returns-in-Err-Fault-clause-stuck : goal.returns-in-Err-Fault-clause-stuck
returns-in-Err-Fault-clause-stuck g c = λ memory. absurd (by_sink-memory c.say_error.result c.by_sink.result c.by_sink.ensures memory)

pub returns-in-Err-Memory-clause-answered : goal.returns-in-Err-Memory-clause-answered
returns-in-Err-Memory-clause-answered g c =
    let old = seen_as c.args.server.now in
    let new = seen_as c.say_out_of_memory.new.server in
    let said = c.say_out_of_memory.ensures in
    let text = text_of_line (codes "-") (Error OutOfMemory) in (
      text,
      answered-unread old new (command_of c.args.line.now) text (record { only = said.only; settings = said.settings; says = refl }),
      SentAll-by_sink (out (g.W.Sink.held c.args.writer.now) c.args.self.now.gathered)
          (out (g.W.Sink.held c.say_out_of_memory.new.writer) c.say_out_of_memory.new.self.gathered) c.say_out_of_memory.result text
          c.by_sink-in-Err-Memory.result c.by_sink-in-Err-Memory.ensures
          said.said,
    )

pub returns-in-Err-Memory-clause-failed : goal.returns-in-Err-Memory-clause-failed
returns-in-Err-Memory-clause-failed g c = SendFails-by_sink _ _ c.say_out_of_memory.result c.by_sink-in-Err-Memory.result c.by_sink-in-Err-Memory.ensures
    c.say_out_of_memory.ensures.failed

pub returns-in-Err-Memory-clause-stuck : goal.returns-in-Err-Memory-clause-stuck
returns-in-Err-Memory-clause-stuck g c =
    λ memory. absurd (by_sink-memory c.say_out_of_memory.result c.by_sink-in-Err-Memory.result c.by_sink-in-Err-Memory.ensures memory)
