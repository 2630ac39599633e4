use Rattle.std.proofs.Common.{◌≡◌, refl}
use Rattle.std.specs.List.{flat_map}
use Rattle.server_world.specs.Server.{seen_as}
use Rattle.server_world.specs.declared.report.Entry.TheVariants.{Lines, OutOfMemory}
use Rattle.session_model.specs.Asked.{tag}
use Rattle.wire_format.specs.Text.{text_of_line}
use Rattle.wire_lines.specs.Sending.{out}
use Rattle.wire_lines.specs.Steps.{IsDone, entry_text}
use Rattle.wire_lines.proofs.Stuck.{IsStuckBy-means, SendFails-by_sink, SentAll-by_sink, by_sink-memory}
use Rattle.wire_lines.proofs.output.Output.obey.Goals as goal

pub returns-in-Ok-clause-answered : goal.returns-in-Ok-clause-answered
returns-in-Ok-clause-answered g c =
    let stepped = c.in-Ok.ensures in (
      entry_text c.args.given.now.session (Lines c.in-Ok.lines),
      record { entry = Lines c.in-Ok.lines; does = record { step = stepped.step; known = stepped.known; there = stepped.there; lost = tt }; says = refl },
      rw (c.as_str-session.ensures, c.as_slice.ensures) at c.say_lines.ensures.said,
    )

pub returns-in-Ok-clause-stuck : goal.returns-in-Ok-clause-stuck
returns-in-Ok-clause-stuck g c = λ memory.
    let stepped = c.in-Ok.ensures in
    IsStuckBy-means (λ text. text ≡ flat_map (text_of_line c.args.given.now.session) c.in-Ok.lines)
    (λ text. IsDone (seen_as c.args.server.now) (tag c.args.given.now) text (seen_as c.step.new.self))
    (out (g.W.Sink.held c.args.writer.now) c.args.self.now.gathered) (out (g.W.Sink.held c.say_lines.new.writer) c.say_lines.new.self.gathered)
    (λ text is. record {
      entry = Lines c.in-Ok.lines;
      does = record { step = stepped.step; known = stepped.known; there = stepped.there; lost = tt };
      says = is;
    })
    (rw (c.as_str-session.ensures, c.as_slice.ensures) at c.say_lines.ensures.stuck memory)

pub returns-in-Err-clause-answered : goal.returns-in-Err-clause-answered
returns-in-Err-clause-answered g c =
    let stepped = c.in-Err.ensures in
    let text = entry_text c.args.given.now.session OutOfMemory in (
      text,
      record { entry = OutOfMemory; does = record { step = stepped.step; known = stepped.known; there = tt; lost = stepped.lost }; says = refl },
      SentAll-by_sink (out (g.W.Sink.held c.args.writer.now) c.args.self.now.gathered)
          (out (g.W.Sink.held c.say_error.new.writer) c.say_error.new.self.gathered) c.say_error.result text c.by_sink.result c.by_sink.ensures
          (rw c.as_str-session.ensures at c.say_error.ensures.said),
    )

pub returns-in-Err-clause-failed : goal.returns-in-Err-clause-failed
returns-in-Err-clause-failed g c = SendFails-by_sink _ _ c.say_error.result c.by_sink.result c.by_sink.ensures c.say_error.ensures.failed

pub returns-in-Err-clause-stuck : goal.returns-in-Err-clause-stuck
returns-in-Err-clause-stuck g c = λ memory. absurd (by_sink-memory c.say_error.result c.by_sink.result c.by_sink.ensures memory)
