use Rattle.std.proofs.Common.{ℕ, List, [], Option, Ok, Err, refl, sym, subst, arith}
use Rattle.server_world.specs.Server.{seen_as, was_refused}
use Rattle.wire_lines.specs.declared.fault.RunFault.TheVariants.{Memory}
use Rattle.wire_lines.specs.Feeding.{at}
use Rattle.wire_lines.specs.Run.{Runs, reads}
use Rattle.wire_lines.proofs.Asking.{AsksSource-failed, AsksSource-means, AsksSource-stopped}
use Rattle.wire_lines.proofs.Kept.{err_is}
use Rattle.wire_lines.proofs.Whole.{Ends-beginning, Runs-stopped, Runs-unbegun, Runs-done, ReadFails-fault, WriteFails-fault}
use Rattle.wire_lines.proofs.stream.run_buffered.Goals as goal

pub returns-in_err-stream-clause-runs : goal.returns-in_err-stream-clause-runs
returns-in_err-stream-clause-runs g c = λ input known.
    let held = g.W.Sink.held c.args.writer.now in
    let server = seen_as c.args.server.now in
    let calls = reads g.R.Source.calls g.R.Source.gave c.args.reader.now in
    let unbegun = Runs-unbegun c.args.max_lines c.args.max_reads calls input held server in
    let here = subst (λ (left : Option (List ℕ)). Runs c.args.max_lines c.args.max_reads calls calls input left held server held server (Err Memory))
    (sym known) unbegun in
    subst (Runs c.args.max_lines c.args.max_reads calls calls input (g.R.Source.left c.args.reader.now) held server held server)
    (sym (err_is _ _ c.from_residual.ensures.1)) here

pub returns-in_err-serve_to_end-clause-runs : goal.returns-in_err-serve_to_end-clause-runs
returns-in_err-serve_to_end-clause-runs g c = λ input known.
    let made = c.in_ok-stream.ensures in
    let served = c.serve_to_end in
    let end = at (g.W.Sink.held served.new.writer) served.new.self.lines (seen_as served.new.server) [] in
    let fault = c.in_err-serve_to_end.field-0.0 in
    let ends = Ends-beginning {T = Unit {0}} c.args.max_lines c.args.max_reads (reads g.R.Source.calls g.R.Source.gave c.args.reader.now)
    (reads g.R.Source.calls g.R.Source.gave served.new.reader) (g.R.Source.left served.new.reader) _ _ _ _ input (g.W.Sink.held c.args.writer.now)
    (seen_as c.args.server.now) end (Err fault) made.most made.output made.count made.begun
    (c.in_err-serve_to_end.ensures.ends input known) in
    Runs-stopped c.args.max_lines c.args.max_reads (reads g.R.Source.calls g.R.Source.gave c.args.reader.now)
    (reads g.R.Source.calls g.R.Source.gave served.new.reader) input (g.R.Source.left served.new.reader) (g.W.Sink.held c.args.writer.now)
    (g.W.Sink.held served.new.writer) (seen_as c.args.server.now)
    (seen_as served.new.server) served.new.self.lines.output.gathered served.new.self.lines.count
    (Unit {0}) fault _ (err_is _ _ c.from_residual-in_err-serve_to_end.ensures.1) c.in_err-serve_to_end.ensures.written
    (omega (arith, c.in_err-serve_to_end.ensures.within, made.most)) ends

pub returns-in_err-serve_to_end-clause-failed : goal.returns-in_err-serve_to_end-clause-failed
returns-in_err-serve_to_end-clause-failed g c =
    let fault = c.in_err-serve_to_end.field-0.0 in
    let failed = c.in_err-serve_to_end.ensures.failed in
    let is = err_is _ _ c.from_residual-in_err-serve_to_end.ensures.1 in
    (ReadFails-fault (Unit {0}) _ _ fault _ failed.0 is, WriteFails-fault (Unit {0}) _ _ fault _ failed.1 is)

pub returns-clause-runs : goal.returns-clause-runs
returns-clause-runs g c = λ input known.
    let made = c.in_ok-stream.ensures in
    let served = c.serve_to_end in
    let end = at (g.W.Sink.held served.new.writer) served.new.self.lines (seen_as served.new.server) [] in
    let done = Ends-beginning c.args.max_lines c.args.max_reads (reads g.R.Source.calls g.R.Source.gave c.args.reader.now)
    (reads g.R.Source.calls g.R.Source.gave served.new.reader) (g.R.Source.left served.new.reader) _ _ _ _ input (g.W.Sink.held c.args.writer.now)
    (seen_as c.args.server.now) end (Ok c.in_ok-serve_to_end.field-0) made.most made.output made.count made.begun
    (c.in_ok-serve_to_end.ensures.ends input known) in
    rw c.summary.ensures (Runs-done c.args.max_lines c.args.max_reads (reads g.R.Source.calls g.R.Source.gave c.args.reader.now)
    (reads g.R.Source.calls g.R.Source.gave served.new.reader) input (g.R.Source.left served.new.reader) (g.W.Sink.held c.args.writer.now)
    (g.W.Sink.held served.new.writer) (seen_as c.args.server.now) (seen_as served.new.server) served.new.self.lines.output.gathered
    (record { lines = served.new.self.lines.count; memory_refused = was_refused (seen_as served.new.server) }) c.in_ok-serve_to_end.ensures.written
    (omega (arith, c.in_ok-serve_to_end.ensures.within, made.most)) done)

-- there is no memory for buffers: the source is not asked
pub returns-in_err-stream-clause-asked : goal.returns-in_err-stream-clause-asked
returns-in_err-stream-clause-asked g c = AsksSource-stopped c.args.max_reads _ _ 0 0 (omega arith) (omega arith, omega arith) (omega arith) Memory _
    (err_is _ _ c.from_residual.ensures.1)

pub returns-in_err-serve_to_end-clause-asked : goal.returns-in_err-serve_to_end-clause-asked
returns-in_err-serve_to_end-clause-asked g c =
    AsksSource-failed {T = Unit {0}} c.args.max_reads _ _ (Err c.in_err-serve_to_end.field-0.0) c.in_err-serve_to_end.field-0.0 _
    (err_is _ _ c.from_residual-in_err-serve_to_end.ensures.1) c.in_err-serve_to_end.ensures.asked

pub returns-clause-asked : goal.returns-clause-asked
returns-clause-asked g c =
    AsksSource-means c.args.max_reads _ _ (Ok c.in_ok-serve_to_end.field-0) _ (λ ok. refl) c.in_ok-serve_to_end.ensures.asked
