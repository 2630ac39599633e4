use Rattle.server_world.specs.Server.{seen_as, states, settings}
use Rattle.server_world.proofs.ForCallers.{knows_all}
use Rattle.wire_lines.proofs.Whole.{Runs-answered, Runs-well, Runs-lines, Runs-prefix, Runs-endless, Runs-memory, Runs-unread}
use Rattle.wire_lines.proofs.Isolated.{told_as_alone, told_as_without, told_between, told_interleaved}
use Rattle.wire_lines.proofs.SparedLemmas.{spares_all, spares_first}
use Rattle.wire_lines.proofs.stream.run_bounded.Goals as goal

pub returns-clause-runs : goal.returns-clause-runs
returns-clause-runs g c = λ input known.
    let old = (seen_as c.args.server.now) in
    let new = (seen_as c.run_buffered-ended.new.server) in
    let held = g.W.Sink.held c.args.writer.now in
    let held_after = g.W.Sink.held c.run_buffered-ended.new.writer in
    let runs = c.run_buffered-ended.ensures.runs input known in
    let answered = Runs-answered _ _ _ _ input _ held held_after old new c.run_buffered-ended.result runs in
    record {
      well = λ well.
          let all = Runs-well _ _ _ _ input _ held held_after old new c.run_buffered-ended.result runs well.0 well.1 in
          record {
            written = all.0;
            behind = all.1;
            alone = told_as_alone (settings old) (states old) input;
            left_out = told_as_without old input;
            between = told_between (settings old) (states old) input;
            interleaved = told_interleaved (settings old) (states old) input;
          };
      stopped = Runs-prefix _ _ _ _ input _ held held_after old new c.run_buffered-ended.result runs;
      endless = Runs-endless _ _ _ _ input _ held held_after old new c.run_buffered-ended.result runs;
      unread = Runs-unread _ _ _ _ input _ held held_after old new c.run_buffered-ended.result runs;
      memory = Runs-memory _ _ _ _ input _ held held_after old new c.run_buffered-ended.result runs;
      answered = answered;
      spared = spares_all c.run_buffered-ended.result _ input held old held_after new answered;
      spared_first = spares_first old new input;
      all_read = c.run_buffered-ended.ensures.all_read input known;
      counted = Runs-lines _ _ _ _ input _ held held_after old new c.run_buffered-ended.result runs;
    }

pub returns-clause-knows : goal.returns-clause-knows
returns-clause-knows g c = knows_all (settings (seen_as c.run_buffered-ended.new.server)) (seen_as c.run_buffered-ended.new.server).engine

pub returns-clause-devices : goal.returns-clause-devices
returns-clause-devices g c = record {
  asked = c.run_buffered-ended.ensures.asked;
  read = c.run_buffered-ended.ensures.failed.0;
  write = c.run_buffered-ended.ensures.failed.1;
}
