use Rattle.std.proofs.Common.{◌≡◌, drop}
use Rattle.session_engine.proofs.Common.{reads_refusal, state_at}
use Rattle.term_evaluation.specs.Reading.{reads_of}
use Rattle.session_engine.proofs.bindings.check_reads.Given as goal

-- those that were looked at are not refused
abbrev pub invariant-reads : goal.invariant-reads
invariant-reads l = reads_refusal (state_at l.tables l.place) l.object (drop l.read-index l.read-items)
    ≡ reads_refusal (state_at l.tables l.place) l.object (reads_of l.expr)
