use Rattle.std.proofs.Common.{◌+◌, All, Contains, take, sym, subst}
use Rattle.std.proofs.lemmas.List.{take_all}
use Rattle.binding_values.specs.Readers.{AreAmong, edge_of}
use Rattle.binding_values.proofs.ReaderLemmas.{added_more, more_edges}
use Rattle.binding_values.proofs.readers.Readers.add_all.Goals as goal

pub returns-in_err-add-clause-more : goal.returns-in_err-add-clause-more
returns-in_err-add-clause-more c = subst (AreAmong c.args.self.now) (sym c.in_err-add.ensures.err) c.loop-read.invariant.more

pub loop-read-preserved : goal.loop-read-preserved
loop-read-preserved c = record {
  added = subst (λ edges. All (λ read. Contains edges (edge_of read c.args.reader)) (take (c.loop-read.read-index + 1) c.args.reads.now))
      (sym c.in_ok-add.ensures.ok) (added_more c.loop-read.self c.args.reads.now c.loop-read.read-index _ c.args.reader c.loop-read-test.true
      c.loop-read.invariant.added);
  more = subst (AreAmong c.args.self.now) (sym c.in_ok-add.ensures.ok)
      (λ edge there. more_edges c.loop-read.self _ edge (c.loop-read.invariant.more edge there));
}

pub returns-clause-added : goal.returns-clause-added
returns-clause-added c = subst (All (λ read. Contains c.loop-read.self (edge_of read c.args.reader)))
    (take_all c.loop-read.read-index c.args.reads.now c.loop-read-test.false) c.loop-read.invariant.added
