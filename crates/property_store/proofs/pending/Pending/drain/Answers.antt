use Rattle.std.proofs.Common.{◌∙◌}
use Rattle.property_store.specs.Marks.{marks_at}
use Rattle.property_store.proofs.PendingLemmas.{fewer_left, one_taken}
use Rattle.property_store.proofs.pending.Pending.drain.Goals as goal

pub marks-smaller-in-One : goal.marks-smaller-in-One
marks-smaller-in-One c = fewer_left (marks_at c.marks.stores.marks c.args.place)
    (marks_at c.take_written.new.self.marks c.args.place) c.in-One.at c.in-One.ensures.taken

pub marks-preserved-in-One : goal.marks-preserved-in-One
marks-preserved-in-One c = record {
  stores = record {
    shelves = c.in-One.ensures.shelves ∙ c.marks.invariant.stores.shelves;
    others = λ other apart. c.in-One.ensures.others other apart
        ∙ c.marks.invariant.stores.others other apart;
  };
  more = λ q on. one_taken (marks_at c.marks.stores.marks c.args.place)
      (marks_at c.take_written.new.self.marks c.args.place) c.marks.self c.mark.new.self c.in-One.at c.in-One.ensures.taken c.mark.ensures.kept
      c.mark.ensures.marked q (c.marks.invariant.more q on);
}
