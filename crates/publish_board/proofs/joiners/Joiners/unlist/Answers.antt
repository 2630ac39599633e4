use Rattle.std.proofs.Common.{◌∙◌, Some, None, ap, refl, sym, rules}
use Rattle.publish_board.specs.Listed.{count_in}
use Rattle.publish_board.specs.Topics.{topic_of}
use Rattle.publish_board.proofs.JoinersLemmas.{filled_still, listed_fewer, none_listed, not_empty, over}
use Rattle.publish_board.proofs.joiners.Joiners.unlist.Goals as goal

pub invariant_of-self-then-was_last : goal.invariant_of-self-then-was_last
invariant_of-self-then-was_last c = record {
  filled = filled_still c.args.self.now.lists c.swap_remove.new.self (topic_of c.args.topic) c.args.place None
      (over c.args.self.now.lists (c.get_mut.follows.lender c.unlist_one.new.list) c.swap_remove.new.self (topic_of c.args.topic)
      (Some c.unlist_one.new.list) None
      ((c.get_mut.follows.holds c.unlist_one.new.list).3 (search rules)).0 c.swap_remove.ensures.updates.0)
      c.args.self.now.filled refl;
}

pub invariant_of-self-else-was_last : goal.invariant_of-self-else-was_last
invariant_of-self-else-was_last c = record {
  filled = filled_still c.args.self.now.lists (c.get_mut.follows.lender c.unlist_one.new.list) (topic_of c.args.topic) c.args.place
      (Some c.unlist_one.new.list) ((c.get_mut.follows.holds c.unlist_one.new.list).3 (search rules)).0 c.args.self.now.filled
      (not_empty c.unlist_one.new.list c.is_empty-was_last.result c.if-was_last.false c.is_empty-was_last.ensures.1);
}

pub returns-in_default : goal.returns-in_default
returns-in_default c = rw (c.get_mut.follows.holds-at-none)
    (none_listed c.args.self.now.lists (topic_of c.args.topic) c.args.place c.in_default.ensures.value)

pub returns-then-was_last : goal.returns-then-was_last
returns-then-was_last c =
    listed_fewer c.args.self.now.lists c.swap_remove.new.self (topic_of c.args.topic) c.args.place None
    (over c.args.self.now.lists (c.get_mut.follows.lender c.unlist_one.new.list) c.swap_remove.new.self (topic_of c.args.topic)
    (Some c.unlist_one.new.list) None
    ((c.get_mut.follows.holds c.unlist_one.new.list).3 (search rules)).0 c.swap_remove.ensures.updates.0)
    (Some c.in-Some.list.now) c.in-Some.ensures.value
    (λ at. sym (ap (λ links. count_in links at) (c.is_empty-was_last.ensures.0 c.if-was_last.true)) ∙ c.unlist_one.ensures at)

pub returns-else-was_last : goal.returns-else-was_last
returns-else-was_last c =
    listed_fewer c.args.self.now.lists (c.get_mut.follows.lender c.unlist_one.new.list) (topic_of c.args.topic) c.args.place (Some c.unlist_one.new.list)
    ((c.get_mut.follows.holds c.unlist_one.new.list).3 (search rules)).0 (Some c.in-Some.list.now) c.in-Some.ensures.value c.unlist_one.ensures
