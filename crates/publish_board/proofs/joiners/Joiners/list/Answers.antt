use Rattle.std.proofs.Common.{◌∙◌, Some, None, ap, cond, sym, subst, rules}
use Rattle.std.proofs.lemmas.Result.{on_err_weaker, on_ok_weaker}
use Rattle.indexmap.specs.IndexMap.{get}
use Rattle.publish_board.specs.Filled.{AreFilled}
use Rattle.publish_board.specs.Topics.{is_same, topic_of}
use Rattle.publish_board.proofs.JoinersLemmas.{alone, empty_in, filled_inserted, filled_still, full_after, listed_more, listed_same, one_alone}
use Rattle.publish_board.proofs.joiners.Joiners.list.Goals as goal

pub invariant_of-self : goal.invariant_of-self
invariant_of-self c = record {
  filled = filled_still c.args.self.now.lists (c.get_mut.follows.lender c.list_one.new.list) (topic_of c.args.topic) c.args.place (Some c.list_one.new.list)
      ((c.get_mut.follows.holds c.list_one.new.list).3 (search rules)).0 c.args.self.now.filled
      (full_after c.list_one.result c.in-Some.list.now c.list_one.new.list c.list_one.ensures.some c.list_one.ensures.err
      (ap empty_in c.in-Some.ensures.value ∙ c.args.self.now.filled (topic_of c.args.topic)));
}

pub returns-in-Some-clause-ok : goal.returns-in-Some-clause-ok
returns-in-Some-clause-ok c =
    on_ok_weaker c.list_one.result (λ more.
    listed_more c.args.self.now.lists (c.get_mut.follows.lender c.list_one.new.list) (topic_of c.args.topic) c.args.place (Some c.list_one.new.list)
    ((c.get_mut.follows.holds c.list_one.new.list).3 (search rules)).0 (Some c.in-Some.list.now) c.in-Some.ensures.value more)
    c.list_one.ensures.ok

pub returns-in-Some-clause-err : goal.returns-in-Some-clause-err
returns-in-Some-clause-err c =
    on_err_weaker c.list_one.result (λ same.
    listed_same c.args.self.now.lists (c.get_mut.follows.lender c.list_one.new.list) (topic_of c.args.topic) c.args.place (Some c.list_one.new.list)
    ((c.get_mut.follows.holds c.list_one.new.list).3 (search rules)).0 (sym c.in-Some.ensures.value ∙ ap Some (sym same)))
    c.list_one.ensures.err

pub invariant_of-self-2 : goal.invariant_of-self-2
invariant_of-self-2 c = record {
  filled = filled_inserted c.insert-2.result c.get_mut.follows.lender-at-none c.insert-2.new.self _ _ c.insert-2.ensures.updates
      c.insert-2.ensures.err (subst AreFilled (sym c.get_mut.follows.holds-at-none) c.args.self.now.filled)
      (ap (λ links. empty_in (Some (record { links = links; capacity = 0 })))
      (alone c.new-list.result.links c.insert.new.self.links c.args.place c.new-list.ensures c.in_ok-insert.ensures.ok));
}

pub returns-clause-ok : goal.returns-clause-ok
returns-clause-ok c =
    listed_more c.args.self.now.lists c.insert-2.new.self (topic_of c.args.topic) c.args.place (Some c.insert.new.self)
    (λ other. c.in_ok-insert-2.ensures.updates.0 other
    ∙ (λ i. cond (is_same (c.in_ok-topic.ensures i) other) (Some c.insert.new.self) (get is_same (c.get_mut.follows.holds-at-none i) other)))
    None c.in_default.ensures.value
    (one_alone c.insert.new.self c.args.place
    (alone c.new-list.result.links c.insert.new.self.links c.args.place c.new-list.ensures c.in_ok-insert.ensures.ok))
