use Rattle.std.proofs.Common.{◌∙◌, sym, rules}
use Rattle.property_store.specs.declared.link.Head.TheVariants.{None}
use Rattle.property_store.proofs.TakenLemmas.{all_left, all_taken, first_stands, none_taken, one_left, one_taken}
use Rattle.property_store.proofs.stores.Stores.take_written.Goals as goal

pub returns-in-None-clause-taken : goal.returns-in-None-clause-taken
returns-in-None-clause-taken c = search (rules, none_taken)

pub invariant_of-self : goal.invariant_of-self
invariant_of-self c = search (rules, all_left)

pub returns-in-All-clause-taken : goal.returns-in-All-clause-taken
returns-in-All-clause-taken c = all_taken c.self.invariant c.self.view_is c.args.place c.requires (sym (c.get.ensures None) ∙ c.in-All.is)

pub returns-in-All-clause-others : goal.returns-in-All-clause-others
returns-in-All-clause-others c = search (rules, all_left)

pub unlink-link-requires-clause-stands : goal.unlink-link-requires-clause-stands
unlink-link-requires-clause-stands c = search (rules, first_stands)

pub invariant_of-self-in-First : goal.invariant_of-self-in-First
invariant_of-self-in-First c = rw c.head_behind.ensures
    (one_left c.self.invariant c.self.view_is c.args.place c.requires c.in-First.at
    (sym (c.get.ensures None) ∙ c.in-First.is) c.unlink-link.result c.unlink-link.ensures.link c.unlink-link.new.rows c.unlink-link.ensures.rest).kept

pub returns-in-First : goal.returns-in-First
returns-in-First c =
    let is = sym (c.get.ensures None) ∙ c.in-First.is in
    let left = one_left c.self.invariant c.self.view_is c.args.place c.requires c.in-First.at is c.unlink-link.result c.unlink-link.ensures.link
    c.unlink-link.new.rows c.unlink-link.ensures.rest in
    record {
      shelves = left.shelves;
      taken = rw c.head_behind.ensures (one_taken c.self.invariant c.self.view_is c.args.place c.requires c.in-First.at is c.unlink-link.result
          c.unlink-link.ensures.link c.unlink-link.new.rows c.unlink-link.ensures.rest);
      others = rw c.head_behind.ensures left.others;
    }
