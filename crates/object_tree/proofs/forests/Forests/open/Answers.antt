use Rattle.std.proofs.Common.{◌∙◌, sym}
use Rattle.object_tree.proofs.KeptLemmas.{as_many, open_kept, open_seen}
use Rattle.object_tree.proofs.forests.Forests.open.Goals as goal

pub invariant_of-self : goal.invariant_of-self
invariant_of-self c = open_kept c.self.invariant c.self.view_is c.no_kinship.result c.open.ensures.opened c.open-2.ensures.opened c.no_kinship.ensures.number
    c.no_kinship.ensures.stamp c.no_kinship.ensures.children

pub returns : goal.returns
returns c = record {
  place = c.open-2.ensures.place ∙ sym (as_many c.self.invariant c.self.view_is);
  opened = open_seen c.self.invariant c.self.view_is c.no_kinship.result c.open.ensures.opened c.open-2.ensures.opened c.no_kinship.ensures.number
      c.no_kinship.ensures.stamp;
}
