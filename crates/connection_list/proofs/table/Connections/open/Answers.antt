use Rattle.std.proofs.Common.{◌∙◌}
use Rattle.connection_list.proofs.SeenLemmas.{kept_opened, opened_count, view_opened}
use Rattle.connection_list.proofs.table.Connections.open.Goals as goal

pub invariant_of-self : goal.invariant_of-self
invariant_of-self c = rw (c.open.ensures.opened, c.open-2.ensures.opened)
    (kept_opened c.self.inside.rows c.self.inside.routes c.self.invariant c.self.view_is c.new.ensures.number c.new.ensures.routed)

pub returns : goal.returns
returns c = record {
  place = c.open-2.ensures.place ∙ opened_count c.self.inside.rows c.self.inside.routes c.self.invariant c.self.view_is c.new.ensures.number
      c.new.ensures.routed;
  opened = rw (c.open.ensures.opened, c.open-2.ensures.opened)
      (view_opened c.self.inside.rows c.self.inside.routes c.self.invariant c.self.view_is c.new.ensures.number c.new.ensures.routed);
}
