use Rattle.std.proofs.Common.{Some, ap, ◌∙◌}
use Rattle.metad_c.proofs.handle_of.Goals as goal

pub returns-clause-open : goal.returns-clause-open
returns-clause-open c = record {
  classes = c.in_ok-classes_from.field-0;
  kept = c.in_ok-kept.kept;
  are = c.in_ok-classes_from.ensures.classes;
  opened = c.in_ok-kept.ensures.opened;
  is = c.of.ensures ∙ ap Some c.in-Ok.ensures.ok;
}
