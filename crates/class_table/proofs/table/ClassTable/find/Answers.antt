use Rattle.std.proofs.Common.{◌∙◌}
use Rattle.indexmap.specs.IndexMap.{keys, values}
use Rattle.class_table.proofs.EntryLemmas.{by_keys}
use Rattle.class_table.proofs.table.ClassTable.find.Goals as goal

pub returns-in_err-index : goal.returns-in_err-index
returns-in_err-index c = rw (c.from_residual.ensures, ← c.self.view_is)
    (c.in_err-index.ensures.index ∙ by_keys c.args.name.now (keys c.self.inside.classes) (values c.self.inside.classes) c.self.invariant.by_name)

pub returns : goal.returns
returns c = rw (← c.self.view_is) (c.in_ok-index.ensures.index
    ∙ by_keys c.args.name.now (keys c.self.inside.classes) (values c.self.inside.classes) c.self.invariant.by_name)
