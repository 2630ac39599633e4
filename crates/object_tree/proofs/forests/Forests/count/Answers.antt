use Rattle.std.proofs.Common.{◌∙◌, sym, ap, length}
use Rattle.std.proofs.lemmas.List.{length-map}
use Rattle.shared_rows.specs.Rows.{Keyed, rows_at}
use Rattle.object_tree.specs.declared.row.Row.{Row}
use Rattle.object_tree.specs.Forest.{Forest}
use Rattle.object_tree.proofs.KeptLemmas.{in_rows, seen_anyhow}
use Rattle.object_tree.proofs.forests.Forests.count.Goals as goal

pub len-requires : goal.len-requires
len-requires c = in_rows c.self.invariant c.self.view_is c.args.place c.requires

pub returns : goal.returns
returns c = c.len.ensures.len ∙ (sym (length-map (rows_at c.self.inside.rows c.args.place) (λ (k : Keyed Row). k.row))
    ∙ ap (λ (forest : Forest). length forest.rows) (sym (seen_anyhow c.self.invariant c.self.view_is c.args.place c.requires)))
