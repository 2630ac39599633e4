use Rattle.std.proofs.Common.{◌∙◌}
use Rattle.session_tables.specs.Bound.{seen_of}
use Rattle.session_tables.specs.Tables.{state_at}
use Rattle.session_tables.proofs.PropertyLemmas.{declared_pair}
use Rattle.session_tables.proofs.TablesLemmas.{of_columns}
use Rattle.session_tables.proofs.tables.Tables.declared.Goals as goal

pub returns : goal.returns
returns c = rw (← c.self.view_is) (c.declared.ensures ∙ declared_pair
    (state_at (of_columns c.self.inside.0.0 (seen_of c.self.inside.0.1.0.stores.shelves c.self.inside.0.1.0.bindings) c.self.inside.0.1.1.0
    c.self.inside.0.1.1.1.0 c.self.inside.0.1.1.1.1.0 c.self.inside.0.1.1.1.1.1.0) c.args.place) c.args.object c.args.name.now)
