use Rattle.std.proofs.Common.{sym, [], ◌∷◌}
use Rattle.class_table.proofs.ListLemmas.{entry_none, entry_value}
use Rattle.class_table.proofs.TableLemmas.{of_class-none}
use Rattle.class_table.proofs.table.ClassTable.class_row.Goals as goal

pub returns-in_err-row-clause-no_methods : goal.returns-in_err-row-clause-no_methods
returns-in_err-row-clause-no_methods c =
    let past = entry_none c.self.inside.classes.entries c.args.class c.in_err-row.ensures.entry in
    rw (c.from_residual.ensures, ← c.self.view_is) (of_class-none (λ index class. class.methods) _ _ past)

pub returns-in_err-row-clause-no_properties : goal.returns-in_err-row-clause-no_properties
returns-in_err-row-clause-no_properties c =
    let past = entry_none c.self.inside.classes.entries c.args.class c.in_err-row.ensures.entry in
    rw (c.from_residual.ensures, ← c.self.view_is) (of_class-none (λ index class. class.properties) _ _ past)

pub returns-in_err-row-clause-no_line : goal.returns-in_err-row-clause-no_line
returns-in_err-row-clause-no_line c =
    let past = entry_none c.self.inside.classes.entries c.args.class c.in_err-row.ensures.entry in
    rw (c.from_residual.ensures, ← c.self.view_is) (of_class-none (λ index class. index ∷ []) _ _ past)

pub returns-clause-value : goal.returns-clause-value
returns-clause-value c = rw (← c.self.view_is)
    (sym (entry_value c.self.inside.classes.entries c.args.class c.in_ok-row.field-0-0.now c.in_ok-row.row.now c.in_ok-row.ensures.entry))

pub returns-clause-has : goal.returns-clause-has
returns-clause-has c = rw (← c.self.view_is)
    (c.self.invariant.is_table.each c.args.class c.in_ok-row.row.now
    (entry_value c.self.inside.classes.entries c.args.class c.in_ok-row.field-0-0.now c.in_ok-row.row.now c.in_ok-row.ensures.entry))
