use Rattle.std.proofs.Common.{◌∙◌, not, ap, sym, subst}
use Rattle.binding_values.specs.declared.kept_rows.KeptRow.{KeptRow}
use Rattle.property_store.specs.Property.{is_property}
use Rattle.binding_values.specs.Keeping.{entries, fresh, standing}
use Rattle.binding_values.specs.Reached.{HasReaders, without}
use Rattle.binding_values.proofs.KeepingLemmas.{held_filter}
use Rattle.binding_values.proofs.ReachedLemmas.{readers_without, without_twice}
use Rattle.binding_values.proofs.kept_index.KeptIndex.forget.Goals as goal

pub invariant_of-self : goal.invariant_of-self
invariant_of-self c = subst (λ rows. HasReaders rows c.let_go.new.readers)
    (sym (ap entries c.remove.ensures ∙ held_filter (λ (row : KeptRow). row.kept) (λ q. not (is_property c.args.at q)) c.let_go.new.rows))
    (readers_without c.args.at (entries c.let_go.new.rows) c.let_go.new.readers c.let_go.ensures.readers)

pub returns : goal.returns
returns c = ap standing c.remove.ensures ∙ (held_filter fresh (λ q. not (is_property c.args.at q)) c.let_go.new.rows
    ∙ (ap (without c.args.at) c.let_go.ensures.standing
    ∙ (without_twice c.args.at (standing c.self.inside.rows) ∙ ap (without c.args.at) c.self.view_is)))
