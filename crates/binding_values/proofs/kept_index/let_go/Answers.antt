use Rattle.std.proofs.Common.{sym, subst}
use Rattle.binding_values.specs.Keeping.{entries}
use Rattle.binding_values.specs.Reached.{HasReaders}
use Rattle.binding_values.proofs.ReachedLemmas.{readers_fewer, readers_without}
use Rattle.binding_values.proofs.kept_index.let_go.Goals as goal

pub returns-in-Some-clause-readers : goal.returns-in-Some-clause-readers
returns-in-Some-clause-readers c = subst (λ rows. HasReaders rows c.remove_all.new.self) (sym c.take.ensures.entries)
    (readers_fewer c.args.at (entries c.args.rows.now) c.args.readers.now c.remove_all.new.self c.remove_all.ensures
    (readers_without c.args.at (entries c.args.rows.now) c.args.readers.now c.requires))

pub returns-in_default-clause-readers : goal.returns-in_default-clause-readers
returns-in_default-clause-readers c = subst (λ rows. HasReaders rows c.args.readers.now) (sym c.take.ensures.entries)
    (readers_without c.args.at (entries c.args.rows.now) c.args.readers.now c.requires)
