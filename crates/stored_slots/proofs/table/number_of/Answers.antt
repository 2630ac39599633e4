use Rattle.std.proofs.Common.{rules, tests}
use Rattle.std.specs.Prelude.{bytes_eq}
use Rattle.std.proofs.lemmas.Iterator.{YieldsList-from_slice}
use Rattle.std.proofs.lemmas.Iterator.Search.{position_from_yields_List}
use Rattle.stored_slots.proofs.table.number_of.Goals as goal

pub returns-clause-number : goal.returns-clause-number
returns-clause-number g c = position_from_yields_List (λ one. bytes_eq c.args.name.now one.functor.name) _ _ c.position.result c.position.ensures.ran
    (YieldsList-from_slice _ c.iter.ensures.rest) (λ x b q k. search (rules, tests))
