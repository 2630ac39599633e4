use Rattle.binding_values.proofs.SortedLemmas.{gap_there, row_there}
use Rattle.binding_values.proofs.sorted.find_place.Goals as goal

pub returns-then-is_at-clause-row : goal.returns-then-is_at-clause-row
returns-then-is_at-clause-row g c = row_there g.T.HasProperty.at c.args.rows.now c.guess-guess.result c.args.at c.is_at.result c.is_at.ensures
    c.if-is_at.true

pub returns-then-is_at-2-clause-row : goal.returns-then-is_at-2-clause-row
returns-then-is_at-2-clause-row g c = row_there g.T.HasProperty.at c.args.rows.now c.search-place.result c.args.at c.is_at-2.result c.is_at-2.ensures
    c.if-is_at-2.true

pub returns-clause-gap : goal.returns-clause-gap
returns-clause-gap g c = gap_there g.T.HasProperty.at c.args.rows.now c.search-place.result c.args.at c.is_at-2.result c.is_at-2.ensures
    c.requires c.search-place.ensures c.if-is_at-2.false
