use Rattle.std.proofs.Common.{arith, rules}
use Rattle.shared_rows.proofs.GapLemmas.{length-without, place_set, place_within}
use Rattle.shared_rows.proofs.gap.write.Goals as goal

pub position-requires : goal.position-requires
position-requires g c = omega (arith, length-without)

pub index_mut-requires : goal.index_mut-requires
index_mut-requires g c =
    omega (
      arith,
      place_within c.args.places.now.items c.args.gap.start c.args.gap.gone c.args.at c.position.result c.requires.gap.0 c.requires.within c.position.ensures,
    )

pub returns-clause-items : goal.returns-clause-items
returns-clause-items g c = search (rules, place_set)
