use Rattle.std.proofs.Common.{arith, rules}
use Rattle.shared_rows.proofs.GapLemmas.{length-without, place_read, place_within}
use Rattle.shared_rows.proofs.gap.read.Goals as goal

pub position-requires : goal.position-requires
position-requires g c = omega (arith, length-without)

pub index-requires : goal.index-requires
index-requires g c =
    omega (
      arith,
      place_within c.args.places.now.items c.args.gap.start c.args.gap.gone c.args.at c.position.result c.requires.gap.0 c.requires.within c.position.ensures,
    )

pub returns : goal.returns
returns g c = search (rules, place_read)
