use Rattle.std.proofs.Common.{length, ap, arith}
use Rattle.shared_rows.specs.Links.{Linked}
use Rattle.shared_rows.proofs.LinkedLemmas.{length-without}
use Rattle.shared_rows.proofs.links.Links.replace.Goals as goal

pub insert_reserved-requires : goal.insert_reserved-requires
insert_reserved-requires g c =
    let old = c.self.view_is in
    let new = c.remove.ensures in
    omega (
      arith,
      length-without g.met.K.Ord.total c.args.self.now.links c.args.old c.requires,
      ap (λ (l : Linked g.row.K.Denot). length l.links) old,
      ap (λ (l : Linked g.row.K.Denot). l.capacity) old,
      ap (λ (l : Linked g.row.K.Denot). length l.links) new,
      ap (λ (l : Linked g.row.K.Denot). l.capacity) new,
    )
