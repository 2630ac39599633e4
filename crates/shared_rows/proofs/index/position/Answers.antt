use Rattle.std.proofs.Common.{◌-◌, ◌<◌, length, arith, refl}
use Rattle.shared_rows.proofs.PositionLemmas.{all_left, least_below, none_before}
use Rattle.shared_rows.proofs.index.position.Goals as goal

pub returns-then-number-first-clause-absent : goal.returns-then-number-first-clause-absent
returns-then-number-first-clause-absent g c =
    let low : c.args.number < g.N.Number.value c.in_ok-first.field-0.number = omega arith in
    none_before g.N.Number.value c.args.entries.now.items c.requires c.args.number c.in_ok-first.field-0 c.in_ok-first.ensures.lookup low

pub look-requires : goal.look-requires
look-requires g c =
    let some : 0 < length c.args.entries.now.items = c.in_ok-first.ensures.variant.0 refl in
    let inside = least_below c.min-guess.result (c.args.number - c.value-first.result) c.len-high.result c.min-guess.ensures (omega arith) in
    record {
      rising = c.requires;
      window = all_left g.N.Number.value c.args.entries.now.items c.requires c.args.number c.len-high.result c.min-guess.result (omega arith) inside;
      within = (omega arith, inside);
    }
