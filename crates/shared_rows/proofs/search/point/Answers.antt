use Rattle.std.proofs.Common.{◌≡◌, ◌+◌, ◌-◌, ◌/◌, true, false, of_calls, refl, sym, arith}
use Rattle.std.proofs.lemmas.Fn.{called}
use Rattle.shared_rows.specs.Gap.{listed}
use Rattle.shared_rows.proofs.SearchLemmas.{after_passing, answers_next, at_failing, at_read, failed, passed}
use Rattle.shared_rows.proofs.search.point.Goals as goal

pub halves-preserved-then-pred : goal.halves-preserved-then-pred
halves-preserved-then-pred g c =
    let xs = listed c.args.places.now.items c.args.gap in
    let base = c.halves.base in
    let size = c.halves.size in
    let middle = base + size / 2 in
    let call = called g.P.FnMut c.if-pred.ensures refl in
    record {
      some = omega arith;
      within = omega arith;
      callable = search of_calls;
      halved = λ p h.
          let before = c.halves.invariant.halved p h in
          let next = answers_next g.P.FnMut _ _ _ _ _ call before.0 in (
            next.1,
            passed p xs base size middle (size - size / 2) (omega arith) before.1
                (at_read xs (λ y. p y ≡ true) middle c.read.result.now (omega arith) c.read.ensures (sym next.0)),
          );
    }

pub halves-preserved : goal.halves-preserved
halves-preserved g c =
    let xs = listed c.args.places.now.items c.args.gap in
    let base = c.halves.base in
    let size = c.halves.size in
    let middle = base + size / 2 in
    let call = called g.P.FnMut c.if-pred.ensures refl in
    record {
      some = omega arith;
      within = omega arith;
      callable = search of_calls;
      halved = λ p h.
          let before = c.halves.invariant.halved p h in
          let next = answers_next g.P.FnMut _ _ _ _ _ call before.0 in (
            next.1,
            failed p xs base size middle (size - size / 2) (omega arith) before.1
                (at_read xs (λ y. p y ≡ false) middle c.read.result.now (omega arith) c.read.ensures (sym next.0)),
          );
    }

pub returns-then-pred-2-clause-partitioned : goal.returns-then-pred-2-clause-partitioned
returns-then-pred-2-clause-partitioned g c =
    let xs = listed c.args.places.now.items c.args.gap in
    let base = c.halves.base in
    let size = c.halves.size in
    let call = called g.P.FnMut c.if-pred-2.ensures refl in
    λ p h.
    let before = c.halves.invariant.halved p h in
    let next = answers_next g.P.FnMut _ _ _ _ _ call before.0 in
    after_passing p xs base size (omega arith) (omega arith) before.1
    (at_read xs (λ y. p y ≡ true) base c.read-2.result.now (omega arith) c.read-2.ensures (sym next.0))

pub returns-clause-partitioned : goal.returns-clause-partitioned
returns-clause-partitioned g c =
    let xs = listed c.args.places.now.items c.args.gap in
    let base = c.halves.base in
    let size = c.halves.size in
    let call = called g.P.FnMut c.if-pred-2.ensures refl in
    λ p h.
    let before = c.halves.invariant.halved p h in
    let next = answers_next g.P.FnMut _ _ _ _ _ call before.0 in
    at_failing p xs base size before.1 (at_read xs (λ y. p y ≡ false) base c.read-2.result.now (omega arith) c.read-2.ensures (sym next.0))
