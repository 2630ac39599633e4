use Rattle.std.proofs.Common.{◌∙◌, ◌-◌, ◌≡◌, ap, get_or, length, suc, subst, sym, arith}
use Rattle.publish_board.proofs.GoingLemmas.{IsUnderWay, begins, ends, passes, takes, there}
use Rattle.publish_board.proofs.board.Board.take_out.Goals as goal

pub joins-init : goal.joins-init
joins-init c = begins c.args.self.now c.args.place c.args.going.now c.requires _ (ap length c.joins-count.ensures)

pub joins-requires : goal.joins-requires
joins-requires c = there c.args.self.now c.args.place c.args.going.now c.requires c.joins.self c.joins.position c.joins.invariant

pub bounds-joins-position : goal.bounds-joins-position
bounds-joins-position c = omega (arith, ap length c.joins-in-joins.ensures, c.joins.invariant.within, c.joins-test.true)

pub remove_join-requires-clause-place : goal.remove_join-requires-clause-place
remove_join-requires-clause-place c = there c.args.self.now c.args.place c.args.going.now c.requires c.joins.self c.joins.position c.joins.invariant

pub remove_join-requires-clause-position : goal.remove_join-requires-clause-position
remove_join-requires-clause-position c = omega (arith, c.joins.invariant.within, c.joins-test.true)

pub joins-preserved-then-takes : goal.joins-preserved-then-takes
joins-preserved-then-takes c =
    let one : c.joins.position ≡ suc (c.joins.position - 1) = omega (arith, c.joins-test.true) in
    takes c.args.self.now c.args.place c.args.going.now c.requires c.joins.self (c.joins.position - 1)
    (subst (IsUnderWay c.args.self.now c.joins.self c.args.place c.args.going.now) one c.joins.invariant) c.index-joins-position.result
    (c.index-joins-position.is ∙ ap (λ joins. get_or joins (c.joins.position - 1) c.index-joins-position.result) c.joins-in-joins.ensures)
    (sym c.takes.ensures ∙ c.if-takes.true) c.remove_join.new.self c.remove_join.ensures

pub joins-preserved : goal.joins-preserved
joins-preserved c =
    let one : c.joins.position ≡ suc (c.joins.position - 1) = omega (arith, c.joins-test.true) in
    passes c.args.self.now c.args.place c.args.going.now c.requires c.joins.self (c.joins.position - 1)
    (subst (IsUnderWay c.args.self.now c.joins.self c.args.place c.args.going.now) one c.joins.invariant) c.index-joins-position.result
    (c.index-joins-position.is ∙ ap (λ joins. get_or joins (c.joins.position - 1) c.index-joins-position.result) c.joins-in-joins.ensures)
    (sym c.takes.ensures ∙ c.if-takes.false)

pub returns : goal.returns
returns c = ends c.args.self.now c.args.place c.args.going.now c.requires c.joins.self c.joins.position c.joins.invariant c.joins-test.false
