use Rattle.std.proofs.Common.{◌∙◌, sym, subst}
use Rattle.publish_board.specs.Joiners.{AreListed}
use Rattle.publish_board.proofs.ListedLemmas.{all_stay, none_leaves}
use Rattle.publish_board.proofs.board.Board.leave.Goals as goal

pub returns-then-not-has-clause-stood : goal.returns-then-not-has-clause-stood
returns-then-not-has-clause-stood c =
    sym (none_leaves c.args.from.now c.args.name.now c.args.object c.args.method c.self.inside.joiners c.args.self.now
    (subst (AreListed c.self.inside.joiners) c.self.view_is c.self.invariant) c.args.place (sym c.has.ensures ∙ c.if-not-has.true))

pub returns-then-not-has-clause-rows : goal.returns-then-not-has-clause-rows
returns-then-not-has-clause-rows c =
    all_stay c.args.from.now c.args.name.now c.args.object c.args.method c.self.inside.joiners c.args.self.now
    (subst (AreListed c.self.inside.joiners) c.self.view_is c.self.invariant) c.args.place (sym c.has.ensures ∙ c.if-not-has.true)
