use Rattle.std.proofs.Common.{◌∙◌, Option, Some, ap, nat_lt, subst, sym}
use Rattle.shared_rows.specs.Links.{Linked}
use Rattle.publish_board.specs.declared.listed.Listed.{Listed}
use Rattle.publish_board.specs.Joiners.{IsFirstOf}
use Rattle.publish_board.proofs.JoinersLemmas.{count_for}
use Rattle.publish_board.proofs.joiners.Joiners.next.Goals as goal

pub returns-clause-first : goal.returns-clause-first
returns-clause-first c =
    subst (λ (found : Option (Linked Listed)). IsFirstOf (λ place. nat_lt 0 (count_for place found)) c.args.least (Some c.in_ok-listed.listed.place))
    c.in_ok-list.ensures c.in_ok-listed.ensures.first

pub returns-clause-found : goal.returns-clause-found
returns-clause-found c = sym c.in_ok-listed.ensures.count ∙ ap (count_for c.in_ok-listed.listed.place) c.in_ok-list.ensures
