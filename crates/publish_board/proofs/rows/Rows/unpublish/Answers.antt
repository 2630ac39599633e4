use Rattle.std.proofs.Common.{List, not, ap, rules}
use Rattle.std.proofs.lemmas.Fn.{filter_same}
use Rattle.publish_board.specs.declared.publication.Publication.{Publication}
use Rattle.publish_board.specs.Desk.{Desk}
use Rattle.publish_board.specs.Rows.{has_name}
use Rattle.publish_board.proofs.rows.Rows.unpublish.Goals as goal

pub returns : goal.returns
returns c =
    ap (λ (rows : List Publication). let desk : Desk = record { publications = rows; joins = c.args.self.now.joins.items } in desk)
    (filter_same _ (λ row. not (has_name c.args.name.now row)) _ (λ x b f' h. search rules) _ _ c.retain.ensures.filtered)
