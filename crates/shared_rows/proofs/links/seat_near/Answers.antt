use Rattle.std.proofs.Common.{◌∙◌, sym, ap, arith}
use Rattle.shared_rows.proofs.LinkLemmas.{less_from, seat_amid, seat_found}
use Rattle.shared_rows.proofs.links.seat_near.Goals as goal

pub returns-in-Equal : goal.returns-in-Equal
returns-in-Equal g c =
    seat_found g.met.K.Ord.total _ c.requires _ c.last_change-at.result (omega arith)
    (λ d. ap (λ other. g.K.Ord.cmp other c.args.link) (sym (c.get.ensures d)) ∙ sym c.in-Equal.ensures)

pub returns-in-Greater : goal.returns-in-Greater
returns-in-Greater g c =
    seat_amid g.met.K.Ord.total _ c.requires _ c.last_change-at.result (omega arith)
    (λ d. ap (λ other. g.K.Ord.cmp other c.args.link) (sym (c.get-then-at-gt0.ensures d))
    ∙ (sym c.cmp-then-at-gt0.ensures ∙ less_from c.cmp-then-at-gt0.result (sym c.if-is_lt.ensures)))
    (λ d. ap (λ other. g.K.Ord.cmp other c.args.link) (sym (c.get.ensures d)) ∙ sym c.in-Greater.ensures)
