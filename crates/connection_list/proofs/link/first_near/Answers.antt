use Rattle.std.proofs.Common.{◌∙◌, Some, get_or, length, ap, sym, arith}
use Rattle.std.proofs.lemmas.Option.{slice_get-get_or, slice_get_past}
use Rattle.shared_rows.proofs.ForCallers.{first_at}
use Rattle.connection_list.proofs.LinkLemmas.{link_total}
use Rattle.connection_list.proofs.link.first_near.Goals as goal

pub returns-then-at-len-clause-first : goal.returns-then-at-len-clause-first
returns-then-at-len-clause-first c =
    sym (slice_get_past c.args.links.now.links c.count_below-at.result
    (omega (arith, ap length c.as_buffer-all.ensures.links)))
    ∙ first_at link_total c.args.links.now.links c.as_buffer-all.ensures.sound c.args.link c.count_below-at.result c.count_below-at.ensures

pub returns-clause-first : goal.returns-clause-first
returns-clause-first c =
    ap Some (c.get.ensures c.get.result ∙ ap (λ list. get_or list c.count_below-at.result c.get.result) c.as_buffer-all.ensures.links)
    ∙ (sym (slice_get-get_or c.args.links.now.links c.count_below-at.result c.get.result
    (omega (arith, ap length c.as_buffer-all.ensures.links)))
    ∙ first_at link_total c.args.links.now.links c.as_buffer-all.ensures.sound c.args.link c.count_below-at.result c.count_below-at.ensures)
