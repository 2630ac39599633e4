use Rattle.std.proofs.Common.{◌∙◌, Some, ap, sym, arith}
use Rattle.std.proofs.lemmas.Option.{slice_get-get_or}
use Rattle.shared_rows.proofs.links.link_at.Goals as goal

pub returns-then-at-len : goal.returns-then-at-len
returns-then-at-len g c = ap Some (c.get.ensures c.get.result)
    ∙ sym (slice_get-get_or c.args.links.now.items c.args.at c.get.result (omega arith))
