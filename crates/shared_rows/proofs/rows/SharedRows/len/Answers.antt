use Rattle.std.proofs.Common.{◌∙◌, sym}
use Rattle.shared_rows.proofs.KeptLemmas.{seen_by}
use Rattle.shared_rows.proofs.rows.SharedRows.len.Goals as goal

pub returns : goal.returns
returns g c =
    let seen = seen_by c.self.invariant c.self.view_is c.requires c.get.ensures in
    record { len = c.len.ensures ∙ sym seen.count; sound = seen.sound }
