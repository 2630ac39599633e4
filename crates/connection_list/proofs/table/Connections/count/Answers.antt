use Rattle.std.proofs.Common.{◌∙◌, sym}
use Rattle.connection_list.proofs.SeenLemmas.{seen_anyhow, shown_count}
use Rattle.connection_list.proofs.table.Connections.count.Goals as goal

pub len-requires : goal.len-requires
len-requires c = (seen_anyhow c.self.invariant c.self.view_is c.requires).rows_place

pub returns : goal.returns
returns c =
    let at = seen_anyhow c.self.invariant c.self.view_is c.requires in
    record { count = c.len.ensures.len ∙ sym (shown_count at); sound = at.sound }
