use Rattle.std.proofs.Common.{◌∙◌, Ok, Err, refl, sym, ap}
use Rattle.shared_rows.specs.Links.{IsSeat, without_link}
use Rattle.shared_rows.proofs.LinkLemmas.{memory_kept, order_kept, relinked, remove_link, without_absent}
use Rattle.shared_rows.proofs.KeptLemmas.{some_entry}
use Rattle.shared_rows.proofs.links.Links.remove.Goals as goal

pub returns-in-Ok : goal.returns-in-Ok
returns-in-Ok g c =
    let seat : IsSeat g.K.Ord.cmp c.self.inside.items.items c.args.link (Ok c.in-Ok.at) = c.in-Ok.ensures in
    relinked (λ links. without_link g.K.Ord.cmp links c.args.link) c.self.view_is
    (ap (λ buffer. buffer.items) c.remove.ensures.others ∙ remove_link g.met.K.Ord.total _ c.self.invariant.0 _ c.in-Ok.at
    (some_entry c.self.inside.items.items c.in-Ok.at seat.0) seat) refl

pub returns-in_default : goal.returns-in_default
returns-in_default g c =
    let seat : IsSeat g.K.Ord.cmp c.self.inside.items.items c.args.link (Err c.in_default.field-0) = c.in_default.ensures in
    sym c.self.view_is ∙ relinked (λ links. without_link g.K.Ord.cmp links c.args.link) c.self.view_is
    (without_absent g.met.K.Ord.total _ c.self.invariant.0 _ c.in_default.field-0 seat) refl

pub invariant_of-self : goal.invariant_of-self
invariant_of-self g c =
    let seat : IsSeat g.K.Ord.cmp c.self.inside.items.items c.args.link (Ok c.in-Ok.at) = c.in-Ok.ensures in
    let items = ap (λ buffer. buffer.items) c.remove.ensures.others in (
      order_kept g.K.Ord.cmp _ c.in-Ok.at seat.0 c.self.invariant.0 _ items,
      memory_kept c.self.inside.capacity _ c.in-Ok.at seat.0 c.self.invariant.1 _ c.remove.ensures.others,
    )
