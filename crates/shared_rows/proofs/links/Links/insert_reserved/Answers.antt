use Rattle.std.proofs.Common.{◌∙◌, ◌≡◌, Err, length, refl, ap, sym, subst, arith}
use Rattle.std.specs.List.{insert}
use Rattle.std.proofs.lemmas.List.{length-set}
use Rattle.std.proofs.lemmas.List.Edits.{length-insert}
use Rattle.shared_rows.specs.Links.{IsInOrder, IsSeat, Linked, with_link}
use Rattle.shared_rows.proofs.LinkLemmas.{insert_link, relinked, set_link, with_order}
use Rattle.shared_rows.proofs.links.Links.insert_reserved.Goals as goal

pub returns-in-Ok : goal.returns-in-Ok
returns-in-Ok g c =
    relinked (λ links. with_link g.K.Ord.cmp links c.args.link) c.self.view_is
    (ap (λ buffer. buffer.items) c.set.ensures ∙ set_link g.met.K.Ord.total _ c.self.invariant.0 _ c.in-Ok.at c.in-Ok.ensures) refl

pub returns-in-Err : goal.returns-in-Err
returns-in-Err g c =
    relinked (λ links. with_link g.K.Ord.cmp links c.args.link) c.self.view_is
    (ap (λ buffer. buffer.items) c.insert_reserved.ensures ∙ insert_link g.met.K.Ord.total _ c.self.invariant.0 _ c.in-Err.at c.in-Err.ensures) refl

pub invariant_of-self : goal.invariant_of-self
invariant_of-self g c =
    let ordered = with_order g.met.K.Ord.total _ c.self.invariant.0 c.args.link in
    rw c.set.ensures (
      subst (IsInOrder g.K.Ord.cmp) (sym (set_link g.met.K.Ord.total _ c.self.invariant.0 c.args.link c.in-Ok.at c.in-Ok.ensures)) ordered,
      (omega (arith, length-set c.self.inside.items.items c.in-Ok.at c.args.link), c.self.invariant.1.1),
    )

pub invariant_of-self-in-Err : goal.invariant_of-self-in-Err
invariant_of-self-in-Err g c =
    let seat : IsSeat g.K.Ord.cmp c.self.inside.items.items c.args.link (Err c.in-Err.at) = c.in-Err.ensures in
    let items : c.insert_reserved.new.self.items ≡ insert c.self.inside.items.items c.in-Err.at c.args.link =
    ap (λ buffer. buffer.items) c.insert_reserved.ensures in
    let ordered = with_order g.met.K.Ord.total _ c.self.invariant.0 c.args.link in (
      subst (IsInOrder g.K.Ord.cmp) (sym (items ∙ insert_link g.met.K.Ord.total _ c.self.invariant.0 c.args.link c.in-Err.at seat)) ordered,
      (
        omega (
          arith,
          length-insert c.self.inside.items.items c.in-Err.at c.args.link seat.0,
          ap (λ (l : Linked g.row.K.Denot). length l.links) c.self.view_is,
          ap (λ (l : Linked g.row.K.Denot). l.capacity) c.self.view_is,
          ap length items,
        ),
        omega (arith, ap (λ buffer. buffer.capacity) c.insert_reserved.ensures),
      ),
    )
