use Rattle.std.proofs.Common.{◌≡◌, ◌∙◌, true, length, refl, ap, sym, arith, rules}
use Rattle.std.specs.Ordering.{is_lt}
use Rattle.std.proofs.lemmas.Option.{slice_get_past}
use Rattle.shared_rows.specs.Links.{first_from}
use Rattle.shared_rows.proofs.LinkLemmas.{first_above, seat_behind}
use Rattle.shared_rows.proofs.links.Links.first_from.Goals as goal

pub returns-in-Some-clause-first : goal.returns-in-Some-clause-first
returns-in-Some-clause-first g c =
    let links = c.self.inside.items.items in
    let low : is_lt (g.K.Ord.cmp c.in-Some.last c.args.link) ≡ true = search rules in
    let seat = seat_behind g.met.K.Ord.total links c.self.invariant.0 c.args.link (c.in-Some.ensures.variant.0 refl) c.in-Some.ensures.lookup low in
    sym (slice_get_past links (length links) (omega arith))
    ∙ (first_above g.met.K.Ord.total links c.self.invariant.0 c.args.link (length links) seat
    ∙ ap (λ list. first_from g.K.Ord.cmp list.links c.args.link) c.self.view_is)

pub returns-in_default-clause-first : goal.returns-in_default-clause-first
returns-in_default-clause-first g c = c.first_from_front.ensures ∙ ap (λ list. first_from g.K.Ord.cmp list.links c.args.link) c.self.view_is
