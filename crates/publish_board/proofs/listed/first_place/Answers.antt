use Rattle.std.proofs.Common.{◌≡◌, ◌∙◌, ◌+◌, List, None, Some, ap, nat_lt, subst, sym, arith}
use Rattle.std.specs.Option.{option_map}
use Rattle.std.proofs.lemmas.Option.{slice_get-get_or, slice_get_past}
use Rattle.shared_rows.specs.Links.{IsInOrder}
use Rattle.publish_board.specs.declared.listed.Listed.{Listed}
use Rattle.publish_board.specs.Joiners.{IsFirstOf}
use Rattle.publish_board.specs.Listed.{count_in, listed_cmp}
use Rattle.publish_board.proofs.PlaceLemmas.{counted_at, first_seated}
use Rattle.publish_board.proofs.listed.first_place.Goals as goal

pub returns-then-at-len-clause-first : goal.returns-then-at-len-clause-first
returns-then-at-len-clause-first c =
    let items = c.as_buffer-links.result.now.items in
    let order : IsInOrder listed_cmp items = subst (IsInOrder listed_cmp) (sym c.as_buffer-links.ensures.links) c.as_buffer-links.ensures.sound in
    subst (λ (links : List Listed). IsFirstOf (λ place. nat_lt 0 (count_in links place)) c.args.least None) c.as_buffer-links.ensures.links
    (subst (λ found. IsFirstOf (λ place. nat_lt 0 (count_in items place)) c.args.least (option_map (λ (listed : Listed). listed.place) found))
    (slice_get_past items c.seat_from-at.result (omega (arith, c.if-at-len.true, c.len.ensures)))
    (first_seated items order c.args.least c.seat_from-at.result c.seat_from-at.ensures))

pub returns-clause-first : goal.returns-clause-first
returns-clause-first c =
    let items = c.as_buffer-links.result.now.items in
    let order : IsInOrder listed_cmp items = subst (IsInOrder listed_cmp) (sym c.as_buffer-links.ensures.links) c.as_buffer-links.ensures.sound in
    subst (λ (links : List Listed). IsFirstOf (λ place. nat_lt 0 (count_in links place)) c.args.least (Some c.get.result.place)) c.as_buffer-links.ensures.links
    (subst (λ found. IsFirstOf (λ place. nat_lt 0 (count_in items place)) c.args.least (option_map (λ (listed : Listed). listed.place) found))
    (slice_get-get_or items c.seat_from-at.result c.get.result (omega (arith, c.if-at-len.false, c.len.ensures, c.seat_from-at.ensures.0))
    ∙ ap Some (sym (c.get.ensures c.get.result)))
    (first_seated items order c.args.least c.seat_from-at.result c.seat_from-at.ensures))

pub returns-clause-count : goal.returns-clause-count
returns-clause-count c =
    let items = c.as_buffer-links.result.now.items in
    let order : IsInOrder listed_cmp items = subst (IsInOrder listed_cmp) (sym c.as_buffer-links.ensures.links) c.as_buffer-links.ensures.sound in
    subst (λ (links : List Listed). count_in links c.get.result.place ≡ c.get.result.further + 1) c.as_buffer-links.ensures.links
    (counted_at items order c.seat_from-at.result c.get.result (omega (arith, c.if-at-len.false, c.len.ensures, c.seat_from-at.ensures.0))
    (c.get.ensures c.get.result))
