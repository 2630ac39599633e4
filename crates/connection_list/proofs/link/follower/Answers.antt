use Rattle.std.proofs.Common.{◌≡◌, ◌∙◌, ◌+◌, ◌-◌, ◌<◌, Some, length, get_or, ap, sym, arith}
use Rattle.std.proofs.lemmas.Option.{slice_get-get_or}
use Rattle.std.specs.Ordering.{is_lt}
use Rattle.std.specs.declared.cmp.Ordering.TheVariants.{Less}
use Rattle.shared_rows.specs.Links.{IsInOrder}
use Rattle.shared_rows.proofs.ForCallers.{below_parted, first_at, parted_at}
use Rattle.connection_list.specs.declared.link.Link.{Link}
use Rattle.connection_list.specs.Routes.{link_cmp}
use Rattle.connection_list.proofs.LinkLemmas.{below_next, from, link_total, not_below_other}
use Rattle.connection_list.proofs.link.follower.Goals as goal

pub returns-clause-first : goal.returns-clause-first
returns-clause-first c =
    let items = c.as_buffer-all.result.now.items in
    let order : IsInOrder link_cmp items = rw c.as_buffer-all.ensures.links c.as_buffer-all.ensures.sound in
    let start = from c.args.object c.args.signal (c.args.after + 1) in
    let before = c.get-before.result in
    let there = c.get-there.result in
    let within : c.args.at < length items = omega arith in
    let parted = parted_at (λ other. is_lt (link_cmp other start)) items (below_parted link_total items order start) c.args.at (omega arith)
    (λ some d.
    let less : link_cmp before there ≡ Less = ap (λ l. link_cmp l there) (c.get-before.ensures d)
    ∙ (ap (λ l. link_cmp (get_or items (c.args.at - 1) d) l) (c.get-there.ensures d)
    ∙ order (c.args.at - 1) c.args.at d (omega arith) within) in
    ap (λ (l : Link). is_lt (link_cmp l start)) (sym (c.get-before.ensures d))
    ∙ below_next before there start less c.if-there-object.false c.if-there-signal.false (omega arith))
    (λ inside d. ap (λ (l : Link). is_lt (link_cmp l start)) (sym (c.get-there.ensures d))
    ∙ not_below_other there start c.if-there-object.false c.if-there-signal.false (omega arith) (omega arith)) in
    rw (← c.as_buffer-all.ensures.links) (sym (first_at link_total items order start c.args.at parted)
    ∙ (slice_get-get_or items c.args.at there within ∙ ap Some (sym (c.get-there.ensures there))))
