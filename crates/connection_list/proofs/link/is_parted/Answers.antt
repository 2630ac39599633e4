use Rattle.std.proofs.Common.{◌∙◌, not, ap, sym, arith}
use Rattle.std.proofs.Math.Bool.{not-not}
use Rattle.std.specs.Ordering.{is_lt}
use Rattle.shared_rows.specs.Links.{IsInOrder}
use Rattle.connection_list.specs.Routes.{link_cmp}
use Rattle.shared_rows.proofs.ForCallers.{below_parted, parted_at}
use Rattle.connection_list.proofs.LinkLemmas.{link_total}
use Rattle.connection_list.proofs.link.is_parted.Goals as goal
use Rattle.connection_list.proofs.link.is_parted.Goals.{else-at-gt0-via-then-at-gt0+else-not-is_lt, else-at-gt0-via-else-at-gt0}

pub returns-then-at-len-2 : goal.returns-then-at-len-2
returns-then-at-len-2 c = λ parted.
    let items = c.as_buffer-all.result.now.items in
    let order : IsInOrder link_cmp items = rw c.as_buffer-all.ensures.links c.as_buffer-all.ensures.sound in
    rw (← c.as_buffer-all.ensures.links) (parted_at (λ other. is_lt (link_cmp other c.args.link)) items (below_parted link_total items order c.args.link)
    c.args.at (omega arith)
    (λ some d. elim c.else-at-gt0.branch [
      | else-at-gt0-via-then-at-gt0+else-not-is_lt w ↦ ap is_lt (ap (λ l. link_cmp l c.args.link) (sym (w.get.ensures d)) ∙ sym w.cmp.ensures)
          ∙ (sym w.is_lt.ensures ∙ w.if-not-is_lt.false)
      | else-at-gt0-via-else-at-gt0 w ↦ absurd (omega arith)
    ])
    (λ within d. absurd (omega arith)))

pub returns-else-at-len-2 : goal.returns-else-at-len-2
returns-else-at-len-2 c = λ parted.
    let items = c.as_buffer-all.result.now.items in
    let order : IsInOrder link_cmp items = rw c.as_buffer-all.ensures.links c.as_buffer-all.ensures.sound in
    rw (← c.as_buffer-all.ensures.links) (parted_at (λ other. is_lt (link_cmp other c.args.link)) items (below_parted link_total items order c.args.link)
    c.args.at (omega arith)
    (λ some d. elim c.else-at-gt0.branch [
      | else-at-gt0-via-then-at-gt0+else-not-is_lt w ↦ ap is_lt (ap (λ l. link_cmp l c.args.link) (sym (w.get.ensures d)) ∙ sym w.cmp.ensures)
          ∙ (sym w.is_lt.ensures ∙ w.if-not-is_lt.false)
      | else-at-gt0-via-else-at-gt0 w ↦ absurd (omega arith)
    ])
    (λ within d. ap is_lt (ap (λ l. link_cmp l c.args.link) (sym (c.get-else-at-len-2.ensures d)) ∙ sym c.cmp-else-at-len-2.ensures)
    ∙ (sym c.is_lt-else-at-len-2.ensures ∙ (sym (not-not c.is_lt-else-at-len-2.result) ∙ ap not parted))))
