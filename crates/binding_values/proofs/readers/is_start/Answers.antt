use Rattle.std.proofs.Common.{◌≡◌, ◌∙◌, Bool, true, false, not, refl, ap, sym, arith}
use Rattle.shared_rows.specs.Links.{IsInOrder}
use Rattle.binding_values.specs.Readers.{edge_cmp, is_ahead}
use Rattle.binding_values.proofs.ReaderLemmas.{start_at}
use Rattle.binding_values.proofs.readers.is_start.Goals as goal
use Rattle.binding_values.proofs.readers.is_start.Goals.{else-at-gt0-via-then-at-gt0+else-not-is_ahead, else-at-gt0-via-else-at-gt0}

pub returns-then-at-len-2 : goal.returns-then-at-len-2
returns-then-at-len-2 c = λ parted.
    let items = c.as_buffer-all.result.now.items in
    let order : IsInOrder edge_cmp items = rw c.as_buffer-all.ensures.links c.as_buffer-all.ensures.sound in
    rw (← c.as_buffer-all.ensures.links) (start_at items order c.args.read c.args.at (omega (arith, c.if-at-len.false, c.len-len.ensures))
    (λ some d. elim c.else-at-gt0.branch [
      | else-at-gt0-via-then-at-gt0+else-not-is_ahead w ↦ ap (is_ahead c.args.read) (sym (w.get.ensures d)) ∙ (sym w.is_ahead.ensures ∙ w.if-not-is_ahead.false)
      | else-at-gt0-via-else-at-gt0 w ↦ absurd (omega (arith, some, w.if-at-gt0.false))
    ])
    (λ within d. absurd (omega (arith, within, c.len-len.ensures, c.if-at-len-2.true))))

unless : (b : Bool) → not b ≡ true → b ≡ false
unless true fails = absurd (cc)
unless false fails = refl

pub returns-else-at-len-2 : goal.returns-else-at-len-2
returns-else-at-len-2 c = λ parted.
    let items = c.as_buffer-all.result.now.items in
    let order : IsInOrder edge_cmp items = rw c.as_buffer-all.ensures.links c.as_buffer-all.ensures.sound in
    rw (← c.as_buffer-all.ensures.links) (start_at items order c.args.read c.args.at (omega (arith, c.if-at-len.false, c.len-len.ensures))
    (λ some d. elim c.else-at-gt0.branch [
      | else-at-gt0-via-then-at-gt0+else-not-is_ahead w ↦ ap (is_ahead c.args.read) (sym (w.get.ensures d)) ∙ (sym w.is_ahead.ensures ∙ w.if-not-is_ahead.false)
      | else-at-gt0-via-else-at-gt0 w ↦ absurd (omega (arith, some, w.if-at-gt0.false))
    ])
    (λ within d. ap (is_ahead c.args.read) (sym (c.get-else-at-len-2.ensures d))
    ∙ (sym c.is_ahead-else-at-len-2.ensures ∙ unless c.is_ahead-else-at-len-2.result parted)))
