use Rattle.std.proofs.Common.{◌≡◌, ◌∙◌, sym, ap, arith}
use Rattle.shared_rows.specs.Gap.{without}
use Rattle.shared_rows.proofs.GapLemmas.{moved_left, moved_right, without_none}
use Rattle.shared_rows.proofs.gap.moved.Goals as goal
use Rattle.shared_rows.proofs.gap.moved.Goals.{then-gone-gt0+then-start-to, then-gone-gt0+else-start-to, else-gone-gt0}

pub returns-clause-items : goal.returns-clause-items
returns-clause-items g c =
    let list = c.args.places.now.items in
    elim c.if-gone-gt0.branch [
      | then-gone-gt0+then-start-to w ↦
          let copy = w.copy_within.ensures in
          ap (λ places. without places.items c.args.to c.args.gap.gone) w.places-is
          ∙ moved_right list w.copy_within.new.self.items c.args.gap.start c.args.gap.gone c.args.to (omega arith) c.requires.within
          (omega arith) copy.by_index.0 copy.by_index.1 copy.by_index.2
      | then-gone-gt0+else-start-to w ↦
          let copy = w.copy_within-else-start-to.ensures in
          ap (λ places. without places.items c.args.to c.args.gap.gone) w.places-is
          ∙ moved_left list w.copy_within-else-start-to.new.self.items c.args.gap.start c.args.gap.gone c.args.to (omega arith) c.requires.gap.0
          (omega arith) copy.by_index.0 copy.by_index.1 copy.by_index.2
      | else-gone-gt0 w ↦
          let none : c.args.gap.gone ≡ 0 = omega arith in
          ap (λ places. without places.items c.args.to c.args.gap.gone) w.places-is
          ∙ (ap (λ n. without list c.args.to n) none
          ∙ (without_none list c.args.to ∙ sym (ap (λ n. without list c.args.gap.start n) none ∙ without_none list c.args.gap.start)))
    ]
