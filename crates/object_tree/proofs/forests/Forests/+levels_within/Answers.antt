use Rattle.std.specs.List.{slice_range}
use Rattle.std.proofs.Common.{◌≡◌, ◌∙◌, ◌+◌, ◌-◌, ◌≤◌, ◌∷◌, ap, arith, length, max, rules, sym}
use Rattle.object_tree.specs.declared.child.Child.{Child}
use Rattle.object_tree.proofs.ChildLemmas.{stretch_ends, stretch_next}
use Rattle.object_tree.specs.Lines.{levels_within}
use Rattle.object_tree.proofs.HeightLemmas.{greatest_more, levels_end}
use Rattle.object_tree.specs.Table.{forest_at}
use Rattle.object_tree.proofs.forests.Forests.+levels_within.Goals as goal

pub returns-clause-value : goal.returns-clause-value
returns-clause-value t c = levels_end c.args.most (forest_at c.args.self.now c.args.place).rows c.args.number c.kids.below
    (slice_range c.kids-kids.result.all.now.items c.kids.at c.kids-kids.result.end) c.if-most-eq0.false
    (ap length (stretch_ends c.kids-kids.result.all.now.items c.kids.at c.kids-kids.result.end c.kids-test.false)) c.kids.invariant.0

pub kids-preserved : goal.kids-preserved
kids-preserved t c =
    let all = c.kids-kids.result.all.now.items in
    let rest = slice_range all (c.kids.at + 1) c.kids-kids.result.end in
    let next : slice_range all c.kids.at c.kids-kids.result.end ≡ c.get-child.result ∷ rest =
    stretch_next all c.kids.at c.kids-kids.result.end c.get-child.result c.kids-test.true c.kids-kids.ensures.within.within
    ∙ ap (λ (child : Child). child ∷ rest) (sym (c.get-child.ensures c.get-child.result)) in
    let larger : c.max-below.result ≡ max c.kids.below c.levels_within.result = search rules in
    let within : c.max-below.result ≤ c.args.most - 1 = omega arith in (
      rw (larger, c.levels_within.ensures.value)
          (sym (greatest_more (levels_within (c.args.most - 1) (forest_at c.args.self.now c.args.place).rows)
          (slice_range all c.kids.at c.kids-kids.result.end) rest c.get-child.result c.kids.below next) ∙ c.kids.invariant.0),
      within,
    )
