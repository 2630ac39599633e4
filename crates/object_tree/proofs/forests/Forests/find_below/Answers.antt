use Rattle.std.proofs.Common.{◌≡◌, ◌∙◌, ◌-◌, ◌+◌, [], length, sym, ap, arith}
use Rattle.std.proofs.lemmas.List.{nil_from_length}
use Rattle.std.proofs.lemmas.Bool.{eqb-true}
use Rattle.object_tree.specs.Finding.{children_of, found_below, found_within}
use Rattle.object_tree.proofs.FindBelowLemmas.{found_here, found_later, none_left}
use Rattle.object_tree.specs.Table.{forest_at}
use Rattle.object_tree.proofs.forests.Forests.find_below.Goals as goal

pub returns-then-is_empty : goal.returns-then-is_empty
returns-then-is_empty g c = λ passes by.
    let none : c.levels.level.items ≡ [] = sym c.as_slice-numbers.ensures.value
    ∙ nil_from_length _ (eqb-true _ _ (sym c.is_empty.ensures ∙ c.if-is_empty.true)) in
    none_left (length (forest_at c.args.self.now c.args.place).rows) c.levels._step (forest_at c.args.self.now c.args.place).rows passes c.levels.level.items
    (found_below (forest_at c.args.self.now c.args.place).rows c.args.object passes) (omega arith)
    (c.levels.invariant passes by) none

pub returns-then-is_some : goal.returns-then-is_some
returns-then-is_some g c = λ passes by.
    found_here (length (forest_at c.args.self.now c.args.place).rows) c.levels._step (forest_at c.args.self.now c.args.place).rows passes c.levels.level.items
    (found_below (forest_at c.args.self.now c.args.place).rows c.args.object passes) (omega arith)
    (c.levels.invariant passes by) c.in_ok-found.found (rw (← c.as_slice-numbers.ensures.value) (c.in_ok-found.ensures passes by))
    (sym c.is_some.ensures ∙ c.if-is_some.true)

pub levels-preserved : goal.levels-preserved
levels-preserved g c = λ passes by.
    let later = found_later (length (forest_at c.args.self.now c.args.place).rows) c.levels._step
    (forest_at c.args.self.now c.args.place).rows passes c.levels.level.items
    (found_below (forest_at c.args.self.now c.args.place).rows c.args.object passes) (omega arith)
    (c.levels.invariant passes by) c.in_ok-found.found (rw (← c.as_slice-numbers.ensures.value) (c.in_ok-found.ensures passes by))
    (sym c.is_some.ensures ∙ c.if-is_some.false) in
    let next : c.in_ok-level-2.level.items ≡ children_of (forest_at c.args.self.now c.args.place).rows c.levels.level.items =
    rw (← c.as_slice-numbers.ensures.value) c.in_ok-level-2.ensures in
    ap (found_within (length (forest_at c.args.self.now c.args.place).rows - (c.levels._step + 1)) (forest_at c.args.self.now c.args.place).rows passes) next
    ∙ later
