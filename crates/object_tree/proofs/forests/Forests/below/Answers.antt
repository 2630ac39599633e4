use Rattle.std.proofs.Common.{◌≡◌, ◌∙◌, ◌-◌, ◌+◌, ◌++◌, [], Some, length, sym, ap, ap₂, arith, append_assoc, append-nil}
use Rattle.std.proofs.lemmas.List.{nil_from_length}
use Rattle.std.proofs.lemmas.Bool.{eqb-true}
use Rattle.object_tree.specs.Finding.{below_by_depth, children_of, levels_from}
use Rattle.object_tree.proofs.FindBelowLemmas.{level_more, level_none, no_level}
use Rattle.object_tree.specs.Rows.{children}
use Rattle.object_tree.specs.Table.{forest_at}
use Rattle.object_tree.proofs.forests.Forests.below.Goals as goal

pub levels-init : goal.levels-init
unfolding below_by_depth
levels-init c =
    let rows = (forest_at c.args.self.now c.args.place).rows in
    let all : length rows - 0 ≡ length rows = omega arith in
    ap₂ (λ found level. found ++ levels_from (length rows - 0) rows level) c.new-found.ensures.items c.in_ok-level.ensures
    ∙ ap (λ most. levels_from most rows (children rows (Some c.args.object))) all

pub returns-then-is_empty : goal.returns-then-is_empty
returns-then-is_empty c =
    let rows = (forest_at c.args.self.now c.args.place).rows in
    let none : c.levels.level.items ≡ [] = sym c.as_slice-numbers.ensures.value
    ∙ nil_from_length _ (eqb-true _ _ (sym c.is_empty.ensures ∙ c.if-is_empty.true)) in
    sym (append-nil c.levels.found.items)
    ∙ (ap (λ left. c.levels.found.items ++ left)
    (sym (no_level (length rows - c.levels._step) rows) ∙ ap (levels_from (length rows - c.levels._step) rows) (sym none)) ∙ c.levels.invariant)

pub levels-preserved : goal.levels-preserved
levels-preserved c =
    let rows = (forest_at c.args.self.now c.args.place).rows in
    let level = c.levels.level.items in
    let left = levels_from (length rows - (c.levels._step + 1)) rows in
    let next : c.in_ok-level-2.level.items ≡ children_of rows level = rw (← c.as_slice-numbers.ensures.value) c.in_ok-level-2.ensures in
    ap₂ (λ found level. found ++ left level)
    (c.in_ok-extend_from_slice.ensures.items ∙ ap (λ numbers. c.levels.found.items ++ numbers) c.as_slice-numbers.ensures.value) next
    ∙ (append_assoc c.levels.found.items level (left (children_of rows level))
    ∙ (ap (λ l. c.levels.found.items ++ l) (sym
    (level_more (length rows) c.levels._step rows level (omega arith))) ∙ c.levels.invariant))

pub returns : goal.returns
returns c =
    let rows = (forest_at c.args.self.now c.args.place).rows in
    sym (append-nil c.levels.found.items)
    ∙ (ap (λ left. c.levels.found.items ++ left)
    (sym (level_none (length rows) c.levels._step rows c.levels.level.items (omega arith)))
    ∙ c.levels.invariant)
