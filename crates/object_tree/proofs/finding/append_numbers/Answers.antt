use Rattle.std.proofs.Common.{◌≡◌, ◌∙◌, ◌+◌, ◌∷◌, ◌++◌, [], map, sym, ap, append_assoc, arith}
use Rattle.std.specs.List.{slice_range}
use Rattle.object_tree.specs.declared.child.Child.{Child}
use Rattle.object_tree.proofs.ChildLemmas.{stretch_next}
use Rattle.object_tree.proofs.finding.append_numbers.Goals as goal

pub kids-preserved : goal.kids-preserved
kids-preserved c =
    let all = c.args.kids.all.now.items in
    let rest = slice_range all (c.kids.at + 1) c.args.kids.end in
    let next : slice_range all c.kids.at c.args.kids.end ≡ c.get.result ∷ rest =
    stretch_next all c.kids.at c.args.kids.end c.get.result c.kids-test.true c.requires.within
    ∙ ap (λ (child : Child). child ∷ rest) (sym (c.get.ensures c.get.result)) in (
      rw c.push_reserved.ensures.items (append_assoc c.kids.found.items (c.get.result.number ∷ []) (map (λ (child : Child). child.number) rest)
          ∙ (ap (λ kids. c.kids.found.items ++ map (λ (child : Child). child.number) kids) (sym next) ∙ c.kids.invariant.0)),
      omega arith,
    )
