use Rattle.std.proofs.Common.{◌≡◌, ◌∙◌, true, ap, not, refl, sym}
use Rattle.shared_rows.specs.Rows.{rows_at}
use Rattle.property_store.specs.declared.link.Head.{Head}
use Rattle.property_store.specs.declared.link.Head.TheVariants as head
use Rattle.property_store.specs.Inside.{head_at}
use Rattle.property_store.specs.Marks.{has_marks, marks_at}
use Rattle.property_store.proofs.HeadLemmas.{marks_there}
use Rattle.property_store.proofs.MarkLemmas.{head_tells, is_some_head}
use Rattle.property_store.proofs.stores.Stores.has_written.Goals as goal
use Rattle.property_store.proofs.stores.Stores.has_written.Goals.{in-None, in_default}

stands : (first : Head) → (first ≡ head.None → ⊥) → is_some_head first ≡ true
stands head.None some = absurd (some refl)
stands (head.First at) some = refl
stands head.All some = refl

told : (c : goal.Joined-matches) → is_some_head c.get.result.now ≡ has_marks (marks_at c.args.self.now.marks c.args.place)
told c =
    ap is_some_head (c.get.ensures head.None)
    ∙ sym (ap has_marks (marks_there c.self.invariant c.self.view_is c.args.place)
    ∙ head_tells (rows_at c.self.inside.rows c.args.place) (head_at c.self.inside.heads c.args.place) (c.self.invariant.chained c.args.place).linked)

pub returns : goal.returns
returns c = elim c.match-matches.branch [
  | in-None w ↦ ap not w.matches-is ∙ (ap is_some_head (sym w.in-None.is) ∙ told c)
  | in_default w ↦ ap not w.matches-is ∙ (sym (stands c.get.result.now w.in_default.not-None) ∙ told c)
]
