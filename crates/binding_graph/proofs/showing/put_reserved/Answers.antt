use Rattle.std.proofs.Common.{◌≡◌, ◌∙◌, ap, if◌then◌else◌, not, set, subst, sym, true}
use Rattle.std.specs.Result.{is_ok}
use Rattle.std.specs.List.{insert}
use Rattle.binding_values.specs.Graph.{AreShown, shown_at}
use Rattle.binding_values.proofs.ForCallers.{inserted, replaced}
use Rattle.binding_graph.specs.Rows.{with_shown}
use Rattle.binding_graph.proofs.RowLemmas.{are_shown_with, found_with}
use Rattle.binding_graph.proofs.showing.put_reserved.Goals as goal

set_so : (c : goal.After-drop-index_mut) → set c.args.rows.now.items c.in-Ok.place c.args.row ≡ with_shown c.args.row c.args.rows.now.items
set_so c = replaced c.args.row (rw c.as_slice.ensures.value at c.in-Ok.ensures.row) c.requires.sound.rising

pub returns-in-Ok-clause-put : goal.returns-in-Ok-clause-put
returns-in-Ok-clause-put c = λ q. ap (λ rows. shown_at rows q) (set_so c) ∙ found_with c.args.row c.args.rows.now.items q

pub returns-in-Ok-clause-sound : goal.returns-in-Ok-clause-sound
returns-in-Ok-clause-sound c = subst AreShown (sym (set_so c)) (are_shown_with c.args.row c.args.rows.now.items c.requires.sound c.requires.fits)

insert_so : (c : goal.Else-is_err) → c.insert.new.self.items ≡ with_shown c.args.row c.args.rows.now.items
insert_so c =
    let ok : is_ok c.insert.result ≡ true = c.is_err.ensures.negation ∙ ap not c.if-is_err.false in
    c.insert.ensures.items
    ∙ (ap (λ t. if t then insert c.args.rows.now.items c.in-Err.place c.args.row else c.args.rows.now.items) ok
    ∙ inserted c.args.row (rw c.as_slice.ensures.value at c.in-Err.ensures.gap))

pub returns-else-is_err-clause-put : goal.returns-else-is_err-clause-put
returns-else-is_err-clause-put c = λ q. ap (λ rows. shown_at rows q) (insert_so c) ∙ found_with c.args.row c.args.rows.now.items q

pub returns-else-is_err-clause-sound : goal.returns-else-is_err-clause-sound
returns-else-is_err-clause-sound c = subst AreShown (sym (insert_so c)) (are_shown_with c.args.row c.args.rows.now.items c.requires.sound c.requires.fits)
