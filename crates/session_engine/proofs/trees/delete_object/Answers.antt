use Rattle.std.proofs.Common.{[], ◌∷◌, true, sym, refl, ◌∙◌}
use Rattle.session_engine.proofs.Common.{keeps_same}
use Rattle.session_model.specs.declared.line.Answer.TheVariants as a
use Rattle.session_model.specs.Asked as asked
use Rattle.session_model.specs.Items.{Delete}
use Rattle.session_model.proofs.ForCallers.{performs_delete, refusal_delete}
use Rattle.session_engine.proofs.CommandsLemmas.{quietly, stopped}
use Rattle.session_engine.proofs.ToldLemmas.{comes, performs_told, starved_told}
use Rattle.session_engine.proofs.trees.delete_object.Goals as goal

pub returns-in_err-check_object : goal.returns-in_err-check_object
returns-in_err-check_object g c = quietly c.requires.fresh
    (stopped c.in_err-check_object.field-0.0 _ c.from_residual.ensures.1 (refusal_delete _ _ _ _ ∙ sym c.in_err-check_object.ensures) refl)

pub returns-in_err-delete : goal.returns-in_err-delete
returns-in_err-delete g c =
    let caller = c.args.actor.now.caller in
    let old = c.args.tables.now in
    let items = Delete c.args.object 0 ∷ [] in
    starved_told caller (asked.Delete c.args.object) old old c.delete.new.tables c.args.output.now c.delete.new.output items (comes caller old old items)
    (a.Truth true) c.requires.placed c.requires.fresh
    (refusal_delete _ _ _ _ ∙ sym c.in_ok-check_object.ensures) (performs_delete _ _ _ _) refl
    (keeps_same _ _ _ refl) _ _ _ c.from_residual-in_err-delete.ensures.1 c.in_err-delete.ensures

pub returns : goal.returns
returns g c =
    let caller = c.args.actor.now.caller in
    let old = c.args.tables.now in
    let items = Delete c.args.object 0 ∷ [] in
    performs_told caller (asked.Delete c.args.object) old old c.delete.new.tables c.args.output.now c.delete.new.output items (comes caller old old items)
    (a.Truth true) c.requires.placed c.requires.fresh
    (refusal_delete _ _ _ _ ∙ sym c.in_ok-check_object.ensures) (performs_delete _ _ _ _) refl (keeps_same _ _ _ refl) _ c.in_ok-delete.ensures
