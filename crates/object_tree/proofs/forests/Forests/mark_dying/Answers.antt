use Rattle.std.proofs.Common.{true, refl}
use Rattle.object_tree.specs.Changes.{marked}
use Rattle.object_tree.proofs.KeptLemmas.{absent_same, edited, in_rows, stands_under}
use Rattle.object_tree.proofs.forests.Forests.mark_dying.Goals as goal

pub find-requires : goal.find-requires
find-requires c = in_rows c.self.invariant c.self.view_is c.args.place c.requires

pub invariant_of-self : goal.invariant_of-self
invariant_of-self c = (edited c.self.invariant c.self.view_is c.args.place c.requires
    (stands_under c.get-row.ensures.sound c.get-row.ensures.row c.in-Some.ensures.stands) (λ row. record row { dying = true }) c.replace.ensures.new (λ _. refl)
    (λ _. refl) (λ _. refl)).kept

pub returns-in-Some : goal.returns-in-Some
unfolding marked
returns-in-Some c = (edited c.self.invariant c.self.view_is c.args.place c.requires
    (stands_under c.get-row.ensures.sound c.get-row.ensures.row c.in-Some.ensures.stands) (λ row. record row { dying = true }) c.replace.ensures.new (λ _. refl)
    (λ _. refl) (λ _. refl)).seen

pub returns-in_default : goal.returns-in_default
unfolding marked
returns-in_default c = absent_same c.self.invariant c.self.view_is c.args.place c.requires
    (λ row. record row { dying = true }) c.args.object c.in_default.ensures.found
