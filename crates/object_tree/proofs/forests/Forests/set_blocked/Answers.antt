use Rattle.std.proofs.Common.{false, sym, ap, refl}
use Rattle.std.specs.Option.{option_map_or}
use Rattle.object_tree.specs.declared.row.Row.{Row}
use Rattle.object_tree.specs.Changes.{with_blocked}
use Rattle.object_tree.proofs.KeptLemmas.{absent, absent_same, edited, in_rows, is_row, stands_under}
use Rattle.object_tree.proofs.forests.Forests.set_blocked.Goals as goal

pub find-requires : goal.find-requires
find-requires c = in_rows c.self.invariant c.self.view_is c.args.place c.requires

pub invariant_of-self : goal.invariant_of-self
invariant_of-self c = (edited c.self.invariant c.self.view_is c.args.place c.requires
    (stands_under c.get-row.ensures.sound c.get-row.ensures.row c.in-Some.ensures.stands) (λ row. record row { blocked = c.args.on }) c.replace.ensures.new
    (λ _. refl) (λ _. refl) (λ _. refl)).kept

pub returns : goal.returns
unfolding with_blocked
returns c =
    let stood = stands_under c.get-row.ensures.sound c.get-row.ensures.row c.in-Some.ensures.stands in
    record {
      before = ap (λ found. option_map_or (λ (row : Row). row.blocked) found false)
          (sym (is_row c.self.invariant c.self.view_is c.args.place c.requires stood));
      after = (edited c.self.invariant c.self.view_is c.args.place c.requires stood (λ row. record row { blocked = c.args.on }) c.replace.ensures.new
          (λ _. refl) (λ _. refl) (λ _. refl)).seen;
    }

pub returns-in_default : goal.returns-in_default
unfolding with_blocked
returns-in_default c = record {
  before = ap (λ found. option_map_or (λ (row : Row). row.blocked) found false)
      (sym (absent c.self.invariant c.self.view_is c.args.place c.requires c.args.object c.in_default.ensures.found));
  after = absent_same c.self.invariant c.self.view_is c.args.place c.requires (λ row. record row { blocked = c.args.on }) c.args.object
      c.in_default.ensures.found;
}
