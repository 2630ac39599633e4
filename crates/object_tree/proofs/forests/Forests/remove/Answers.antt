use Rattle.std.proofs.Common.{◌∙◌, ap}
use Rattle.shared_rows.specs.Links.{Linked, without_link}
use Rattle.shared_rows.specs.Rows.{rows_at}
use Rattle.object_tree.specs.declared.child.Child.{Child}
use Rattle.object_tree.specs.Children.{child_cmp}
use Rattle.object_tree.specs.Table.{forest_at}
use Rattle.object_tree.proofs.KeyLemmas.{stands}
use Rattle.object_tree.proofs.ChildLemmas.{number_begins}
use Rattle.object_tree.proofs.KeptLemmas.{absent_gone, gone, in_kinships, in_rows, is_row, middle_linked, middle_place, sound_anyhow}
use Rattle.object_tree.proofs.forests.Forests.remove.Goals as goal

pub take-requires : goal.take-requires
take-requires c = in_rows c.self.invariant c.self.view_is c.args.place c.requires

pub get_mut-requires : goal.get_mut-requires
get_mut-requires c = in_kinships c.self.invariant c.self.view_is c.args.place c.requires

pub orphan-requires : goal.orphan-requires
orphan-requires c =
    let stood = stands (rows_at c.self.inside.rows c.args.place) c.in-Some.ensures.taken.0 c.args.object c.in-Some.row c.take.ensures.sound
    c.in-Some.ensures.taken.2 c.in-Some.ensures.taken.3 in
    record {
      place = middle_place c.self.invariant c.self.view_is c.args.place c.requires stood c.get_mut.result.now c.get_mut.ensures.value
          c.in-Some.ensures.taken.4;
      object = number_begins (forest_at c.args.self.now c.args.place) (sound_anyhow c.self.invariant c.self.view_is c.args.place c.requires) c.args.object
          c.in-Some.row (is_row c.self.invariant c.self.view_is c.args.place c.requires stood);
      linked = middle_linked c.self.invariant c.self.view_is c.args.place c.requires stood c.get_mut.result.now c.get_mut.ensures.value
          c.in-Some.ensures.taken.4
          (ap (λ (l : Linked Child). l.links) c.remove.ensures ∙ λ i. without_link child_cmp c.get_mut.result.now.children.links (c.child_of.ensures i));
    }

pub invariant_of-self : goal.invariant_of-self
invariant_of-self c = (gone c.self.invariant c.self.view_is c.args.place c.requires
    (stands (rows_at c.self.inside.rows c.args.place) c.in-Some.ensures.taken.0 c.args.object c.in-Some.row c.take.ensures.sound c.in-Some.ensures.taken.2
    c.in-Some.ensures.taken.3) c.get_mut.result.now c.get_mut.ensures.value c.in-Some.ensures.taken.4 c.orphan.new.children c.orphan.ensures.elsewhere
    c.orphan.ensures.rows c.orphan.ensures.linked).kept

pub returns-in-Some : goal.returns-in-Some
returns-in-Some c = (gone c.self.invariant c.self.view_is c.args.place c.requires
    (stands (rows_at c.self.inside.rows c.args.place) c.in-Some.ensures.taken.0 c.args.object c.in-Some.row c.take.ensures.sound c.in-Some.ensures.taken.2
    c.in-Some.ensures.taken.3) c.get_mut.result.now c.get_mut.ensures.value c.in-Some.ensures.taken.4 c.orphan.new.children c.orphan.ensures.elsewhere
    c.orphan.ensures.rows c.orphan.ensures.linked).seen

pub invariant_of-self-in_default : goal.invariant_of-self-in_default
invariant_of-self-in_default c = rw c.in_default.ensures.unchanged c.self.invariant

pub returns-in_default : goal.returns-in_default
returns-in_default c = absent_gone c.self.invariant c.self.view_is c.args.place c.requires c.args.object c.in_default.ensures.unchanged
    c.in_default.ensures.absent
