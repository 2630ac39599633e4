use Rattle.std.proofs.Common.{◌∙◌, refl, sym}
use Rattle.shared_rows.proofs.KeptLemmas.{none_there, seen_by, unchanged}
use Rattle.shared_rows.proofs.rows.SharedRows.drop_index.Goals as goal

pub invariant_of-self : goal.invariant_of-self
invariant_of-self g c =
    let seen = seen_by c.self.invariant c.self.view_is c.requires.place c.get_mut.ensures.value in
    (unchanged c.self.invariant seen c.self.view_is c.new.result refl (c.new.ensures ∙ sym (none_there seen c.requires.empty))).kept

pub returns : goal.returns
returns g c =
    let seen = seen_by c.self.invariant c.self.view_is c.requires.place c.get_mut.ensures.value in
    (unchanged c.self.invariant seen c.self.view_is c.new.result refl (c.new.ensures ∙ sym (none_there seen c.requires.empty))).view
