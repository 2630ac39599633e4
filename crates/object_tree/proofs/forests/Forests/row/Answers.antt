use Rattle.std.proofs.Common.{◌∙◌, sym}
use Rattle.object_tree.proofs.KeptLemmas.{absent, in_rows, is_row, stands_under}
use Rattle.object_tree.proofs.forests.Forests.row.Goals as goal

pub find-requires : goal.find-requires
find-requires c = in_rows c.self.invariant c.self.view_is c.args.place c.requires

pub returns-in_err-key : goal.returns-in_err-key
returns-in_err-key c = c.from_residual.ensures ∙ sym (absent c.self.invariant c.self.view_is c.args.place c.requires c.args.object c.in_err-key.ensures.found)

pub returns : goal.returns
returns c = sym (is_row c.self.invariant c.self.view_is c.args.place c.requires (stands_under c.get.ensures.sound c.get.ensures.row c.in_ok-key.ensures.stands))
