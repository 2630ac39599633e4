-- So far the lines before this one are said.
use Rattle.std.proofs.Common.{◌≡◌, ◌++◌, take}
use Rattle.std.specs.List.{flat_map}
use Rattle.wire_format.specs.Text.{text_of_line}
use Rattle.metad_c.proofs.output.Output.say_each.Given as goal

abbrev pub invariant-loop-line : goal.invariant-loop-line
invariant-loop-line l = record {
  said : l.self.said.items ≡ l.initial.self.said.items ++ flat_map (text_of_line l.session) (take l.line-index l.lines);
}
