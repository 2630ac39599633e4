use Rattle.std.proofs.Common.{◌≡◌, ◌-◌, ◌≤◌, ◌++◌, length, drop}
use Rattle.json_reading.specs.Spelling.{AreSpelled}
use Rattle.json_reading.proofs.Printing.{opened, comma_after}
use Rattle.json_reading.proofs.scan.scan_members.Given as goal

abbrev pub invariant-members : goal.invariant-members
invariant-members l = record {
  text : l.text ≡ opened l.found.items ++ (comma_after l.found.items ++ drop l.at l.text);
  spelled : AreSpelled l.found.items;
  within : l.at ≤ length l.text;
}

abbrev pub decreases-members : goal.decreases-members
decreases-members l = length l.text - l.at
