use Rattle.std.proofs.Common.{◌≡◌, ◌-◌, ◌≤◌, ◌++◌, length, drop}
use Rattle.json_reading.specs.Spelling.{AllFit}
use Rattle.json_reading.proofs.ItemLemmas.{items_text}
use Rattle.json_reading.proofs.Printing.{comma_after}
use Rattle.json_reading.proofs.scan.scan_items.Given as goal

abbrev pub invariant-items : goal.invariant-items
invariant-items l = record {
  text : drop l.from l.text ≡ items_text l.found.items ++ (comma_after l.found.items ++ drop l.at l.text);
  fit : AllFit l.found.items;
  later : l.from ≤ l.at;
}

abbrev pub decreases-items : goal.decreases-items
decreases-items l = length l.text - l.at
