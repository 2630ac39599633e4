use Rattle.std.proofs.Common.{◌≡◌, ◌++◌, length, map}
use Rattle.json_reading.specs.Spelling.{scalar_token, AllFit}
use Rattle.json_reading.proofs.token.token_items.Given as goal

abbrev pub invariant-items : goal.invariant-items
invariant-items l = record {
  tokens : l.initial.reader ≡ map scalar_token l.found.items ++ l.reader;
  fit : AllFit l.found.items;
}

abbrev pub decreases-items : goal.decreases-items
decreases-items l = length l.reader
