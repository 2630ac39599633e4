-- So far the lines before the rest are taken, which is behind them.
use Rattle.std.proofs.Common.{◌≡◌, ◌++◌, ℕ, List, length}
use Rattle.server_world.specs.Server.{seen_as}
use Rattle.wire_lines.specs.Stream.{Later}
use Rattle.wire_lines.specs.Taking.{HasTaken}
use Rattle.wire_lines.specs.Standing.{noted}
use Rattle.wire_lines.proofs.slice.Slicing.take_all.Given as goal

abbrev pub invariant-lines : goal.invariant-lines
invariant-lines g l = record {
  taken : HasTaken l.input (seen_as l.initial.server) (noted l.slicing (seen_as l.server)) l.slicing.count l.rest;
  behind : (front : List ℕ) × (l.input ≡ front ++ l.rest);
  later : Later (seen_as l.initial.server) (seen_as l.server);
}

abbrev pub decreases-lines : goal.decreases-lines
decreases-lines g l = length l.rest
