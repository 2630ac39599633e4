-- How much a run reads at most, as numerals.
use Rattle.std.specs.Prelude.{◌≡◌, ◌^◌}
use Rattle.wire_format.specs.declared.line.TheConstants.{LINE_BYTES}
use Rattle.wire_lines.specs.declared.stream.TheConstants.{MOST_LINES, MOST_READS}

-- The names that definitions use for the limits of a run, each with its numeral.
pub record AreLimitsOfRuns : Type 0 where
  pub bytes_of_a_line : LINE_BYTES ≡ 65536
  pub lines : MOST_LINES ≡ 2 ^ 32
  pub reads : MOST_READS ≡ 2 ^ 40
