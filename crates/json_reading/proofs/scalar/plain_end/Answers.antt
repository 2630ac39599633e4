use Rattle.std.proofs.Common.{sym, ap, ◌∙◌, arith}
use lib.Count.{count_trailing_zeros}
use Rattle.json_reading.proofs.Together.{run_within, runs_through, stops_within}
use Rattle.json_reading.proofs.scalar.plain_end.Goals as goal

pub chunks-preserved : goal.chunks-preserved
chunks-preserved c =
    let d = c.args.bytes.now in
    let run = runs_through d c.chunks.end 16 (omega arith) (omega (arith, c.stops-found.ensures)) in
    (omega (arith, run, c.chunks.invariant.0), omega arith, omega arith)

pub returns-then-found-ne0 : goal.returns-then-found-ne0
returns-then-found-ne0 c =
    let d = c.args.bytes.now in
    let end = c.chunks.end in
    let found = c.stops-found in
    let run = stops_within d end 16 (omega arith) (omega arith) (omega (arith, found.ensures)) ∙ ap (count_trailing_zeros 64) (sym found.ensures) in
    let within = run_within d end (omega arith) in
    record { value = omega (arith, run, c.chunks.invariant.0); bounds = (omega arith, omega (arith, run, within)) }
