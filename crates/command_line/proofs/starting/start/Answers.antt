use Rattle.std.proofs.Common.{Global, Vec, String, map, string_bytes}
use Rattle.command_line.specs.Start.{files}
use Rattle.command_line.proofs.StartLemmas.{ends_without, starts_by}
use Rattle.command_line.proofs.starting.start.Goals as goal

pub returns : goal.returns
returns g c =
    let rt = c.args.rt.now in
    starts_by (λ (words : Vec (String Global) Global). map string_bytes words.items) (g.R.CommandLine.given rt)
    (files (g.R.ClassFiles.holds rt) (g.R.ClassFiles.readable rt)) c.in_ok-words.words c.start_with.result
    c.in_ok-words.ensures (rw c.as_slice.ensures.value at c.start_with.ensures)

pub returns-in_err-words : goal.returns-in_err-words
returns-in_err-words g c =
    let rt = c.args.rt.now in
    ends_without (λ (words : Vec (String Global) Global). map string_bytes words.items) (g.R.CommandLine.given rt)
    (files (g.R.ClassFiles.holds rt) (g.R.ClassFiles.readable rt)) c.in_err-words.field-0.0 c.from_residual.result
    c.from_residual.ensures.1 c.in_err-words.ensures
