use Rattle.std.proofs.Common.{rules, map}
use Rattle.command_line.specs.Asked.{asked}
use Rattle.command_line.specs.Start.{files}
use Rattle.command_line.proofs.StartLemmas.{ends_for}
use Rattle.command_line.proofs.starting.start_with.Goals as goal

pub returns-in-Err : goal.returns-in-Err
returns-in-Err g c =
    ends_for (files (g.R.ClassFiles.holds c.args.rt.now) (g.R.ClassFiles.readable c.args.rt.now))
    (asked (map g.S.AsStr.text c.args.words.now)) c.in-Ok.options c.in-Err.error c.of_class_file.result c.in-Ok.ensures.asked.0 c.in-Ok.ensures.asked.1
    (search rules) c.of_class_file.ensures
