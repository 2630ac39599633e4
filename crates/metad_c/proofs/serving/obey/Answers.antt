use Rattle.std.proofs.Common.{refl}
use Rattle.server_world.specs.declared.report.Entry.TheVariants.{Lines, OutOfMemory}
use Rattle.session_model.specs.Asked.{tag}
use Rattle.wire_lines.specs.Steps.{entry_text}
use Rattle.metad_c.specs.Answers.{seen}
use Rattle.metad_c.proofs.ServingLemmas.{obeyed}
use Rattle.metad_c.proofs.serving.obey.Goals as goal

pub returns-in-Ok : goal.returns-in-Ok
returns-in-Ok c =
    let stepped = c.in-Ok.ensures in
    obeyed (seen c.args.kept.now) _ c.say_all-said.result c.said_or.result (tag c.args.given.now) (entry_text c.args.given.now.session (Lines c.in-Ok.lines))
    c.said_or.ensures
    (record { entry = Lines c.in-Ok.lines; does = record { step = stepped.step; known = stepped.known; there = stepped.there; lost = tt }; says = refl })
    (rw (c.as_str-session.ensures, c.as_slice.ensures) at c.say_all-said.ensures.ok) c.say_all-said.ensures.err

pub returns-in-Err : goal.returns-in-Err
returns-in-Err c =
    let stepped = c.in-Err.ensures in
    obeyed (seen c.args.kept.now) _ c.say-said.result c.said_or-in-Err.result (tag c.args.given.now) (entry_text c.args.given.now.session OutOfMemory)
    c.said_or-in-Err.ensures
    (record { entry = OutOfMemory; does = record { step = stepped.step; known = stepped.known; there = tt; lost = stepped.lost }; says = refl })
    (rw c.as_str-session.ensures at c.say-said.ensures.ok) c.say-said.ensures.err
