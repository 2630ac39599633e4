use Rattle.std.proofs.Common.{Err, Ok, sym, subst, ◌∙◌, refl, ap}
use Rattle.session_engine.proofs.Common.{Memory, asked}
use Rattle.session_engine.specs.Commands.{KnowsProperties, Obeys}
use Rattle.session_engine.proofs.CommandsLemmas.{not_reset, obeys_failed, obeys_refusing, obeys_replied, obeys_wanting}
use Rattle.session_engine.proofs.commands.obey.Goals as goal

pub perform-requires-clause-known : goal.perform-requires-clause-known
perform-requires-clause-known g c = subst (λ caller. KnowsProperties caller c.args.tables.now) (sym c.new-actor.ensures) c.requires.known

pub returns-in_default : goal.returns-in_default
returns-in_default g c = obeys_failed _ _ c.args.tables.now c.args.tables.now c.args.memory_refused.now (sym c.failed.ensures ∙ c.if-failed.true)
    (not_reset c.args.command.now c.in_default.not-Reset) refl

pub returns-in-Reset : goal.returns-in-Reset
returns-in-Reset g c =
    subst (λ command. Obeys c.args.caller.now (asked command) c.args.tables.now c.renew.new.tables c.args.memory_refused.now c.renew.new.memory_refused
    c.renew.result) (sym c.in-Reset.is) c.renew.ensures

pub returns-in-Ok : goal.returns-in-Ok
returns-in-Ok g c = obeys_replied _ _ c.args.tables.now c.perform.new.tables (sym c.if-failed.ensures) _ _ _ c.in-Ok.answer _
    (rw c.new-actor.ensures at c.in-Ok.ensures) (ap (λ output. output.lines) c.in-Ok-tell.ensures.told)

pub returns-in-Err-Refused : goal.returns-in-Err-Refused
returns-in-Err-Refused g c = obeys_refusing _ _ c.args.tables.now c.perform.new.tables (sym c.if-failed.ensures) _ _ _ c.in-Err-Refused.code
    (rw (c.in-Err-Refused.field-0-is, c.new-actor.ensures) at c.in-Err-Refused.ensures)

-- where its reply finds no memory, or the command itself
pub returns-in_default-tell : goal.returns-in_default-tell
returns-in_default-tell g c = rw (c.give_up.ensures.wanted, c.give_up.ensures.noted)
    (obeys_wanting _ _ c.args.tables.now c.perform.new.tables (sym c.if-failed.ensures) _ c.args.memory_refused.now _ (Ok c.in-Ok.answer) _ c.requires.placed
    (rw c.new-actor.ensures at c.in-Ok.ensures) tt c.give_up.ensures.tables)

pub returns : goal.returns
returns g c = rw (c.give_up-in-Err-Memory.ensures.wanted, c.give_up-in-Err-Memory.ensures.noted)
    (obeys_wanting _ _ c.args.tables.now c.perform.new.tables (sym c.if-failed.ensures) _ c.args.memory_refused.now _ (Err Memory) _ c.requires.placed
    (rw (c.in-Err-Memory.field-0-is, c.new-actor.ensures) at c.in-Err-Memory.ensures) tt c.give_up-in-Err-Memory.ensures.tables)
