use Rattle.session_engine.proofs.CommandsLemmas.{obeys_anew, obeys_anew_wanting}
use Rattle.session_engine.proofs.sharing.renew.Goals as goal

pub returns-in-Ok : goal.returns-in-Ok
returns-in-Ok c = obeys_anew _ c.args.tables.now c.requires _ c.args.memory_refused.now c.in-Ok.lines c.renew.ensures c.in-Ok.ensures

pub returns-in-Err : goal.returns-in-Err
returns-in-Err c = rw (c.give_up.ensures.wanted, c.give_up.ensures.noted)
    (obeys_anew_wanting _ c.args.tables.now c.requires c.renew.new.self c.give_up.new.tables c.args.memory_refused.now c.renew.ensures c.give_up.ensures.tables)
