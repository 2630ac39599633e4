use Rattle.std.proofs.Common.{sym, ◌∙◌}
use Rattle.server_world.specs.Server.{seen_as, settings}
use Rattle.server_world.specs.Runs.{tags}
use Rattle.server_world.proofs.NotingLemmas.{stops_settings}
use Rattle.server_world.proofs.RunLemmas.{isolated, steps_kept, steps_settings, steps_world}
use Rattle.server_world.proofs.ServerLemmas.{knows_all}
use Rattle.server_world.proofs.SparedLemmas.{spared}
use Rattle.server_world.proofs.server.Server.run_kept.Goals as goal

pub returns-in-Ok-clause-world : goal.returns-in-Ok-clause-world
returns-in-Ok-clause-world g c = λ found.
    let told = c.in-Ok.ensures.told in
    steps_world (seen_as c.args.self.now) (seen_as c.run_noted.new.self) (tags c.args.list.now) c.in-Ok.told.0.lines told.steps (sym told.refused ∙ found)

pub returns-in-Ok-clause-isolated : goal.returns-in-Ok-clause-isolated
returns-in-Ok-clause-isolated g c = λ found.
    isolated (seen_as c.args.self.now) (seen_as c.run_noted.new.self) (tags c.args.list.now) c.in-Ok.told.0.lines (returns-in-Ok-clause-world g c found)

pub returns-in-Ok-clause-spared : goal.returns-in-Ok-clause-spared
returns-in-Ok-clause-spared g c = λ s fine.
    spared (seen_as c.args.self.now) (seen_as c.run_noted.new.self) (tags c.args.list.now) c.in-Ok.told.0.lines c.in-Ok.ensures.told.steps s fine

pub returns-in-Ok-clause-later : goal.returns-in-Ok-clause-later
returns-in-Ok-clause-later g c =
    let old = seen_as c.args.self.now in
    let new = seen_as c.run_noted.new.self in
    let steps = c.in-Ok.ensures.told.steps in
    record {
      settings = steps_settings old new (tags c.args.list.now) c.in-Ok.told.0.lines steps;
      kept = steps_kept old new (tags c.args.list.now) c.in-Ok.told.0.lines steps;
      knows = knows_all (settings new) new.engine;
      sound = c.law_sound.ensures.sound;
    }

pub returns-in-Err-clause-later : goal.returns-in-Err-clause-later
returns-in-Err-clause-later g c =
    let new = seen_as c.note_memory_refused.new.self in
    record {
      settings = c.note_memory_refused.ensures.settings ∙ stops_settings (seen_as c.args.self.now) (seen_as c.run_noted.new.self)
          (tags c.args.list.now) c.in-Err.ensures.stopped;
      kept = λ was. c.note_memory_refused.ensures.refused.refused;
      knows = knows_all (settings new) new.engine;
      sound = c.law_sound-in-Err.ensures.sound;
    }
