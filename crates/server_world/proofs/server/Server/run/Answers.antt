use Rattle.std.proofs.Common.{sym, ap, subst, ◌∙◌, inl, inr, arith, ◌+◌, ◌∷◌, ◌++◌, [], take}
use Rattle.session_model.specs.Asked.{tag}
use Rattle.server_world.specs.Server.{seen_as, settings}
use Rattle.server_world.specs.Runs.{AreSteps, tags}
use Rattle.server_world.proofs.RunLemmas.{isolated, steps_all, steps_blame, steps_kept, steps_more, steps_settings, steps_world, tags_more}
use Rattle.server_world.proofs.ServerLemmas.{knows_all}
use Rattle.server_world.proofs.SparedLemmas.{spared, spared_none}
use Rattle.server_world.proofs.server.Server.run.Goals as goal

pub loop-given-preserved : goal.loop-given-preserved
loop-given-preserved g c =
    let invariant = c.loop-given.invariant in
    let old = seen_as c.args.self.now in
    let next = seen_as c.entry.new.self in
    let given = c.given-item.result in
    let entry = c.entry.result in
    let before = tags (take c.loop-given.given-index c.args.list.now) in
    let more = tags_more c.args.list.now c.loop-given.given-index given (omega arith) c.given-item.is in
    record {
      room = c.push_reserved.ensures.capacity ∙ invariant.room;
      filled = c.push_reserved.ensures.len ∙ ap (λ n. n + 1) invariant.filled;
      steps = subst (λ entries. AreSteps old (tags (take (c.loop-given.given-index + 1) c.args.list.now)) entries next) (sym c.push_reserved.ensures.items)
          (subst (λ ts. AreSteps old ts (c.loop-given.entries.items ++ entry ∷ []) next) (sym more)
          (steps_more old (seen_as c.loop-given.self) next before c.loop-given.entries.items (tag given) entry invariant.steps c.entry.ensures));
    }

pub returns-clause-steps : goal.returns-clause-steps
returns-clause-steps g c =
    inl (steps_all (seen_as c.args.self.now) (seen_as c.loop-given.self) c.args.list.now c.loop-given.given-index c.loop-given.entries.items _
    (omega arith) c.from_vec.ensures c.loop-given.invariant.steps)

pub returns-clause-world : goal.returns-clause-world
returns-clause-world g c = λ found.
    steps_world (seen_as c.args.self.now) (seen_as c.loop-given.self) (tags c.args.list.now) _
    (steps_all (seen_as c.args.self.now) (seen_as c.loop-given.self) c.args.list.now c.loop-given.given-index c.loop-given.entries.items _
    (omega arith) c.from_vec.ensures c.loop-given.invariant.steps) (sym c.memory_refused.ensures ∙ found)

pub returns-clause-isolated : goal.returns-clause-isolated
returns-clause-isolated g c = λ found. isolated (seen_as c.args.self.now) (seen_as c.loop-given.self) (tags c.args.list.now) _ (returns-clause-world g c found)

pub returns-clause-spared : goal.returns-clause-spared
returns-clause-spared g c = λ s fine.
    spared (seen_as c.args.self.now) (seen_as c.loop-given.self) (tags c.args.list.now) _
    (steps_all (seen_as c.args.self.now) (seen_as c.loop-given.self) c.args.list.now c.loop-given.given-index c.loop-given.entries.items _
    (omega arith) c.from_vec.ensures c.loop-given.invariant.steps) s fine

pub returns-in_default-clause-spared : goal.returns-in_default-clause-spared
returns-in_default-clause-spared g c = λ s fine.
    spared_none (seen_as c.args.self.now) (seen_as c.note_memory_refused.new.self)
    (tags c.args.list.now) _ c.new.ensures c.note_memory_refused.ensures.refused s fine

pub returns-clause-blame : goal.returns-clause-blame
returns-clause-blame g c = λ was refused.
    inr (steps_blame (seen_as c.args.self.now) (seen_as c.loop-given.self) (tags c.args.list.now) _
    (steps_all (seen_as c.args.self.now) (seen_as c.loop-given.self) c.args.list.now c.loop-given.given-index c.loop-given.entries.items _
    (omega arith) c.from_vec.ensures c.loop-given.invariant.steps) was (sym c.memory_refused.ensures ∙ refused))

pub returns-clause-later : goal.returns-clause-later
returns-clause-later g c =
    let old = seen_as c.args.self.now in
    let new = seen_as c.loop-given.self in
    let ts = tags (take c.loop-given.given-index c.args.list.now) in
    record {
      settings = steps_settings old new ts c.loop-given.entries.items c.loop-given.invariant.steps;
      kept = steps_kept old new ts c.loop-given.entries.items c.loop-given.invariant.steps;
      knows = knows_all (settings new) new.engine;
      sound = c.law_sound-2.ensures.sound;
    }

pub returns-in_default-clause-later : goal.returns-in_default-clause-later
returns-in_default-clause-later g c = record {
  settings = c.note_memory_refused.ensures.settings;
  kept = λ was. c.note_memory_refused.ensures.refused.refused;
  knows = knows_all (settings (seen_as c.note_memory_refused.new.self)) (seen_as c.note_memory_refused.new.self).engine;
  sound = c.law_sound.ensures.sound;
}
