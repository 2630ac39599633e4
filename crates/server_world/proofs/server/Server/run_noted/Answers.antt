use Rattle.std.proofs.Common.{ap₂, true≢false, sym, ap, subst, ◌∙◌, refl, arith, ◌+◌, ◌∷◌, ◌++◌, [], take}
use Rattle.session_model.specs.Asked.{tag}
use Rattle.server_world.specs.Noting.{AreNoted, kept_places}
use Rattle.server_world.specs.Server.{seen_as, states}
use Rattle.server_world.specs.Runs.{AreSteps, tags}
use Rattle.server_world.proofs.RunLemmas.{steps_all, steps_more, steps_settings, tags_more}
use Rattle.std.proofs.lemmas.List.{take_all}
use Rattle.server_world.proofs.NotingLemmas.{if_stops, kept_are, noted_step, stops_at}
use Rattle.server_world.proofs.server.Server.run_noted.Goals as goal

pub loop-given-preserved : goal.loop-given-preserved
loop-given-preserved g c =
    let invariant = c.loop-given.invariant in
    let old = seen_as c.args.self.now in
    let now = seen_as c.loop-given.self in
    let next = seen_as c.entry-entry.new.self in
    let given = c.given-item.result in
    let entry = c.entry-entry.result in
    let before = tags (take c.loop-given.given-index c.args.list.now) in
    let more = tags_more c.args.list.now c.loop-given.given-index given (omega arith) c.given-item.is in
    let (note, right, put) = c.in_ok-note.ensures.ok in
    record {
      room = c.push_reserved.ensures.capacity ∙ invariant.room;
      filled = c.push_reserved.ensures.len ∙ ap (λ n. n + 1) invariant.filled;
      steps = subst (λ entries. AreSteps old (tags (take (c.loop-given.given-index + 1) c.args.list.now)) entries next) (sym c.push_reserved.ensures.items)
          (subst (λ ts. AreSteps old ts (c.loop-given.entries.items ++ entry ∷ []) next) (sym more)
          (steps_more old now next before c.loop-given.entries.items (tag given) entry invariant.steps c.entry-entry.ensures));
      noted = λ found. subst (λ notes. AreNoted (states old) (tags (take (c.loop-given.given-index + 1) c.args.list.now)) next notes) (sym put)
          (subst (λ ts. AreNoted (states old) ts next (c.loop-given.notes ++ note ∷ [])) (sym more)
          (noted_step old now next before c.loop-given.entries.items
          (tag given) entry c.loop-given.notes note invariant.steps c.entry-entry.ensures invariant.noted right found));
    }

pub returns-in_err-entries-clause-stopped : goal.returns-in_err-entries-clause-stopped
returns-in_err-entries-clause-stopped g c = if_stops _ (seen_as c.args.self.now) (seen_as c.args.self.now) (tags c.args.list.now)
    (record { count = 0; entries = []; steps = refl })

pub returns-in_err-note-clause-stopped : goal.returns-in_err-note-clause-stopped
returns-in_err-note-clause-stopped g c =
    if_stops _ (seen_as c.args.self.now) (seen_as c.loop-given.self) (tags c.args.list.now)
    (stops_at (seen_as c.args.self.now) (seen_as c.loop-given.self) c.args.list.now c.loop-given.given-index c.loop-given.entries.items
    c.loop-given.invariant.steps)

pub returns-in_err-places-clause-stopped : goal.returns-in_err-places-clause-stopped
returns-in_err-places-clause-stopped g c =
    if_stops _ (seen_as c.args.self.now) (seen_as c.loop-given.self) (tags c.args.list.now)
    (stops_at (seen_as c.args.self.now) (seen_as c.loop-given.self) c.args.list.now c.loop-given.given-index c.loop-given.entries.items
    c.loop-given.invariant.steps)

pub returns-clause-told : goal.returns-clause-told
returns-clause-told g c =
    let old = seen_as c.args.self.now in
    let new = seen_as c.loop-given.self in
    let found = sym c.memory_refused.ensures ∙ c.if-memory_refused.false in
    let whole = ap tags (take_all c.loop-given.given-index c.args.list.now (omega arith)) in
    record {
      refused = sym found;
      steps = steps_all old new c.args.list.now c.loop-given.given-index c.loop-given.entries.items _
          (omega arith) c.from_vec-lines.ensures c.loop-given.invariant.steps;
      kept = record {
        found = λ fine. c.in_ok-places.ensures
            ∙ kept_are (states old) (tags (take c.loop-given.given-index c.args.list.now)) new c.loop-given.notes c.args.session.now
            (c.loop-given.invariant.noted found)
            ∙ ap₂ (λ settings ts. kept_places settings (states old) ts c.args.session.now)
            (steps_settings old new (tags (take c.loop-given.given-index c.args.list.now)) c.loop-given.entries.items c.loop-given.invariant.steps) whole;
        none = λ refused. absurd (true≢false (sym refused));
      };
    }
