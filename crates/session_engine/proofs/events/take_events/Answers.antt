use Rattle.std.proofs.Common.{[], ◌∷◌, ap, refl, sym, arith}
use Rattle.event_queue.specs.declared.table.Counts.{Counts}
use Rattle.session_model.specs.Agenda.{event_items}
use Rattle.session_effects.proofs.ForCallers.{keeps_with, placed_kept}
use Rattle.dispatch.proofs.ForCallers.{OnOk-map, far_end, far_last, far_next, far_none, far_wanting, placed_reached, part_front}
use Rattle.std.proofs.lemmas.Grind.{common_steps}
use Rattle.session_engine.proofs.Common.{Spin, state_at, settings_of, keeps_same, doing_at, does_none, here}
use Rattle.session_engine.proofs.EventsLemmas.{event_taken, few_taken, spin_ends, spin_goes_on, spin_spent, turns_left, with_event_taken}
use Rattle.session_engine.proofs.events.take_events.Goals as goal

pub returns-then-output-eq0 : goal.returns-then-output-eq0
returns-then-output-eq0 g c =
    let caller = c.args.actor.now.caller in
    let now = c.events.tables in
    let between = c.events.output in
    far_last caller _ c.args.tables.now c.args.output.now c.requires.placed _ now between c.events.invariant.so
    (here caller (Spin ∷ []) now between) now c.use_up.new.self c.use_up.result
    (does_none caller (Spin ∷ []) now between now c.use_up.new.self c.use_up.result (keeps_same now now caller.place refl) c.use_up.ensures.failing
    (OnOk-map c.use_up.result
    (λ e earlier. spin_spent (settings_of caller.setup.now) caller.place now between c.use_up.new.self earlier
    (let waits = ap (λ (counts : Counts). counts.queued) c.counts.ensures.counts in omega (arith, waits, c.events-test.true)) (omega arith) e)
    c.use_up.ensures.told))
    (λ posts done e. e)

pub returns-in_err-deliver : goal.returns-in_err-deliver
returns-in_err-deliver g c =
    let caller = c.args.actor.now.caller in
    let settings = settings_of caller.setup.now in
    let middle = c.take_event.new.self in
    let taken = with_event_taken c.events.output in
    let items = event_items settings (state_at middle caller.place) c.in-Some.event in
    far_wanting caller _ c.args.tables.now c.args.output.now c.requires.placed _ middle taken
    (event_taken caller c.args.tables.now c.events.tables middle c.args.output.now c.events.output c.requires.placed c.events.invariant.placed
    c.events.invariant.so c.take_event.ensures.rest c.in-Some.event (sym c.in-Some.ensures.first) (omega arith))
    (here caller items middle taken) c.deliver.new.tables c.deliver.new.output _ _ c.from_residual.ensures.0 c.in_err-deliver.ensures
    (λ posts. part_front settings (Spin ∷ []) _ _ (spin_goes_on settings items (doing_at caller.place middle taken posts) _ _ refl refl))

pub events-smaller : goal.events-smaller
events-smaller g c =
    let settings = settings_of c.args.actor.now.caller.setup.now in
    let place = c.args.actor.now.caller.place in
    let left = turns_left settings (event_items settings (state_at c.take_event.new.self place) c.in-Some.event) place c.take_event.new.self
    c.deliver.new.tables (with_event_taken c.events.output) c.deliver.new.output [] _ (c.in_ok-deliver.ensures.runs []) in
    omega (arith, left)

pub events-preserved : goal.events-preserved
events-preserved g c =
    let caller = c.args.actor.now.caller in
    let settings = settings_of caller.setup.now in
    let place = caller.place in
    let middle = c.take_event.new.self in
    let taken = with_event_taken c.events.output in
    let items = event_items settings (state_at middle place) c.in-Some.event in
    let few = few_taken settings items place middle c.deliver.new.tables taken c.deliver.new.output [] _ (c.in_ok-deliver.ensures.runs []) in
    let still = placed_kept _ _ _ (keeps_with _ _ _ _ c.events.invariant.placed c.take_event.ensures.rest) c.events.invariant.placed in
    record {
      so = far_next caller _ c.args.tables.now c.args.output.now c.requires.placed _ middle taken
          (event_taken caller c.args.tables.now c.events.tables middle c.args.output.now c.events.output c.requires.placed c.events.invariant.placed
          c.events.invariant.so c.take_event.ensures.rest c.in-Some.event (sym c.in-Some.ensures.first) (omega arith))
          (here caller items middle taken) c.deliver.new.tables c.deliver.new.output _
          (here caller (Spin ∷ []) c.deliver.new.tables c.deliver.new.output) c.in_ok-deliver.ensures
          (λ posts more done. spin_goes_on settings items (doing_at place middle taken posts)
          (doing_at place c.deliver.new.tables c.deliver.new.output more) done);
      placed = placed_reached caller middle c.deliver.new.tables _ _ _ c.deliver.ensures.reaches still;
      few = omega (arith, few, c.events.invariant.few);
    }

pub returns : goal.returns
returns g c =
    let caller = c.args.actor.now.caller in
    far_end caller _ c.args.tables.now c.args.output.now c.requires.placed _ c.events.tables c.events.output _ c.events.invariant.so
    (λ posts done. spin_ends (settings_of caller.setup.now) (doing_at caller.place c.events.tables c.events.output posts) done
    (let waits = ap (λ (counts : Counts). counts.queued) c.counts.ensures.counts in omega (arith, waits, c.events-test.false)))

pub events-init : goal.events-init
events-init g c =
    let caller = c.args.actor.now.caller in
    let old = c.args.tables.now in
    record {
      so = far_none caller _ old c.args.output.now c.requires.placed _ old c.args.output.now (keeps_same old old caller.place refl) refl (λ earlier. refl);
      placed = c.requires.placed;
      few = omega (arith, c.requires.none);
    }

pub unreachable-requires : goal.unreachable-requires
unreachable-requires g c = grind (arith, common_steps)
