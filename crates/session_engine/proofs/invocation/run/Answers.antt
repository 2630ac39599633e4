use Rattle.std.proofs.Common.{refl, arith, ◌∙◌}
use Rattle.session_engine.proofs.Common.{settings_of, keeps_same, method_items, doing_at}
use Rattle.dispatch.proofs.ForCallers.{spent_is, OnOk-map, does_after, does_by, next_none}
use Rattle.session_engine.proofs.InvocationLemmas.{now_front, now_run, now_sent, now_spent}
use Rattle.session_engine.proofs.invocation.run.Goals as goal
use Rattle.session_engine.proofs.invocation.run.Goals.{else-not-method, then-not-method+else-output-eq0}

pub returns-then-output-eq0 : goal.returns-then-output-eq0
returns-then-output-eq0 g c =
    let caller = c.args.actor.now.caller in
    let settings = settings_of caller.setup.now in
    let old = c.args.tables.now in
    let before = c.args.output.now in
    let items = method_items c.args.object c.args.index 0 c.args.values.now 0 0 c.args.method.now in
    next_none caller _ old before (λ earlier. now_front settings items (doing_at caller.place old before earlier) c.args.method.now.is_signal) old
    c.use_up.new.self c.use_up.result (keeps_same old old caller.place refl) c.use_up.ensures.failing
    (OnOk-map c.use_up.result (λ e earlier. now_spent settings items (doing_at caller.place old before earlier) c.args.method.now.is_signal c.if-not-method.true
    (omega arith) ∙ spent_is caller.place old before c.use_up.new.self earlier e) c.use_up.ensures.told)

pub returns : goal.returns
returns g c =
    let caller = c.args.actor.now.caller in
    let settings = settings_of caller.setup.now in
    let old = c.args.tables.now in
    let before = c.args.output.now in
    let items = method_items c.args.object c.args.index 0 c.args.values.now 0 0 c.args.method.now in
    elim c.if-not-method.branch [
      | then-not-method+else-output-eq0 w ↦
          does_after caller _ old before _ old c.run_method.new.tables _ c.run_method.new.output c.run_method.result c.requires.placed
          (keeps_same old old caller.place refl) refl
          (λ earlier done. now_run settings items (doing_at caller.place old before earlier) c.args.method.now.is_signal w.if-not-method.true
          (omega (arith, w.if-output-eq0.false)) done)
          (rw w.output-is at c.run_method.ensures)
      | else-not-method w ↦
          does_by caller _ old before _ c.run_method.new.tables c.run_method.new.output c.run_method.result
          (λ earlier done. now_sent settings items (doing_at caller.place old before earlier) c.args.method.now.is_signal w.if-not-method.false done)
          (rw w.output-is at c.run_method.ensures)
    ]
