use Rattle.std.proofs.Common.{Ok, true, false, refl, sym, ap, ◌∙◌}
use Rattle.std.specs.Result.{result_err}
use Rattle.session_engine.proofs.Common.{view, in_state, ◌>>=◌, state_at, settings_of, keeps_same}
use Rattle.session_model.specs.Writing.{Declared, Nothing, dynamic_writing}
use Rattle.session_model.proofs.ForCallers.{refusal_set, nothing_written}
use Rattle.session_effects.specs.declared.announcing.PendingAnnouncements.TheVariants as news
use Rattle.session_engine.proofs.CommandsLemmas.{found_fault, or_first, or_second, quietly, starved, stopped}
use Rattle.session_engine.proofs.PropertiesLemmas.{asked_dynamic, asked_nothing, asked_value, dynamic_undeclared, performs_written, place_is, starved_written}
use Rattle.session_engine.proofs.PropertiesLemmas.{tells_none, written_fault}
use Rattle.session_engine.proofs.properties.set.Goals as goal

pub returns-in_err-class : goal.returns-in_err-class
returns-in_err-class g c = quietly c.requires.fresh
    (stopped c.in_err-class.field-0.0 _ c.from_residual.ensures.1 (refusal_set _ _ _ _ _ _ ∙ or_first _ _ _ c.in_err-class.ensures.refusal) refl)

-- a dynamic property: what is no value is refused, and then one too many
pub returns-in_err-value : goal.returns-in_err-value
returns-in_err-value g c =
    let state = state_at c.args.tables.now c.args.actor.now.caller.place in
    quietly c.requires.fresh (found_fault
    (λ found. result_err (found >>= dynamic_writing state c.args.object c.args.property.now)) _ c.in_err-value.field-0.0
    c.from_residual-in_err-value.ensures.1
    (refusal_set _ _ _ _ _ _ ∙ or_second _ _ c.in_ok-class.ensures.refusal
    ∙ ap result_err (asked_dynamic state c.args.object c.args.property.now (view c.args.value.now) (rw c.as_str.ensures at c.in_default.ensures)))
    (λ code. refl) c.in_err-value.ensures.exact)

pub returns-in_err-write_dynamic : goal.returns-in_err-write_dynamic
returns-in_err-write_dynamic g c =
    let state = state_at c.args.tables.now c.args.actor.now.caller.place in
    quietly c.requires.fresh (written_fault {U = Unit {0}} c.args.actor.now.caller _ c.args.tables.now c.write_dynamic.new.tables _ c.args.object
    _ (λ done. news.Nothing) c.in_err-write_dynamic.field-0.0 _ c.from_residual-in_err-write_dynamic.ensures.1
    (refusal_set _ _ _ _ _ _ ∙ or_second _ _ c.in_ok-class.ensures.refusal
    ∙ ap result_err (asked_dynamic state c.args.object c.args.property.now (view c.args.value.now) (rw c.as_str.ensures at c.in_default.ensures)
    ∙ ap (λ found. found >>= dynamic_writing state c.args.object c.args.property.now) c.in_ok-value.ensures.exact))
    c.in_err-write_dynamic.ensures.writes c.in_err-write_dynamic.ensures.refused c.in_err-write_dynamic.ensures.keeps.only)

pub returns-in_default : goal.returns-in_default
returns-in_default g c =
    let state = state_at c.args.tables.now c.args.actor.now.caller.place in
    let writes = c.in_ok-write_dynamic.ensures.writes in
    performs_written c.args.actor.now.caller c.args.object c.args.property.now
    (view c.args.value.now) c.args.tables.now c.write_dynamic.new.tables c.write_dynamic.new.tables c.args.output.now c.args.output.now writes.0 false
    news.Nothing
    (dynamic_undeclared state c.args.object c.args.property.now c.in_ok-value.value writes.0 writes.1)
    c.in_ok-class.ensures.refusal c.requires.fresh
    (asked_dynamic state c.args.object c.args.property.now (view c.args.value.now) (rw c.as_str.ensures at c.in_default.ensures)
    ∙ ap (λ found. found >>= dynamic_writing state c.args.object c.args.property.now) c.in_ok-value.ensures.exact ∙ writes.1)
    writes.2 c.requires.placed c.in_ok-write_dynamic.ensures.keeps tt (tells_none c.args.actor.now.caller c.write_dynamic.new.tables c.args.output.now)

-- null leaves a declared property as it is
pub returns-then-is_null : goal.returns-then-is_null
returns-then-is_null g c =
    let caller = c.args.actor.now.caller in
    let state = state_at c.args.tables.now caller.place in
    performs_written caller c.args.object c.args.property.now
    (view c.args.value.now) c.args.tables.now c.args.tables.now c.args.tables.now c.args.output.now c.args.output.now Nothing false news.Nothing refl
    c.in_ok-class.ensures.refusal c.requires.fresh
    (asked_nothing state c.args.object c.args.property.now (view c.args.value.now) _
    (place_is (c.in-Some.number, c.in-Some.kind) _ (rw c.as_str.ensures at c.in-Some.ensures)) (sym c.if-is_null.ensures))
    (λ depth doing. nothing_written (settings_of caller.setup.now) (in_state doing state) c.args.object depth) c.requires.placed (keeps_same _ _ _ refl) tt
    (tells_none caller c.args.tables.now c.args.output.now)

-- a declared property: what is no value of its kind is refused
pub returns-in_err-value-2 : goal.returns-in_err-value-2
returns-in_err-value-2 g c =
    let state = state_at c.args.tables.now c.args.actor.now.caller.place in
    quietly c.requires.fresh (found_fault
    (λ found. result_err (found >>= λ value. Ok (Declared c.in-Some.number value))) _ c.in_err-value-2.field-0.0 c.from_residual-in_err-value-2.ensures.1
    (refusal_set _ _ _ _ _ _ ∙ or_second _ _ c.in_ok-class.ensures.refusal
    ∙ ap result_err (asked_value state c.args.object c.args.property.now (view c.args.value.now) _
    (place_is (c.in-Some.number, c.in-Some.kind) _ (rw c.as_str.ensures at c.in-Some.ensures)) (sym c.if-is_null.ensures)))
    (λ code. refl) c.in_err-value-2.ensures.exact)

-- what it tells of may want memory that is not there
pub returns-in_err-news : goal.returns-in_err-news
returns-in_err-news g c = quietly c.requires.fresh (starved _ c.from_residual-in_err-news.ensures.1 c.write_declared.ensures.keeps.only)

pub returns-in_err-notify : goal.returns-in_err-notify
returns-in_err-notify g c =
    let caller = c.args.actor.now.caller in
    let state = state_at c.args.tables.now caller.place in
    starved_written caller c.args.object c.args.property.now (view c.args.value.now) c.args.tables.now c.write_declared.new.tables c.notify.new.tables
    c.args.output.now c.notify.new.output
    (Declared c.in-Some.number c.in_ok-value-2.value) true c.in_ok-news.news refl
    c.in_ok-class.ensures.refusal c.requires.fresh
    (asked_value state c.args.object c.args.property.now (view c.args.value.now) _
    (place_is (c.in-Some.number, c.in-Some.kind) _ (rw c.as_str.ensures at c.in-Some.ensures)) (sym c.if-is_null.ensures)
    ∙ ap (λ found. found >>= λ value. Ok (Declared c.in-Some.number value)) c.in_ok-value-2.ensures.exact)
    c.in_ok-news.ensures.writes c.requires.placed c.write_declared.ensures.keeps _ _ _ c.from_residual-in_err-notify.ensures.1 c.in_err-notify.ensures

-- and a value is written, and told of where it is another one
pub returns : goal.returns
returns g c =
    let caller = c.args.actor.now.caller in
    let state = state_at c.args.tables.now caller.place in
    performs_written caller c.args.object c.args.property.now
    (view c.args.value.now) c.args.tables.now c.write_declared.new.tables c.notify.new.tables c.args.output.now c.notify.new.output
    (Declared c.in-Some.number c.in_ok-value-2.value) true c.in_ok-news.news refl
    c.in_ok-class.ensures.refusal c.requires.fresh
    (asked_value state c.args.object c.args.property.now (view c.args.value.now) _
    (place_is (c.in-Some.number, c.in-Some.kind) _ (rw c.as_str.ensures at c.in-Some.ensures)) (sym c.if-is_null.ensures)
    ∙ ap (λ found. found >>= λ value. Ok (Declared c.in-Some.number value)) c.in_ok-value-2.ensures.exact)
    c.in_ok-news.ensures.writes c.requires.placed c.write_declared.ensures.keeps _ c.in_ok-notify.ensures
