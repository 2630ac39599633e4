use Rattle.std.proofs.lemmas.Grind.{common_steps}
use Rattle.std.proofs.Common.{arith, ◌≡◌, ◌++◌, ◌∷◌, [], Some, true, sym, ap, subst, ◌∙◌}
use Rattle.session_engine.proofs.Common.{IsWhole, engine_state, place, sessions}
use Rattle.session_engine.specs.Core.{settings}
use Rattle.session_engine.proofs.EngineLemmas.{entered_place, entered_sessions, entered_whole, insert_key-new, sessions-same, sound_still, whole_marked}
use Rattle.session_engine.proofs.EngineLemmas.{whole_same}
use Rattle.session_engine.proofs.engine.Core.open.Goals as goal

pub returns-in_err-ready-clause-sessions : goal.returns-in_err-ready-clause-sessions
returns-in_err-ready-clause-sessions c = sessions-same (engine_state c.self.inside.setup c.self.inside.names.keys c.self.inside.tables true)
    c.ready.new.self c.ready.ensures.same ∙ ap sessions c.self.view_is

pub returns-in_err-name-clause-sessions : goal.returns-in_err-name-clause-sessions
returns-in_err-name-clause-sessions c = sessions-same (engine_state c.self.inside.setup c.self.inside.names.keys c.self.inside.tables true)
    c.ready.new.self c.ready.ensures.same ∙ ap sessions c.self.view_is

pub returns-in_err-insert-clause-sessions : goal.returns-in_err-insert-clause-sessions
returns-in_err-insert-clause-sessions c =
    let same : c.insert.new.self.keys ≡ c.self.inside.names.keys = grind (arith, common_steps) in
    subst (λ keys. sessions (engine_state c.self.inside.setup keys c.ready.new.self true) ≡ sessions c.args.self.now) (sym same)
    (sessions-same (engine_state c.self.inside.setup c.self.inside.names.keys c.self.inside.tables true) c.ready.new.self c.ready.ensures.same
    ∙ ap sessions c.self.view_is)

pub invariant_of-self-in_err-insert : goal.invariant_of-self-in_err-insert
invariant_of-self-in_err-insert c =
    let same : c.insert.new.self.keys ≡ c.self.inside.names.keys = grind (arith, common_steps) in
    subst (λ keys. IsWhole (engine_state c.self.inside.setup keys c.ready.new.self true)) (sym same)
    (whole_same (engine_state c.self.inside.setup c.self.inside.names.keys c.self.inside.tables true) c.ready.new.self c.ready.ensures.same
    (whole_marked _ c.self.invariant))

pub invariant_of-self-2 : goal.invariant_of-self-2
invariant_of-self-2 c =
    entered_whole _ c.ready.new.self c.open.new.self c.args.name.now _ c.insert.new.self.keys c.ready.ensures.same c.self.invariant
    (ap (λ engine. place engine c.args.name.now) c.self.view_is ∙ c.requires)
    c.in_ok-name.ensures c.in_ok-insert.ensures.keys c.open.ensures.opened

pub returns-clause-place : goal.returns-clause-place
returns-clause-place c =
    entered_place _ c.ready.new.self c.open.new.self c.args.name.now _ c.insert.new.self.keys c.ready.ensures.same c.self.invariant
    (ap (λ engine. place engine c.args.name.now) c.self.view_is ∙ c.requires)
    c.in_ok-name.ensures c.in_ok-insert.ensures.keys c.open.ensures.opened ∙ ap Some (sym c.open.ensures.place)

pub returns-clause-sessions : goal.returns-clause-sessions
returns-clause-sessions c =
    entered_sessions _ c.ready.new.self c.open.new.self c.args.name.now _ c.insert.new.self.keys c.ready.ensures.same c.self.invariant
    (ap (λ engine. place engine c.args.name.now) c.self.view_is ∙ c.requires)
    c.in_ok-name.ensures c.in_ok-insert.ensures.keys c.open.ensures.opened ∙ ap sessions c.self.view_is

pub returns-clause-names : goal.returns-clause-names
returns-clause-names c =
    c.in_ok-insert.ensures.keys ∙ insert_key-new _ _ _ c.in_ok-name.ensures
    (ap (λ engine. place engine c.args.name.now) c.self.view_is ∙ c.requires)
    ∙ ap (λ engine. engine.names ++ c.args.name.now ∷ []) c.self.view_is

pub returns-clause-sound : goal.returns-clause-sound
returns-clause-sound c =
    sound_still c.args.self.now (engine_state c.self.inside.setup c.insert.new.self.keys c.open.new.self c.self.inside.memory_refused)
    (entered_sessions _ c.ready.new.self c.open.new.self c.args.name.now _ c.insert.new.self.keys c.ready.ensures.same c.self.invariant
    (ap (λ engine. place engine c.args.name.now) c.self.view_is ∙ c.requires)
    c.in_ok-name.ensures c.in_ok-insert.ensures.keys c.open.ensures.opened ∙ ap sessions c.self.view_is)
    (ap settings c.self.view_is) c.law_sound.ensures.sound
