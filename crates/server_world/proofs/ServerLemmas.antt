-- A server over its engine: when it has found memory refused, which names it knows, and what a command makes of it.
use Rattle.std.proofs.Common.{◌≡◌, ◌⊎◌, ◌&&◌, inl, inr, ℕ, Bool, true, false, true≢false, not, cond, List, [], ◌∷◌, ◌++◌, Option, Some, None, Result}
use Rattle.std.proofs.Common.{IfNone, IsErr, IsTrue, IsFalse, refl, sym, ap, subst, ◌∙◌, ⊎_elim}
use Rattle.std.specs.Prelude.{bytes_eq}
use Rattle.std.specs.List.{list_any}
use Rattle.std.specs.Option.{option_map_or}
use Rattle.std.specs.Result.{result_ok}
use Rattle.std.proofs.lemmas.Bool.{and_from, cases_Bool, cond-true, cond-false, both_ways, or_left, or_right, or_cases, or_parts}
use Rattle.std.proofs.lemmas.List.Folds.{list_any-append}
use Rattle.std.proofs.lemmas.Slice.Eq.{bytes_eq-Decides}
use Rattle.isolation.specs.Influence.{KnowsAll}
use Rattle.session_model.specs.declared.line.Line.{Line}
use Rattle.session_model.specs.Asked.{Asked}
use Rattle.session_model.specs.Machine.{machine}
use Rattle.session_model.specs.Named.{AreNamed}
use Rattle.session_model.specs.State.{empty}
use Rattle.session_model.specs.Thread.{Settings, joins_name}
use Rattle.session_tables.specs.Session.{Session, fresh}
use Rattle.session_tables.proofs.ForCallers.{after_posts-none, stays_failed}
use Rattle.session_tables.specs.Tables.{session_at}
use Rattle.session_engine.specs.Core as engine
use Rattle.session_engine.specs.Core.{EngineState, place}
use Rattle.session_engine.specs.Items.{BeginsAnew}
use Rattle.session_engine.specs.Sessions.{AreSound, AreWell, IsStep, is_reset}
use Rattle.session_engine.proofs.EngineLemmas.{position-any, position-None}
use Rattle.session_engine.proofs.ItemsLemmas.{none_of_err}
use Rattle.server_world.specs.Names.{with_name}
use Rattle.server_world.specs.Server.{Server, IsLost, StaysOut, failed, seen_by_name, sessions, settings, was_refused}

pub refused_in_engine : (server : Server) → IsTrue (engine.was_refused server.engine) → IsTrue (was_refused server)
unfolding was_refused
refused_in_engine server h = or_left _ _ h

refused_elsewhere : (server : Server) → IsTrue server.memory_refused → IsTrue (was_refused server)
unfolding was_refused
refused_elsewhere server h = or_right _ _ h

found_in_engine : (server : Server) → IsFalse (was_refused server) → IsFalse (engine.was_refused server.engine)
unfolding was_refused
found_in_engine server h = (or_parts _ _ h).0

found_elsewhere : (server : Server) → IsFalse (was_refused server) → IsFalse server.memory_refused
unfolding was_refused
found_elsewhere server h = (or_parts _ _ h).1

module _ (old new : Server) (same : new.memory_refused ≡ old.memory_refused) where
  -- a call that leaves the server's own mark keeps what was refused
  refusal_kept : (IsTrue (engine.was_refused old.engine) → IsTrue (engine.was_refused new.engine)) → IsTrue (was_refused old) → IsTrue (was_refused new)
  unfolding was_refused
  refusal_kept keeps was = ⊎_elim (λ inside. refused_in_engine new (keeps inside)) (λ outside. refused_elsewhere new (same ∙ outside)) (or_cases _ _ was)

  -- and where memory is refused first in it, the engine has met it
  refused_first : IsFalse (was_refused old) → IsTrue (was_refused new) → IsTrue (engine.was_refused new.engine)
  unfolding was_refused
  refused_first was now = ⊎_elim (λ inside. inside) (λ outside. absurd (both_ways _ (found_elsewhere old was) (sym same ∙ outside))) (or_cases _ _ now)

  -- so a step of the engine is one of the server
  step_of_engine : (name : List ℕ) (asked : Asked) (told : Option (List Line))
      → IsStep (engine.seen_by_name old.engine) (engine.seen_by_name new.engine) name asked told → IsStep (seen_by_name old) (seen_by_name new) name asked told
  step_of_engine name asked told step = record {
    lines = λ found. step.lines (found_in_engine new found);
    states = λ found. step.states (found_in_engine new found);
    tells = step.tells;
    leaves = step.leaves;
    refused = step.refused;
    posts = step.posts;
    posted = step.posted;
    front = step.front;
    others = step.others;
    settings = step.settings;
    kept = refusal_kept step.kept;
    memory = λ none. refused_in_engine new (step.memory none);
    blame = λ was now. step.blame (found_in_engine old was) (refused_first was now);
    well = λ found. step.well (found_in_engine old found);
    sound = step.sound;
    named = step.named;
  }

-- nothing is done for a name that could not be entered
step_out : (old new : Server) (name : List ℕ) (asked : Asked) → StaysOut old.engine new.engine name → AreWell (engine.seen_by_name old.engine)
    → AreSound (engine.seen_by_name old.engine) → IsStep (seen_by_name old) (seen_by_name new) name asked None
step_out old new name asked out well sound =
    let refused : IsTrue (was_refused new) = refused_in_engine new out.refused in
    record {
      lines = λ found. absurd (both_ways _ found refused);
      states = λ found. absurd (both_ways _ found refused);
      tells = tt;
      leaves = tt;
      refused = λ refused. tt;
      posts = [];
      posted = tt;
      front = λ none. (_, refl);
      others = λ other elsewhere. inl (ap (λ sessions. sessions other) out.sessions
          ∙ sym (after_posts-none (engine.settings old.engine).classes name (engine.sessions old.engine other)));
      settings = out.settings;
      kept = λ was. refused;
      memory = λ none. refused;
      blame = λ was now. inl refl;
      well = λ found. well (found_in_engine old found);
      sound = λ other.
          let same : AreSound (record { settings = engine.settings old.engine; session = engine.sessions new.engine; memory_refused = false }) =
          subst (λ (sessions : List ℕ → Session). AreSound
          (record { settings = engine.settings old.engine; session = sessions; memory_refused = false })) (sym out.sessions) sound in
          subst (λ (settings : Settings). AreSound (record { settings = settings; session = engine.sessions new.engine; memory_refused = false }))
          (sym out.settings) same other;
      named = λ is all. subst (λ (sessions : List ℕ → Session). (other : List ℕ) → AreNamed (sessions other).state) (sym out.sessions) all;
    }

-- what a server does whose engine enters a session, or cannot, and then does its command
module _ (old : Server) (entered : EngineState) (name : List ℕ) (asked : Asked) where
  abbrev with_engine : EngineState → Server
  with_engine engine = record { engine = engine; memory_refused = old.memory_refused }

  pub step_refused : {E : Type 0} (result : Result (List Line) E) → IsErr result → StaysOut old.engine entered name
      → AreWell (engine.seen_by_name old.engine) → AreSound (engine.seen_by_name old.engine)
      → IsStep (seen_by_name old) (seen_by_name (with_engine entered)) name asked (result_ok result)
  step_refused result failed out well sound = subst (IsStep (seen_by_name old) (seen_by_name (with_engine entered)) name asked)
      (sym (none_of_err result failed)) (step_out old (with_engine entered) name asked out well sound)

  pub step_entered : (new : EngineState) (told : Option (List Line)) → engine.seen_by_name entered ≡ engine.seen_by_name old.engine
      → IsStep (engine.seen_by_name entered) (engine.seen_by_name new) name asked told
      → IsStep (seen_by_name old) (seen_by_name (with_engine new)) name asked told
  step_entered new told seen step = step_of_engine old (with_engine new) refl name asked told
      (subst (λ sessions. IsStep sessions (engine.seen_by_name new) name asked told) seen step)

-- with a name that has a place the names stay, and one that has none goes last
pub with_name-there : (sessions : EngineState) (name : List ℕ) (at : ℕ) → place sessions name ≡ Some at
    → engine.names sessions ≡ with_name (engine.names sessions) name
with_name-there sessions name at there = sym (cond-true (list_any (bytes_eq name) sessions.names) _ _ (position-any (bytes_eq name) sessions.names at there))

pub with_name-new : (sessions : EngineState) (name : List ℕ) → place sessions name ≡ None
    → engine.names sessions ++ name ∷ [] ≡ with_name (engine.names sessions) name
with_name-new sessions name absent = sym (cond-false (list_any (bytes_eq name) sessions.names) _ _ (position-None (bytes_eq name) sessions.names absent))

-- a session that has had no command joins none
empty_joins_none : (name : List ℕ) → joins_name empty name ≡ false
unfolding joins_name
empty_joins_none name = refl

-- so the names of an engine are all that may have a join
pub knows_all : (settings : Settings) (sessions : EngineState) → KnowsAll (machine settings) (engine.states sessions) (engine.names sessions)
knows_all settings sessions name t joins = by (place sessions name) refl
  where
    by : (found : Option ℕ) → place sessions name ≡ found → list_any (bytes_eq name) sessions.names ≡ true
    by (Some at) there = position-any (bytes_eq name) sessions.names at there
    by None absent = absurd (both_ways _ (empty_joins_none t)
        (sym (ap (λ found. joins_name (option_map_or (session_at sessions.tables) found fresh).state t) absent) ∙ joins))

-- a session that has failed is there
pub failed_there : (sessions : EngineState) (name : List ℕ) → IsTrue (engine.failed sessions name) → list_any (bytes_eq name) (engine.names sessions) ≡ true
failed_there sessions name was = by (place sessions name) refl
  where
    by : (found : Option ℕ) → place sessions name ≡ found → list_any (bytes_eq name) sessions.names ≡ true
    by (Some at) there = position-any (bytes_eq name) sessions.names at there
    by None absent = absurd (true≢false (sym was ∙ ap (λ found. (option_map_or (session_at sessions.tables) found fresh).failed) absent))

-- a session that has failed stays so, unless it begins anew
pub failed_kept : (old new : Server) (name : List ℕ) (asked : Asked) (told : Option (List Line)) → IsStep (seen_by_name old) (seen_by_name new) name asked told
    → IfNone told (IsLost old new name) → (other : List ℕ) → IsTrue (failed old other)
    → IsTrue (failed new other) ⊎ IsTrue (bytes_eq other name && is_reset asked)
failed_kept old new name asked told step lost other was = ⊎_elim
    (λ here. ⊎_elim
    (λ reset. inr (and_from (bytes_eq other name) (is_reset asked) here reset))
    (λ plain.
    let same : other ≡ name = (bytes_eq-Decides other name).0 here in
    inl (subst (λ name. IsTrue (failed new name)) (sym same) (own told step lost plain (subst (λ name. IsTrue (failed old name)) same was))))
    (cases_Bool (is_reset asked)))
    (λ elsewhere. inl (stays_failed (settings old).classes name step.posts (sessions old other) (sessions new other) (step.others other elsewhere) was))
    (cases_Bool (bytes_eq other name))
  where
    own : (told : Option (List Line)) → IsStep (seen_by_name old) (seen_by_name new) name asked told → IfNone told (IsLost old new name)
        → is_reset asked ≡ false → IsTrue (failed old name) → IsTrue (failed new name)
    own (Some lines) step lost plain was = ap (λ session. session.failed) step.leaves ∙ ap (λ failed. failed && not (is_reset asked)) was ∙ ap not plain
    own None step lost plain was = ⊎_elim
        (λ failed_session. ap (λ session. session.failed) failed_session)
        (λ out. ap (λ sessions. (sessions name).failed) out.sessions ∙ was)
        lost

-- a name that is known stays so with another one
pub named_more : (p : List ℕ → Bool) (names : List (List ℕ)) (name : List ℕ) → list_any p names ≡ true → list_any p (with_name names name) ≡ true
named_more p names name known = by (list_any (bytes_eq name) names)
  where
    by : (there : Bool) → list_any p (cond there names (names ++ name ∷ [])) ≡ true
    by true = known
    by false = list_any-append p names (name ∷ []) ∙ or_left (list_any p names) _ known

-- and the other one is known then
pub named_itself : (names : List (List ℕ)) (name : List ℕ) → list_any (bytes_eq name) (with_name names name) ≡ true
named_itself names name = by (list_any (bytes_eq name) names) refl
  where
    by : (there : Bool) → list_any (bytes_eq name) names ≡ there → list_any (bytes_eq name) (cond there names (names ++ name ∷ [])) ≡ true
    by true e = e
    by false e = list_any-append (bytes_eq name) names (name ∷ [])
        ∙ or_right (list_any (bytes_eq name) names) _ (or_left (bytes_eq name name) false ((bytes_eq-Decides name name).1 refl))

-- no further name is
pub named_by : (names : List (List ℕ)) (name other : List ℕ) → list_any (bytes_eq other) (with_name names name) ≡ true
    → (list_any (bytes_eq other) names ≡ true) ⊎ (other ≡ name)
named_by names name other known = by (list_any (bytes_eq name) names) known
  where
    by : (there : Bool) → list_any (bytes_eq other) (cond there names (names ++ name ∷ [])) ≡ true → (list_any (bytes_eq other) names ≡ true) ⊎ (other ≡ name)
    by true e = inl e
    by false e = ⊎_elim
        (λ old. inl old)
        (λ new. ⊎_elim (λ same. inr ((bytes_eq-Decides other name).0 same)) (λ none. absurd (true≢false (sym none))) (or_cases (bytes_eq other name) false new))
        (or_cases (list_any (bytes_eq other) names) _ (sym (list_any-append (bytes_eq other) names (name ∷ [])) ∙ e))

-- a session that is not there is where it would be put
pub anew_absent : (server : Server) (name : List ℕ) → place server.engine name ≡ None → AreSound (engine.seen_by_name server.engine)
    → BeginsAnew (seen_by_name server) (seen_by_name server) name
anew_absent server name absent sound = record {
  fresh = ap (λ found. option_map_or (session_at server.engine.tables) found fresh) absent;
  others = λ other elsewhere. refl;
  settings = refl;
  memory = refl;
  sound = sound;
}
