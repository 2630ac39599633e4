-- What changes of an engine by places change of its sessions by names.
use Rattle.std.proofs.Common.{◌≡◌, ℕ, ◌+◌, ◌<◌, ◌≤◌, Bool, true, false, true≢false, not, cond, List, [], ◌∷◌, ◌++◌, Some, None, length, position, get_or}
use Rattle.std.proofs.Common.{slice_get, eqb, ltb, refl, sym, ap, ap₂, subst, ◌∙◌, ⊎_elim, arith}
use Rattle.std.specs.Prelude.{bytes_eq}
use Rattle.std.specs.List.{list_any, position_or_len}
use Rattle.std.specs.Option.{option_map_or}
use Rattle.std.proofs.Math.Path.{fun_ext}
use Rattle.std.proofs.lemmas.Bool.{cases_Bool, cond-true, cond-false}
use Rattle.std.proofs.lemmas.Grind.{common_steps}
use Rattle.std.proofs.lemmas.Bool.Decides.{nat_tests}
use Rattle.std.proofs.Math.Seq.{get_or-append_seam}
use Rattle.std.proofs.lemmas.List.{get_or_append_left, length-append}
use Rattle.std.proofs.lemmas.List.Folds.{position_or_len_push}
use Rattle.std.proofs.lemmas.List.Sums.{prefix_len-le-length}
use Rattle.std.proofs.lemmas.List.Quantifiers.{position-Some}
use Rattle.std.proofs.lemmas.Option.{slice_get-get_or}
use Rattle.std.proofs.lemmas.Slice.Eq.{bytes_eq-Decides}
use Rattle.session_engine.proofs.Common.{fields_in, AreSettings, Tables, Session, fresh, IsPlaced, session_at, session_past, EngineState, IsKept, IsWhole}
use Rattle.session_engine.proofs.Common.{place, seen_by_name, sessions, AreSound}
use Rattle.indexmap.specs.IndexSet.{insert_key}
use Rattle.property_store.specs.declared.field.Field.{Field}
use Rattle.session_model.specs.State.{fields_of}
use Rattle.session_model.specs.Thread.{Settings}
use Rattle.session_tables.specs.Tables as tables
use Rattle.session_tables.specs.Tables.{AreEven, AreSame}
use Rattle.session_tables.proofs.ForCallers.{even_opened, even_same, placed_by, session_opened, session_same}
use Rattle.session_engine.specs.Sessions.{IsSoundSession}
use Rattle.session_engine.proofs.SessionLemmas.{kept_fresh}

-- where nothing has a place, nothing passes
none_passes : {X : Type 0} (p : X → Bool) (xs : List X) → length xs ≤ position_or_len p xs → list_any p xs ≡ false
none_passes p [] past = refl
none_passes p (x ∷ xs) past =
    ⊎_elim (λ e. absurd (grind (arith, e, past))) (λ e. grind (arith, e, none_passes p xs (grind (arith, e, past)))) (cases_Bool (p x))

pub position-None : {X : Type 0} (p : X → Bool) (xs : List X) → position p xs ≡ None → list_any p xs ≡ false
position-None p xs e = none_passes p xs (grind (arith, common_steps))

some_passes : {X : Type 0} (p : X → Bool) (xs : List X) → position_or_len p xs < length xs → list_any p xs ≡ true
some_passes p [] within = absurd (omega arith)
some_passes p (x ∷ xs) within =
    ⊎_elim (λ e. grind (arith, e)) (λ e. grind (arith, e, some_passes p xs (grind (arith, e, within)))) (cases_Bool (p x))

-- and what has one passes
pub position-any : {X : Type 0} (p : X → Bool) (xs : List X) (i : ℕ) → position p xs ≡ Some i → list_any p xs ≡ true
position-any p xs i e = some_passes p xs (grind (arith, common_steps))

-- a name that has no place goes last
pub insert_key-new : (names : List (List ℕ)) (name copy : List ℕ) → copy ≡ name → position (bytes_eq name) names ≡ None
    → insert_key bytes_eq names copy ≡ names ++ name ∷ []
insert_key-new names name copy equal absent =
    ap (insert_key bytes_eq names) equal ∙ cond-false (list_any (bytes_eq name) names) _ _ (position-None (bytes_eq name) names absent)

-- the first place that has a name, or the end
first : EngineState → List ℕ → ℕ
first engine name = position_or_len (bytes_eq name) engine.names

at_first : {X : Type 0} (f : ℕ → X) (found : Bool) (i : ℕ) (default : X) → (found ≡ false → default ≡ f i)
    → option_map_or f (cond found (Some i) None) default ≡ f i
at_first f true i default past = refl
at_first f false i default past = past refl

sessions-first : (engine : EngineState) (name : List ℕ) → IsWhole engine → sessions engine name ≡ session_at engine.tables (first engine name)
unfolding first
sessions-first engine name whole =
    at_first (session_at engine.tables) _ (position_or_len (bytes_eq name) engine.names) fresh
    (λ past. sym (session_past engine.tables _ whole.even (grind (arith, common_steps, whole.paired))))

-- the session at a place of a name is the name's
pub sessions-place : (engine : EngineState) (name : List ℕ) (at : ℕ) → place engine name ≡ Some at → sessions engine name ≡ session_at engine.tables at
sessions-place engine name at there = ap (λ found. option_map_or (session_at engine.tables) found fresh) there

-- a name's place is open in every table
pub placed : (engine : EngineState) (name : List ℕ) (at : ℕ) → IsWhole engine → place engine name ≡ Some at → IsPlaced engine.tables at
placed engine name at whole there =
    let within : at < length engine.names = (position-Some (bytes_eq name) engine.names at [] there).0 in
    placed_by engine.tables at whole.even (omega (arith, within, whole.paired))

-- two names with one place are one
pub one_name : (engine : EngineState) (name other : List ℕ) (at : ℕ) → place engine name ≡ Some at → place engine other ≡ Some at → name ≡ other
one_name engine name other at there there' =
    let found = position-Some (bytes_eq name) engine.names at [] there in
    let found' = position-Some (bytes_eq other) engine.names at [] there' in
    (bytes_eq-Decides name _).0 found.1 ∙ sym ((bytes_eq-Decides other _).0 found'.1)

-- so the name at its place is this one
pub named_at : (engine : EngineState) (name : List ℕ) (at : ℕ) (given : List ℕ) → place engine name ≡ Some at → Some given ≡ slice_get engine.names at
    → name ≡ given
named_at engine name at given there is =
    let found = position-Some (bytes_eq name) engine.names at [] there in
    let same : Some given ≡ Some (get_or engine.names at []) = is ∙ slice_get-get_or engine.names at [] found.0 in
    let own : name ≡ get_or engine.names at [] = (bytes_eq-Decides name _).0 found.1 in
    cc

-- what holds of each session holds of that of a name
pub kept_by_name : (engine : EngineState) (name : List ℕ) → IsWhole engine → IsKept engine.settings engine.memory_refused (sessions engine name)
kept_by_name engine name whole = subst (IsKept engine.settings engine.memory_refused) (sym (sessions-first engine name whole)) (whole.kept (first engine name))

-- so all are sound
pub sound_by_name : (engine : EngineState) → IsWhole engine → AreSound (seen_by_name engine)
sound_by_name engine whole = λ name. (kept_by_name engine name whole).sound

-- and they stay so where none of them changes
pub sound_still : (old new : EngineState) → sessions new ≡ sessions old → new.settings ≡ old.settings → AreSound (seen_by_name old)
    → AreSound (seen_by_name new)
sound_still old new same fixed sound = λ name.
    subst (λ (settings : Settings). IsSoundSession settings (sessions new name)) (sym fixed)
    (subst (λ (sessions : List ℕ → Session). IsSoundSession old.settings (sessions name)) (sym same) (sound name))

-- where a name is, it is the first
first_at : (p : List ℕ → Bool) (names : List (List ℕ)) (at : ℕ) → position p names ≡ Some at → (position_or_len p names ≡ at) × (at < length names)
first_at p names at found = by (ltb (position_or_len p names) (length names)) refl found
  where
    by : (within : Bool) → ltb (position_or_len p names) (length names) ≡ within → cond within (Some (position_or_len p names)) None ≡ Some at
        → (position_or_len p names ≡ at) × (at < length names)
    by true e f = let is : position_or_len p names ≡ at = cc in (is, grind (arith, nat_tests, e, is))
    by false e f = absurd (cc)

-- a new name that goes last leaves every name at its place
named_opened : (names : List (List ℕ)) (name : List ℕ) → position (bytes_eq name) names ≡ None
    → ((at : ℕ) → at < length names → position (bytes_eq (get_or names at [])) names ≡ Some at)
    → (at : ℕ) → at < length (names ++ name ∷ []) → position (bytes_eq (get_or (names ++ name ∷ []) at [])) (names ++ name ∷ []) ≡ Some at
named_opened names name absent named at within = by (ltb at (length names)) refl
  where
    longer : length (names ++ name ∷ []) ≡ length names + 1
    longer = length-append names (name ∷ [])

    found_at : (p : List ℕ → Bool) → position_or_len p (names ++ name ∷ []) ≡ at → position p (names ++ name ∷ []) ≡ Some at
    found_at p is = let less : ltb (position_or_len p (names ++ name ∷ [])) (length (names ++ name ∷ [])) ≡ true = grind (arith, nat_tests, is, within) in
        cond-true _ _ _ less ∙ ap Some is

    by : (old : Bool) → ltb at (length names) ≡ old → position (bytes_eq (get_or (names ++ name ∷ []) at [])) (names ++ name ∷ []) ≡ Some at
    by true e =
        let less : at < length names = grind (arith, nat_tests, e) in
        let it = get_or names at [] in
        let was = first_at (bytes_eq it) names at (named at less) in
        let apart : eqb (position_or_len (bytes_eq it) names) (length names) ≡ false = grind (arith, nat_tests, was.0, less) in
        ap (λ (it : List ℕ). position (bytes_eq it) (names ++ name ∷ [])) (get_or_append_left names (name ∷ []) [] at less)
        ∙ found_at (bytes_eq it) (position_or_len_push (bytes_eq it) names name
        ∙ cond-false (eqb (position_or_len (bytes_eq it) names) (length names)) _ _ apart ∙ was.0)
    by false e =
        let last : at ≡ length names = grind (arith, nat_tests, e, longer, within) in
        let bound = prefix_len-le-length (λ other. not (bytes_eq name other)) names in
        let end : position_or_len (bytes_eq name) names ≡ length names = grind (arith, absent, bound) in
        let itself : bytes_eq name name ≡ true = (bytes_eq-Decides name name).1 refl in
        let is : get_or (names ++ name ∷ []) at [] ≡ name = ap (λ at. get_or (names ++ name ∷ []) at []) last ∙ get_or-append_seam names name [] [] in
        ap (λ (it : List ℕ). position (bytes_eq it) (names ++ name ∷ [])) is
        ∙ found_at (bytes_eq name) (position_or_len_push (bytes_eq name) names name ∙ grind (arith, itself, end, last))

-- with one more session
abbrev opened : EngineState → List ℕ → EngineState
opened engine name = record {
  settings = engine.settings;
  names = engine.names ++ name ∷ [];
  tables = tables.opened engine.tables;
  memory_refused = engine.memory_refused;
}

module _ (engine : EngineState) (whole : IsWhole engine) where
  -- a new place changes no session: the new one is fresh, and was so before
  pub whole_opened : (name : List ℕ) → place engine name ≡ None → IsWhole (opened engine name)
  whole_opened name absent = record {
    settings = whole.settings;
    even = even_opened engine.tables whole.even;
    paired = grind (arith, common_steps, whole.paired);
    named = named_opened engine.names name absent whole.named;
    laid = whole.laid;
    kept = λ at. subst (IsKept engine.settings engine.memory_refused) (sym (session_opened engine.tables at)) (whole.kept at);
  }

  pub sessions-opened : (name other : List ℕ) → place engine name ≡ None → sessions (opened engine name) other ≡ sessions engine other
  unfolding first
  sessions-opened name other absent =
      let old = first engine other in
      let new = first (opened engine name) other in
      let more : new ≡ cond (eqb old (length engine.names)) (length engine.names + cond (bytes_eq other name) 0 1) old =
      position_or_len_push (bytes_eq other) engine.names name in
      let same : session_at engine.tables new ≡ session_at engine.tables old =
      ⊎_elim
      (λ last. session_past engine.tables new whole.even (grind (arith, more, last, whole.paired))
      ∙ sym (session_past engine.tables old whole.even (grind (arith, last, whole.paired))))
      (λ inner. ap (session_at engine.tables) (more ∙ cond-false (eqb old (length engine.names)) _ _ inner))
      (cases_Bool (eqb old (length engine.names)))
      in
      sessions-first (opened engine name) other (whole_opened name absent) ∙ session_opened engine.tables new ∙ same ∙ sym (sessions-first engine other whole)

-- the engine once memory was refused
abbrev pub marked : EngineState → EngineState
marked engine = record { settings = engine.settings; names = engine.names; tables = engine.tables; memory_refused = true }

pub whole_marked : (engine : EngineState) → IsWhole engine → IsWhole (marked engine)
whole_marked engine whole = record {
  settings = whole.settings;
  even = whole.even;
  paired = whole.paired;
  named = whole.named;
  laid = whole.laid;
  kept = λ at. record { well = λ found. absurd (true≢false found); sound = (whole.kept at).sound };
}

-- the engine with other tables
abbrev pub with_tables : EngineState → Tables → EngineState
with_tables engine tables = record { settings = engine.settings; names = engine.names; tables = tables; memory_refused = engine.memory_refused }

-- more room changes no session
pub whole_same : (engine : EngineState) (ready : Tables) → AreSame engine.tables ready → IsWhole engine → IsWhole (with_tables engine ready)
whole_same engine ready same whole = record {
  settings = whole.settings;
  even = even_same engine.tables ready same whole.even;
  paired = whole.paired ∙ sym (ap length same.failed);
  named = whole.named;
  laid = λ class. ap (λ layouts. fields_in layouts class) same.layouts ∙ whole.laid class;
  kept = λ at. subst (IsKept engine.settings engine.memory_refused) (sym (session_same engine.tables ready at same)) (whole.kept at);
}

pub sessions-same : (engine : EngineState) (ready : Tables) → AreSame engine.tables ready → sessions (with_tables engine ready) ≡ sessions engine
sessions-same engine ready same =
    ap (λ (session : ℕ → Session). λ name. option_map_or session (place engine name) fresh) (fun_ext (λ at. session_same engine.tables ready at same))

-- with no place there is none to speak of
pub whole_new : (settings : Settings) → AreSettings settings → (names : List (List ℕ)) (layouts : List (List Field)) (tables : Tables) → names ≡ []
    → tables.forests.places ≡ [] → tables.stores.shelves.table.places ≡ [] → tables.stores.graphs.places ≡ [] → tables.connections.places ≡ []
    → tables.queues.places ≡ [] → tables.desks.places ≡ [] → tables.failed.places ≡ []
    → tables.stores.shelves.layouts ≡ layouts → ((class : ℕ) → fields_in layouts class ≡ fields_of settings.classes class)
    → IsWhole (record { settings = settings; names = names; tables = tables; memory_refused = false })
whole_new settings are names layouts tables no_names forests stores graphs connections queues desks failed same laid =
    let even : AreEven tables = record {
      forests = ap length forests ∙ sym (ap length failed);
      stores = ap length stores ∙ sym (ap length failed);
      graphs = ap length graphs ∙ sym (ap length failed);
      connections = ap length connections ∙ sym (ap length failed);
      queues = ap length queues
          ∙ sym (ap length failed);
      desks = ap length desks ∙ sym (ap length failed);
    } in
    let none : length tables.failed.places ≡ 0 = ap length failed in
    record {
      settings = are;
      even = even;
      paired = ap length no_names ∙ sym none;
      named = λ at within. let nothing : length names ≡ 0 = ap length no_names in absurd (omega (arith, nothing, within));
      laid = λ class. ap (λ layouts. fields_in layouts class) same ∙ laid class;
      kept = λ at. subst (IsKept settings false) (sym (session_past tables at even (omega (arith, none)))) (kept_fresh settings false);
    }

-- a new name has the new place
pub place-opened : (engine : EngineState) (name : List ℕ) → place engine name ≡ None → place (opened engine name) name ≡ Some (length engine.names)
place-opened engine name absent =
    let passes = bytes_eq name in
    let more = position_or_len_push passes engine.names name in
    let itself : bytes_eq name name ≡ true = (bytes_eq-Decides name name).1 refl in
    let bound = prefix_len-le-length (λ other. not (passes other)) engine.names in
    let last : position_or_len passes engine.names ≡ length engine.names = grind (arith, absent, bound) in
    let found : position_or_len passes (opened engine name).names ≡ length engine.names = more ∙ grind (arith, itself, last) in
    let within : ltb (position_or_len passes (opened engine name).names) (length (opened engine name).names) ≡ true = grind (arith, common_steps, found) in
    cond-true _ _ _ within ∙ ap Some found

-- a new name has gone behind the others, and its session behind theirs, over tables with room
module _ (engine : EngineState) (ready after : Tables) (name copy : List ℕ) (keys : List (List ℕ)) (same : AreSame engine.tables ready) (whole : IsWhole engine)
    (absent : place engine name ≡ None)
    (equal : copy ≡ name) (inserted : keys ≡ insert_key bytes_eq engine.names copy) (one_more : after ≡ tables.opened ready) where
  abbrev entered : EngineState
  entered = record { settings = engine.settings; names = keys; tables = after; memory_refused = engine.memory_refused }

  is : entered ≡ opened (with_tables engine ready) name
  is = ap₂ (λ keys tables. record { settings = engine.settings; names = keys; tables = tables; memory_refused = engine.memory_refused })
      (inserted ∙ insert_key-new engine.names name copy equal absent) one_more

  before : IsWhole (with_tables engine ready)
  before = whole_same engine ready same whole

  pub entered_whole : IsWhole entered
  entered_whole = subst IsWhole (sym is) (whole_opened (with_tables engine ready) before name absent)

  pub entered_place : position (bytes_eq name) keys ≡ Some (length ready.failed.places)
  entered_place = ap (λ engine. place engine name) is ∙ place-opened (with_tables engine ready) name absent ∙ ap Some before.paired

  pub entered_sessions : sessions entered ≡ sessions engine
  entered_sessions = ap sessions is ∙ fun_ext (λ other. sessions-opened (with_tables engine ready) before name other absent) ∙ sessions-same engine ready same
