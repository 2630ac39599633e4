-- An engine in which the session at one place has changed, and no other one.
use Rattle.std.proofs.Common.{◌≡◌, ℕ, Bool, true, false, true≢false, List, [], ◌∷◌, Option, Some, None, Result, Ok, Err, OnOk, OnErr, IsTrue, IsFalse, eqb}
use Rattle.std.proofs.Common.{refl, sym, ap, subst, ◌∙◌, ⊎_elim, arith}
use Rattle.std.specs.Prelude.{bytes_eq}
use Rattle.std.specs.Option.{option_map_or}
use Rattle.std.specs.Result.{is_err, result_ok}
use Rattle.std.proofs.lemmas.Bool.{cases_Bool, both_ways}
use Rattle.std.proofs.lemmas.List.Elements.{All-cons, All-nil}
use Rattle.std.proofs.lemmas.Bool.Decides.{nat_tests}
use Rattle.std.proofs.lemmas.Slice.Eq.{bytes_eq-Decides}
use Rattle.session_engine.proofs.Common.{fields_in, Post, IsRightPost, Tables, after_posts, Session, fresh, failed_session, ChangesOnly, session_at}
use Rattle.session_engine.proofs.Common.{EngineState, IsKept, IsWhole, place, seen_by_name, sessions, HasArrived, Fails}
use Rattle.session_tables.specs.Reaching.{AreShaped, FailsBy, takes_some}
use Rattle.session_tables.specs.Tables.{with_session}
use Rattle.session_tables.proofs.ForCallers.{changes_session, session_unchanged, shaped_changed, session_there}
use Rattle.session_engine.specs.Items.{BeginsAnew}
use Rattle.session_engine.proofs.EngineLemmas.{one_name, placed, sessions-place, sound_by_name}
use Rattle.session_engine.proofs.SessionLemmas.{after_posts_state, kept_fresh, kept_gone, kept_after_posts}

-- with these tables, and this mark that memory was refused
abbrev pub changed : EngineState → Tables → Bool → EngineState
changed engine new refused = record { settings = engine.settings; names = engine.names; tables = new; memory_refused = refused }

module _ (engine : EngineState) (new : Tables) (refused : Bool) (at : ℕ) (name : List ℕ) (whole : IsWhole engine) (there : place engine name ≡ Some at)
    (changes : ChangesOnly at engine.tables new) where
  -- the session of this name is the one at the place
  own_changed : sessions (changed engine new refused) name ≡ session_at new at
  own_changed = sessions-place (changed engine new refused) name at there

  others_changed : (other : List ℕ) → bytes_eq other name ≡ false → sessions (changed engine new refused) other ≡ sessions engine other
  others_changed other differ = by (place engine other) refl
    where
      by : (found : Option ℕ) → place engine other ≡ found → sessions (changed engine new refused) other ≡ sessions engine other
      by None e = ap (λ found. option_map_or (session_at new) found fresh) e ∙ sym (ap (λ found. option_map_or (session_at engine.tables) found fresh) e)
      by (Some other') e =
          let apart : eqb other' at ≡ false = ⊎_elim
          (λ same. let is : other' ≡ at = grind (arith, nat_tests, same) in absurd
          (both_ways _ differ ((bytes_eq-Decides other name).1 (sym (one_name engine name other at there (e ∙ ap Some is))))))
          (λ apart. apart)
          (cases_Bool (eqb other' at)) in
          sessions-place (changed engine new refused) other other' e ∙ session_unchanged engine.tables new at other' changes apart
          ∙ sym (sessions-place engine other other' e)

  module _ (less : IsFalse refused → IsFalse engine.memory_refused) (own : IsKept engine.settings refused (session_at new at)) where
    pub whole_changed : IsWhole (changed engine new refused)
    whole_changed =
        let shape : AreShaped engine.tables new = shaped_changed engine.tables new at changes in
        record {
          settings = whole.settings;
          even = shape.even whole.even;
          paired = whole.paired ∙ sym shape.places;
          named = whole.named;
          laid = λ class. ap (λ layouts. fields_in layouts class) shape.layouts ∙ whole.laid class;
          kept = λ other. by other (eqb other at) refl;
        }
      where
        by : (other : ℕ) (same : Bool) → eqb other at ≡ same → IsKept engine.settings refused (session_at new other)
        by other true e = let is : at ≡ other = grind (arith, nat_tests, e) in subst (λ other. IsKept engine.settings refused (session_at new other)) is own
        by other false e = subst (IsKept engine.settings refused) (sym (session_unchanged engine.tables new at other changes e))
            (record { well = λ found. (whole.kept other).well (less found); sound = (whole.kept other).sound })

-- a post has come to the session at a place
module _ {T E : Type 0} (engine : EngineState) (new : Tables) (refused : Bool) (at : ℕ) (name from : List ℕ) (post : Post) (result : Result T E)
    (whole : IsWhole engine) (right : IsRightPost post) (there : place engine name ≡ Some at) (changes : ChangesOnly at engine.tables new)
    (ok : OnOk result (session_at new at ≡ after_posts engine.settings.classes from (post ∷ []) (session_at engine.tables at)))
    (err : OnErr result (FailsBy from (post ∷ []) (session_at engine.tables at) (session_at new at)))
    (found : OnOk result (refused ≡ engine.memory_refused)) (memory : OnErr result (IsTrue refused)) where
  found_before : IsFalse refused → IsFalse engine.memory_refused
  found_before fine = by result found memory
    where
      by : (result : Result T E) → OnOk result (refused ≡ engine.memory_refused) → OnErr result (IsTrue refused) → IsFalse engine.memory_refused
      by (Ok done) found memory = sym found ∙ fine
      by (Err error) found memory = absurd (both_ways _ fine memory)

  kept_arrived : IsKept engine.settings refused (session_at new at)
  kept_arrived = by result ok err memory
    where
      by : (result : Result T E) → OnOk result (session_at new at ≡ after_posts engine.settings.classes from (post ∷ []) (session_at engine.tables at))
          → OnErr result (FailsBy from (post ∷ []) (session_at engine.tables at) (session_at new at)) → OnErr result (IsTrue refused)
          → IsKept engine.settings refused (session_at new at)
      by (Ok done) ok err memory = subst (IsKept engine.settings refused) (sym ok)
          (kept_after_posts engine.settings engine.memory_refused refused from (post ∷ []) (session_at engine.tables at) found_before
          (All-cons IsRightPost post [] right (All-nil IsRightPost)) (whole.kept at))
      by (Err error) ok err memory = subst (λ mark. IsKept engine.settings mark (session_at new at)) (sym memory)
          (subst (IsKept engine.settings true) (sym err.2) (kept_gone engine.settings))

  pub whole_arrived : IsWhole (changed engine new refused)
  whole_arrived = whole_changed engine new refused at name whole there changes found_before kept_arrived

  pub has_arrived : HasArrived (seen_by_name engine) (seen_by_name (changed engine new refused)) name from post (result_ok result)
  has_arrived = by result ok err found memory
    where
      own : sessions engine name ≡ session_at engine.tables at
      own = sessions-place engine name at there

      now : sessions (changed engine new refused) name ≡ session_at new at
      now = own_changed engine new refused at name whole there changes

      by : (result : Result T E) → OnOk result (session_at new at ≡ after_posts engine.settings.classes from (post ∷ []) (session_at engine.tables at))
          → OnErr result (FailsBy from (post ∷ []) (session_at engine.tables at) (session_at new at)) → OnOk result (refused ≡ engine.memory_refused)
          → OnErr result (IsTrue refused) → HasArrived (seen_by_name engine) (seen_by_name (changed engine new refused)) name from post (result_ok result)
      by (Ok done) ok err found memory =
          let after_posts_it : sessions (changed engine new refused) name ≡ after_posts engine.settings.classes from (post ∷ []) (sessions engine name) = now
          ∙ ok ∙ ap (after_posts engine.settings.classes from (post ∷ [])) (sym own) in
          record {
            state = λ fine. ap (λ (session : Session). session.state) after_posts_it
                ∙ after_posts_state engine.settings from (post ∷ []) (sessions engine name)
                (ap (λ (session : Session). session.failed) own ∙ (whole.kept at).well (found_before fine));
            hears = after_posts_it;
            fails = tt;
            others = others_changed engine new refused at name whole there changes;
            settings = refl;
            found = found;
            memory = tt;
            sound = sound_by_name (changed engine new refused) whole_arrived;
          }
      by (Err error) ok err found memory = record {
        state = λ fine. absurd (both_ways _ fine memory);
        hears = tt;
        fails = (
          ap (λ (session : Session). session.failed) own ∙ err.0,
          subst (λ session. IsTrue (takes_some from (post ∷ []) session)) (sym own) err.1,
          now
              ∙ err.2,
        );
        others = others_changed engine new refused at name whole there changes;
        settings = refl;
        found = tt;
        memory = memory;
        sound = sound_by_name (changed engine new refused) whole_arrived;
      }

-- another session is put at a place
module _ (engine : EngineState) (new : Tables) (at : ℕ) (name : List ℕ) (session : Session) (whole : IsWhole engine) (there : place engine name ≡ Some at)
    (is : new ≡ with_session engine.tables at session) where
  put_changes : ChangesOnly at engine.tables new
  put_changes = changes_session engine.tables new at session (placed engine name at whole there) is

  put_there : session_at new at ≡ session
  put_there = ap (λ tables. session_at tables at) is ∙ session_there engine.tables at session (placed engine name at whole there)

  whole_put : (refused : Bool) → (IsFalse refused → IsFalse engine.memory_refused) → IsKept engine.settings refused session
      → IsWhole (changed engine new refused)
  whole_put refused less kept = whole_changed engine new refused at name whole there put_changes less
      (subst (IsKept engine.settings refused) (sym put_there) kept)

  own_put : (refused : Bool) → sessions (changed engine new refused) name ≡ session
  own_put refused = own_changed engine new refused at name whole there put_changes ∙ put_there

  others_put : (refused : Bool) (other : List ℕ) → bytes_eq other name ≡ false → sessions (changed engine new refused) other ≡ sessions engine other
  others_put refused = others_changed engine new refused at name whole there put_changes

-- the session at a place begins anew
module _ (engine : EngineState) (new : Tables) (at : ℕ) (name : List ℕ) (whole : IsWhole engine) (there : place engine name ≡ Some at)
    (is : new ≡ with_session engine.tables at fresh) where
  pub whole_anew : IsWhole (changed engine new engine.memory_refused)
  whole_anew = whole_put engine new at name fresh whole there is engine.memory_refused (λ found. found) (kept_fresh engine.settings engine.memory_refused)

  pub begins_anew : BeginsAnew (seen_by_name engine) (seen_by_name (changed engine new engine.memory_refused)) name
  begins_anew = record {
    fresh = own_put engine new at name fresh whole there is engine.memory_refused;
    others = others_put engine new at name fresh whole there is engine.memory_refused;
    settings = refl;
    memory = refl;
    sound = sound_by_name (changed engine new engine.memory_refused) whole_anew;
  }

-- the session at a place has failed for memory that was refused
module _ (engine : EngineState) (new : Tables) (at : ℕ) (name : List ℕ) (whole : IsWhole engine) (there : place engine name ≡ Some at)
    (is : new ≡ with_session engine.tables at failed_session) where
  pub whole_failed : IsWhole (changed engine new true)
  whole_failed = whole_put engine new at name failed_session whole there is true (λ found. absurd (true≢false found)) (kept_gone engine.settings)

  pub fails_now : Fails (seen_by_name engine) (seen_by_name (changed engine new true)) name
  fails_now = record {
    fails = own_put engine new at name failed_session whole there is true;
    others = others_put engine new at name failed_session whole there is true;
    settings = refl;
    memory = refl;
    sound = sound_by_name (changed engine new true) whole_failed;
  }

-- facts that hold whatever a call returns, or by what it has returned
pub on_err : {T E P : Type 0} (result : Result T E) → P → OnErr result P
on_err (Ok value) h = tt
on_err (Err error) h = h

pub on_ok : {T E P : Type 0} (result : Result T E) → P → OnOk result P
on_ok (Ok value) h = h
on_ok (Err error) h = tt

pub on_ok_failed : {T E : Type 0} (P : Type 0) (result : Result T E) → is_err result ≡ true → OnOk result P
on_ok_failed P (Ok value) failed = absurd (true≢false (sym failed))
on_ok_failed P (Err error) failed = tt

pub on_err_found : {T E : Type 0} (P : Type 0) (result : Result T E) → is_err result ≡ false → OnErr result P
on_err_found P (Ok value) found = tt
on_err_found P (Err error) found = absurd (true≢false found)
