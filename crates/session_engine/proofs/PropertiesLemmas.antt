-- What JSON is written to a property.
use Rattle.std.proofs.Common.{◌≡◌, ℕ, Bool, true, false, List, [], Option, Some, None, Result, Ok, Err, IsErrAnd, is_some, refl, sym, ap, ◌∙◌}
use Rattle.std.specs.Prelude.{option_map}
use Rattle.std.specs.Option.{option_map_or}
use Rattle.std.specs.Result.{result_err}
use Rattle.serde_json.specs.Data as d
use Rattle.serde_json.specs.Find.{as_null}
use Rattle.variant_value.specs.declared.value.Value.{Value}
use Rattle.variant_value.specs.declared.value.Value.TheVariants as v
use Rattle.variant_value.specs.Values.{inferred, value_of}
use Rattle.property_store.specs.Store.{dynamic_refusal}
use Rattle.session_model.specs.declared.line.Answer.TheVariants as a
use Rattle.session_model.specs.Absence.{absence}
use Rattle.session_model.specs.Asked.{Set}
use Rattle.session_model.specs.Properties.{is_declared}
use Rattle.session_model.specs.Writing.{Declared, Dynamic, Nothing, DeclaredField, Removed, Writing, asked_place, asked_writing, declared, dynamic_writing}
use Rattle.session_model.specs.Writing.{written}
use Rattle.session_model.proofs.ForCallers.{refusal_set, set_written}
use Rattle.session_tables.specs.Refused.{OnRefused}
use Rattle.session_effects.specs.Actions.{KeepsOthers}
use Rattle.session_effects.specs.declared.announcing.PendingAnnouncements.{PendingAnnouncements}
use Rattle.session_effects.specs.Writing.{TriesToWrite, Writes, items_of}
use Rattle.session_engine.proofs.CommandsLemmas.{or_second, starved, stopped}
use Rattle.session_engine.proofs.ToldLemmas.{performs_told, starved_told}
use Rattle.std.specs.declared.alloc.AllocError.{AllocError}
use Rattle.session_engine.proofs.Common.{Data, Code, Fault, Refused, Memory, Kind, Line, Asked, begun, does_next, Item, Found, ◌>>=◌, State, at_end, Tables}
use Rattle.session_engine.proofs.Common.{ChangesOnly, IsPlaced, state_at, SessionContext, settings_of, CommandOutput, Performs, its_effect, its_refusal}
use Rattle.session_engine.proofs.Common.{reply_after, doing_at, fresh_output, RunsItems, does_none, keeps_same}

pub is_null : (json : Data) → is_some (as_null json) ≡ true → json ≡ d.null
is_null d.null h = refl
is_null (d.boolean b) h = absurd (cc)
is_null (d.number n) h = absurd (cc)
is_null (d.string s) h = absurd (cc)
is_null (d.array ds) h = absurd (cc)
is_null (d.object ms) h = absurd (cc)

-- all but null is read as a value of the property's kind
place_valued : (json : Data) (place : DeclaredField) → is_some (as_null json) ≡ false
    → asked_place json place ≡ value_of place.kind json >>= λ value. Ok (Declared place.number value)
place_valued d.null place h = absurd (cc)
place_valued (d.boolean b) place h = refl
place_valued (d.number n) place h = refl
place_valued (d.string s) place h = refl
place_valued (d.array ds) place h = refl
place_valued (d.object ms) place h = refl

-- where a property is declared, by what was found of it
pub place_is : (of : ℕ × Kind) (found : Option DeclaredField) → Some of ≡ option_map (λ place. (place.number, place.kind)) found
    → Some (record { number = of.0; kind = of.1 }) ≡ found
place_is of None e = absurd (cc)
place_is of (Some place) e = ap (option_map (λ (of : ℕ × Kind). record { number = of.0; kind = of.1 })) e

-- and where none is
absent_place : (found : Option DeclaredField) → ◌≡◌ {A = Option (ℕ × Kind)} None (option_map (λ (place : DeclaredField). (place.number, place.kind)) found)
    → found ≡ None
absent_place None e = refl
absent_place (Some place) e = absurd (cc)

-- what a command writes
module _ (state : State) (object : ℕ) (name : List ℕ) (json : Data) where
  writing_at : (found : Option DeclaredField) → declared state object name ≡ found
      → asked_writing state object name json ≡ option_map_or (asked_place json) found (inferred json >>= dynamic_writing state object name)
  writing_at found e = ap (λ found. option_map_or (asked_place json) found (inferred json >>= dynamic_writing state object name)) e

  pub asked_dynamic : ◌≡◌ {A = Option (ℕ × Kind)} None (option_map (λ (place : DeclaredField). (place.number, place.kind)) (declared state object name))
      → asked_writing state object name json ≡ inferred json >>= dynamic_writing state object name
  asked_dynamic none = writing_at None (absent_place (declared state object name) none)

  module _ (place : DeclaredField) (there : Some place ≡ declared state object name) where
    pub asked_nothing : is_some (as_null json) ≡ true → asked_writing state object name json ≡ Ok Nothing
    asked_nothing null = writing_at (Some place) (sym there) ∙ ap (λ json. asked_place json place) (is_null json null)

    pub asked_value : is_some (as_null json) ≡ false → asked_writing state object name json ≡ value_of place.kind json >>=
        λ value. Ok (Declared place.number value)
    asked_value other = writing_at (Some place) (sym there) ∙ place_valued json place other

-- what is written to a dynamic property is no declared one
pub dynamic_undeclared : (state : State) (object : ℕ) (name : List ℕ) (value : Value) (writing : Writing) → dynamic_writing state object name value ≡ Ok writing
    → is_declared writing ≡ false
dynamic_undeclared state object name value writing e = by value e
  where
    given : (refusal : Option Code) (value : Value) → option_map_or Err refusal (Ok (Dynamic name value)) ≡ Ok writing → is_declared writing ≡ false
    given None value e = let same : Dynamic name value ≡ writing = cc in sym (ap is_declared same)
    given (Some code) value e = absurd (cc)

    by : (value : Value) → dynamic_writing state object name value ≡ Ok writing → is_declared writing ≡ false
    by v.Invalid e = let same : Removed name ≡ writing = cc in sym (ap is_declared same)
    by (v.Bool b) e = given (dynamic_refusal state.store object name) (v.Bool b) e
    by (v.Int z) e = given (dynamic_refusal state.store object name) (v.Int z) e
    by (v.Uint n) e = given (dynamic_refusal state.store object name) (v.Uint n) e
    by (v.Longlong z) e = given (dynamic_refusal state.store object name) (v.Longlong z) e
    by (v.Ulonglong n) e = given (dynamic_refusal state.store object name) (v.Ulonglong n) e
    by (v.Text text) e = given (dynamic_refusal state.store object name) (v.Text text) e

-- a property's writing that is refused, or for which memory was wanted
pub written_fault : {T U : Type 0} (caller : SessionContext) (asked : Asked) (old new : Tables) (lines : T → List Line) (object : ℕ) (wanted : Found Writing)
    (tell : U → PendingAnnouncements) (fault : Fault) (result : Result T Fault) → IsErrAnd result (λ other. other ≡ fault)
    → its_refusal caller asked old ≡ result_err wanted → TriesToWrite caller object wanted old tell new (Err fault) → OnRefused {T = U} (Err fault) (new ≡ old)
    → ChangesOnly caller.place old new → Performs caller asked old new false lines result
written_fault caller asked old new lines object wanted tell (Refused code) result h is why same only =
    stopped code result h (is ∙ ap result_err why) same
written_fault caller asked old new lines object wanted tell Memory result h is why same only = starved result h only

-- a command that writes what was found
module _ (caller : SessionContext) (object : ℕ) (property : List ℕ) (json : Data) (old middle new : Tables) (before after : CommandOutput) (writing : Writing)
    (replied : Bool) (news : PendingAnnouncements)
    (is : is_declared writing ≡ replied) (there : None ≡ absence (state_at old caller.place) object) (fresh : before ≡ fresh_output caller.setup.now.turns)
    (asked : asked_writing (state_at old caller.place) object property json ≡ Ok writing)
    (writes : Writes caller object writing old news middle) (placed : IsPlaced old caller.place) (keeps : KeepsOthers caller.place old middle) where
  abbrev pub items : List Item
  items = items_of (settings_of caller.setup.now) (state_at middle caller.place) 0 news

  -- what was found is not refused
  set_passed : its_refusal caller (Set object property json) old ≡ None
  set_passed = refusal_set (settings_of caller.setup.now) caller.name.now (state_at old caller.place) object property json ∙ or_second _ _ there
      ∙ ap result_err asked

  -- and comes to what was written
  set_comes : its_effect caller (Set object property json) old
      ≡ does_next (settings_of caller.setup.now)
      (written (settings_of caller.setup.now) (begun (settings_of caller.setup.now) (state_at old caller.place)) object 0 writing) (a.Truth replied)
  set_comes =
      set_written (settings_of caller.setup.now) caller.name.now (state_at old caller.place) object property json writing asked
      ∙ ap (λ truth. does_next (settings_of caller.setup.now)
      (written (settings_of caller.setup.now) (begun (settings_of caller.setup.now) (state_at old caller.place)) object 0 writing) (a.Truth truth)) is

  pub performs_written : {T E : Type 0} (value : T) → RunsItems {E = E} caller items middle new before after (Ok value)
      → Performs caller (Set object property json) old new after.failing (reply_after after.lines) (Ok (a.Truth replied))
  performs_written value does =
      performs_told caller (Set object property json) old middle new before after items _ (a.Truth replied) placed fresh set_passed set_comes
      (writes 0 (begun (settings_of caller.setup.now) (state_at old caller.place))) keeps value does

  pub starved_written : {T E U : Type 0} (error : E) (lines : U → List Line) (result : Result U Fault) → IsErrAnd result (λ fault. fault ≡ Memory)
      → RunsItems {T = T} caller items middle new before after (Err error) → Performs caller (Set object property json) old new after.failing lines result
  starved_written error lines result wanted does =
      starved_told caller (Set object property json) old middle new before after items _ (a.Truth replied) placed fresh set_passed set_comes
      (writes 0 (begun (settings_of caller.setup.now) (state_at old caller.place))) keeps error lines result wanted does

-- what is not told of comes to nothing
pub tells_none : (caller : SessionContext) (tables : Tables) (output : CommandOutput)
    → RunsItems {T = Unit {0}} {E = AllocError} caller [] tables tables output output (Ok tt)
tells_none caller tables output = does_none caller [] tables output tables output (Ok tt) (keeps_same tables tables caller.place refl) refl
    (λ earlier. at_end (settings_of caller.setup.now) (doing_at caller.place tables output earlier))
