-- What becomes of properties that are written, and what is told of it.
use Rattle.std.proofs.Common.{◌≡◌, ℕ, true, cond, List, [], Option, Some, None, Result, Ok, Err, OnErr, OnOk, length, slice_get, refl, sym, ap, subst, ◌∙◌}
use Rattle.std.specs.List.{cons_option}
use Rattle.std.specs.Prelude.{option_map, option_and_then}
use Rattle.std.specs.Option.{ok_or, option_map_or}
use Rattle.std.proofs.lemmas.Bool.{le-leb}
use Rattle.plain_types.specs.Answers.{RefusedBy}
use Rattle.plain_types.specs.declared.code.Code.TheVariants.{BadValue, Limit}
use Rattle.plain_types.specs.declared.fault.Fault.{Fault}
use Rattle.plain_types.specs.declared.fault.Fault.TheVariants.{Refused, Memory}
use Rattle.variant_value.specs.declared.value.Value.{Value}
use Rattle.variant_value.specs.declared.value.Value.TheVariants as v
use Rattle.variant_value.specs.declared.value.TheConstants.{TEXT_BYTES}
use Rattle.variant_value.specs.Values.{IsShort, converted}
use Rattle.property_store.specs.Store.{dynamic_refusal}
use Rattle.property_store.proofs.ForCallers.{converted_fits}
use Rattle.class_table.specs.Lookup.{properties}
use Rattle.object_tree.specs.declared.row.Row.{Row}
use Rattle.object_tree.specs.Rows.{is_there, row_of}
use Rattle.term_core.specs.declared.action.SingleAction.TheVariants as e
use Rattle.term_core.specs.declared.target.Target.{Target}
use Rattle.term_core.specs.Term.{Term}
use Rattle.binding_values.specs.declared.change.Change.{Change}
use Rattle.property_store.specs.declared.property.Property.{Property as At}
use Rattle.binding_graph.specs.declared.write_changes.WriteChanges.{WriteChanges}
use Rattle.binding_graph.specs.declared.write_changes.WriteChanges.TheVariants.{Written}
use Rattle.binding_graph.specs.WriteChanges.{changes_in}
use Rattle.session_model.specs.Execution.{Execution, in_state}
use Rattle.session_model.specs.Items.{Emit, Item, puts}
use Rattle.session_model.specs.Methods.{Found, ◌>>=◌}
use Rattle.session_model.specs.Settings.{Settings}
use Rattle.session_model.specs.Showing.{changes, property_at, told_value}
use Rattle.session_model.specs.State.{State, shown}
use Rattle.session_model.specs.Targets.{evaluated, object_of}
use Rattle.session_model.specs.Writing.{Declared, Dynamic, DeclaredField, Removed, Writing, acted_writing, declared, dynamic_writing, short, with_writing}
use Rattle.session_model.specs.Writing.{written}
use Rattle.session_model.proofs.ForCallers.{set_done, set_faulty, dynamic_removed, dynamic_set}
use Rattle.session_tables.specs.declared.tables.Tables.{Tables}
use Rattle.session_tables.specs.Classes.{HasClass}
use Rattle.session_tables.specs.Named.{Tells, WritesDeclared}
use Rattle.session_tables.specs.Refused.{OnRefused}
use Rattle.session_tables.specs.Tables.{IsPlaced, state_at, with_state}
use Rattle.session_tables.proofs.ForCallers.{state_with}
use Rattle.session_effects.specs.declared.announcing.PendingAnnouncements.{PendingAnnouncements}
use Rattle.session_effects.specs.declared.announcing.PendingAnnouncements.TheVariants.{Nothing, One}
use Rattle.session_effects.specs.declared.announcing.NotifySignal.{NotifySignal}
use Rattle.session_effects.specs.declared.session_context.SessionContext.{SessionContext}
use Rattle.session_effects.specs.Actions.{KeepsOthers, Tries}
use Rattle.session_effects.specs.declared.slot.Slot.{Slot}
use Rattle.session_effects.specs.Setup.{settings_of}
use Rattle.session_effects.specs.Writing.{TriesToWrite, Writes, items_of, told_items}
use Rattle.session_tables.proofs.ForCallers.{keeps_same, keeps_with}
use Rattle.session_effects.proofs.ActionLemmas.{put_at}

-- the signal that tells of changes of a property
abbrev pub signal_of : Settings → State → ℕ → ℕ → Option ℕ
signal_of settings state object number = option_and_then (λ property. property.notify) (property_at settings state object number)

-- the signal that tells of changes of a property that a class declares
abbrev pub signal_in : Settings → ℕ → ℕ → Option ℕ
signal_in settings class number = option_and_then (λ property. property.notify) (slice_get (properties settings.classes class) number)

-- an object has the signals that its class declares
pub signal_by_class : (settings : Settings) (state : State) (object class number : ℕ) → HasClass state object class
    → signal_of settings state object number ≡ signal_in settings class number
signal_by_class settings state object class number has = ap (option_and_then (λ property. property.notify)) (by (row_of state.forest.rows object) has)
  where
    by : (found : Option Row) → option_map (λ row. row.class) found ≡ Some class
        → option_and_then (λ row. slice_get (properties settings.classes row.class) number) found ≡ slice_get (properties settings.classes class) number
    by None e = absurd (cc)
    by (Some row) e = let same : row.class ≡ class = cc in ap (λ class. slice_get (properties settings.classes class) number) same

-- where a class names a signal for a property, its value is told by that
pub told_one : (settings : Settings) (state : State) (object class number : ℕ) → HasClass state object class → (depth : ℕ) (notice : NotifySignal)
    → Some notice ≡ option_map (λ signal. record { object = object; property = number; signal = signal }) (signal_in settings class number)
    → items_of settings state depth (One notice) ≡ told_items settings state depth
    (changes_in (record { object = object; number = number }) (shown state object number).0 Written)
told_one settings state object class number has depth notice e = by (signal_in settings class number) e
    ∙ ap sent (sym (signal_by_class settings state object class number has))
  where
    sent : Option ℕ → List Item
    sent signal = cons_option (option_map (λ signal. Emit object signal (told_value settings state object (shown state object number).0 signal) depth) signal)
        []

    by : (signal : Option ℕ) → Some notice ≡ option_map (λ signal. record { object = object; property = number; signal = signal }) signal
        → items_of settings state depth (One notice) ≡ sent signal
    by None e = absurd (cc)
    by (Some signal) e = let same : notice ≡ record { object = object; property = number; signal = signal } = cc in ap
        (λ notice. items_of settings state depth (One notice)) same

-- what is told of changes, as news that say the same at every depth
abbrev pub IsNews : Settings → State → List Change → PendingAnnouncements → Type 0
IsNews settings state changes news = (depth : ℕ) → items_of settings state depth news ≡ told_items settings state depth changes

module _ (caller : SessionContext) (object : ℕ) (old new : Tables) (placed : IsPlaced old caller.place) where
  abbrev before : State
  before = state_at old caller.place

  -- a writing that tells nothing
  pub writes_silently : (writing : Writing)
      → ((depth : ℕ) (doing : Execution) → written (settings_of caller.setup.now) (in_state doing before) object depth writing
      ≡ puts [] (in_state doing (with_writing before object writing)))
      → new ≡ with_state old caller.place (with_writing before object writing) → Writes caller object writing old Nothing new
  writes_silently writing silent e = λ depth doing. silent depth doing ∙ put_at old new caller.place (with_writing before object writing) doing placed e

  pub writes_removed : (name : List ℕ) → new ≡ with_state old caller.place (with_writing before object (Removed name))
      → Writes caller object (Removed name) old Nothing new
  writes_removed name = writes_silently (Removed name) (λ depth doing. dynamic_removed (settings_of caller.setup.now) (in_state doing before) object depth name)

  pub writes_set : (name : List ℕ) (value : Value) → new ≡ with_state old caller.place (with_writing before object (Dynamic name value))
      → Writes caller object (Dynamic name value) old Nothing new
  writes_set name value = writes_silently (Dynamic name value)
      (λ depth doing. dynamic_set (settings_of caller.setup.now) (in_state doing before) object depth name value)

  module _ (number : ℕ) (value : Value) (e : new ≡ with_state old caller.place (with_writing before object (Declared number value))) where
    abbrev after : State
    after = with_writing before object (Declared number value)

    abbrev at : At
    at = record { object = object; number = number }

    is_after : state_at new caller.place ≡ after
    is_after = state_with old new caller.place after placed e

    -- no object has another class by it
    pub class_kept : (class : ℕ) → HasClass before object class → HasClass (state_at new caller.place) object class
    class_kept class has = subst (λ (state : State). HasClass state object class) (sym is_after) has

    -- a write to a declared property tells of all that it changes
    pub writes_declared : (changed : WriteChanges) (news : PendingAnnouncements) → Tells at before (state_at new caller.place) changed
        → IsNews (settings_of caller.setup.now) (state_at new caller.place) (changes_in at (shown (state_at new caller.place) object number).0 changed) news
        → Writes caller object (Declared number value) old news new
    writes_declared changed news tells is = λ depth doing.
        let settings = settings_of caller.setup.now in
        let now = state_at new caller.place in
        ap (λ (state : State). puts (told_items settings state depth (changes before state (Some at))) (in_state doing state)) (sym is_after)
        ∙ ap (λ (changes : List Change). puts (told_items settings now depth changes) (in_state doing now)) (sym tells)
        ∙ ap (λ items. puts items (in_state doing now)) (sym (is depth))

-- a value that is not invalid is given to a dynamic property
pub dynamic_valid : (state : State) (object : ℕ) (name : List ℕ) (value : Value) → (value ≡ v.Invalid → ⊥)
    → dynamic_writing state object name value ≡ option_map_or Err (dynamic_refusal state.store object name) (Ok (Dynamic name value))
dynamic_valid state object name v.Invalid other = absurd (other refl)
dynamic_valid state object name (v.Bool b) other = refl
dynamic_valid state object name (v.Int z) other = refl
dynamic_valid state object name (v.Uint n) other = refl
dynamic_valid state object name (v.Longlong z) other = refl
dynamic_valid state object name (v.Ulonglong n) other = refl
dynamic_valid state object name (v.Text text) other = refl

-- a dynamic property was set, or is refused
pub writes_dynamic : (caller : SessionContext) (object : ℕ) (name : List ℕ) (value : Value) (old new : Tables) (result : Result (Unit {0}) Fault)
    → IsPlaced old caller.place → (value ≡ v.Invalid → ⊥)
    → RefusedBy (dynamic_refusal (state_at old caller.place).store object name) result
    → OnOk result (new ≡ with_state old caller.place (with_writing (state_at old caller.place) object (Dynamic name value)))
    → TriesToWrite caller object (dynamic_writing (state_at old caller.place) object name value) old (λ done. Nothing) new result
writes_dynamic caller object name value old new (Ok done) placed other refused e = (
  Dynamic name value,
  dynamic_valid (state_at old caller.place) object name value other ∙ ap (λ refusal. option_map_or Err refusal (Ok (Dynamic name value))) refused,
  writes_set caller object old new placed name value e,
)
writes_dynamic caller object name value old new (Err (Refused code)) placed other refused e =
    dynamic_valid (state_at old caller.place) object name value other ∙ ap (λ refusal. option_map_or Err refusal (Ok (Dynamic name value))) refused
writes_dynamic caller object name value old new (Err Memory) placed other refused e = tt

-- a fact of every fault holds of a refusal
pub refused_as : {T : Type 0} (P : Type 0) (result : Result T Fault) → OnErr result P → OnRefused result P
refused_as P (Ok value) h = tt
refused_as P (Err (Refused code)) h = h
refused_as P (Err Memory) h = tt

-- a text that is not too long is taken as it is
short_kept : (value : Value) → IsShort value → short value ≡ Ok value
short_kept v.Invalid is = refl
short_kept (v.Bool b) is = refl
short_kept (v.Int z) is = refl
short_kept (v.Uint n) is = refl
short_kept (v.Longlong z) is = refl
short_kept (v.Ulonglong n) is = refl
short_kept (v.Text text) is = ap (λ fits. cond fits (Ok (v.Text text)) (Err Limit)) (le-leb (length text) TEXT_BYTES is)

-- what an action writes to the property of a name, by where that stands
module _ (state : State) (object : ℕ) (name : List ℕ) (given : Value) (is_short : IsShort given) where
  by_place : DeclaredField → Found Value → Found Writing
  by_place place found = found >>= short >>= λ value. Ok (Declared place.number value)

  acted_at : (found : Option DeclaredField) → declared state object name ≡ found
      → acted_writing state object name given ≡ option_map_or
      (λ place. ok_or (converted place.kind given) BadValue >>= short >>= λ value. Ok (Declared place.number value)) found
      (short given >>= dynamic_writing state object name)
  acted_at found e = ap (λ (found : Option DeclaredField). option_map_or
      (λ place. ok_or (converted place.kind given) BadValue >>= short >>= λ value. Ok (Declared place.number value)) found
      (short given >>= dynamic_writing state object name)) e

  pub acted_declared : (place : DeclaredField) (fit : Value) → declared state object name ≡ Some place → converted place.kind given ≡ Some fit
      → acted_writing state object name given ≡ Ok (Declared place.number fit)
  acted_declared place fit there fits =
      acted_at (Some place) there
      ∙ ap (λ (found : Option Value). ok_or found BadValue >>= short >>= λ value. Ok (Declared place.number value)) fits
      ∙ ap (λ (found : Found Value). found >>= λ value. Ok (Declared place.number value)) (short_kept fit (converted_fits place.kind given fit is_short fits).1)

  -- and one of a name that is not declared is a dynamic property's
  pub acted_dynamic : declared state object name ≡ None → acted_writing state object name given ≡ dynamic_writing state object name given
  acted_dynamic none = acted_at None none ∙ ap (λ (found : Found Value). found >>= dynamic_writing state object name) (short_kept given is_short)

module _ (caller : SessionContext) (object : ℕ) (name : List ℕ) (value : Value) (old middle : Tables) (placed : IsPlaced old caller.place)
    (is_short : IsShort value) where
  -- a declared property of the name was written, and there is news of what has changed
  pub named_declared : (number : ℕ) (changed : WriteChanges) → WritesDeclared caller.place object name value old number changed middle → (class : ℕ)
      → HasClass (state_at old caller.place) object class → (news : PendingAnnouncements)
      → ((state : State) → HasClass state object class → IsNews (settings_of caller.setup.now) state
      (changes_in (record { object = object; number = number }) (shown state object number).0 changed) news)
      → TriesToWrite caller object (acted_writing (state_at old caller.place) object name value) old (λ told. told) middle (Ok news)
  named_declared number changed done class has news told = (
    Declared done.of.number done.written,
    acted_declared (state_at old caller.place) object name value is_short done.of done.written done.named done.fits,
    writes_declared caller object old middle placed done.of.number done.written done.new changed news done.told
        (subst (λ number. (state : State) → HasClass state object class
        → IsNews (settings_of caller.setup.now) state (changes_in (record { object = object; number = number }) (shown state object number).0 changed) news)
        done.number told
        (state_at middle caller.place) (class_kept caller object old middle placed done.of.number done.written done.new class has)),
  )

  -- there is none of the name: a dynamic property was written
  pub named_undeclared : (handed : Value) → (handed ≡ value) × (declared (state_at old caller.place) object name ≡ None) × (middle ≡ old)
      → (new : Tables) (result : Result (Unit {0}) Fault)
      → TriesToWrite caller object (dynamic_writing (state_at middle caller.place) object name handed) middle (λ done. Nothing) new result
      → TriesToWrite caller object (acted_writing (state_at old caller.place) object name value) old (λ done. Nothing) new result
  named_undeclared handed none new result tried =
      subst (λ (wanted : Found Writing). TriesToWrite caller object wanted old (λ done. Nothing) new result)
      (sym (acted_dynamic (state_at old caller.place) object name value is_short none.1))
      (subst (λ (value : Value). TriesToWrite caller object (dynamic_writing (state_at old caller.place) object name value) old (λ done. Nothing) new result)
      none.0
      (subst (λ (tables : Tables). TriesToWrite caller object (dynamic_writing (state_at tables caller.place) object name handed) tables
      (λ done. Nothing) new result) none.2 tried))

-- a call that has put another state, or failed, changes no other session
pub set_keeps : {T E : Type 0} (place : ℕ) (old new : Tables) (state : State) (result : Result T E) → IsPlaced old place
    → OnOk result (new ≡ with_state old place state) → OnErr result (new ≡ old) → KeepsOthers place old new
set_keeps place old new state (Ok value) placed ok err = keeps_with old new place state placed ok
set_keeps place old new state (Err error) placed ok err = keeps_same old new place err

-- an action that writes comes to what is written
pub sets_property : (caller : SessionContext) (slot : Slot) (of : Target) (property : List ℕ) (term : Term) (old new : Tables)
    (result : Result PendingAnnouncements Fault) (object : ℕ) (value : Value)
    → object ≡ object_of (state_at old caller.place) slot.object slot.sender of
    → is_there (state_at old caller.place).forest.rows object ≡ true
    → evaluated (state_at old caller.place) slot.object slot.sender slot.args.now term ≡ Ok value
    → TriesToWrite caller object (acted_writing (state_at old caller.place) object property value) old (λ told. told) new result
    → Tries caller slot (e.Set of property term) old (items_of (settings_of caller.setup.now) (state_at new caller.place) slot.depth) new result
sets_property caller slot of property term old new (Ok told) object value is there found tried = λ doing.
    set_done (settings_of caller.setup.now) slot.object slot.sender slot.args.now slot.depth
    (in_state doing (state_at old caller.place)) of property term object is there tried.0
    (ap (λ (found : Found Value). found >>= acted_writing (state_at old caller.place) object property) found ∙ tried.1)
    ∙ tried.2 slot.depth doing
sets_property caller slot of property term old new (Err (Refused code)) object value is there found tried = λ doing.
    set_faulty (settings_of caller.setup.now) slot.object slot.sender slot.args.now slot.depth
    (in_state doing (state_at old caller.place)) of property term object is there code
    (ap (λ (found : Found Value). found >>= acted_writing (state_at old caller.place) object property) found ∙ tried)
sets_property caller slot of property term old new (Err Memory) object value is there found tried = tt
