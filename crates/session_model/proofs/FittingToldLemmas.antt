-- What is told of changes fits: a signal that takes the new value, or nothing.
use Rattle.std.proofs.Common.{◌≡◌, ◌==◌, ◌&&◌, ℕ, true, false, cond, List, [], ◌∷◌, Option, Some, None, IfSome, get_or, length, slice_get, take, refl}
use Rattle.std.proofs.Common.{sym, ap, subst, ◌∙◌, arith}
use Rattle.std.specs.List.{All, cons_option}
use Rattle.std.specs.Option.{option_and_then, option_map, option_map_or}
use Rattle.std.proofs.lemmas.Bool.{and_parts, cond-false, cond_both}
use Rattle.std.proofs.lemmas.List.{length-map}
use Rattle.std.proofs.lemmas.List.Elements.{All-cons, All-head, All-nil, All-tail}
use Rattle.std.proofs.lemmas.Option.{slice_get-get_or, slice_get-map, slice_get_within}
use Rattle.session_model.proofs.Common.{Kind, Value, IsOfKind, Method, methods, properties, Row, row_of, Field, AreSound, Properties, properties_of}
use Rattle.session_model.proofs.Common.{Cell, cell_in, cell_of, Change, ChangeKind, Shown, is_open, all_shown_sound, AreArguments, Execution, IsFittingItem}
use Rattle.session_model.proofs.Common.{IsSent, Emit, Item, is_signal_at, kinds_at, methods_by, Settings, changes, comes_to, showing, told_as, told_value}
use Rattle.session_model.proofs.Common.{IsDeclared, IsWhole, State, fields_of, without_group}
use Rattle.signature_core.proofs.ForCallers.{Decides-is_same_kind}
use Rattle.variant_value.specs.Values.{kind_of}
use Rattle.class_table.specs.declared.class.Property.{Property}
use Rattle.class_table.specs.Declaring.{tells as may_tell}
use Rattle.class_table.specs.Sound.{IsTable, is_told, is_told_by}
use Rattle.property_store.specs.declared.property.Property.{Property as At}
use Rattle.property_store.specs.Store as stored
use Rattle.binding_values.specs.declared.change.ChangeKind.TheVariants as message
use Rattle.binding_values.specs.Fitting as graph_fitting
use Rattle.binding_values.specs.Graph as graph
use Rattle.binding_values.specs.Graph.{AreShown}
use Rattle.binding_values.proofs.ForCallers.{changes_fit}
use Rattle.session_model.specs.State.{field_of}
use Rattle.session_model.proofs.FittingTableLemmas.{each_property}
use Rattle.session_model.proofs.ShowingLemmas.{ending, tells}
use Rattle.session_model.proofs.FilterLemmas.{of_found, of_slice}
use Rattle.session_model.proofs.ForestLemmas.{of_row}

-- a signal that may tell a value is sent with it, or with nothing
told_arguments : (kind : Kind) (kinds : List Kind) (value : Value) → may_tell kind kinds ≡ true → IsOfKind kind value
    → AreArguments kinds (take (length kinds) (value ∷ []))
told_arguments kind [] value may is = tt
told_arguments kind (first ∷ []) value may is = (subst (λ kind. IsOfKind kind value) (sym ((Decides-is_same_kind first kind).0 may)) is, tt)
told_arguments kind (first ∷ second ∷ rest) value may is = absurd (cc)

-- there is a value for each declared property
value_there : (of : Properties) → AreSound of → (number : ℕ) (field : Field) → slice_get of.fields number ≡ Some field → (value : Value)
    → cell_of number of ≡ Some (record { kind = field.kind; value = get_or of.values number value })
value_there of sound number field is value =
    let long : length of.values ≡ length of.fields = sym (length-map of.values kind_of)
    ∙ (ap length sound.kinds ∙ length-map of.fields (λ (field : Field). Some field.kind)) in
    let within = slice_get_within of.fields number field is in
    let there : slice_get of.values number ≡ Some (get_or of.values number value) = slice_get-get_or of.values number value (omega (arith, long, within)) in
    ap (λ field. option_map_or (λ (field : Field). option_map (λ value. let cell : Cell = record { kind = field.kind; value = value } in cell)
    (slice_get of.values number)) field None) is
    ∙ ap (option_map (λ value. let cell : Cell = record { kind = field.kind; value = value } in cell)) there

module _ (settings : Settings) (table : IsTable settings.classes) (state : State) (properties' : stored.IsSound state.store)
    (declared : IsDeclared settings.classes state) where
  -- a value that is told is one of the property's kind
  told_kind : (at : At) (value : Value) (row : Row) (property : Property) → row_of state.forest.rows at.object ≡ Some row
      → slice_get (properties settings.classes row.class) at.number ≡ Some property
      → graph_fitting.IsFitting state.store at (message.Value value) → IsOfKind property.kind value
  told_kind at value row property here is fits = by (properties_of state.store at.object) refl its
    where
      its : option_map (λ (of : Properties). of.fields) (properties_of state.store at.object) ≡ Some (fields_of settings.classes row.class)
      its = of_row (λ number class dying. option_map (λ (of : Properties). of.fields) (properties_of state.store number)
          ≡ Some (fields_of settings.classes class)) state.forest.rows at.object row here declared

      by : (of : Option Properties) → properties_of state.store at.object ≡ of
          → option_map (λ (of : Properties). of.fields) of ≡ Some (fields_of settings.classes row.class) → IsOfKind property.kind value
      by None e f = absurd (cc)
      by (Some of) e f =
          let fields : of.fields ≡ fields_of settings.classes row.class = cc in
          let sound : AreSound of = of_found AreSound (λ (of : Properties). of.object == at.object) state.store of e properties'.each in
          let field : slice_get of.fields at.number ≡ Some (field_of property) = ap (λ fields. slice_get fields at.number) fields
          ∙ (slice_get-map field_of (properties settings.classes row.class) at.number ∙ ap (option_map field_of) is) in
          let cell : cell_in state.store at ≡ _ = ap (λ of. option_map_or (cell_of at.number) of None) e
          ∙ value_there of sound at.number (field_of property) field value in
          subst (λ cell. IfSome cell (λ (cell : Cell). IsOfKind cell.kind value)) cell fits

  told_fits : (depth : ℕ) (at : At) (what : ChangeKind) → graph_fitting.IsFitting state.store at what
      → IfSome (told_as settings state depth at what) (IsFittingItem settings state)
  told_fits depth at (message.Error error) fits = tt
  told_fits depth at (message.Value value) fits = by (row_of state.forest.rows at.object) refl
    where
      Sent : Option ℕ → Type 0
      Sent signal = IfSome (option_map (λ signal. Emit at.object signal (told_value settings state at.object value signal) depth) signal)
          (IsFittingItem settings state)

      method : (row : Row) (kind : Kind) (signal : ℕ) → row_of state.forest.rows at.object ≡ Some row → IsOfKind kind value
          → is_told_by (methods settings.classes row.class) kind signal ≡ true
          → IsSent settings state.forest.rows at.object signal (told_value settings state at.object value signal)
      method row kind signal here is told =
          let its : methods_by settings.classes state.forest.rows at.object ≡ methods settings.classes row.class =
          ap (λ row. option_map_or (λ (row : Row). methods settings.classes row.class) row []) here in
          record {
            signal_there = ap (λ methods. is_signal_at methods signal) its ∙ one (slice_get (methods settings.classes row.class) signal) told;
            arguments = subst (λ methods. AreArguments (kinds_at methods signal) (take (length (kinds_at methods signal)) (value ∷ []))) (sym its)
                (other (slice_get (methods settings.classes row.class) signal) told);
          }
        where
          one : (found : Option Method) → option_map_or (λ (method : Method). method.is_signal && may_tell kind method.signature.kinds) found false ≡ true
              → option_map_or (λ (method : Method). method.is_signal) found false ≡ true
          one None e = e
          one (Some method) e = (and_parts _ _ e).0

          other : (found : Option Method) → option_map_or (λ (method : Method). method.is_signal && may_tell kind method.signature.kinds) found false ≡ true
              → AreArguments (option_map_or (λ (method : Method). method.signature.kinds) found [])
              (take (length (option_map_or (λ (method : Method). method.signature.kinds) found [])) (value ∷ []))
          other None e = tt
          other (Some method) e = told_arguments kind method.signature.kinds value (and_parts _ _ e).1 is

      notified : (row : Row) (property : Property) → row_of state.forest.rows at.object ≡ Some row
          → slice_get (properties settings.classes row.class) at.number ≡ Some property → (signal : Option ℕ) → property.notify ≡ signal → Sent signal
      notified row property here is None so = tt
      notified row property here is (Some signal) so = λ there.
          let tells : is_told (methods settings.classes row.class) property ≡ true =
          of_slice (λ (property : Property). is_told (methods settings.classes row.class) property ≡ true)
          (properties settings.classes row.class) at.number property is (each_property settings.classes table row.class) in
          method row property.kind signal here (told_kind at value row property here is fits)
          (sym (ap (λ signal. option_map_or (is_told_by (methods settings.classes row.class) property.kind) signal true) so) ∙ tells)

      declares : (row : Row) → row_of state.forest.rows at.object ≡ Some row → (property : Option Property)
          → slice_get (properties settings.classes row.class) at.number ≡ property → Sent (option_and_then (λ (property : Property). property.notify) property)
      declares row here None is = tt
      declares row here (Some property) is = notified row property here is property.notify refl

      by : (row : Option Row) → row_of state.forest.rows at.object ≡ row
          → Sent (option_and_then (λ (property : Property). property.notify)
          (option_and_then (λ (row : Row). slice_get (properties settings.classes row.class) at.number) row))
      by None here = tt
      by (Some row) here = declares row here (slice_get (properties settings.classes row.class) at.number) refl

  -- what is told of several changes
  tells_fit : (depth : ℕ) (changes : List Change) → All (λ change. graph_fitting.IsFitting state.store change.at change.told) changes
      → All (IsFittingItem settings state) (tells settings state depth changes)
  tells_fit depth [] all = All-nil (IsFittingItem settings state)
  tells_fit depth (change ∷ changes) all =
      by (told_as settings state depth change.at change.told)
      (told_fits depth change.at change.told (All-head (λ (change : Change). graph_fitting.IsFitting state.store change.at change.told) change changes all))
      (tells_fit depth changes (All-tail (λ (change : Change). graph_fitting.IsFitting state.store change.at change.told) change changes all))
    where
      by : (item : Option Item) → IfSome item (IsFittingItem settings state) → All (IsFittingItem settings state) (tells settings state depth changes)
          → All (IsFittingItem settings state) (cons_option item (tells settings state depth changes))
      by None fit later = later
      by (Some item) fit later = All-cons (IsFittingItem settings state) item (tells settings state depth changes) fit later

module _ (settings : Settings) (table : IsTable settings.classes) (after : State) (whole : IsWhole after) (declared : IsDeclared settings.classes after) where
  -- what has changed since something was shown
  since : (last : List Shown) → AreShown last → (depth : ℕ) (written : Option At)
      → All (IsFittingItem settings after) (tells settings after depth (cond (is_open after.graph) [] (graph.changes last (showing after) written)))
  since last shown depth written = tells_fit settings table after whole.properties declared depth _
      (changes_fit after.store (record after.graph { last = last }) whole.properties
      (record { bindings = whole.graph.bindings; last = shown; shallow = whole.graph.shallow }) written)

  -- what a change of a session tells fits, and what the end of a group does
  pub change_fits : (doing : Execution) → IsWhole doing.state → (depth : ℕ) (written : Option At)
      → All (IsFittingItem settings after) (comes_to settings doing depth after written).items
  change_fits doing before depth written =
      since (showing doing.state) (all_shown_sound doing.state.store before.properties doing.state.graph.bindings before.graph.bindings) depth written

pub ending_fits : (settings : Settings) (table : IsTable settings.classes) (state : State) → IsWhole state → IsWhole (without_group state)
    → IsDeclared settings.classes (without_group state) → All (IsFittingItem settings (without_group state)) (ending settings state).items
ending_fits settings table state before whole declared =
    cond_both (is_open after.graph) [] (tells settings after 0 (graph.changes state.graph.last (showing after) None)) (All (IsFittingItem settings after))
    (λ deep. All-nil (IsFittingItem settings after))
    (λ last. subst (λ changes. All (IsFittingItem settings after) (tells settings after 0 changes)) (cond-false (is_open after.graph) _ _ last)
    (since settings table after whole declared state.graph.last before.graph.last 0 None))
  where
    after : State
    after = without_group state
