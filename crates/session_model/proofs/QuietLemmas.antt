-- Where properties show what they showed, nothing is told.
use Rattle.std.proofs.Common.{◌≡◌, ◌∙◌, ◌==◌, ℕ, suc, Bool, true, false, cond, List, [], ◌∷◌, ◌++◌, Option, Some, None, Ok, All, filter, filter_map, get_or}
use Rattle.std.proofs.Common.{is_some, option_map, slice_get, refl, sym, ap, arith, if◌then◌else◌}
use Rattle.std.specs.Option.{option_and_then, option_map_or}
use Rattle.std.proofs.lemmas.List.Elements.{All-append, All-filter}
use Rattle.session_model.proofs.Common.{is_same, Field, Properties, Store, changed, properties_of, changed_fields, Target, Change, BindingError, Property}
use Rattle.session_model.proofs.Common.{Shown, before, has_turn, in_turn, is_same_error, notice, shown_now, warning, Cell, cell_in, cell_of, properties_in}
use Rattle.property_store.specs.Store.{default_of}
use Rattle.binding_values.specs.declared.binding.Binding.{Binding}
use Rattle.binding_values.specs.declared.change.ChangeKind.TheVariants as message
use Rattle.binding_values.specs.declared.property.BindingError.TheVariants.{BindingLoop, EvaluationError}
use Rattle.binding_values.specs.Graph.{all_shown, changes, shown_as}
use Rattle.binding_values.specs.Scene.{plain}
use Rattle.binding_values.specs.Stored.{bindable_number, fields_at, meant}
use Rattle.binding_values.proofs.ForCallers.{all_given, found_in_all, shown_of, same_value}
use Rattle.session_model.proofs.BindingLemmas.{properties_changed}

-- an error is the same as itself
same_error_itself : (error : BindingError) → is_same_error error error ≡ true
same_error_itself BindingLoop = refl
same_error_itself EvaluationError = refl

-- a function that makes nothing of any element
pub none_made : {X Y : Type 0} (h : X → Option Y) (xs : List X) → All (λ x. h x ≡ None) xs → filter_map h xs ≡ []
none_made h [] none = refl
none_made h (x ∷ xs) none = let here : h x ≡ None = none 0 x (omega arith) in rw here
    (none_made h xs (λ index default within. none (suc index) default (omega arith)))

-- what holds of all rows holds of them in turn
pub all_in_turn : (P : Shown → Type 0) (written : Option Property) (now : List Shown) → All P now → All P (in_turn written now)
all_in_turn P written now all = All-append P (filter (has_turn written true) now) (filter (has_turn written false) now)
    (All-filter (has_turn written true) P now all) (All-filter (has_turn written false) P now all)

-- nothing is told where each property shows what it showed
pub quiet : (last now : List Shown) (written : Option Property) → All (λ (shown : Shown). before last shown ≡ shown) now → changes last now written ≡ []
quiet last now written same =
    ap (λ warned. warned ++ filter_map (notice last) rows)
    (none_made (warning last) rows (λ index default within. warns (get_or rows index default) (turned index default within)))
    ∙ none_made (notice last) rows (λ index default within. notices (get_or rows index default) (turned index default within))
  where
    rows : List Shown
    rows = in_turn written now

    turned : All (λ (shown : Shown). before last shown ≡ shown) rows
    turned = all_in_turn (λ shown. before last shown ≡ shown) written now same

    by_error : (shown : Shown) (error : Option BindingError) →
        option_and_then (λ error'. if option_map_or (is_same_error error') error false then None
        else Some (let change : Change = record { at = shown.at; told = message.Error error' } in change)) error ≡ None
    by_error shown None = refl
    by_error shown (Some error) = ap (λ same. cond same None (Some (let change : Change = record { at = shown.at; told = message.Error error } in change)))
        (same_error_itself error)

    warns : (shown : Shown) → before last shown ≡ shown → warning last shown ≡ None
    warns shown is =
        ap (λ (stood : Shown). option_and_then (λ error. if option_map_or (is_same_error error) stood.error false then None
        else Some (let change : Change = record { at = shown.at; told = message.Error error } in change)) shown.error) is
        ∙ by_error shown shown.error

    notices : (shown : Shown) → before last shown ≡ shown → notice last shown ≡ None
    notices shown is =
        ap (λ (stood : Shown). if is_same stood.value shown.value then None
        else Some (let change : Change = record { at = shown.at; told = message.Value shown.value } in change)) is
        ∙ ap (λ same. cond same None (Some (let change : Change = record { at = shown.at; told = message.Value shown.value } in change)))
        (same_value shown.value)

module _ (s : Store) (bindings : List Binding) where
  -- each row shows what its property shows
  pub rows_of_now : (properties : List Property) → All (λ (shown : Shown). shown_now s bindings shown.at ≡ Some shown)
      (filter_map (shown_now s bindings) properties)
  rows_of_now properties = all_given (shown_now s bindings) (λ (shown : Shown). shown_now s bindings shown.at ≡ Some shown) properties
      (λ index default within shown made. ap (shown_now s bindings) (shown_of s bindings (get_or properties index default) shown made) ∙ made)

  -- where nothing has changed nothing is told
  pub nothing_changed : (written : Option Property) → changes (all_shown s bindings) (all_shown s bindings) written ≡ []
  nothing_changed written = quiet (all_shown s bindings) (all_shown s bindings) written
      (λ index default within. one (get_or (all_shown s bindings) index default) (rows_of_now (properties_in s) index default within))
    where
      one : (shown : Shown) → shown_now s bindings shown.at ≡ Some shown → before (all_shown s bindings) shown ≡ shown
      one shown is = ap (λ stood. option_map_or (λ (stood : Shown). stood) stood (shown_as shown.at shown.kind (Ok (default_of shown.kind))))
          (found_in_all s bindings shown.at ∙ is)

-- what all properties show, by their cells and by the properties that names stand for
abbrev all_by : List Binding → (Property → Option Cell) → (ℕ → Target → List ℕ → Option Property) → List Property → List Shown
all_by bindings cell_at named properties =
    filter_map (λ q. option_map (λ cell. shown_as q cell.kind
    (plain (record { bindings = filter (λ binding. is_some (cell_at binding.at)) bindings; cell_at = cell_at; named = named }) [] q)) (cell_at q))
    properties

-- what is found of an object after a change that leaves it its number
abbrev pub changed_one : (Properties → Properties) → ℕ → Properties → Properties
changed_one change object of = cond (of.object == object) (change of) of

pub found_changed : (change : Properties → Properties) (object : ℕ) → ((of : Properties) → (change of).object ≡ of.object) → (s : Store) (other : ℕ)
    → properties_of (changed change object s) other ≡ option_map (changed_one change object) (properties_of s other)
found_changed change object same [] other = refl
found_changed change object same (of ∷ rest) other =
    ap (λ number. cond (number == other) (Some (changed_one change object of)) (properties_of (changed change object rest) other))
    (same_one (of.object == object)) ∙ by (of.object == other) (found_changed change object same rest other)
  where
    same_one : (is : Bool) → (cond is (change of) of).object ≡ of.object
    same_one true = same of
    same_one false = refl

    by : (is : Bool) → properties_of (changed change object rest) other ≡ option_map (changed_one change object) (properties_of rest other)
        → cond is (Some (changed_one change object of)) (properties_of (changed change object rest) other)
        ≡ option_map (changed_one change object) (cond is (Some of) (properties_of rest other))
    by true later = refl
    by false later = later

-- a change that leaves an object its number, what it declares and its values leaves what all properties show
module _ (change : Properties → Properties) (object : ℕ) (same : (of : Properties) → (change of).object ≡ of.object)
    (fields : (of : Properties) → (change of).fields ≡ of.fields) (values : (of : Properties) → (change of).values ≡ of.values) where
  cells_same : (s : Store) (q : Property) → cell_in (changed change object s) q ≡ cell_in s q
  cells_same s q = ap (λ found. option_map_or (cell_of q.number) found None) (found_changed change object same s q.object) ∙ by (properties_of s q.object)
    where
      inside : (of : Properties) (is : Bool) → cell_of q.number (cond is (change of) of) ≡ cell_of q.number of
      inside of true = λ i. option_map_or (λ (field : Field). option_map (λ value. let cell : Cell = record { kind = field.kind; value = value } in cell)
          (slice_get (values of i) q.number)) (slice_get (fields of i) q.number) None
      inside of false = refl

      by : (found : Option Properties) → option_map_or (cell_of q.number) (option_map (changed_one change object) found) None
          ≡ option_map_or (cell_of q.number) found None
      by None = refl
      by (Some of) = inside of (of.object == object)

  fields_same : (s : Store) (other : ℕ) → fields_at (changed change object s) other ≡ fields_at s other
  fields_same s other = by (properties_of (changed change object s) other)
      ∙ (ap (λ fields. option_map_or (λ fields. fields) fields []) (changed_fields change object same fields s other) ∙ sym (by (properties_of s other)))
    where
      by : (found : Option Properties) → option_map_or (λ (of : Properties). of.fields) found []
          ≡ option_map_or (λ (fields : List Field). fields) (option_map (λ (of : Properties). of.fields) found) []
      by None = refl
      by (Some of) = refl

  pub showing_same : (s : Store) (bindings : List Binding) → all_shown (changed change object s) bindings ≡ all_shown s bindings
  showing_same s bindings = λ i. all_by bindings (λ q. cells_same s q i)
      (λ object target name. option_map (λ number. record { object = number; number = bindable_number name (fields_same s number i) }) (meant object target))
      (properties_changed change object same fields s i)
