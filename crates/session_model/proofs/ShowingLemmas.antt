-- What is told of changes: warnings and signals alone, and no more of them than declared properties allow.
use Rattle.std.proofs.Common.{◌≡◌, ◌∙◌, ◌+◌, ◌*◌, ◌≤◌, ℕ, suc, Bool, true, false, not, cond, List, [], ◌∷◌, Option, Some, None, filter, filter_map, length}
use Rattle.std.proofs.Common.{option_map, refl, ap, arith, if◌then◌else◌}
use Rattle.std.specs.List.{cons_option, list_any}
use Rattle.std.specs.Option.{option_and_then, option_map_or}
use Rattle.std.proofs.Math.Nat.{mul-le-mul_right, suc-mul}
use Rattle.std.proofs.lemmas.Bool.{cond_both}
use Rattle.std.proofs.lemmas.List.{length-append}
use Rattle.std.proofs.lemmas.List.Elements.{filter_map-append}
use Rattle.std.proofs.lemmas.List.Filters.{length-filter_both}
use Rattle.session_model.proofs.Common.{Value, is_same, Change, ChangeKind, BindingError, Shown, before, has_turn, in_turn, is_open, is_same_error, notice}
use Rattle.session_model.proofs.Common.{shown_now, warning, properties_in, Execution, begun, in_state, Emit, Item, Next, puts, Most, change_weight, weights}
use Rattle.session_model.proofs.Common.{Settings, changes, comes_to, showing, told_as, told_value, State, without_group, is_gone}
use Rattle.binding_values.specs.declared.change.ChangeKind.TheVariants as message
use Rattle.property_store.specs.declared.property.Property.{Property as At}
use Rattle.binding_values.specs.Graph as graph
use Rattle.class_table.specs.declared.class.Property.{Property}
use Rattle.session_model.specs.Showing.{property_at}
use Rattle.session_model.proofs.WeightLemmas.{weights-append}

-- what is told of several changes
abbrev pub tells : Settings → State → ℕ → List Change → List Item
tells settings after depth changes = filter_map (λ change. told_as settings after depth change.at change.told) changes

module _ (settings : Settings) (after : State) (depth : ℕ) where
  -- no object is let go
  pub tells_stay : (changes : List Change) → list_any is_gone (tells settings after depth changes) ≡ false
  tells_stay [] = refl
  tells_stay (change ∷ rest) = by change.told (tells_stay rest)
    where
      sent : (signal : Option ℕ) (value : Value) → list_any is_gone (tells settings after depth rest) ≡ false
          → list_any is_gone (cons_option (option_map (λ signal. Emit change.at.object signal (told_value settings after change.at.object value signal) depth)
          signal) (tells settings after depth rest)) ≡ false
      sent None value later = later
      sent (Some signal) value later = later

      by : (what : ChangeKind) → list_any is_gone (tells settings after depth rest) ≡ false
          → list_any is_gone (cons_option (told_as settings after depth change.at what) (tells settings after depth rest)) ≡ false
      by (message.Error error) later = later
      by (message.Value value) later = sent (option_and_then (λ (property : Property). property.notify)
          (property_at settings after change.at.object change.at.number)) value later

  -- a warning weighs one, and a signal what it may call
  one_value : (n : Most) (at : At) (value : Value) (rest : List Item)
      → weights n (cons_option (told_as settings after depth at (message.Value value)) rest) ≤ n.connections + 2 + weights n rest
  one_value n at value rest = by (option_and_then (λ (property : Property). property.notify) (property_at settings after at.object at.number))
    where
      by : (signal : Option ℕ) → weights n (cons_option
          (option_map (λ signal. Emit at.object signal (told_value settings after at.object value signal) depth) signal) rest) ≤ n.connections + 2 + weights n
          rest
      by None = omega arith
      by (Some signal) = omega arith

  warnings-weight : (n : Most) (last rows : List Shown) → weights n (tells settings after depth (filter_map (warning last) rows)) ≤ length rows
  warnings-weight n last [] = omega arith
  warnings-weight n last (shown ∷ rows) = by shown.error (warnings-weight n last rows)
    where
      rest : List Change
      rest = filter_map (warning last) rows

      one : (error : BindingError) (stood : Bool) → weights n (tells settings after depth rest) ≤ length rows
          → weights n (tells settings after depth (cons_option
          (cond stood None (Some (let change : Change = record { at = shown.at; told = message.Error error } in change))) rest)) ≤ suc (length rows)
      one error true le = omega (arith, le)
      one error false le = omega (arith, le)

      by : (error : Option BindingError) → weights n (tells settings after depth rest) ≤ length rows
          → weights n (tells settings after depth (cons_option
          (option_and_then (λ error. if option_map_or (is_same_error error) (before last shown).error false then None
          else Some (let change : Change = record { at = shown.at; told = message.Error error } in change)) error) rest)) ≤ suc (length rows)
      by None le = omega (arith, le)
      by (Some error) le = one error (option_map_or (is_same_error error) (before last shown).error false) le

  notices-weight : (n : Most) (last rows : List Shown) → weights n (tells settings after depth (filter_map (notice last) rows)) ≤ length rows *
      (n.connections + 2)
  notices-weight n last [] = omega arith
  notices-weight n last (shown ∷ rows) = by (is_same (before last shown).value shown.value) (notices-weight n last rows)
    where
      rest : List Change
      rest = filter_map (notice last) rows

      by : (same : Bool) → weights n (tells settings after depth rest) ≤ length rows * (n.connections + 2)
          → weights n (tells settings after depth (cons_option
          (cond same None (Some (let change : Change = record { at = shown.at; told = message.Value shown.value } in change))) rest)) ≤ suc (length rows) *
          (n.connections + 2)
      by true le = omega (arith, le, suc-mul (length rows) (n.connections + 2))
      by false le = let one = one_value n shown.at shown.value (tells settings after depth rest) in
          omega (arith, le, one, suc-mul (length rows) (n.connections + 2))

-- each property has its turn once
turns : (written : Option At) (rows : List Shown) → length (in_turn written rows) ≡ length rows
turns written rows = length-append (filter (has_turn written true) rows) (filter (has_turn written false) rows)
    ∙ length-filter_both (has_turn written true) (has_turn written false) (other written) rows
  where
    other : (written : Option At) (shown : Shown) → has_turn written false shown ≡ not (has_turn written true shown)
    other None shown = refl
    other (Some written) shown = refl

-- a function makes no more of rows than there are
length-filter_map : {X Y : Type 0} (f : X → Option Y) (xs : List X) → length (filter_map f xs) ≤ length xs
length-filter_map f [] = omega arith
length-filter_map f (x ∷ xs) = by (f x) (length-filter_map f xs)
  where
    by : (made : Option _) → length (filter_map f xs) ≤ length xs → length (cons_option made (filter_map f xs)) ≤ suc (length xs)
    by None le = omega (arith, le)
    by (Some y) le = omega (arith, le)

changes-weight : (settings : Settings) (after : State) (depth : ℕ) (n : Most) (last now : List Shown) (written : Option At)
    → weights n (tells settings after depth (graph.changes last now written)) ≤ length now * (n.connections + 3)
changes-weight settings after depth n last now written =
    let rows = in_turn written now in
    let warns = filter_map (warning last) rows in
    let notices = filter_map (notice last) rows in
    let split = ap (weights n) (filter_map-append (λ (change : Change). told_as settings after depth change.at change.told) warns notices) in
    let both = weights-append n (tells settings after depth warns) (tells settings after depth notices) in
    let one = warnings-weight settings after depth n last rows in
    let other = notices-weight settings after depth n last rows in
    let all : length rows * (n.connections + 3) ≡ length now * (n.connections + 3) = ap (λ k. k * (n.connections + 3)) (turns written now) in
    let wide : length rows * (n.connections + 3) ≡ length rows * (n.connections + 2) + length rows = omega arith in
    omega (arith, split, both, one, other, all, wide)

-- what is told of a change of the session weighs no more than the declared properties allow
pub told-weight : (settings : Settings) (doing : Execution) (depth : ℕ) (after : State) (written : Option At) (n : Most)
    → length (properties_in after.store) ≤ n.properties
    → weights n (comes_to settings doing depth after written).items ≤ change_weight n
told-weight settings doing depth after written n fewer =
    cond_both (is_open after.graph) [] (graph.changes (showing doing.state) (showing after) written)
    (λ all. weights n (tells settings after depth all) ≤ change_weight n)
    (λ deep. omega arith)
    (λ told. let few = changes-weight settings after depth n (showing doing.state) (showing after) written in
    let shown = length-filter_map (shown_now after.store after.graph.bindings) (properties_in after.store) in
    let within : length (showing after) ≤ n.properties = omega (arith, shown, fewer) in
    let wide = mul-le-mul_right (n.connections + 3) within in
    omega (arith, few, wide))

-- what the end of a group comes to: with the outermost all is told that has changed since it began
abbrev pub ending : Settings → State → Next
ending settings state =
    let after = without_group state in
    puts (if is_open after.graph then [] else tells settings after 0 (graph.changes state.graph.last (showing after) None))
    (in_state (begun settings state) after)

pub ending_stays : (settings : Settings) (state : State) → list_any is_gone (ending settings state).items ≡ false
ending_stays settings state =
    let after = without_group state in
    let told = graph.changes state.graph.last (showing after) None in
    cond_both (is_open after.graph) [] (tells settings after 0 told) (λ items. list_any is_gone items ≡ false) (λ deep. refl)
    (λ last. tells_stay settings after 0 told)
