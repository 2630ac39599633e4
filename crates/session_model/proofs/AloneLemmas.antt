-- Where no property is bound and no group is open, a write tells of the written property alone, and nothing
-- is told when an object goes.
use Rattle.std.proofs.Common.{◌≡◌, ◌∙◌, ◌==◌, ◌&&◌, ℕ, zero, suc, Bool, true, false, not, cond, List, [], ◌∷◌, ◌++◌, Option, Some, None, Ok, All, append-nil}
use Rattle.std.proofs.Common.{filter, filter_map, find, get_or, option_map, set, slice_get, refl, sym, ap, subst, arith, if◌then◌else◌}
use Rattle.std.specs.List.{cons_option}
use Rattle.std.specs.Option.{option_and_then, option_map_or}
use Rattle.std.proofs.lemmas.Bool.{not-true}
use Rattle.std.proofs.lemmas.Bool.Decides.{nat_tests}
use Rattle.std.proofs.lemmas.List.Elements.{recursion_from_All, All-filter, filter_map-append, filter_passes}
use Rattle.session_model.proofs.Common.{Value, is_same, Field, Properties, Store, changed, properties_of, with_value, without_others, Term, Change, Property}
use Rattle.session_model.proofs.Common.{Shown, before, has_turn, in_turn, is_same_error, notice, shown_now, warning, Cell, cell_in, cell_of, properties_in}
use Rattle.session_model.proofs.Common.{all_shown_sound}
use Rattle.property_store.specs.Store as store
use Rattle.property_store.specs.Store.{without}
use Rattle.binding_values.specs.declared.change.ChangeKind.TheVariants as message
use Rattle.binding_values.specs.Graph.{all_shown, changes, fresh, shown_as, shown_at}
use Rattle.binding_values.specs.Scene.{Outcome, choose, evaluated, plain}
use Rattle.property_store.specs.Property.{is_property}
use Rattle.binding_values.specs.Sorted.{IsRising}
use Rattle.binding_values.specs.Stored.{scene_of}
use Rattle.binding_values.proofs.ForCallers.{plain_rule, property_eq, all_given, is_other, found_in_all, same_value}
use Rattle.session_model.proofs.BindingLemmas.{found_number, graph_sound_none}
use Rattle.session_model.proofs.QuietLemmas.{all_in_turn, changed_one, found_changed, none_made, quiet, rows_of_now}
use Rattle.session_model.proofs.FilterLemmas.{filter-none}

-- an element that was written, and the others
got_set : {X : Type 0} (xs : List X) (n : ℕ) (x old : X) → slice_get xs n ≡ Some old → slice_get (set xs n x) n ≡ Some x
got_set [] n x old is = absurd (cc)
got_set (y ∷ xs) zero x old is = refl
got_set (y ∷ xs) (suc n) x old is = got_set xs n x old is

got_other : {X : Type 0} (xs : List X) (n m : ℕ) (x : X) → (n == m) ≡ false → slice_get (set xs n x) m ≡ slice_get xs m
got_other [] n m x apart = refl
got_other (y ∷ xs) zero zero x apart = absurd (cc)
got_other (y ∷ xs) zero (suc m) x apart = refl
got_other (y ∷ xs) (suc n) zero x apart = refl
got_other (y ∷ xs) (suc n) (suc m) x apart = got_other xs n m x (grind (arith, nat_tests, apart))

numbers_apart : (a b c d o : ℕ) → (o == a) ≡ true → (o == c) ≡ true → (a == c && b == d) ≡ false → (b == d) ≡ false
numbers_apart a b c d o one other apart = grind (arith, nat_tests, one, other, apart)

-- where nothing is bound a property shows what is stored
pub stored_shown : (s : Store) (q : Property) → shown_now s [] q ≡ option_map (λ (cell : Cell). shown_as q cell.kind (Ok cell.value)) (cell_in s q)
stored_shown s q = ap (λ (outcome : Outcome). option_map (λ (cell : Cell). shown_as q cell.kind outcome) (cell_in s q)) (plain_rule (scene_of s []) [] q)
    ∙ by (cell_in s q)
  where
    evaluate : Cell → Term → Outcome
    evaluate cell term = evaluated (scene_of s []) (plain (scene_of s []) (q ∷ [])) q.object cell.kind term

    by : (c : Option Cell) → option_map (λ (cell : Cell). shown_as q cell.kind (choose false c None evaluate)) c
        ≡ option_map (λ (cell : Cell). shown_as q cell.kind (Ok cell.value)) c
    by None = refl
    by (Some cell) = refl

-- a row of a property stands once among rows by rising object and number
only_one : (q : Property) (rows : List Shown) → IsRising (λ (shown : Shown). shown.at) rows
    → filter (λ (shown : Shown). is_property q shown.at) rows ≡ option_map_or (λ (shown : Shown). shown ∷ []) (shown_at rows q) []
only_one q [] rising = refl
only_one q (row ∷ rows) rising = by (is_property q row.at) refl
    (only_one q rows (λ i j default lt within. rising (suc i) (suc j) default (omega arith) (omega arith)))
  where
    test : Shown → Bool
    test shown = is_property q shown.at

    by : (here : Bool) → is_property q row.at ≡ here → filter test rows ≡ option_map_or (λ (shown : Shown). shown ∷ []) (find test rows) []
        → cond here (row ∷ filter test rows) (filter test rows) ≡ option_map_or (λ (shown : Shown). shown ∷ []) (cond here (Some row) (find test rows)) []
    by true e later = ap (λ rest. row ∷ rest) (filter-none test rows (recursion_from_All (λ (shown : Shown). test shown ≡ false) rows (λ index default within.
        subst (λ (p : Property). is_property p (get_or rows index default).at ≡ false) (sym (property_eq q row.at e))
        (is_other row.at (get_or rows index default).at (rising 0 (suc index) default (omega arith) (omega arith))))))
    by false e later = later

-- nothing is warned of what stands for no error, and nothing is told of what shows what it showed
no_warning : (last : List Shown) (shown : Shown) → shown.error ≡ None → warning last shown ≡ None
no_warning last shown is = ap (λ error. option_and_then
    (λ error. if option_map_or (is_same_error error) (before last shown).error false then None
    else Some (let change : Change = record { at = shown.at; told = message.Error error } in change)) error) is

no_notice : (last : List Shown) (shown : Shown) → before last shown ≡ shown → notice last shown ≡ None
no_notice last shown is =
    ap (λ (stood : Shown). if is_same stood.value shown.value then None
    else Some (let change : Change = record { at = shown.at; told = message.Value shown.value } in change)) is
    ∙ ap (λ same. cond same None (Some (let change : Change = record { at = shown.at; told = message.Value shown.value } in change))) (same_value shown.value)

-- where nothing stands for an error, and no other property shows another value than before, one may tell of
-- its value
told_alone : (last now : List Shown) (q : Property) (row : Shown) → filter (λ (shown : Shown). is_property q shown.at) now ≡ row ∷ []
    → All (λ (shown : Shown). is_property q shown.at ≡ false → before last shown ≡ shown) now → All (λ (shown : Shown). shown.error ≡ None) now
    → changes last now (Some q) ≡ cons_option (notice last row) []
told_alone last now q row its others errors =
    ap (λ warned. warned ++ filter_map (notice last) (in_turn (Some q) now)) (none_made (warning last) (in_turn (Some q) now) warned)
    ∙ (filter_map-append (notice last) (filter (has_turn (Some q) true) now) rest
    ∙ (ap (λ noticed. filter_map (notice last) (filter (has_turn (Some q) true) now) ++ noticed) (none_made (notice last) rest noticed)
    ∙ (append-nil (filter_map (notice last) (filter (has_turn (Some q) true) now))
    ∙ ap (filter_map (notice last)) its)))
  where
    rest : List Shown
    rest = filter (has_turn (Some q) false) now

    warned : All (λ shown. warning last shown ≡ None) (in_turn (Some q) now)
    warned index default within = no_warning last (get_or (in_turn (Some q) now) index default)
        (all_in_turn (λ (shown : Shown). shown.error ≡ None) (Some q) now errors index default within)

    noticed : All (λ shown. notice last shown ≡ None) rest
    noticed index default within =
        let shown : Shown = get_or rest index default in
        let other : is_property q shown.at ≡ false = not-true (is_property q shown.at) (filter_passes (has_turn (Some q) false) now index default within) in
        no_notice last shown (All-filter (has_turn (Some q) false)
        (λ (shown : Shown). is_property q shown.at ≡ false → before last shown ≡ shown) now others index default within other)

-- where nothing is bound nothing stands for an error
plain_rows : (s : Store) (properties : List Property) → All (λ (shown : Shown). shown.error ≡ None) (filter_map (shown_now s []) properties)
plain_rows s properties = all_given (shown_now s []) (λ (shown : Shown). shown.error ≡ None) properties
    (λ index default within shown made. by (get_or properties index default) (cell_in s (get_or properties index default)) shown
    (sym (stored_shown s (get_or properties index default)) ∙ made))
  where
    by : (q : Property) (c : Option Cell) (shown : Shown) → option_map (λ (cell : Cell). shown_as q cell.kind (Ok cell.value)) c ≡ Some shown
        → shown.error ≡ None
    by q None shown e = absurd (cc)
    by q (Some cell) shown e = let same : shown_as q cell.kind (Ok cell.value) ≡ shown = cc in ap (λ (shown : Shown). shown.error) (sym same)

module _ (s : Store) (q : Property) (value : Value) where
  -- the properties with the value written
  abbrev new : Store
  new = changed (with_value q.number value) q.object s

  -- another property has its cell as before, and the written one the value
  other_cell : (p : Property) → is_property q p ≡ false → cell_in new p ≡ cell_in s p
  other_cell p apart = ap (λ found. option_map_or (cell_of p.number) found None) (found_changed (with_value q.number value) q.object (λ of. refl) s p.object)
      ∙ by (properties_of s p.object) refl
    where
      inside : (of : Properties) (is : Bool) → (of.object == q.object) ≡ is → (of.object == p.object) ≡ true
          → cell_of p.number (cond is (with_value q.number value of) of) ≡ cell_of p.number of
      inside of true e f =
          ap (λ got. option_map_or (λ (field : Field). option_map (λ value. let cell : Cell = record { kind = field.kind; value = value } in cell) got)
          (slice_get of.fields p.number) None)
          (got_other of.values q.number p.number value (numbers_apart q.object q.number p.object p.number of.object e f apart))
      inside of false e f = refl

      by : (found : Option Properties) → properties_of s p.object ≡ found
          → option_map_or (cell_of p.number) (option_map (changed_one (with_value q.number value) q.object) found) None
          ≡ option_map_or (cell_of p.number) found None
      by None e = refl
      by (Some of) e = inside of (of.object == q.object) refl (found_number s p.object of e)

  pub its_cell : (cell : Cell) → cell_in s q ≡ Some cell → cell_in new q ≡ Some (record { kind = cell.kind; value = value })
  its_cell cell is = ap (λ found. option_map_or (cell_of q.number) found None) (found_changed (with_value q.number value) q.object (λ of. refl) s q.object)
      ∙ by (properties_of s q.object) refl is
    where
      two : (of : Properties) (field : Option Field) (old : Option Value) → slice_get of.values q.number ≡ old
          → option_map_or (λ (field : Field). option_map (λ value. let cell : Cell = record { kind = field.kind; value = value } in cell) old) field None
          ≡ Some cell
          → option_map_or (λ (field : Field). option_map (λ value. let cell : Cell = record { kind = field.kind; value = value } in cell)
          (slice_get (set of.values q.number value) q.number)) field None ≡ Some (let cell' : Cell = record { kind = cell.kind; value = value } in cell')
      two of None old e f = absurd (cc)
      two of (Some field) None e f = absurd (cc)
      two of (Some field) (Some old) e f =
          let same : (let c : Cell = record { kind = field.kind; value = old } in c) ≡ cell = cc in
          ap (option_map (λ value. let c : Cell = record { kind = field.kind; value = value } in c)) (got_set of.values q.number value old e)
          ∙ ap (λ (c : Cell). Some (let made : Cell = record { kind = c.kind; value = value } in made)) same

      by : (found : Option Properties) → properties_of s q.object ≡ found → option_map_or (cell_of q.number) found None ≡ Some cell
          → option_map_or (cell_of q.number) (option_map (changed_one (with_value q.number value) q.object) found) None
          ≡ Some (let cell' : Cell = record { kind = cell.kind; value = value } in cell')
      by None e f = absurd (cc)
      by (Some of) e f = ap (λ is. cell_of q.number (cond is (with_value q.number value of) of)) (found_number s q.object of e)
          ∙ two of (slice_get of.fields q.number) (slice_get of.values q.number) refl f

  -- what is told of the write: the new value, where it is another one
  pub write_told : store.IsSound new → (cell : Cell) → cell_in s q ≡ Some cell
      → changes (all_shown s []) (all_shown new []) (Some q) ≡
      (if is_same cell.value value then [] else (let change : Change = record { at = q; told = message.Value value } in change) ∷ [])
  write_told sound cell is = told_alone last now q row its others (plain_rows new (properties_in new))
      ∙ (ap (λ made. cons_option made []) its_notice ∙ by (is_same cell.value value))
    where
      last : List Shown
      last = all_shown s []

      now : List Shown
      now = all_shown new []

      row : Shown
      row = shown_as q cell.kind (Ok value)

      shown_row : shown_at now q ≡ Some row
      shown_row =
          found_in_all new [] q
          ∙ (stored_shown new q ∙ ap (option_map (λ (cell : Cell). shown_as q cell.kind (Ok cell.value))) (its_cell cell is))

      its : filter (λ (shown : Shown). is_property q shown.at) now ≡ row ∷ []
      its = only_one q now (all_shown_sound new sound [] graph_sound_none.bindings).rising
          ∙ ap (λ found. option_map_or (λ (shown : Shown). shown ∷ []) found []) shown_row

      others : All (λ (shown : Shown). is_property q shown.at ≡ false → before last shown ≡ shown) now
      others index default within apart =
          let shown : Shown = get_or now index default in
          let of_now : shown_now new [] shown.at ≡ Some shown = rows_of_now new [] (properties_in new) index default within in
          let found : shown_at last shown.at ≡ Some shown =
          found_in_all s [] shown.at
          ∙ (stored_shown s shown.at ∙ (ap (option_map (λ (cell : Cell). shown_as shown.at cell.kind (Ok cell.value))) (sym (other_cell shown.at apart))
          ∙ (sym (stored_shown new shown.at) ∙ of_now))) in
          ap (λ stood. option_map_or (λ (stood : Shown). stood) stood (fresh shown.at shown.kind)) found

      stood : before last row ≡ shown_as q cell.kind (Ok cell.value)
      stood = ap (λ stood. option_map_or (λ (stood : Shown). stood) stood (fresh q cell.kind))
          (found_in_all s [] q ∙ (stored_shown s q ∙ ap (option_map (λ (cell : Cell). shown_as q cell.kind (Ok cell.value))) is))

      its_notice : notice last row ≡ (if is_same cell.value value then None
          else Some (let change : Change = record { at = q; told = message.Value value } in change))
      its_notice = ap (λ (stood : Shown). if is_same stood.value value then None
          else Some (let change : Change = record { at = q; told = message.Value value } in change)) stood

      by : (equal : Bool) → cons_option (cond equal None (Some (let change : Change = record { at = q; told = message.Value value } in change))) []
          ≡ cond equal [] ((let change : Change = record { at = q; told = message.Value value } in change) ∷ [])
      by true = refl
      by false = refl

-- an object that goes takes nothing from the others
module _ (s : Store) (object : ℕ) where
  -- what is there after it is of another object
  found_other : (s : Store) (other : ℕ) (of : Properties) → properties_of (without object s) other ≡ Some of → (other == object) ≡ false
  found_other [] other of is = absurd (cc)
  found_other (first ∷ rest) other of is = by (first.object == object) refl is (found_other rest other of)
    where
      apart : (first.object == object) ≡ false → (here : Bool) → (first.object == other) ≡ here
          → cond here (Some first) (properties_of (without object rest) other) ≡ Some of
          → (properties_of (without object rest) other ≡ Some of → (other == object) ≡ false) → (other == object) ≡ false
      apart e true f is later = grind (arith, nat_tests, e, f)
      apart e false f is later = later is

      by : (goes : Bool) → (first.object == object) ≡ goes → properties_of (cond (not goes) (first ∷ without object rest) (without object rest)) other ≡ Some of
          → (properties_of (without object rest) other ≡ Some of → (other == object) ≡ false) → (other == object) ≡ false
      by true e is later = later is
      by false e is later = apart e (first.object == other) refl is later

  pub going_told : (written : Option Property) → changes (all_shown s []) (all_shown (without object s) []) written ≡ []
  going_told written = quiet last now written
      (λ index default within. one (get_or now index default) (rows_of_now (without object s) [] (properties_in (without object s)) index default within))
    where
      last : List Shown
      last = all_shown s []

      now : List Shown
      now = all_shown (without object s) []

      same_cell : (q : Property) (shown : Shown) → shown_now (without object s) [] q ≡ Some shown → cell_in s q ≡ cell_in (without object s) q
      same_cell q shown is = by (properties_of (without object s) q.object) refl (sym (stored_shown (without object s) q) ∙ is)
        where
          by : (found : Option Properties) → properties_of (without object s) q.object ≡ found
              → option_map (λ (cell : Cell). shown_as q cell.kind (Ok cell.value)) (option_map_or (cell_of q.number) found None) ≡ Some shown
              → cell_in s q ≡ cell_in (without object s) q
          by None e f = absurd (cc)
          by (Some of) e f = ap (λ found. option_map_or (cell_of q.number) found None) (sym (without_others s object q.object (found_other s q.object of e)))

      one : (shown : Shown) → shown_now (without object s) [] shown.at ≡ Some shown → before last shown ≡ shown
      one shown of_now =
          let found : shown_at last shown.at ≡ Some shown =
          found_in_all s [] shown.at
          ∙ (stored_shown s shown.at ∙ (ap (option_map (λ (cell : Cell). shown_as shown.at cell.kind (Ok cell.value))) (same_cell shown.at shown of_now)
          ∙ (sym (stored_shown (without object s) shown.at) ∙ of_now))) in
          ap (λ stood. option_map_or (λ (stood : Shown). stood) stood (fresh shown.at shown.kind)) found
