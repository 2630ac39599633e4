-- What a settling tells where only the properties that may have changed are looked at again.
use Rattle.std.proofs.Common.{◌≡◌, ◌∙◌, zero, suc, Bool, true, false, cond, List, [], ◌∷◌, ◌++◌, Option, Some, None, All, filter, filter_map, get_or, refl, sym}
use Rattle.std.proofs.Common.{ap, ap₂, subst, arith}
use Rattle.std.specs.Prelude.{if◌then◌else◌, option_and_then}
use Rattle.std.specs.List.{cons_option}
use Rattle.std.specs.Option.{option_map_or}
use Rattle.std.proofs.lemmas.Bool.Decides.{Decides-int_eq}
use Rattle.std.proofs.lemmas.Bool.{eq-eqb}
use Rattle.std.proofs.lemmas.List.Elements.{All-cons, filter_map-append}
use Rattle.std.proofs.lemmas.List.Kept.{AllPairs-filter}
use Rattle.std.proofs.lemmas.Slice.Eq.{bytes_eq-Decides}
use Rattle.variant_value.specs.declared.value.Value.{Value}
use Rattle.variant_value.specs.declared.value.Value.TheVariants as v
use Rattle.variant_value.specs.Values.{is_same}
use Rattle.property_store.specs.declared.property.Property.{Property}
use Rattle.property_store.specs.Property.{among, is_property}
use Rattle.binding_values.specs.declared.property.BindingError.{BindingError}
use Rattle.binding_values.specs.declared.property.BindingError.TheVariants.{BindingLoop, EvaluationError}
use Rattle.binding_values.specs.Sorted.{IsRising, is_before}
use Rattle.binding_values.proofs.FuelLemmas.{is_itself, property_eq}
use Rattle.binding_values.proofs.SortedLemmas.{before_trans, is_behind, is_other, is_property_sym}
use Rattle.binding_values.specs.declared.change.Change.{Change}
use Rattle.binding_values.specs.declared.change.ChangeKind.TheVariants as message
use Rattle.binding_values.specs.declared.shown.Shown.{Shown}
use Rattle.binding_values.specs.Graph.{changes, has_turn, in_turn, is_same_error, notice, shown_at, warning}

abbrev Rising : List Shown → Type 0
Rising rows = IsRising (λ (shown : Shown). shown.at) rows

-- what is found in rising rows

first_found : (row : Shown) (rows : List Shown) → shown_at (row ∷ rows) row.at ≡ Some row
first_found row rows = rw (is_itself row.at) refl

pub behind_first : (row : Shown) (rows : List Shown) → Rising (row ∷ rows) → All (λ (later : Shown). is_before row.at later.at ≡ true) rows
behind_first row rows rising k d lt = rising 0 (suc k) d (omega arith) (omega arith)

pub without_first : (row : Shown) (rows : List Shown) → Rising (row ∷ rows) → Rising rows
without_first row rows rising i j d lt within = rising (suc i) (suc j) d (omega arith) (omega arith)

pub none_behind : (q : Property) (rows : List Shown) → All (λ (later : Shown). is_before q later.at ≡ true) rows → shown_at rows q ≡ None
none_behind q [] all = refl
none_behind q (row ∷ rows) all =
    let other : is_property q row.at ≡ false = is_other q row.at (all 0 row (omega arith)) in
    rw other (none_behind q rows (λ k d lt. all (suc k) d (omega arith)))

pub each_found : (rows : List Shown) → Rising rows → All (λ (shown : Shown). shown_at rows shown.at ≡ Some shown) rows
each_found [] rising k d lt = absurd (omega arith)
each_found (row ∷ rows) rising zero d lt = first_found row rows
each_found (row ∷ rows) rising (suc k) d lt =
    let later = get_or rows k d in
    let other : is_property later.at row.at ≡ false = is_property_sym later.at row.at
    ∙ is_other row.at later.at (behind_first row rows rising k d (omega arith)) in
    rw other (each_found rows (without_first row rows rising) k d (omega arith))

-- what is found in the rows whose properties pass a test
pub found_filter : (p : Property → Bool) (rows : List Shown) (q : Property) → shown_at (filter (λ shown. p shown.at) rows) q ≡ cond (p q) (shown_at rows q) None
found_filter p [] q = by (p q)
  where
    by : (passes : Bool) → shown_at [] q ≡ cond passes (shown_at [] q) None
    by true = refl
    by false = refl
found_filter p (row ∷ rows) q = by (is_property q row.at) refl (p row.at) refl (found_filter p rows q)
  where
    kept : List Shown
    kept = filter (λ shown. p shown.at) rows

    by : (same : Bool) → is_property q row.at ≡ same → (passes : Bool) → p row.at ≡ passes → shown_at kept q ≡ cond (p q) (shown_at rows q) None
        → shown_at (cond passes (row ∷ kept) kept) q ≡ cond (p q) (cond same (Some row) (shown_at rows q)) None
    by true e true f later = let passes : p q ≡ true = ap p (property_eq q row.at e) ∙ f in rw (e, passes) refl
    by true e false f later = let fails : p q ≡ false = ap p (property_eq q row.at e) ∙ f in rw fails (rw fails at later)
    by false e true f later = rw e later
    by false e false f later = later

-- rising rows with the same look-up are the same

first_is_first : (x y : Shown) (xs ys : List Shown) → Rising (y ∷ ys) → ((q : Property) → shown_at (x ∷ xs) q ≡ shown_at (y ∷ ys) q)
    → is_before x.at y.at ≡ true → ⊥
first_is_first x y xs ys rising same first =
    let all : All (λ (later : Shown). is_before x.at later.at ≡ true) (y ∷ ys) =
    All-cons (λ (later : Shown). is_before x.at later.at ≡ true) y ys first
    (λ k d lt. before_trans x.at y.at (get_or ys k d).at first (behind_first y ys rising k d lt)) in
    let never : Some x ≡ None = sym (first_found x xs) ∙ (same x.at ∙ none_behind x.at (y ∷ ys) all) in
    cc

same_behind : (x : Shown) (xs ys : List Shown) → Rising (x ∷ xs) → Rising (x ∷ ys) → ((q : Property) → shown_at (x ∷ xs) q ≡ shown_at (x ∷ ys) q)
    → (q : Property) → shown_at xs q ≡ shown_at ys q
same_behind x xs ys rising risen same q = by (is_property q x.at) refl
  where
    none : (rows : List Shown) → Rising (x ∷ rows) → is_property q x.at ≡ true → shown_at rows q ≡ None
    none rows rises e = ap (shown_at rows) (property_eq q x.at e) ∙ none_behind x.at rows (behind_first x rows rises)

    by : (t : Bool) → is_property q x.at ≡ t → shown_at xs q ≡ shown_at ys q
    by true e = none xs rising e ∙ sym (none ys risen e)
    by false e = rw e at (same q)

pub same_rows : (xs ys : List Shown) → IsRising (λ (shown : Shown). shown.at) xs → IsRising (λ (shown : Shown). shown.at) ys
    → ((q : Property) → shown_at xs q ≡ shown_at ys q) → xs ≡ ys
same_rows [] [] rising risen same = refl
same_rows [] (y ∷ ys) rising risen same = absurd (let never : None ≡ Some y = same y.at ∙ first_found y ys in cc)
same_rows (x ∷ xs) [] rising risen same = absurd (let never : Some x ≡ None = sym (first_found x xs) ∙ same x.at in cc)
same_rows (x ∷ xs) (y ∷ ys) rising risen same = by (is_before x.at y.at) refl (is_property y.at x.at) refl
    (same_rows xs ys (without_first x xs rising) (without_first y ys risen))
  where
    by : (first : Bool) → is_before x.at y.at ≡ first → (level : Bool) → is_property y.at x.at ≡ level
        → (((q : Property) → shown_at xs q ≡ shown_at ys q) → xs ≡ ys) → x ∷ xs ≡ y ∷ ys
    by true e level f rest = absurd (first_is_first x y xs ys risen same e)
    by false e false f rest = absurd (first_is_first y x ys xs rising (λ q. sym (same q)) (is_behind x.at y.at e f))
    by false e true f rest =
        let found : Some x ≡ Some y = sym (first_found x xs) ∙ (same x.at ∙ (ap (shown_at (y ∷ ys)) (sym (property_eq y.at x.at f)) ∙ first_found y ys)) in
        let one : y ≡ x = cc in
        let behind = same_behind x xs ys rising (subst (λ (row : Shown). Rising (row ∷ ys)) one risen)
        (λ q. same q ∙ ap (λ (row : Shown). shown_at (row ∷ ys) q) one) in
        ap (λ rows. x ∷ rows) (rest behind) ∙ ap (λ row. row ∷ ys) (sym one)

-- nothing is told of what shows what it showed

pub same_value : (value : Value) → is_same value value ≡ true
same_value v.Invalid = refl
same_value (v.Bool true) = refl
same_value (v.Bool false) = refl
same_value (v.Int z) = (Decides-int_eq z z).1 refl
same_value (v.Uint n) = eq-eqb n n refl
same_value (v.Longlong z) = (Decides-int_eq z z).1 refl
same_value (v.Ulonglong n) = eq-eqb n n refl
same_value (v.Text text) = (bytes_eq-Decides text text).1 refl

no_warning : (last : List Shown) (shown : Shown) → shown_at last shown.at ≡ Some shown → warning last shown ≡ None
no_warning last shown stood = rw stood (by shown.error)
  where
    by : (error : Option BindingError) → option_and_then
        (λ e. cond (option_map_or (is_same_error e) error false) None (Some (let change : Change = record { at = shown.at; told = message.Error e } in change)))
        error ≡ None
    by None = refl
    by (Some BindingLoop) = refl
    by (Some EvaluationError) = refl

no_notice : (last : List Shown) (shown : Shown) → shown_at last shown.at ≡ Some shown → notice last shown ≡ None
no_notice last shown stood = rw (stood, same_value shown.value) refl

-- rows of which nothing is told may be left out

left_out : {Y : Type 0} (g : Shown → Option Y) (turn p : Shown → Bool) (rows : List Shown) → All (λ shown. p shown ≡ false → g shown ≡ None) rows
    → filter_map g (filter turn rows) ≡ filter_map g (filter turn (filter p rows))
left_out g turn p [] all = refl
left_out g turn p (row ∷ rows) all = by (p row) refl (turn row) refl (left_out g turn p rows (λ k d lt. all (suc k) d (omega arith)))
  where
    kept : List Shown
    kept = filter p rows

    by : (stays : Bool) → p row ≡ stays → (now : Bool) → turn row ≡ now → filter_map g (filter turn rows) ≡ filter_map g (filter turn kept)
        → filter_map g (cond now (row ∷ filter turn rows) (filter turn rows)) ≡ filter_map g (filter turn (cond stays (row ∷ kept) kept))
    by true e true f later = rw f (ap (cons_option (g row)) later)
    by true e false f later = rw f later
    by false e true f later = let none : g row ≡ None = all 0 row (omega arith) e in rw none later
    by false e false f later = later

left_out_in_turn : (g : Shown → Option Change) (written : Option Property) (p : Shown → Bool) (rows : List Shown)
    → All (λ shown. p shown ≡ false → g shown ≡ None) rows → filter_map g (in_turn written rows) ≡ filter_map g (in_turn written (filter p rows))
left_out_in_turn g written p rows all =
    filter_map-append g (filter (has_turn written true) rows) (filter (has_turn written false) rows)
    ∙ (ap₂ (λ front back. front ++ back) (left_out g (has_turn written true) p rows all) (left_out g (has_turn written false) p rows all)
    ∙ sym (filter_map-append g (filter (has_turn written true) (filter p rows)) (filter (has_turn written false) (filter p rows))))

-- what is told by the rows of the properties that may have changed
pub changes_of_touched : (last now all : List Shown) (touched : List Property) (written : Option Property) → IsRising (λ (shown : Shown). shown.at) now
    → IsRising (λ (shown : Shown). shown.at) all
    → ((q : Property) → shown_at now q ≡ (if among q touched then shown_at all q else None))
    → ((q : Property) → among q touched ≡ false → shown_at last q ≡ shown_at all q)
    → changes last all written ≡ changes last now written
changes_of_touched last now all touched written rising risen found stayed =
    ap₂ (λ warnings notices. warnings ++ notices)
    (left_out_in_turn (warning last) written looked_at all (λ k d lt untouched. no_warning last (get_or all k d) (stood k d lt untouched)))
    (left_out_in_turn (notice last) written looked_at all (λ k d lt untouched. no_notice last (get_or all k d) (stood k d lt untouched)))
    ∙ ap (λ rows. changes last rows written) (sym now_is)
  where
    looked_at : Shown → Bool
    looked_at shown = among shown.at touched

    stood : All (λ (shown : Shown). looked_at shown ≡ false → shown_at last shown.at ≡ Some shown) all
    stood k d lt untouched = stayed (get_or all k d).at untouched ∙ each_found all risen k d lt

    now_is : now ≡ filter looked_at all
    now_is = same_rows now (filter looked_at all) rising
        (AllPairs-filter (λ (earlier : Shown) (later : Shown). is_before earlier.at later.at ≡ true) looked_at all risen)
        (λ q. found q ∙ sym (found_filter (λ p. among p touched) all q))

-- with their rows in place of those of before, all is as it is now
pub merged_is_all : (last now new all : List Shown) (touched : List Property) → IsRising (λ (shown : Shown). shown.at) new
    → IsRising (λ (shown : Shown). shown.at) all
    → ((q : Property) → shown_at new q ≡ option_map_or Some (shown_at now q) (if among q touched then None else shown_at last q))
    → ((q : Property) → shown_at now q ≡ (if among q touched then shown_at all q else None))
    → ((q : Property) → among q touched ≡ false → shown_at last q ≡ shown_at all q)
    → new ≡ all
merged_is_all last now new all touched rising risen merged found stayed =
    same_rows new all rising risen (λ q. merged q ∙ by q (among q touched) refl (shown_at all q) refl)
  where
    by : (q : Property) (t : Bool) → among q touched ≡ t → (shows : Option Shown) → shown_at all q ≡ shows
        → option_map_or Some (shown_at now q) (cond (among q touched) None (shown_at last q)) ≡ shown_at all q
    by q true e None f = let none : shown_at now q ≡ None = found q ∙ rw (e, f) refl in rw (none, e, f) refl
    by q true e (Some shown) f = let same : shown_at now q ≡ Some shown = found q ∙ rw (e, f) refl in rw (same, f) refl
    by q false e shows f = let none : shown_at now q ≡ None = found q ∙ rw e refl in rw (none, e) (stayed q e)
