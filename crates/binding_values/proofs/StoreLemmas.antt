-- What each change of a store or of a binding changes for bindings is marked.
use Rattle.std.proofs.Common.{◌≡◌, ◌∙◌, ℕ, zero, suc, ◌<◌, ◌≤◌, ◌==◌, ◌&&◌, Bool, true, false, cond, not, List, [], ◌∷◌, Option, Some, None, find, filter}
use Rattle.std.proofs.Common.{is_some, length, nat_lt, set, slice_get, option_map, refl, sym, ap, ap₂, subst, ⊎_elim, arith}
use Rattle.std.specs.Prelude.{bytes_eq}
use Rattle.std.specs.Option.{option_map_or, option_or}
use Rattle.std.proofs.lemmas.Bool.{and_from, both_ways, cases_Bool, cases_lt, eqb-true, eq-eqb, lt-ltb, or_left, ltb-false}
use Rattle.std.proofs.lemmas.List.Folds.{find-append}
use Rattle.std.proofs.lemmas.List.Sums.{prefix_len-le-length}
use Rattle.std.proofs.lemmas.Option.{slice_get_past}
use Rattle.variant_value.specs.declared.value.Value.{Value}
use Rattle.term_core.specs.declared.target.Target.{Target}
use Rattle.property_store.specs.declared.field.Field.{Field}
use Rattle.property_store.specs.declared.property.Property.{Property}
use Rattle.property_store.specs.Marks.{Marks, is_marked, is_new, is_written}
use Rattle.property_store.specs.Property.{among, is_property}
use Rattle.property_store.specs.Store.{Properties, Store, added, changed, fitting, fresh, properties_of, with_dynamic, with_value, without, without_dynamic}
use Rattle.property_store.specs.Store.{written}
use Rattle.property_store.proofs.ForCallers.{added_found, added_others}
use Rattle.binding_values.specs.declared.binding.Binding.{Binding}
use Rattle.binding_values.specs.Binds.{with_binding}
use Rattle.binding_values.specs.Scene.{Cell, term_at}
use Rattle.binding_values.specs.Sorted.{is_before}
use Rattle.binding_values.specs.Stored.{bindable_number, cell_in, cell_of, fields_at, is_there, meant, named_in, scene_of}
use Rattle.binding_values.proofs.FuelLemmas.{is_itself, property_eq}
use Rattle.binding_values.proofs.MapLemmas.{some_kept}
use Rattle.binding_values.proofs.SortedLemmas.{is_behind, is_property_sym, not_behind}
use Rattle.binding_values.proofs.StoredLemmas.{term_there}
use Rattle.binding_values.specs.Right.{DiffersAt}
use Rattle.binding_values.proofs.StepLemmas.{AreAlikeBut}

-- a property by its numbers, and a cell by its parts

abbrev property : ℕ → ℕ → Property
property object number = record { object = object; number = number }

abbrev cell : Field → Value → Cell
cell field value = record { kind = field.kind; value = value }

abbrev cell_from : Option Field → Option Value → Option Cell
cell_from field value = option_map_or (λ field. option_map (cell field) value) field None

nothing : {X : Type 0} (o : Option X) → is_some o ≡ false → o ≡ None
nothing None e = refl
nothing (Some x) e = absurd (cc)

one_property : {p q : Property} → Some p ≡ Some q → p ≡ q
one_property e = cc

or_nothing : {X : Type 0} (o : Option X) → option_or o None ≡ o
or_nothing None = refl
or_nothing (Some x) = refl

-- a name that stands for nothing does so in each store
nameless_kept : (one other : Store) (name : List ℕ) (o : Option ℕ)
    → option_map (λ number. property number (bindable_number name (fields_at one number))) o ≡ None
    → option_map (λ number. property number (bindable_number name (fields_at other number))) o ≡ None
nameless_kept one other name None e = refl
nameless_kept one other name (Some number) e = absurd (cc)

-- two stores that differ at marked properties alone
module _ (marks : Marks) (one other : Store) (bindings : List Binding)
    (cells : (q : Property) → is_marked marks q ≡ false → cell_in one q ≡ cell_in other q) where
  same_terms : (q : Property) → is_marked marks q ≡ false → term_at (filter (is_there one) bindings) q ≡ term_at (filter (is_there other) bindings) q
  same_terms q off = term_there one q bindings
      ∙ (ap (λ found. cond (is_some found) (term_at bindings q) None) (cells q off) ∙ sym (term_there other q bindings))

  -- in which objects keep their fields
  differs_in_cells : ((object : ℕ) → fields_at other object ≡ fields_at one object) → ((q : Property) → cell_in other q ≡ None → cell_in one q ≡ None)
      → DiffersAt marks (scene_of one bindings) (scene_of other bindings)
  differs_in_cells fields there = record {
    cells = cells;
    terms = same_terms;
    names = λ object target name q e off. same_names target object name ∙ e;
    nameless = λ object target name e. same_names target object name ∙ e;
    there = λ some q e. there q e;
  }
    where
      same_names : (target : Target) (object : ℕ) (name : List ℕ) → named_in other object target name ≡ named_in one object target name
      same_names target object name = by (meant object target)
        where
          by : (o : Option ℕ) → option_map (λ number. property number (bindable_number name (fields_at other number))) o
              ≡ option_map (λ number. property number (bindable_number name (fields_at one number))) o
          by None = refl
          by (Some number) = ap (λ fields. Some (property number (bindable_number name fields))) (fields number)

-- a change of one object's properties that keeps what is looked at
shown_kept : {Y : Type 0} (g : Properties → Y) (d : Y) (change : Properties → Properties) (object q : ℕ) → ((of : Properties) → (change of).object ≡ of.object)
    → ((of : Properties) → object ≡ q → g (change of) ≡ g of) → (store : Store)
    → option_map_or g (properties_of (changed change object store) q) d ≡ option_map_or g (properties_of store q) d
shown_kept g d change object q named same [] = refl
shown_kept g d change object q named same (of ∷ rest) = by (of.object == object) refl (shown_kept g d change object q named same rest)
  where
    by : (b : Bool) → (of.object == object) ≡ b → option_map_or g (properties_of (changed change object rest) q) d ≡ option_map_or g (properties_of rest q) d
        → option_map_or g (cond ((cond b (change of) of).object == q) (Some (cond b (change of) of)) (properties_of (changed change object rest) q)) d
        ≡ option_map_or g (cond (of.object == q) (Some of) (properties_of rest q)) d
    by false e h = at (of.object == q)
      where
        at : (t : Bool) → option_map_or g (cond t (Some of) (properties_of (changed change object rest) q)) d
            ≡ option_map_or g (cond t (Some of) (properties_of rest q)) d
        at true = refl
        at false = h
    by true e h = ap (λ n. option_map_or g (cond (n == q) (Some (change of)) (properties_of (changed change object rest) q)) d) (named of)
        ∙ at (of.object == q) refl
      where
        at : (t : Bool) → (of.object == q) ≡ t → option_map_or g (cond t (Some (change of)) (properties_of (changed change object rest) q)) d
            ≡ option_map_or g (cond t (Some of) (properties_of rest q)) d
        at true f = same of (sym (eqb-true _ _ e) ∙ eqb-true _ _ f)
        at false f = h

-- a change of one object's properties that keeps the object's number and fields
module _ (change : Properties → Properties) (object : ℕ) (named : (of : Properties) → (change of).object ≡ of.object)
    (fields : (of : Properties) → (change of).fields ≡ of.fields) (store : Store) where
  some_there : (number : ℕ) (o : Option Properties) → is_some (option_map_or (cell_of number) o None)
      ≡ option_map_or (λ of. is_some (cell_of number of)) o false
  some_there number None = refl
  some_there number (Some of) = refl

  change_differs : (bindings : List Binding) (marks : Marks) →
      ((q : Property) → is_marked marks q ≡ false → object ≡ q.object → (of : Properties) → cell_of q.number (change of) ≡ cell_of q.number of)
      → ((number : ℕ) (of : Properties) → is_some (cell_of number (change of)) ≡ is_some (cell_of number of))
      → DiffersAt marks (scene_of store bindings) (scene_of (changed change object store) bindings)
  change_differs bindings marks same some = differs_in_cells marks store (changed change object store) bindings cells
      (λ other. shown_kept (λ of. of.fields) [] change object other named (λ of e. fields of) store) there
    where
      cells : (q : Property) → is_marked marks q ≡ false → cell_in store q ≡ cell_in (changed change object store) q
      cells q off = sym (shown_kept (cell_of q.number) None change object q.object named (λ of e. same q off e of) store)

      there : (q : Property) → cell_in (changed change object store) q ≡ None → cell_in store q ≡ None
      there q none = nothing (cell_in store q)
          (some_there q.number (properties_of store q.object)
          ∙ (sym (shown_kept (λ of. is_some (cell_of q.number of)) false change object q.object named (λ of e. some q.number of) store)
          ∙ (sym (some_there q.number (properties_of (changed change object store) q.object)) ∙ ap is_some none)))

  untouched : (bindings : List Binding) (marks : Marks) → ((of : Properties) → (change of).values ≡ of.values)
      → DiffersAt marks (scene_of store bindings) (scene_of (changed change object store) bindings)
  untouched bindings marks values = change_differs bindings marks (λ q off e of. same q.number of) (λ number of. ap is_some (same number of))
    where
      same : (number : ℕ) (of : Properties) → cell_of number (change of) ≡ cell_of number of
      same number of = ap₂ (λ fs vs. cell_from (slice_get fs number) (slice_get vs number)) (fields of) (values of)

pub dynamic_is_nothing : (store : Store) (bindings : List Binding) (marks : Marks) (object : ℕ) (name : List ℕ) (value : Value)
    → DiffersAt marks (scene_of store bindings) (scene_of (changed (with_dynamic name value) object store) bindings)
dynamic_is_nothing store bindings marks object name value = untouched (with_dynamic name value) object (λ of. refl) (λ of. refl) store bindings marks
    (λ of. refl)

pub no_dynamic_is_nothing : (store : Store) (bindings : List Binding) (marks : Marks) (object : ℕ) (name : List ℕ)
    → DiffersAt marks (scene_of store bindings) (scene_of (changed (without_dynamic name) object store) bindings)
no_dynamic_is_nothing store bindings marks object name = untouched (without_dynamic name) object (λ of. refl) (λ of. refl) store bindings marks (λ of. refl)

-- a write

get_other : {X : Type 0} (xs : List X) (i j : ℕ) (x : X) → (j ≡ i → ⊥) → slice_get (set xs i x) j ≡ slice_get xs j
get_other [] i j x ne = refl
get_other (y ∷ ys) zero zero x ne = absurd (ne refl)
get_other (y ∷ ys) zero (suc j) x ne = refl
get_other (y ∷ ys) (suc i) zero x ne = refl
get_other (y ∷ ys) (suc i) (suc j) x ne = get_other ys i j x (λ e. ne (ap suc e))

get_some : {X : Type 0} (xs : List X) (i j : ℕ) (x : X) → is_some (slice_get (set xs i x) j) ≡ is_some (slice_get xs j)
get_some [] i j x = refl
get_some (y ∷ ys) zero zero x = refl
get_some (y ∷ ys) zero (suc j) x = refl
get_some (y ∷ ys) (suc i) zero x = refl
get_some (y ∷ ys) (suc i) (suc j) x = get_some ys i j x

some_cell : (o : Option Field) (v w : Option Value) → is_some v ≡ is_some w → is_some (cell_from o v) ≡ is_some (cell_from o w)
some_cell None v w e = refl
some_cell (Some field) v w e = sym (some_kept (cell field) v (option_map (cell field) v) refl) ∙ (e ∙ some_kept (cell field) w (option_map (cell field) w) refl)

pub write_is_marked : (store : Store) (bindings : List Binding) (marks : Marks) (object number : ℕ) (value : Value)
    → ((q : Property) → is_written store object number value q ≡ true → is_marked marks q ≡ true)
    → DiffersAt marks (scene_of store bindings) (scene_of (written store object number value) bindings)
write_is_marked store bindings marks object number value marked = by (fitting store object number value) refl
  where
    by : (o : Option Value) → fitting store object number value ≡ o
        → DiffersAt marks (scene_of store bindings) (scene_of (option_map_or (λ fit. changed (with_value number fit) object store) o store) bindings)
    by None e = record {
      cells = λ q off. refl;
      terms = λ q off. refl;
      names = λ object target name q e off. e;
      nameless = λ object target name e. e;
      there = λ some q e. e;
    }
    by (Some fit) e = change_differs (with_value number fit) object (λ of. refl) (λ of. refl) store bindings marks same
        (λ other of. some_cell (slice_get of.fields other) (slice_get (set of.values number fit) other) (slice_get of.values other)
        (get_some of.values number other fit))
      where
        on : is_marked marks (property object number) ≡ true
        on = marked (property object number) (and_from _ _ (ap is_some e) (is_itself (property object number)))

        same : (q : Property) → is_marked marks q ≡ false → object ≡ q.object → (of : Properties)
            → cell_of q.number (with_value number fit of) ≡ cell_of q.number of
        same q off e of = ap (cell_from (slice_get of.fields q.number))
            (get_other of.values number q.number fit (λ f. both_ways (is_marked marks q) off (ap₂ (λ o n. is_marked marks (property o n)) (sym e) f ∙ on)))

-- a new object

module _ (store : Store) (bindings : List Binding) (marks : Marks) (object : ℕ) (fields : List Field) (absent : properties_of store object ≡ None)
    (marked : (q : Property) → is_new object fields q ≡ true → is_marked marks q ≡ true) where
  abbrev enlarged : Store
  enlarged = added store object fields

  on : (number : ℕ) → number < length fields → is_marked marks (property object number) ≡ true
  on number within = marked (property object number) (and_from _ _ (eq-eqb object object refl) (lt-ltb number (length fields) within))

  others : (other : ℕ) → (other == object) ≡ false → properties_of enlarged other ≡ properties_of store other
  others other apart = added_others store object fields other
      (⊎_elim (λ same. absurd (both_ways (other == object) apart (eq-eqb other object (sym (eqb-true object other same))))) (λ e. e)
      (cases_Bool (object == other)))

  cell_other : (q : Property) → (q.object == object) ≡ false → cell_in enlarged q ≡ cell_in store q
  cell_other q apart = ap (λ found. option_map_or (cell_of q.number) found None) (others q.object apart)

  cell_absent : (q : Property) → (q.object == object) ≡ true → cell_in store q ≡ None
  cell_absent q same = ap (λ o. option_map_or (cell_of q.number) (properties_of store o) None) (eqb-true q.object object same)
      ∙ ap (λ found. option_map_or (cell_of q.number) found None) absent

  fields_before : (number : ℕ) → (number == object) ≡ true → fields_at store number ≡ []
  fields_before number same = ap (fields_at store) (eqb-true number object same) ∙ ap (λ found. option_map_or (λ (of : Properties). of.fields) found []) absent

  fields_after : (number : ℕ) → (number == object) ≡ true → fields_at enlarged number ≡ fields
  fields_after number same = ap (fields_at enlarged) (eqb-true number object same)
      ∙ ap (λ found. option_map_or (λ (of : Properties). of.fields) found []) (added_found store object fields)

  cells_added : (q : Property) → is_marked marks q ≡ false → cell_in store q ≡ cell_in enlarged q
  cells_added q off = ⊎_elim own (λ apart. sym (cell_other q apart)) (cases_Bool (q.object == object))
    where
      past : (q.object == object) ≡ true → length fields ≤ q.number
      past same = ⊎_elim
          (λ less. absurd (both_ways (is_marked marks q) off (marked q (and_from _ _ same less))))
          (λ more. ltb-false q.number (length fields) more)
          (cases_Bool (nat_lt q.number (length fields)))

      own : (q.object == object) ≡ true → cell_in store q ≡ cell_in enlarged q
      own same =
          cell_absent q same
          ∙ sym (ap (λ o. option_map_or (cell_of q.number) (properties_of enlarged o) None) (eqb-true q.object object same)
          ∙ (ap (λ found. option_map_or (cell_of q.number) found None) (added_found store object fields)
          ∙ ap (λ field. cell_from field (slice_get (fresh object fields).values q.number)) (slice_get_past fields q.number (past same))))

  none_gone : (q : Property) → cell_in enlarged q ≡ None → cell_in store q ≡ None
  none_gone q none = ⊎_elim (cell_absent q) (λ apart. sym (cell_other q apart) ∙ none) (cases_Bool (q.object == object))

  -- an object whose first property is not marked has none
  nothing_new : (fs : List Field) → ((number : ℕ) → number < length fs → is_marked marks (property object number) ≡ true)
      → is_marked marks (property object 0) ≡ false → fs ≡ []
  nothing_new [] on off = refl
  nothing_new (field ∷ fs) on off = absurd (both_ways _ off (on 0 (omega arith)))

  abbrev stands_for : List ℕ → List Field → ℕ → Option Property
  stands_for name fs number = Some (property number (bindable_number name fs))

  names_added : (name : List ℕ) (o : Option ℕ) (q : Property)
      → option_map (λ number. property number (bindable_number name (fields_at store number))) o ≡ Some q → is_marked marks q ≡ false
      → option_map (λ number. property number (bindable_number name (fields_at enlarged number))) o ≡ Some q
  names_added name None q e off = absurd (cc)
  names_added name (Some number) q e off = ⊎_elim own other (cases_Bool (number == object))
    where
      other : (number == object) ≡ false → stands_for name (fields_at enlarged number) number ≡ Some q
      other apart = ap (λ found. stands_for name (option_map_or (λ (of : Properties). of.fields) found []) number) (others number apart) ∙ e

      own : (number == object) ≡ true → stands_for name (fields_at enlarged number) number ≡ Some q
      own same =
          let first : Some (property number 0) ≡ Some q = ap (λ fs. stands_for name fs number) (sym (fields_before number same)) ∙ e in
          let none : fields ≡ [] = nothing_new fields on
          (ap (λ o. is_marked marks (property o 0)) (sym (eqb-true number object same)) ∙ (ap (is_marked marks) (one_property first) ∙ off)) in
          ap (λ fs. stands_for name fs number) (fields_after number same ∙ none) ∙ first

  pub addition_is_marked : DiffersAt marks (scene_of store bindings) (scene_of (added store object fields) bindings)
  addition_is_marked = record {
    cells = cells_added;
    terms = same_terms marks store enlarged bindings cells_added;
    names = λ number target name q e off. names_added name (meant number target) q e off;
    nameless = λ number target name e. nameless_kept store enlarged name (meant number target) e;
    there = λ some q none. none_gone q none;
  }

-- all is marked

pub all_may_change : (one other : Store) (bindings after : List Binding) (marks : Marks) → marks.all ≡ true
    → DiffersAt marks (scene_of one bindings) (scene_of other after)
all_may_change one other bindings after marks on = record {
  cells = λ q off. absurd (never q off);
  terms = λ q off. absurd (never q off);
  names = λ object target name q e off. absurd (never q off);
  nameless = λ object target name e. nameless_kept one other name (meant object target) e;
  there = λ some q e. absurd (both_ways marks.all some on);
}
  where
    never : (q : Property) → is_marked marks q ≡ false → ⊥
    never q off = both_ways (is_marked marks q) off (or_left marks.all (among q marks.each) on)

-- bindings

differs_in_term : (store : Store) (bindings after : List Binding) (marks : Marks) (at : Property) → is_marked marks at ≡ true
    → ((q : Property) → is_property q at ≡ false → term_at after q ≡ term_at bindings q) → DiffersAt marks (scene_of store bindings) (scene_of store after)
differs_in_term store bindings after marks at on same = record
    { cells = λ q off. refl; terms = terms; names = λ object target name q e off. e; nameless = λ object target name e. e; there = λ some q e. e }
  where
    other : (q : Property) → is_marked marks q ≡ false → is_property q at ≡ false
    other q off = ⊎_elim (λ e. absurd (both_ways (is_marked marks q) off (ap (is_marked marks) (property_eq q at e) ∙ on))) (λ e. e)
        (cases_Bool (is_property q at))

    terms : (q : Property) → is_marked marks q ≡ false → term_at (filter (is_there store) bindings) q ≡ term_at (filter (is_there store) after) q
    terms q off = term_there store q bindings
        ∙ (ap (λ term. cond (is_some (cell_in store q)) term None) (sym (same q (other q off))) ∙ sym (term_there store q after))

-- what is found where some are left out
module _ {X : Type 0} (test keep : X → Bool) where
  found_kept : ((x : X) → test x ≡ true → keep x ≡ true) → (xs : List X) → find test (filter keep xs) ≡ find test xs
  found_kept so [] = refl
  found_kept so (x ∷ xs) = by (keep x) refl (test x) refl (found_kept so xs)
    where
      by : (k : Bool) → keep x ≡ k → (t : Bool) → test x ≡ t → find test (filter keep xs) ≡ find test xs
          → find test (cond k (x ∷ filter keep xs) (filter keep xs)) ≡ cond t (Some x) (find test xs)
      by true e true f rest = rw f refl
      by true e false f rest = rw f rest
      by false e true f rest = absurd (both_ways (keep x) e (so x f))
      by false e false f rest = rest

  found_not : ((x : X) → test x ≡ true → keep x ≡ false) → (xs : List X) → find test (filter keep xs) ≡ None
  found_not so [] = refl
  found_not so (x ∷ xs) = by (keep x) refl (test x) refl (found_not so xs)
    where
      by : (k : Bool) → keep x ≡ k → (t : Bool) → test x ≡ t → find test (filter keep xs) ≡ None
          → find test (cond k (x ∷ filter keep xs) (filter keep xs)) ≡ None
      by true e true f rest = absurd (both_ways (keep x) (so x f) e)
      by true e false f rest = rw f rest
      by false e t f rest = rest

module _ (q : Property) where
  abbrev binds : Binding → Bool
  binds binding = is_property q binding.at

  term_without : (at : Property) (bindings : List Binding) → is_property q at ≡ false
      → term_at (filter (λ binding. not (is_property at binding.at)) bindings) q ≡ term_at bindings q
  term_without at bindings off = ap (option_map (λ (binding : Binding). binding.expr))
      (found_kept binds (λ binding. not (is_property at binding.at))
      (λ binding e. ap not (ap (is_property at) (sym (property_eq q binding.at e)) ∙ (is_property_sym at q ∙ off))) bindings)

  term_with : (new : Binding) (bindings : List Binding) → is_property q new.at ≡ false → term_at (with_binding new bindings) q ≡ term_at bindings q
  term_with new bindings off = ap (option_map (λ (binding : Binding). binding.expr))
      (find-append binds front (new ∷ back) ∙ (ap (λ same. option_or (find binds front) (cond same (Some new) (find binds back))) off
      ∙ by (is_before q new.at) refl))
    where
      front : List Binding
      front = filter (λ binding. is_before binding.at new.at) bindings

      back : List Binding
      back = filter (λ binding. is_before new.at binding.at) bindings

      by : (before : Bool) → is_before q new.at ≡ before → option_or (find binds front) (find binds back) ≡ find binds bindings
      by true e =
          ap (option_or (find binds front)) (found_not binds (λ binding. is_before new.at binding.at)
          (λ binding same. ap (is_before new.at) (sym (property_eq q binding.at same)) ∙ not_behind q new.at e) bindings)
          ∙ (or_nothing (find binds front) ∙ found_kept binds (λ binding. is_before binding.at new.at)
          (λ binding same. ap (λ p. is_before p new.at) (sym (property_eq q binding.at same)) ∙ e) bindings)
      by false e =
          ap (λ found. option_or found (find binds back))
          (found_not binds (λ binding. is_before binding.at new.at)
          (λ binding same. ap (λ p. is_before p new.at) (sym (property_eq q binding.at same)) ∙ e) bindings)
          ∙ found_kept binds (λ binding. is_before new.at binding.at)
          (λ binding same. ap (is_before new.at) (sym (property_eq q binding.at same)) ∙ is_behind q new.at e (is_property_sym new.at q ∙ off)) bindings

pub binding_is_marked : (store : Store) (bindings : List Binding) (marks : Marks) (new : Binding) → is_marked marks new.at ≡ true
    → DiffersAt marks (scene_of store bindings) (scene_of store (with_binding new bindings))
binding_is_marked store bindings marks new on = differs_in_term store bindings (with_binding new bindings) marks new.at on
    (λ q off. term_with q new bindings off)

pub unbinding_is_marked : (store : Store) (bindings : List Binding) (marks : Marks) (at : Property) → is_marked marks at ≡ true
    → DiffersAt marks (scene_of store bindings) (scene_of store (filter (λ binding. not (is_property at binding.at)) bindings))
unbinding_is_marked store bindings marks at on = differs_in_term store bindings (filter (λ binding. not (is_property at binding.at)) bindings) marks at on
    (λ q off. term_without q at bindings off)

-- an object that goes, with its bindings

abbrev pub kept_objects : ℕ → List Binding → List Binding
kept_objects object bindings = filter (λ binding. not (binding.at.object == object)) bindings

apart_from : (object : ℕ) (n m : ℕ) → (m == object) ≡ false → (n == m) ≡ true → not (n == object) ≡ true
apart_from object n m apart same = ap (λ n. not (n == object)) (eqb-true n m same) ∙ ap not apart

pub gone : (object : ℕ) (store : Store) → properties_of (without object store) object ≡ None
gone object store = found_not (λ (of : Properties). of.object == object) (λ (of : Properties). not (of.object == object)) (λ of e. ap not e) store

pub stays_there : (object : ℕ) (store : Store) (other : ℕ) → (other == object) ≡ false → properties_of (without object store) other ≡ properties_of store other
stays_there object store other apart = found_kept (λ (of : Properties). of.object == other) (λ (of : Properties). not (of.object == object))
    (λ of e. apart_from object of.object other apart e) store

pub cell_gone : (object : ℕ) (store : Store) (q : Property) → (q.object == object) ≡ true → cell_in (without object store) q ≡ None
cell_gone object store q same = ap (λ o. option_map_or (cell_of q.number) (properties_of (without object store) o) None) (eqb-true q.object object same)
    ∙ ap (λ found. option_map_or (cell_of q.number) found None) (gone object store)

pub cell_stays : (object : ℕ) (store : Store) (q : Property) → (q.object == object) ≡ false → cell_in store q ≡ cell_in (without object store) q
cell_stays object store q apart = ap (λ found. option_map_or (cell_of q.number) found None) (sym (stays_there object store q.object apart))

module _ (store : Store) (bindings : List Binding) (marks : Marks) (object : ℕ)
    (marked : (number : ℕ) → number ≤ length (fields_at store object) → is_marked marks (property object number) ≡ true) where
  own_marked : (q : Property) → (q.object == object) ≡ true → q.number ≤ length (fields_at store object) → is_marked marks q ≡ true
  own_marked q same within = ap (λ o. is_marked marks (property o q.number)) (eqb-true q.object object same) ∙ marked q.number within

  no_cell : (q : Property) → (q.object == object) ≡ true → is_marked marks q ≡ false → cell_in store q ≡ None
  no_cell q same off = ap (λ o. option_map_or (cell_of q.number) (properties_of store o) None) (eqb-true q.object object same)
      ∙ by (properties_of store object) refl
    where
      past : length (fields_at store object) ≤ q.number
      past = ⊎_elim (λ within. absurd (both_ways (is_marked marks q) off (own_marked q same (omega (arith, within))))) (λ past. past)
          (cases_lt q.number (length (fields_at store object)))

      by : (found : Option Properties) → properties_of store object ≡ found → option_map_or (cell_of q.number) found None ≡ None
      by None e = refl
      by (Some of) e =
          let fields : fields_at store object ≡ of.fields = ap (λ found. option_map_or (λ (of : Properties). of.fields) found []) e in
          ap (λ field. cell_from field (slice_get of.values q.number)) (slice_get_past of.fields q.number (omega (arith, past, ap length fields)))

  cells_without : (q : Property) → is_marked marks q ≡ false → cell_in store q ≡ cell_in (without object store) q
  cells_without q off = ⊎_elim (λ same. no_cell q same off ∙ sym (cell_gone object store q same)) (cell_stays object store q) (cases_Bool (q.object == object))

  terms_without : (q : Property) → is_marked marks q ≡ false → term_at (filter (is_there store) bindings) q
      ≡ term_at (filter (is_there (without object store)) (kept_objects object bindings)) q
  terms_without q off =
      term_there store q bindings
      ∙ (⊎_elim own others (cases_Bool (q.object == object))
      ∙ sym (term_there (without object store) q (kept_objects object bindings)))
    where
      own : (q.object == object) ≡ true → cond (is_some (cell_in store q)) (term_at bindings q) None
          ≡ cond (is_some (cell_in (without object store) q)) (term_at (kept_objects object bindings) q) None
      own same = ap (λ found. cond (is_some found) (term_at bindings q) None) (no_cell q same off)
          ∙ sym (ap (λ found. cond (is_some found) (term_at (kept_objects object bindings) q) None) (cell_gone object store q same))

      others : (q.object == object) ≡ false → cond (is_some (cell_in store q)) (term_at bindings q) None
          ≡ cond (is_some (cell_in (without object store) q)) (term_at (kept_objects object bindings) q) None
      others apart =
          ap₂ (λ found term. cond (is_some found) term None) (cell_stays object store q apart)
          (sym (ap (option_map (λ (binding : Binding). binding.expr)) (found_kept (binds q) (λ binding. not (binding.at.object == object))
          (λ binding same. ap (λ (p : Property). not (p.object == object)) (sym (property_eq q binding.at same)) ∙ ap not apart) bindings)))

  names_without : (name : List ℕ) (o : Option ℕ) (q : Property)
      → option_map (λ number. property number (bindable_number name (fields_at store number))) o ≡ Some q → is_marked marks q ≡ false
      → option_map (λ number. property number (bindable_number name (fields_at (without object store) number))) o ≡ Some q
  names_without name None q e off = absurd (cc)
  names_without name (Some number) q e off = ⊎_elim own other (cases_Bool (number == object))
    where
      other : (number == object) ≡ false → Some (property number (bindable_number name (fields_at (without object store) number))) ≡ Some q
      other apart = ap (λ found. Some (property number (bindable_number name (option_map_or (λ (of : Properties). of.fields) found []))))
          (stays_there object store number apart) ∙ e

      own : (number == object) ≡ true → Some (property number (bindable_number name (fields_at (without object store) number))) ≡ Some q
      own same = absurd (both_ways (is_marked marks q) off
          (ap (is_marked marks) (sym (one_property e))
          ∙ own_marked (property number (bindable_number name (fields_at store number))) same
          (subst (λ n. bindable_number name (fields_at store n) ≤ length (fields_at store object)) (sym (eqb-true number object same))
          (prefix_len-le-length (λ (field : Field). not (field.bindable && bytes_eq field.name name)) (fields_at store object)))))

  -- its properties are marked, and that of a name that it does not declare
  pub removal_is_alike : AreAlikeBut marks (scene_of store bindings) (scene_of (without object store) (kept_objects object bindings))
  removal_is_alike = record {
    cells = cells_without;
    terms = terms_without;
    names = λ number target name q e off. names_without name (meant number target) q e off;
    nameless = λ number target name e. nameless_kept store (without object store) name (meant number target) e;
  }
