-- A write to the property of a name.
use Rattle.std.proofs.Common.{◌≡◌, ◌∙◌, ℕ, ℤ, pos, negsuc, Bool, true, false, cond, is_some, List, Option, Some, None, Result, Ok, Err, option_and_then}
use Rattle.std.proofs.Common.{option_map, slice_get, refl, sym, ap, subst}
use Rattle.std.specs.Option.{option_map_or}
use Rattle.shared_rows.specs.Table.{IsPlace}
use Rattle.plain_types.specs.declared.code.Code.TheVariants.{BadValue}
use Rattle.signature_core.specs.declared.kind.Kind.{Kind}
use Rattle.signature_core.specs.declared.kind.Kind.TheVariants as k
use Rattle.variant_value.specs.declared.value.Value.{Value}
use Rattle.variant_value.specs.declared.value.Value.TheVariants as v
use Rattle.variant_value.specs.Values.{IsShort, converted, number_in, number_of, text_in, truth_in}
use Rattle.property_store.specs.declared.field.Field.{Field}
use Rattle.property_store.specs.declared.unwritten.Unwritten.{Unwritten}
use Rattle.property_store.specs.declared.unwritten.Unwritten.TheVariants.{Refused, Undeclared}
use Rattle.property_store.specs.Named.{answer_named, declared_at, written_named}
use Rattle.property_store.specs.Store.{IsSound, Properties, Store, changed, declared_in, field_at, field_number, fitting, is_change, properties_of, with_value}
use Rattle.property_store.specs.Store.{write_refusal, written}
use Rattle.property_store.specs.Table.{StoreTable, store_at, with_store}
use Rattle.binding_graph.specs.Table.{Graphs, graph_at}
use Rattle.session_tables.specs.Bound.{seen_of}
use Rattle.binding_graph.specs.WriteChanges.{alone}
use Rattle.session_tables.proofs.DeclaredLemmas.{TellsWritten, WritesDeclared, WritesNamed}
use Rattle.session_tables.specs.Settled.{is_idle}
use Rattle.session_tables.proofs.AloneLemmas.{alone_seen, alone_told}

-- what fits once is stored as it is
tested : (P : Value → Type 0) (fits : Bool) (made fit : Value) → (fits ≡ true → P made) → cond fits (Some made) None ≡ Some fit → P fit
tested P true made fit holds e = let same : made ≡ fit = cc in subst P same (holds refl)
tested P false made fit holds e = absurd (cc)

abbrev FitsAgain : Kind → Value → Type 0
FitsAgain kind fit = converted kind fit ≡ Some fit

number_again : (kind : Kind) (z : ℤ) (fit : Value) → number_of kind z ≡ Some fit → FitsAgain kind fit
number_again k.Bool z fit e = absurd (cc)
number_again k.Int z fit e = tested (FitsAgain k.Int) _ (v.Int z) fit (λ is. ap (λ b. cond b (Some (v.Int z)) None) is) e
number_again k.Uint (pos n) fit e = tested (FitsAgain k.Uint) _ (v.Uint n) fit (λ is. ap (λ b. cond b (Some (v.Uint n)) None) is) e
number_again k.Uint (negsuc n) fit e = absurd (cc)
number_again k.Longlong z fit e = tested (FitsAgain k.Longlong) _ (v.Longlong z) fit (λ is. ap (λ b. cond b (Some (v.Longlong z)) None) is) e
number_again k.Ulonglong (pos n) fit e = tested (FitsAgain k.Ulonglong) _ (v.Ulonglong n) fit (λ is. ap (λ b. cond b (Some (v.Ulonglong n)) None) is) e
number_again k.Ulonglong (negsuc n) fit e = absurd (cc)
number_again k.Text z fit e = absurd (cc)

pub fits_again : (kind : Kind) (value fit : Value) → converted kind value ≡ Some fit → FitsAgain kind fit
fits_again kind value fit e = by kind e
  where
    number : (kind : Kind) (found : Option ℤ) → option_and_then (number_of kind) found ≡ Some fit → FitsAgain kind fit
    number kind None e = absurd (cc)
    number kind (Some z) e = number_again kind z fit e

    truth : (found : Option Bool) → option_map v.Bool found ≡ Some fit → FitsAgain k.Bool fit
    truth None e = absurd (cc)
    truth (Some b) e = let same : v.Bool b ≡ fit = cc in subst (FitsAgain k.Bool) same refl

    text : (found : Option (List ℕ)) → option_map v.Text found ≡ Some fit → FitsAgain k.Text fit
    text None e = absurd (cc)
    text (Some bytes) e = let same : v.Text bytes ≡ fit = cc in subst (FitsAgain k.Text) same refl

    by : (kind : Kind) → converted kind value ≡ Some fit → FitsAgain kind fit
    by k.Bool e = truth (truth_in value) e
    by k.Int e = number k.Int (number_in value) e
    by k.Uint e = number k.Uint (number_in value) e
    by k.Longlong e = number k.Longlong (number_in value) e
    by k.Ulonglong e = number k.Ulonglong (number_in value) e
    by k.Text e = text (text_in value) e

-- where a property is declared, it has a field of its kind
pub record IsField (store : Store) (object number : ℕ) (kind : Kind) : Type 0 where
  pub field : Field
  pub there : field_at store object number ≡ Some field
  pub kind_is : field.kind ≡ kind

pub declared_field : (store : Store) (object : ℕ) (name : List ℕ) (number : ℕ) (kind : Kind) → declared_at store object name ≡ Some (number, kind)
    → IsField store object number kind
declared_field store object name number kind is = by_object (properties_of store object) refl is
  where
    found_in : (of : Properties) → properties_of store object ≡ Some of → (at : ℕ) (field : Option Field) → slice_get of.fields at ≡ field
        → option_map {U = ℕ × Kind} (λ (field : Field). (at, field.kind)) field ≡ Some (number, kind) → IsField store object number kind
    found_in of there at None e f = absurd (cc)
    found_in of there at (Some field) e f =
        let same : ◌≡◌ {A = ℕ × Kind} (at, field.kind) (number, kind) = cc in
        let number_is : at ≡ number = ap (λ (pair : ℕ × Kind). pair.0) same in
        record {
          field = field;
          there = ap (option_and_then (λ (of : Properties). slice_get of.fields number)) there
              ∙ (ap (slice_get of.fields) (sym number_is) ∙ e);
          kind_is = ap (λ (pair : ℕ × Kind). pair.1) same;
        }

    by_number : (of : Properties) → properties_of store object ≡ Some of → (at : Option ℕ)
        → option_and_then (λ at. option_map {U = ℕ × Kind} (λ (field : Field). (at, field.kind)) (slice_get of.fields at)) at ≡ Some (number, kind)
        → IsField store object number kind
    by_number of there None f = absurd (cc)
    by_number of there (Some at) f = found_in of there at (slice_get of.fields at) refl f

    by_object : (of : Option Properties) → properties_of store object ≡ of
        → option_and_then (λ (of : Properties). declared_in name of.fields) of ≡ Some (number, kind) → IsField store object number kind
    by_object None e f = absurd (cc)
    by_object (Some of) e f = by_number of e (field_number name of.fields) f

-- so what fits the kind fits the property
pub fitting_kind : (store : Store) (object number : ℕ) (kind : Kind) (value : Value) → IsField store object number kind
    → fitting store object number value ≡ converted kind value
fitting_kind store object number kind value is = ap (option_and_then (λ (field : Field). converted field.kind value)) is.there
    ∙ ap (λ kind. converted kind value) is.kind_is

refusal_kind : (store : Store) (object number : ℕ) (kind : Kind) (value : Value) → IsField store object number kind
    → write_refusal store object number value ≡ cond (is_some (converted kind value)) None (Some BadValue)
refusal_kind store object number kind value is =
    ap (option_and_then (λ (field : Field). cond (is_some (converted field.kind value)) None (Some BadValue))) is.there
    ∙ ap (λ kind. cond (is_some (converted kind value)) None (Some BadValue)) is.kind_is

-- an answer of the store
module _ (store : Store) (object : ℕ) (name : List ℕ) (value : Value) where
  -- what it says of the property
  pub record HasWritten (number : ℕ) (change : Bool) : Type 0 where
    pub kind : Kind
    pub fit : Value
    pub named : declared_at store object name ≡ Some (number, kind)
    pub fits : converted kind value ≡ Some fit
    pub fitting_is : fitting store object number value ≡ Some fit
    pub change_is : change ≡ is_change store object number value
    pub new_is : written_named store object name value ≡ changed (with_value number fit) object store

  pub has_written : (number : ℕ) (change : Bool) → Ok (number, change) ≡ answer_named store object name value → HasWritten number change
  has_written number change e = by (declared_at store object name) refl e
    where
      fits : (at : ℕ) (kind : Kind) → declared_at store object name ≡ Some (at, kind) → IsField store object at kind → (fit : Option Value)
          → converted kind value ≡ fit
          → ◌≡◌ {A = Result (ℕ × Bool) Unwritten} (Ok (number, change))
          (option_map_or (λ code. Err (Refused code)) (cond (is_some fit) None (Some BadValue)) (Ok (at, is_change store object at value)))
          → HasWritten number change
      fits at kind named there None is e = absurd (cc)
      fits at kind named there (Some fit) is e =
          let same : ◌≡◌ {A = ℕ × Bool} (number, change) (at, is_change store object at value) = cc in
          let number_is : at ≡ number = sym (ap (λ (pair : ℕ × Bool). pair.0) same) in
          subst (λ number. HasWritten number change) number_is (record {
            kind = kind;
            fit = fit;
            named = named;
            fits = is;
            fitting_is = fitting_kind store object at kind value there ∙ is;
            change_is = ap (λ (pair : ℕ × Bool). pair.1) same;
            new_is = ap (λ (at : Option (ℕ × Kind)). option_map_or (λ (at : ℕ × Kind). written store object at.0 value) at store) named
                ∙ ap (λ fit. option_map_or (λ fit. changed (with_value at fit) object store) fit store) (fitting_kind store object at kind value there ∙ is);
          })

      by : (at : Option (ℕ × Kind)) → declared_at store object name ≡ at
          → ◌≡◌ {A = Result (ℕ × Bool) Unwritten} (Ok (number, change))
          (option_map_or (λ (at : ℕ × Kind). option_map_or (λ code. Err (Refused code)) (write_refusal store object at.0 value)
          (Ok (at.0, is_change store object at.0 value))) at (Err (Undeclared value))) → HasWritten number change
      by None named e = absurd (cc)
      by (Some at) named e =
          let there = declared_field store object name at.0 at.1 named in
          fits at.0 at.1 named there (converted at.1 value) refl
          (e ∙ ap {B = Result (ℕ × Bool) Unwritten}
          (λ refusal. option_map_or (λ code. Err (Refused code)) refusal (Ok (at.0, is_change store object at.0 value)))
          (refusal_kind store object at.0 at.1 value there))

  -- why it was not written
  abbrev pub IsUnwritten : Unwritten → Type 0
  IsUnwritten (Undeclared rest) = (rest ≡ value) × (declared_at store object name ≡ None)
  IsUnwritten (Refused code) = (code ≡ BadValue) × (number : ℕ) × (kind : Kind) × (declared_at store object name ≡ Some (number, kind))
      × (converted kind value ≡ None)

  pub unwritten : (why : Unwritten) → Err why ≡ answer_named store object name value → IsUnwritten why
  unwritten why e = by (declared_at store object name) refl e
    where
      fits : (at : ℕ) (kind : Kind) → declared_at store object name ≡ Some (at, kind) → (fit : Option Value) → converted kind value ≡ fit
          → ◌≡◌ {A = Result (ℕ × Bool) Unwritten} (Err why)
          (option_map_or (λ code. Err (Refused code)) (cond (is_some fit) None (Some BadValue)) (Ok (at, is_change store object at value)))
          → IsUnwritten why
      fits at kind named None is e = let same : Refused BadValue ≡ why = cc in subst IsUnwritten same (refl, at, kind, named, is)
      fits at kind named (Some fit) is e = absurd (cc)

      by : (at : Option (ℕ × Kind)) → declared_at store object name ≡ at
          → ◌≡◌ {A = Result (ℕ × Bool) Unwritten} (Err why)
          (option_map_or (λ (at : ℕ × Kind). option_map_or (λ code. Err (Refused code)) (write_refusal store object at.0 value)
          (Ok (at.0, is_change store object at.0 value))) at (Err (Undeclared value))) → IsUnwritten why
      by None named e = let same : Undeclared value ≡ why = cc in subst IsUnwritten same (refl, named)
      by (Some at) named e =
          let there = declared_field store object name at.0 at.1 named in
          fits at.0 at.1 named (converted at.1 value) refl
          (e ∙ ap {B = Result (ℕ × Bool) Unwritten}
          (λ refusal. option_map_or (λ code. Err (Refused code)) refusal (Ok (at.0, is_change store object at.0 value)))
          (refusal_kind store object at.0 at.1 value there))

-- so it is seen
module _ (stores after : StoreTable) (bindings : Graphs) (place object : ℕ) (name : List ℕ) (value : Value) where
  pub named_alone : (number : ℕ) (change : Bool) → IsPlace stores.table place → is_idle (graph_at bindings.graphs place) ≡ true
      → IsSound (store_at stores place) → IsShort value → Ok (number, change) ≡ answer_named (store_at stores place) object name value
      → after ≡ with_store stores place (written_named (store_at stores place) object name value)
      → WritesDeclared place object name value (seen_of stores bindings) number (alone change) (seen_of after bindings)
  named_alone number change shelf idle sound short e new =
      let its = has_written (store_at stores place) object name value number change e in
      let is : after ≡ with_store stores place (changed (with_value number its.fit) object (store_at stores place)) = new
      ∙ ap (with_store stores place) its.new_is in
      record {
        kind = its.kind;
        fit = its.fit;
        named = its.named;
        fits = its.fits;
        is = alone_seen stores after bindings place (record { object = object; number = number }) its.fit idle is;
        told = subst (λ change. TellsWritten place (record { object = object; number = number }) (seen_of stores bindings) (seen_of after bindings)
            (alone change)) (sym its.change_is)
            (alone_told stores after bindings place (record { object = object; number = number }) value its.fit shelf idle sound short its.fitting_is is);
      }

  pub not_named : (why : Unwritten) → Err why ≡ answer_named (store_at stores place) object name value → after ≡ stores
      → WritesNamed place object name value (seen_of stores bindings) (Err why) (seen_of after bindings)
  not_named why e same = by why (unwritten (store_at stores place) object name value why e)
    where
      by : (why : Unwritten) → IsUnwritten (store_at stores place) object name value why
          → WritesNamed place object name value (seen_of stores bindings) (Err why) (seen_of after bindings)
      by (Undeclared rest) its = (its.0, its.1, ap (λ shelves. seen_of shelves bindings) same)
      by (Refused code) its = (its.0, record { number = its.1; kind = its.2; named = its.3; misfit = its.4 }, ap (λ shelves. seen_of shelves bindings) same)
