-- What is asked to be written, and what an action writes, keeps the properties of its object sound.
use Rattle.std.proofs.Common.{◌≡◌, ◌∙◌, ℕ, ℤ, Bool, true, false, cond, List, Option, Some, None, Ok, Err, length, nat_le, slice_get, refl, sym, ap, subst}
use Rattle.std.specs.Option.{ok_or, option_and_then, option_map, option_map_or, option_or}
use Rattle.std.proofs.lemmas.Bool.{leb-true}
use Rattle.session_model.proofs.Common.{Data, Code, BadValue, Kind, Value, IsOfKind, IsShort, converted, Field, AreSound, Properties, properties_of}
use Rattle.session_model.proofs.Common.{with_dynamic, with_value, without_dynamic, Found, ◌>>=◌, State, Declared, Dynamic, Nothing, Removed, Writing}
use Rattle.session_model.proofs.Common.{acted_writing, asked_writing}
use Rattle.serde_json.specs.Data as d
use Rattle.serde_json.specs.Find.{as_bool, as_integer, as_str}
use Rattle.signature_core.specs.declared.kind.Kind.TheVariants as k
use Rattle.variant_value.specs.declared.value.Value.TheVariants as v
use Rattle.variant_value.specs.declared.value.TheConstants.{TEXT_BYTES}
use Rattle.variant_value.specs.Values.{inferred, inferred_number, number_in, number_of, text_in, text_of, truth_in, value_of}
use Rattle.variant_value.specs.Values.{whole_number}
use Rattle.property_store.specs.Store.{dynamic_refusal, field_number, refusal_of_name}
use Rattle.property_store.proofs.ForCallers.{with_dynamic_sound, without_dynamic_sound, with_value_sound}
use Rattle.session_model.specs.Writing.{DeclaredField, asked_place, declared}
use Rattle.session_model.specs.Writing.{dynamic_writing, short}
use Rattle.session_model.proofs.FoundLemmas.{if_found, then_found}

-- what is written keeps the properties of an object sound
abbrev pub IsFit : State → ℕ → Writing → Type 0
IsFit state object (Declared number value) = (of : Properties) → properties_of state.store object ≡ Some of → AreSound of
    → AreSound (with_value number value of)
IsFit state object (Dynamic name value) = (of : Properties) → properties_of state.store object ≡ Some of → AreSound of → AreSound (with_dynamic name value of)
IsFit state object (Removed name) = (of : Properties) → properties_of state.store object ≡ Some of → AreSound of → AreSound (without_dynamic name of)
IsFit state object Nothing = Unit {0}

-- this value is what is found
abbrev IsFound : Found Value → Value → Type 0
IsFound found value = found ≡ Ok value

-- what holds of a value that was made holds of the one that is found
given : (P : Value → Type 0) (made value : Value) → P made → IsFound (Ok made) value → P value
given P made value holds e = let same : made ≡ value = cc in subst P same holds

-- a text that is taken as a value is not too long
text_short : (text : List ℕ) (value : Value) → text_of text ≡ Ok value → IsOfKind k.Text value
text_short text value e =
    let (fits, e) = if_found (nat_le (length text) TEXT_BYTES) _ _ e in
    given (IsOfKind k.Text) (v.Text text) value (refl, leb-true (length text) TEXT_BYTES fits) e

-- a number that is taken as a value is one of the kind, and no text
record IsNumber (kind : Kind) (value : Value) : Type 0 where
  pub of_kind : IsOfKind kind value
  pub short : short value ≡ Ok value

fitting : (kind : Kind) (fits : Bool) (made value : Value) → IsNumber kind made → cond fits (Some made) None ≡ Some value → IsNumber kind value
fitting kind true made value is e = let same : made ≡ value = cc in subst (IsNumber kind) same is
fitting kind false made value is e = absurd (cc)

number_kind : (kind : Kind) (z : ℤ) (value : Value) → number_of kind z ≡ Some value → IsNumber kind value
number_kind k.Bool z value e = absurd (cc)
number_kind k.Int z value e = fitting k.Int _ (v.Int z) value (record { of_kind = (refl, tt); short = refl }) e
number_kind k.Uint z value e = fitting k.Uint _ (v.Uint _) value (record { of_kind = (refl, tt); short = refl }) e
number_kind k.Longlong z value e = fitting k.Longlong _ (v.Longlong z) value (record { of_kind = (refl, tt); short = refl }) e
number_kind k.Ulonglong z value e = fitting k.Ulonglong _ (v.Ulonglong _) value (record { of_kind = (refl, tt); short = refl }) e
number_kind k.Text z value e = absurd (cc)

-- a value that is read as one of a kind
pub read_kind : (kind : Kind) (json : Data) (value : Value) → value_of kind json ≡ Ok value → IsOfKind kind value
read_kind kind json value e = by kind e
  where
    truth : (found : Option Bool) → ok_or (option_map v.Bool found) BadValue ≡ Ok value → IsOfKind k.Bool value
    truth None e = absurd (cc)
    truth (Some b) e = given (IsOfKind k.Bool) (v.Bool b) value (refl, tt) e

    made : (kind : Kind) (z : ℤ) (found : Option Value) → number_of kind z ≡ found → ok_or found BadValue ≡ Ok value → IsOfKind kind value
    made kind z None is e = absurd (cc)
    made kind z (Some number) is e = given (IsOfKind kind) number value (number_kind kind z number is).of_kind e

    whole : (kind : Kind) (found : Option ℤ) → ok_or (option_and_then (number_of kind) found) BadValue ≡ Ok value → IsOfKind kind value
    whole kind None e = absurd (cc)
    whole kind (Some z) e = made kind z (number_of kind z) refl e

    spelled : (found : Option (List ℕ)) → option_map_or text_of found (Err BadValue) ≡ Ok value → IsOfKind k.Text value
    spelled None e = absurd (cc)
    spelled (Some text) e = text_short text value e

    by : (kind : Kind) → value_of kind json ≡ Ok value → IsOfKind kind value
    by k.Bool e = truth (as_bool json) e
    by k.Text e = spelled (as_str json) e
    by kind e = whole kind (whole_number json) e

-- a value that is converted to a kind
converted_kind : (kind : Kind) (value new : Value) → (ok_or (converted kind value) BadValue >>= short) ≡ Ok new → IsOfKind kind new
converted_kind kind value new e = by kind e
  where
    truth : (found : Option Bool) → (ok_or (option_map v.Bool found) BadValue >>= short) ≡ Ok new → IsOfKind k.Bool new
    truth None e = absurd (cc)
    truth (Some b) e = given (IsOfKind k.Bool) (v.Bool b) new (refl, tt) e

    made : (kind : Kind) (z : ℤ) (found : Option Value) → number_of kind z ≡ found → (ok_or found BadValue >>= short) ≡ Ok new → IsOfKind kind new
    made kind z None is e = absurd (cc)
    made kind z (Some number) is e = let its = number_kind kind z number is in given (IsOfKind kind) number new its.of_kind (sym its.short ∙ e)

    whole : (kind : Kind) (found : Option ℤ) → (ok_or (option_and_then (number_of kind) found) BadValue >>= short) ≡ Ok new → IsOfKind kind new
    whole kind None e = absurd (cc)
    whole kind (Some z) e = made kind z (number_of kind z) refl e

    spelled : (found : Option (List ℕ)) → (ok_or (option_map v.Text found) BadValue >>= short) ≡ Ok new → IsOfKind k.Text new
    spelled None e = absurd (cc)
    spelled (Some text) e = text_short text new e

    by : (kind : Kind) → (ok_or (converted kind value) BadValue >>= short) ≡ Ok new → IsOfKind kind new
    by k.Bool e = truth (truth_in value) e
    by k.Text e = spelled (text_in value) e
    by kind e = whole kind (number_in value) e

-- the value that a piece of JSON is by itself is short
inferred_short : (json : Data) (value : Value) → inferred json ≡ Ok value → IsShort value
inferred_short d.null value e = given IsShort v.Invalid value tt e
inferred_short (d.boolean b) value e = given IsShort (v.Bool b) value tt e
inferred_short (d.number n) value e = whole (as_integer n) e
  where
    made : (z : ℤ) (one two three : Option Value) → number_of k.Int z ≡ one → number_of k.Longlong z ≡ two → number_of k.Ulonglong z ≡ three
        → ok_or (option_or one (option_or two three)) BadValue ≡ Ok value → IsShort value
    made z (Some number) two three is so also e = given IsShort number value (number_kind k.Int z number is).of_kind.1 e
    made z None (Some number) three is so also e = given IsShort number value (number_kind k.Longlong z number so).of_kind.1 e
    made z None None (Some number) is so also e = given IsShort number value (number_kind k.Ulonglong z number also).of_kind.1 e
    made z None None None is so also e = absurd (cc)

    whole : (found : Option ℤ) → ok_or (option_and_then inferred_number found) BadValue ≡ Ok value → IsShort value
    whole None e = absurd (cc)
    whole (Some z) e = made z _ _ _ refl refl refl e
inferred_short (d.string text) value e = (text_short text value e).1
inferred_short _ value e = absurd (cc)

-- and so is what is no text that is too long
short_short : (value new : Value) → short value ≡ Ok new → IsShort new
short_short (v.Text text) new e = (text_short text new e).1
short_short value new e = given IsShort value new tt e

-- what a command or an action writes is one of these
module _ (state : State) (object : ℕ) (name : List ℕ) (Q : Writing → Type 0) (nothing : Q Nothing)
    (sets : (place : DeclaredField) (value : Value) → declared state object name ≡ Some place → IsOfKind place.kind value → Q (Declared place.number value))
    (adds : (value : Value) → IsShort value → dynamic_refusal state.store object name ≡ None → Q (Dynamic name value)) (removes : Q (Removed name)) where
  added_by : (value : Value) (writing : Writing) → IsShort value
      → option_map_or Err (dynamic_refusal state.store object name) (Ok (Dynamic name value)) ≡ Ok writing → Q writing
  added_by value writing is_short e = by (dynamic_refusal state.store object name) refl e
    where
      by : (refusal : Option Code) → dynamic_refusal state.store object name ≡ refusal → option_map_or Err refusal (Ok (Dynamic name value)) ≡ Ok writing
          → Q writing
      by (Some code) is e = absurd (cc)
      by None is e = let same : Dynamic name value ≡ writing = cc in subst Q same (adds value is_short is)

  dynamic_by : (value : Value) (writing : Writing) → IsShort value → dynamic_writing state object name value ≡ Ok writing → Q writing
  dynamic_by v.Invalid writing is_short e = let same : Removed name ≡ writing = cc in subst Q same removes
  dynamic_by value writing is_short e = added_by value writing is_short e

  placed_by : (place : DeclaredField) (found : Found Value) (writing : Writing) → declared state object name ≡ Some place
      → ((value : Value) → found ≡ Ok value → IsOfKind place.kind value)
      → (found >>= λ value. Ok (Declared place.number value)) ≡ Ok writing → Q writing
  placed_by place found writing is kind e =
      let (value, read, e) = then_found found _ e in
      let same : Declared place.number value ≡ writing = cc in subst Q same (sets place value is (kind value read))

  named_by : (found : Found Value) (writing : Writing) → ((value : Value) → found ≡ Ok value → IsShort value)
      → (found >>= dynamic_writing state object name) ≡ Ok writing → Q writing
  named_by found writing short e = let (value, read, e) = then_found found _ e in dynamic_by value writing (short value read) e

  -- what a command writes
  pub asked_by : (json : Data) (writing : Writing) → asked_writing state object name json ≡ Ok writing → Q writing
  asked_by json writing e = by (declared state object name) refl e
    where
      place_by : (place : DeclaredField) (json : Data) → declared state object name ≡ Some place → asked_place json place ≡ Ok writing → Q writing
      place_by place d.null is e = let same : Nothing ≡ writing = cc in subst Q same nothing
      place_by place json is e = placed_by place (value_of place.kind json) writing is (read_kind place.kind json) e

      by : (found : Option DeclaredField) → declared state object name ≡ found
          → option_map_or (asked_place json) found (inferred json >>= dynamic_writing state object name) ≡ Ok writing → Q writing
      by None is e = named_by (inferred json) writing (inferred_short json) e
      by (Some place) is e = place_by place json is e

  -- and what an action does
  pub acted_by : (value : Value) (writing : Writing) → acted_writing state object name value ≡ Ok writing → Q writing
  acted_by value writing e = by (declared state object name) refl e
    where
      by : (found : Option DeclaredField) → declared state object name ≡ found
          → option_map_or (λ place. ok_or (converted place.kind value) BadValue >>= short >>= λ value. Ok (Declared place.number value)) found
          (short value >>= dynamic_writing state object name) ≡ Ok writing → Q writing
      by None is e = named_by (short value) writing (short_short value) e
      by (Some place) is e = placed_by place (ok_or (converted place.kind value) BadValue >>= short) writing is (converted_kind place.kind value) e

module _ (state : State) (object : ℕ) (name : List ℕ) where
  -- a declared property takes a value of its kind
  declared_fit : (place : DeclaredField) (value : Value) → declared state object name ≡ Some place → IsOfKind place.kind value
      → IsFit state object (Declared place.number value)
  declared_fit place value e kind of is sound = numbered (field_number name of.fields)
      (sym (ap (option_and_then (λ of. option_and_then (at of) (field_number name of.fields))) is) ∙ e)
    where
      at : Properties → ℕ → Option DeclaredField
      at of number = option_map (λ field. record { number = number; kind = field.kind }) (slice_get of.fields number)

      found : (number : ℕ) (field : Option Field) → slice_get of.fields number ≡ field
          → option_map (λ field. record { number = number; kind = field.kind }) field ≡ Some place → AreSound (with_value place.number value of)
      found number None is e = absurd (cc)
      found number (Some field) is e =
          let same : record { number = number; kind = field.kind } ≡ place = cc in
          subst (λ (place : DeclaredField). IsOfKind place.kind value → AreSound (with_value place.number value of)) same
          (λ kind. with_value_sound of sound number value field is kind.0 kind.1) kind

      numbered : (number : Option ℕ) → option_and_then (at of) number ≡ Some place → AreSound (with_value place.number value of)
      numbered None e = absurd (cc)
      numbered (Some number) e = found number (slice_get of.fields number) refl e

  -- a dynamic one a short value, where there is room
  added_fit : (value : Value) → IsShort value → dynamic_refusal state.store object name ≡ None → IsFit state object (Dynamic name value)
  added_fit value is_short free of there sound =
      with_dynamic_sound of name value sound is_short (sym (ap (option_and_then (λ of. refusal_of_name name of.dynamic)) there) ∙ free)

  -- what a command writes, and what an action does
  pub asked_fit : (json : Data) (writing : Writing) → asked_writing state object name json ≡ Ok writing → IsFit state object writing
  asked_fit = asked_by state object name (IsFit state object) tt declared_fit added_fit (λ of there sound. without_dynamic_sound of name sound)

  pub acted_fit : (value : Value) (writing : Writing) → acted_writing state object name value ≡ Ok writing → IsFit state object writing
  acted_fit = acted_by state object name (IsFit state object) tt declared_fit added_fit (λ of there sound. without_dynamic_sound of name sound)
