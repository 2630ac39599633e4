-- Values of the kinds of their properties.
use Rattle.std.proofs.Common.{◌≡◌, ◌∙◌, ℕ, Bor, Bool, true, false, cond, ℤ, unsigned_abs, IfSome, List, Option, Some, None, Ok, Err, length, map, get_or, set}
use Rattle.std.proofs.Common.{refl, sym, ap, subst, arith, rules}
use Rattle.std.proofs.lemmas.Grind.{common_steps}
use Rattle.std.proofs.lemmas.Bool.Decides.{nat_tests}
use Rattle.std.specs.List.{slice_get}
use Rattle.std.specs.Option.{ok_or, option_map}
use Rattle.std.specs.Prelude.{option_and_then}
use Rattle.std.proofs.lemmas.List.{length-map, map-set, set-get_or}
use Rattle.std.proofs.lemmas.List.Elements.{All-map, All-set}
use Rattle.std.proofs.lemmas.Option.{get_or_from_slice_get, slice_get-map, slice_get_within}
use Rattle.signature_core.specs.declared.kind.Kind.{Kind}
use Rattle.signature_core.specs.declared.kind.Kind.TheVariants as k
use Rattle.variant_value.specs.declared.value.Value.{Value}
use Rattle.variant_value.specs.declared.value.Value.TheVariants as v
use Rattle.variant_value.specs.Values.{IsOfKind, IsShort, converted, kind_of, number_in, number_of, text_in, truth_in}
use Rattle.property_store.specs.declared.field.Field.{Field}
use Rattle.property_store.specs.Store.{AreSound, Properties, default_of, fresh, with_value}
use Rattle.property_store.specs.Storing.{fit_in, with_fit}
use Rattle.property_store.proofs.ListLemmas.{map_at, map_over_map}

pub default_kind : (kind : Kind) → kind_of (default_of kind) ≡ Some kind
default_kind k.Bool = refl
default_kind k.Int = refl
default_kind k.Uint = refl
default_kind k.Longlong = refl
default_kind k.Ulonglong = refl
default_kind k.Text = refl

pub default_short : (kind : Kind) → IsShort (default_of kind)
default_short k.Bool = tt
default_short k.Int = tt
default_short k.Uint = tt
default_short k.Longlong = tt
default_short k.Ulonglong = tt
default_short k.Text = omega arith

pub fresh_sound : (object : ℕ) (fields : List Field) → AreSound (fresh object fields)
fresh_sound object fields = grind (
  arith,
  nat_tests,
  map_over_map kind_of (λ (field : Field). default_of field.kind) fields,
  map_at (λ (field : Field). kind_of (default_of field.kind)) (λ field. Some field.kind) fields (λ k d within. default_kind (get_or fields k d).kind),
  default_kind,
  All-map IsShort (λ (field : Field). default_of field.kind) fields (λ k d within. default_short (get_or fields k d).kind),
  default_short,
)

module _ (of : Properties) (sound : AreSound of) (number : ℕ) where
  same_kind : option_map kind_of (slice_get of.values number) ≡ option_map (λ (field : Field). Some field.kind) (slice_get of.fields number)
  same_kind = grind (arith, nat_tests, slice_get-map kind_of of.values number, slice_get-map (λ (field : Field). Some field.kind) of.fields number)

  pub kind_there : (value : Value) (field : Field) → slice_get of.values number ≡ Some value → slice_get of.fields number ≡ Some field
      → IsOfKind field.kind value
  kind_there value field value_is field_is = search (rules, same_kind, get_or_from_slice_get, slice_get_within)

  pub value_kind : (result : Option (Bor Value)) → option_map (λ value. value.now) result ≡ slice_get of.values number → (field : Option Field)
      → slice_get of.fields number ≡ field → IfSome result (λ value. IfSome field (λ f. IsOfKind f.kind value.now))
  value_kind None value_is field field_is = tt
  value_kind (Some value) value_is None field_is = tt
  value_kind (Some value) value_is (Some field) field_is = kind_there value.now field (sym value_is) field_is

  pub with_value_sound : (value : Value) (field : Field) → slice_get of.fields number ≡ Some field → kind_of value ≡ Some field.kind → IsShort value
      → AreSound (with_value number value of)
  with_value_sound value field field_is kind short = record {
    kinds = map-set kind_of of.values number value
        ∙ (ap (λ kinds. set kinds number (kind_of value)) sound.kinds ∙ (ap (set (map (λ (f : Field). Some f.kind) of.fields) number) kind ∙ set_there));
    short = All-set IsShort of.values number value short sound.short;
    few = sound.few;
    distinct = sound.distinct;
    dynamic_short = sound.dynamic_short;
  }
    where
      set_there : set (map (λ (f : Field). Some f.kind) of.fields) number (Some field.kind) ≡ map (λ (f : Field). Some f.kind) of.fields
      set_there =
          ap (set (map (λ (f : Field). Some f.kind) of.fields) number)
          (sym (get_or_from_slice_get (map (λ (f : Field). Some f.kind) of.fields) number (Some field.kind) None
          (slice_get-map (λ (f : Field). Some f.kind) of.fields number ∙ ap (option_map (λ (f : Field). Some f.kind)) field_is)))
          ∙ set-get_or (map (λ (f : Field). Some f.kind) of.fields) number None

-- what is converted is of the kind
module _ (kind : Kind) where
  tested : (b : Bool) (value fit : Value) → IsOfKind kind value → cond b (Some value) None ≡ Some fit → IsOfKind kind fit
  tested true value fit is e = let same : value ≡ fit = cc in subst (IsOfKind kind) same is
  tested false value fit is e = absurd (cc)

number_fits : (kind : Kind) (o : Option ℤ) (fit : Value) → option_and_then (number_of kind) o ≡ Some fit → IsOfKind kind fit
number_fits kind None fit e = absurd (cc)
number_fits k.Bool (Some z) fit e = absurd (cc)
number_fits k.Int (Some z) fit e = tested k.Int _ (v.Int z) fit (refl, tt) e
number_fits k.Uint (Some z) fit e = tested k.Uint _ (v.Uint (unsigned_abs z)) fit (refl, tt) e
number_fits k.Longlong (Some z) fit e = tested k.Longlong _ (v.Longlong z) fit (refl, tt) e
number_fits k.Ulonglong (Some z) fit e = tested k.Ulonglong _ (v.Ulonglong (unsigned_abs z)) fit (refl, tt) e
number_fits k.Text (Some z) fit e = absurd (cc)

truth_fits : (o : Option Bool) (fit : Value) → option_map v.Bool o ≡ Some fit → IsOfKind k.Bool fit
truth_fits None fit e = absurd (cc)
truth_fits (Some b) fit e = grind (arith, common_steps)

text_fits : (value fit : Value) → IsShort value → option_map v.Text (text_in value) ≡ Some fit → IsOfKind k.Text fit
text_fits v.Invalid fit short e = absurd (cc)
text_fits (v.Bool b) fit short e = absurd (cc)
text_fits (v.Int z) fit short e = absurd (cc)
text_fits (v.Uint n) fit short e = absurd (cc)
text_fits (v.Longlong z) fit short e = absurd (cc)
text_fits (v.Ulonglong n) fit short e = absurd (cc)
text_fits (v.Text text) fit short e = grind (arith, common_steps)

pub converted_fits : (kind : Kind) (value fit : Value) → IsShort value → converted kind value ≡ Some fit → IsOfKind kind fit
converted_fits k.Bool value fit short e = truth_fits (truth_in value) fit e
converted_fits k.Int value fit short e = number_fits k.Int (number_in value) fit e
converted_fits k.Uint value fit short e = number_fits k.Uint (number_in value) fit e
converted_fits k.Longlong value fit short e = number_fits k.Longlong (number_in value) fit e
converted_fits k.Ulonglong value fit short e = number_fits k.Ulonglong (number_in value) fit e
converted_fits k.Text value fit short e = text_fits value fit short e

pub as_many : (of : Properties) → AreSound of → length of.values ≡ length of.fields
as_many of sound = search (rules, length-map)

-- what is stored leaves the properties sound
pub stored_sound : (of : Properties) (number : ℕ) (value : Value) → AreSound of → IsShort value
    → AreSound (record of { values = with_fit (fit_in of.fields number value) number of.values })
stored_sound of number value sound short = by (slice_get of.fields number) refl
  where
    by : (field : Option Field) → slice_get of.fields number ≡ field
        → AreSound (record of { values = with_fit (option_and_then (λ (f : Field). converted f.kind value) field) number of.values })
    by None is = sound
    by (Some field) is = fits (converted field.kind value) refl
      where
        fits : (fit : Option Value) → converted field.kind value ≡ fit → AreSound (record of { values = with_fit fit number of.values })
        fits None none = sound
        fits (Some fit) some = let kind = converted_fits field.kind value fit short some in with_value_sound of sound number fit field is kind.0 kind.1

-- what is converted where a conversion is told
pub ok_or_none : {X E : Type 0} (o : Option X) (e d : E) → Err e ≡ ok_or o d → o ≡ None
ok_or_none None e d is = refl
ok_or_none (Some x) e d is = absurd (cc)

pub ok_or_some : {X E : Type 0} (o : Option X) (x : X) (d : E) → Ok x ≡ ok_or o d → o ≡ Some x
ok_or_some None x d is = absurd (cc)
ok_or_some (Some y) x d is = let same : y ≡ x = cc in ap Some same
