-- Dynamic properties by their names.
use Rattle.std.proofs.Common.{◌≡◌, ◌≢◌, ◌∙◌, ℕ, ◌<◌, ◌≤◌, not, nat_lt, is_some, true, false, List, [], ◌∷◌, ◌++◌, OnErr, OnOk, Option, Some, None, Result, Ok}
use Rattle.std.proofs.Common.{Err, bytes_eq, cond, length, get_or, set, refl, sym, ap, subst, arith, ⊎_elim}
use Rattle.std.proofs.lemmas.Bool.Decides.{nat_tests}
use Rattle.std.specs.List.{remove}
use Rattle.std.specs.Option.{option_map_or}
use Rattle.std.specs.Cmp.Lexicographic.{bytes_decides}
use Rattle.std.proofs.lemmas.Bool.{cases_Bool, cases_eq, cases_lt, le-ltb}
use Rattle.std.proofs.lemmas.List.{get_or-set_other, get_or-set_same, get_or_append_left, get_or_push, length-set, length_push}
use Rattle.std.proofs.lemmas.List.Elements.{All-append, All-filter, All-set}
use Rattle.std.proofs.lemmas.List.Kept.{AllPairs-filter}
use Rattle.std.proofs.lemmas.List.Sums.{count_by-le-length, length-filter}
use Rattle.plain_types.specs.Answers.{RefusedBy}
use Rattle.plain_types.specs.declared.fault.Fault.{Fault}
use Rattle.plain_types.specs.declared.code.Code.TheVariants.{Limit}
use Rattle.variant_value.specs.declared.value.Value.{Value}
use Rattle.variant_value.specs.Values.{IsShort}
use Rattle.property_store.specs.declared.dynamic.Named.{Named}
use Rattle.property_store.specs.declared.dynamic.TheConstants.{DYNAMIC}
use Rattle.property_store.specs.Store.{AreDistinct, AreSound, Properties, dynamic_number, refusal_of_name, with_dynamic, with_name, without_dynamic}
use Rattle.property_store.specs.Store.{without_name}
use Rattle.property_store.proofs.ListLemmas.{filter_all, filter_one, found, found_at, none_passes, position_none, position_some}

other_name : (name : List ℕ) (x y : Named) → x.name ≢ y.name → bytes_eq x.name name ≡ true → bytes_eq y.name name ≡ false
other_name name x y differ here = ⊎_elim
    (λ (same : bytes_eq y.name name ≡ true). absurd (differ ((bytes_decides x.name name).0 here ∙ sym ((bytes_decides y.name name).0 same))))
    (λ (other : bytes_eq y.name name ≡ false). other)
    (cases_Bool (bytes_eq y.name name))

module _ (name : List ℕ) (dynamic : List Named) where
  pub left_without : AreDistinct dynamic → (number : ℕ) → dynamic_number name dynamic ≡ Some number → without_name name dynamic ≡ remove dynamic number
  left_without distinct number e =
      let is = position_some (λ (named : Named). bytes_eq named.name name) dynamic number e in
      filter_one (λ (named : Named). bytes_eq named.name name) dynamic
      (λ i j d lt within here. other_name name (get_or dynamic i d) (get_or dynamic j d) (distinct i j d lt within) here) number is.0 is.1

  pub kept_without : dynamic_number name dynamic ≡ None → without_name name dynamic ≡ dynamic
  kept_without e =
      filter_all (λ (named : Named). not (bytes_eq named.name name)) dynamic
      (λ k d within.
      let other = none_passes (λ (named : Named). bytes_eq named.name name) dynamic
      (position_none (λ (named : Named). bytes_eq named.name name) dynamic e) k d within in rw other refl)

  named_at : (number : ℕ) (d : Named) → dynamic_number name dynamic ≡ Some number → (get_or dynamic number d).name ≡ name
  named_at number d e =
      let is = found (λ (named : Named). bytes_eq named.name name) dynamic (get_or dynamic number d)
      (found_at (λ (named : Named). bytes_eq named.name name) dynamic number d e) in
      (bytes_decides (get_or dynamic number d).name name).0 is.passes

  distinct_set : (value : Value) (number : ℕ) → AreDistinct dynamic → dynamic_number name dynamic ≡ Some number
      → AreDistinct (set dynamic number (record { name = name; value = value }))
  distinct_set value number distinct e i j d lt within same =
      distinct i j d lt (omega (arith, within, length-set dynamic number new))
      (sym (same_name i (omega (arith, lt, within, length-set dynamic number new)))
      ∙ (same ∙ same_name j (omega (arith, within, length-set dynamic number new))))
    where
      new : Named
      new = record { name = name; value = value }

      same_name : (k : ℕ) → k < length dynamic → (get_or (set dynamic number new) k d).name ≡ (get_or dynamic k d).name
      same_name k inside = ⊎_elim
          (λ (here : k ≡ number).
          ap (λ at. (get_or (set dynamic number new) at d).name) here
          ∙ (ap (λ (named : Named). named.name) (get_or-set_same dynamic number new d (omega (arith, here, inside)))
          ∙ (sym (named_at number d e) ∙ ap (λ at. (get_or dynamic at d).name) (sym here))))
          (λ (differ : k ≢ number). ap (λ (named : Named). named.name) (get_or-set_other dynamic number k new d differ))
          (cases_eq k number)

  distinct_push : (value : Value) → AreDistinct dynamic → dynamic_number name dynamic ≡ None
      → AreDistinct (dynamic ++ record { name = name; value = value } ∷ [])
  distinct_push value distinct e i j d lt within same = ⊎_elim
      (λ (inside : j < length dynamic).
      distinct i j d lt inside (ap (λ (named : Named). named.name) (sym (get_or_append_left dynamic (new ∷ []) d i (omega (arith, lt, inside))))
      ∙ (same ∙ ap (λ (named : Named). named.name) (get_or_append_left dynamic (new ∷ []) d j inside))))
      (λ (last : length dynamic ≤ j).
      let is_last : length dynamic ≡ j = omega (arith, last, within, length_push dynamic new) in
      let before : i < length dynamic = omega (arith, lt, is_last) in
      let is_name : (get_or dynamic i d).name ≡ name = ap (λ (named : Named). named.name) (sym (get_or_append_left dynamic (new ∷ []) d i before))
      ∙ (same ∙ ap (λ (named : Named). named.name) (get_or_push dynamic new d j is_last)) in
      let passes = (bytes_decides (get_or dynamic i d).name name).1 is_name in
      let other = none_passes (λ (named : Named). bytes_eq named.name name) dynamic
      (position_none (λ (named : Named). bytes_eq named.name name) dynamic e) i d before in
      absurd (cc (passes, other)))
      (cases_lt j (length dynamic))
    where
      new : Named
      new = record { name = name; value = value }

pub with_dynamic_sound : (of : Properties) (name : List ℕ) (value : Value) → AreSound of → IsShort value → refusal_of_name name of.dynamic ≡ None
    → AreSound (with_dynamic name value of)
with_dynamic_sound of name value sound short takes = by (dynamic_number name of.dynamic) refl
  where
    new : Named
    new = record { name = name; value = value }

    by : (number : Option ℕ) → dynamic_number name of.dynamic ≡ number → AreSound (with_dynamic name value of)
    by (Some number) e = subst (λ dynamic. AreSound (record of { dynamic = dynamic }))
        (ap (λ o. option_map_or (λ n. set of.dynamic n new) o (of.dynamic ++ new ∷ [])) (sym e)) (record {
          kinds = sound.kinds;
          short = sound.short;
          few = omega (arith, sound.few, length-set of.dynamic number new);
          distinct = distinct_set name of.dynamic value number sound.distinct e;
          dynamic_short = All-set (λ (named : Named). IsShort named.value) of.dynamic number new short sound.dynamic_short;
        })
    by None e =
        let room : cond (nat_lt (length of.dynamic) DYNAMIC) None (Some Limit) ≡ None =
        ap (λ o. cond (is_some o) None (cond (nat_lt (length of.dynamic) DYNAMIC) None (Some Limit))) (sym e) ∙ takes in
        subst (λ dynamic. AreSound (record of { dynamic = dynamic })) (ap (λ o. option_map_or (λ n. set of.dynamic n new) o (of.dynamic ++ new ∷ [])) (sym e))
        (record {
          kinds = sound.kinds;
          short = sound.short;
          few = omega (arith, has_room room, length_push of.dynamic new);
          distinct = distinct_push name of.dynamic value sound.distinct e;
          dynamic_short = All-append (λ (named : Named). IsShort named.value) of.dynamic (new ∷ []) sound.dynamic_short (λ k d within. alone k d within);
        })
      where
        has_room : cond (nat_lt (length of.dynamic) DYNAMIC) None (Some Limit) ≡ None → length of.dynamic < DYNAMIC
        has_room e = ⊎_elim
            (λ (fewer : length of.dynamic < DYNAMIC). fewer)
            (λ (full : DYNAMIC ≤ length of.dynamic). let test : nat_lt (length of.dynamic) DYNAMIC ≡ false = le-ltb _ _ full in
            let never : Some Limit ≡ None = rw test at e in absurd (cc))
            (cases_lt (length of.dynamic) DYNAMIC)

        alone : (k : ℕ) (d : Named) → k < 1 → IsShort (get_or (new ∷ []) k d).value
        alone k d within = let first : k ≡ 0 = omega (arith, within) in rw first short

pub without_dynamic_sound : (of : Properties) (name : List ℕ) → AreSound of → AreSound (without_dynamic name of)
without_dynamic_sound of name sound = grind (
  arith,
  nat_tests,
  sound.kinds,
  sound.short,
  sound.few,
  length-filter (λ (named : Named). not (bytes_eq named.name name)) of.dynamic,
  count_by-le-length (λ (named : Named). not (bytes_eq named.name name)) of.dynamic,
  AllPairs-filter (λ (earlier later : Named). earlier.name ≢ later.name) (λ (named : Named). not (bytes_eq named.name name)) of.dynamic sound.distinct,
  All-filter (λ (named : Named). not (bytes_eq named.name name)) (λ (named : Named). IsShort named.value) of.dynamic sound.dynamic_short,
)

-- what a call that may be refused leaves
pub either_sound : (of : Properties) (name : List ℕ) (value : Value) → AreSound of → IsShort value → (dynamic : List Named) {T : Type 0} (done : Result T Fault)
    → RefusedBy (refusal_of_name name of.dynamic) done → OnOk done (dynamic ≡ with_name name value of.dynamic) → OnErr done (dynamic ≡ of.dynamic)
    → AreSound (record of { dynamic = dynamic })
either_sound of name value sound short dynamic (Ok v) refused ok err =
    subst (λ d. AreSound (record of { dynamic = d })) (sym ok) (with_dynamic_sound of name value sound short refused)
either_sound of name value sound short dynamic (Err fault) refused ok err = subst (λ d. AreSound (record of { dynamic = d })) (sym err) sound
