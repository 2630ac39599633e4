-- What a change of an object's properties leaves.
use Rattle.std.proofs.Common.{◌≡◌, ◌∙◌, ℕ, zero, suc, ◌<◌, Bool, false, cond, is_some, List, [], ◌∷◌, IfOk, OnErr, OnOk, Option, Some, None, Result, Ok, Err}
use Rattle.std.proofs.Common.{length, refl, sym, ap, subst, arith, rules}
use Rattle.std.proofs.lemmas.Grind.{common_steps}
use Rattle.std.specs.List.{slice_get}
use Rattle.std.specs.Option.{option_map, option_map_or}
use Rattle.std.specs.Prelude.{option_and_then}
use Rattle.std.specs.Result.{result_err}
use Rattle.std.proofs.lemmas.Result.{on_err_weaker, on_ok_weaker}
use Rattle.shared_rows.specs.Table.{Table}
use Rattle.shared_rows.specs.Rows.{Keyed}
use Rattle.plain_types.specs.Answers.{RefusedBy}
use Rattle.plain_types.specs.declared.code.Code.{Code}
use Rattle.plain_types.specs.declared.code.Code.TheVariants.{BadValue}
use Rattle.plain_types.specs.declared.fault.Fault.{Fault}
use Rattle.variant_value.specs.declared.value.Value.{Value}
use Rattle.variant_value.specs.Values.{IsShort, converted}
use Rattle.property_store.specs.declared.dynamic.Named.{Named}
use Rattle.property_store.specs.declared.field.Field.{Field}
use Rattle.property_store.specs.declared.link.Head.{Head}
use Rattle.property_store.specs.declared.row.Row.{Row}
use Rattle.property_store.specs.declared.row.Stored.{Stored}
use Rattle.property_store.specs.declared.unwritten.Unwritten.{Unwritten}
use Rattle.property_store.specs.declared.unwritten.Unwritten.TheVariants.{Refused, Undeclared}
use Rattle.property_store.specs.Inside.{AreKept, shelves_of, shown}
use Rattle.property_store.specs.Named.{answer_named, declared_at, written_named}
use Rattle.property_store.specs.Store.{AreSound, Properties, Store, changed, dynamic_refusal, field_number, fields_in, is_change, properties_of, with_dynamic}
use Rattle.property_store.specs.Store.{with_value, without_dynamic, write_refusal, written}
use Rattle.property_store.specs.Storing.{IsNamed, IsNumbered, IsRemoved, IsSet, IsStored, fit_in, numbered, refusal_as, refusal_in, with_fit}
use Rattle.property_store.specs.Table.{StoreTable, store_at, with_store}
use Rattle.property_store.proofs.DynamicLemmas.{either_sound, without_dynamic_sound}
use Rattle.property_store.proofs.KindLemmas.{stored_sound}
use Rattle.property_store.proofs.PlaceLemmas.{IsChanged, kept_under, old_sound, old_there, unchanged_store, view_same, view_under}

-- a value was written to the property of a number
pub record IsWritten (seen new : StoreTable) (place n number : ℕ) (value : Value) (result : Result Bool Code) : Type 0 where
  pub refused : result_err result ≡ write_refusal (store_at seen place) n number value
  pub answer : IfOk result (λ answer. answer ≡ is_change (store_at seen place) n number value)
  pub new_is : new ≡ with_store seen place (written (store_at seen place) n number value)
  pub err : OnErr result (new ≡ seen)

-- and of a name
pub record IsWrittenNamed (seen new : StoreTable) (place n : ℕ) (name : List ℕ) (value : Value) (result : Result (ℕ × Bool) Unwritten) : Type 0 where
  pub answer : result ≡ answer_named (store_at seen place) n name value
  pub new_is : new ≡ with_store seen place (written_named (store_at seen place) n name value)
  pub err : OnErr result (new ≡ seen)

-- a value was given to the dynamic property of a name
pub record IsDynamicSet (seen new : StoreTable) (place n : ℕ) (name : List ℕ) (value : Value) (result : Result (Unit {0}) Fault) : Type 0 where
  pub refused : RefusedBy (dynamic_refusal (store_at seen place) n name) result
  pub ok : OnOk result (new ≡ with_store seen place (changed (with_dynamic name value) n (store_at seen place)))
  pub err : OnErr result (new ≡ seen)

-- where there is no object
module _ (seen : StoreTable) (place n : ℕ) (value : Value) (none : properties_of (store_at seen place) n ≡ None) where
  pub nothing_written : (number : ℕ) → IsWritten seen seen place n number value (Ok false)
  nothing_written number = grind (arith, common_steps)

  pub nothing_named : (name : List ℕ) → IsWrittenNamed seen seen place n name value (Err (Undeclared value))
  nothing_named name = grind (arith, common_steps)

pub standing : {A : Type 0} (xs : List A) (i : ℕ) → i < length xs → (x : A) × (slice_get xs i ≡ Some x)
standing [] i within = absurd (omega (arith, within))
standing (x ∷ xs) zero within = (x, refl)
standing (x ∷ xs) (suc i) within = standing xs i (omega (arith, within))

-- what is told of what was stored
abbrev pub told : Result Stored Code → Result Bool Code
told (Ok stored) = Ok stored.is_change
told (Err code) = Err code

abbrev pub told_named : Result (ℕ × Stored) Unwritten → Result (ℕ × Bool) Unwritten
told_named (Ok stored) = Ok (stored.0, stored.1.is_change)
told_named (Err unwritten) = Err unwritten

told_err : (done : Result Stored Code) → result_err (told done) ≡ result_err done
told_err (Ok stored) = refl
told_err (Err code) = refl

told_answer : (answer : Bool) (done : Result Stored Code) → IfOk done (λ stored. stored.is_change ≡ answer) → IfOk (told done) (λ change. change ≡ answer)
told_answer answer (Ok stored) is = is
told_answer answer (Err code) is = is

numbered_err : (number : ℕ) (P : Type 0) (done : Result Stored Code) → OnErr (told done) P → OnErr (told_named (numbered number done)) P
numbered_err number P (Ok stored) h = tt
numbered_err number P (Err code) h = h

module _ {layouts : List (List Field)} {rows new : Table (List (Keyed Row))} {seen : StoreTable} {place key n : ℕ} {old row : Row}
    (it : IsChanged layouts rows new seen place key n old row) where
  abbrev store : Store
  store = store_at seen place

  abbrev fields : List Field
  fields = fields_in layouts old.class

  pub row_written : {number : ℕ} {value : Value} {head : Head} {result : Result Stored Code} → IsStored fields number value head old row result
      → IsWritten seen (shelves_of layouts new) place n number value (told result)
  row_written {number} {value} {head} {result} said = record {
    refused = rw (old_there it) (told_err result ∙ said.refused);
    answer = rw (old_there it) (told_answer _ result said.answer);
    new_is = rw (old_there it) (by_fit (fit_in fields number value) (ap (shown layouts) said.stored));
    err = by (told result) (told_err result ∙ said.refused);
  }
    where
      by_fit : (fit : Option Value) → shown layouts row ≡ record (shown layouts old) { values = with_fit fit number old.values }
          → shelves_of layouts new ≡ with_store seen place (option_map_or (λ f. changed (with_value number f) n store) fit store)
      by_fit None e = view_same it e ∙ unchanged_store seen place store refl
      by_fit (Some fit) e = view_under it (with_value number fit) e

      unfit : (code : Code) (field : Option Field) → Some code ≡ option_and_then (λ (f : Field). refusal_as f.kind value) field
          → option_and_then (λ (f : Field). converted f.kind value) field ≡ None
      unfit code None e = refl
      unfit code (Some field) e = by (converted field.kind value) e
        where
          by : (fit : Option Value) → Some code ≡ cond (is_some fit) None (Some BadValue) → fit ≡ None
          by None e = refl
          by (Some fit) e = absurd (cc)

      by : (result : Result Bool Code) → result_err result ≡ refusal_in fields number value → OnErr result (shelves_of layouts new ≡ seen)
      by (Ok answer) refused = tt
      by (Err code) refused = view_same it (ap (shown layouts) said.stored
          ∙ ap {B = Properties} (λ fit. record (shown layouts old) { values = with_fit fit number old.values }) (unfit code (slice_get fields number) refused))

  pub row_kept : {number : ℕ} {value : Value} {head : Head} {result : Result Stored Code} → IsStored fields number value head old row result → IsShort value
      → AreKept layouts new
  row_kept {number} {value} said short = kept_under it
      (subst AreSound (sym (ap (shown layouts) said.stored)) (stored_sound (shown layouts old) number value (old_sound it) short))

  pub name_written : (name : List ℕ) (value : Value) (head : Head) (result : Result (ℕ × Stored) Unwritten) → IsNamed fields name value head old row result
      → IsWrittenNamed seen (shelves_of layouts new) place n name value (told_named result)
  name_written name value head result = by (field_number name fields) refl
    where
      declared : (found : Option ℕ) → field_number name fields ≡ found
          → declared_at store n name ≡ option_and_then (λ number. option_map (λ (field : Field). (number, field.kind)) (slice_get fields number)) found
      declared found e = rw (old_there it) (ap (option_and_then (λ number. option_map (λ (field : Field). (number, field.kind)) (slice_get fields number))) e)

      answered : (number : ℕ) (done : Result Stored Code) → result_err (told done) ≡ write_refusal store n number value
          → IfOk (told done) (λ answer. answer ≡ is_change store n number value)
          → told_named (numbered number done) ≡ option_map_or (λ code. Err (Refused code)) (write_refusal store n number value)
          (Ok (number, is_change store n number value))
      answered number (Ok stored) refused answer = (λ i. option_map_or (λ code. Err (Refused code)) (refused i) (Ok (number, answer i)))
      answered number (Err code) refused answer = (λ i. option_map_or (λ code. Err (Refused code)) (refused i) (Ok (number, is_change store n number value)))

      by : (found : Option ℕ) → field_number name fields ≡ found → IsNumbered fields value head old row result found
          → IsWrittenNamed seen (shelves_of layouts new) place n name value (told_named result)
      by None e said =
          let none : declared_at store n name ≡ None = declared None e in
          let same = view_same it (ap (shown layouts) said.1) in
          subst (IsWrittenNamed seen (shelves_of layouts new) place n name value) (sym (ap told_named said.0))
          (record { answer = rw none refl; new_is = same ∙ unchanged_store seen place _ (rw none refl); err = same })
      by (Some number) e said =
          let there = standing fields number said.0 in
          let some : declared_at store n name ≡ Some (number, there.0.kind) = declared (Some number) e
          ∙ ap (option_map (λ (field : Field). (number, field.kind))) there.1 in
          let done = row_written said.1.2 in
          subst (IsWrittenNamed seen (shelves_of layouts new) place n name value) (sym (ap told_named said.1.1))
          (record {
            answer = rw some (answered number said.1.0 done.refused done.answer);
            new_is = rw some done.new_is;
            err = numbered_err number _ said.1.0 done.err;
          })

  pub name_kept : (name : List ℕ) (value : Value) (head : Head) (result : Result (ℕ × Stored) Unwritten) → IsNamed fields name value head old row result
      → IsShort value → AreKept layouts new
  name_kept name value head result said short = by (field_number name fields) said
    where
      by : (found : Option ℕ) → IsNumbered fields value head old row result found → AreKept layouts new
      by None said = kept_under it (subst AreSound (sym (ap (shown layouts) said.1)) (old_sound it))
      by (Some number) said = row_kept said.1.2 short

  -- the dynamic properties alone are others
  shown_dynamic : (items : List Named) → row ≡ record old { dynamic = row.dynamic } → row.dynamic.items ≡ items
      → shown layouts row ≡ record (shown layouts old) { dynamic = items }
  shown_dynamic items rest is = grind (arith, common_steps)

  pub dynamic_set : {name : List ℕ} {value : Value} {result : Result (Unit {0}) Fault} → IsSet name value old row result
      → IsDynamicSet seen (shelves_of layouts new) place n name value result
  dynamic_set {name} {value} {result} said = record {
    refused = rw (old_there it) said.refused;
    ok = on_ok_weaker result (λ is. view_under it (with_dynamic name value) (shown_dynamic _ said.rest is)) said.ok;
    err = on_err_weaker result (λ is. view_same it (shown_dynamic _ said.rest is)) said.err;
  }

  pub set_kept : {name : List ℕ} {value : Value} {result : Result (Unit {0}) Fault} → IsSet name value old row result → IsShort value → AreKept layouts new
  set_kept {name} {value} {result} said short =
      kept_under it (subst AreSound (sym (ap (shown layouts) said.rest))
      (either_sound (shown layouts old) name value (old_sound it) short row.dynamic.items result said.refused said.ok said.err))

  pub dynamic_removed : {name : List ℕ} → IsRemoved name old row → shelves_of layouts new ≡ with_store seen place (changed (without_dynamic name) n store)
  dynamic_removed {name} said = search (rules, view_under, shown_dynamic)

  pub removed_kept : {name : List ℕ} → IsRemoved name old row → AreKept layouts new
  removed_kept {name} said = kept_under it
      (subst AreSound (sym (shown_dynamic _ said.rest said.removed)) (without_dynamic_sound (shown layouts old) name (old_sound it)))
