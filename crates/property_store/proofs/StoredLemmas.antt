-- What is stored in a row, and what it marks.
use Rattle.std.proofs.lemmas.Option.{slice_get_past}
use Rattle.std.proofs.Common.{◌≡◌, ℕ, ◌<◌, ◌≤◌, Bool, true, false, is_some, List, Option, Some, None, Ok, Err, length, arith, rules}
use Rattle.std.proofs.lemmas.Grind.{common_steps}
use Rattle.std.proofs.lemmas.Bool.Decides.{nat_tests}
use Rattle.plain_types.specs.declared.code.Code.{Code}
use Rattle.variant_value.specs.declared.value.Value.{Value}
use Rattle.property_store.specs.declared.field.Field.{Field}
use Rattle.property_store.specs.declared.link.Head.{Head}
use Rattle.property_store.specs.declared.link.Link.{Link}
use Rattle.property_store.specs.declared.row.Row.{Row}
use Rattle.property_store.specs.Chain.{IsMarking}
use Rattle.property_store.specs.Storing.{IsMarkedWith, IsStored, fit_in, is_other, refusal_in, with_fit}
use Rattle.property_store.proofs.WriteLemmas.{standing}

module _ (fields : List Field) (number : ℕ) (value : Value) where
  unfit : (code : Code) → Some code ≡ refusal_in fields number value → fit_in fields number value ≡ None
  unfit code = grind (arith, common_steps)

  fits : number < length fields → None ≡ refusal_in fields number value → is_some (fit_in fields number value) ≡ true
  fits within = grind (arith, nat_tests, standing fields number within)

  module _ (first : Head) (old : Row) (values : List Value) (new : values ≡ with_fit (fit_in fields number value) number old.values) where
    -- the value is refused
    pub stored_refused : (code : Code) → Some code ≡ refusal_in fields number value
        → IsStored fields number value first old (record old { values = values }) (Err code)
    stored_refused code refused = search (rules, unfit)

    -- it is stored
    pub stored_marked : number < length fields → (change linked : Bool) (links : List Link) → None ≡ refusal_in fields number value
        → change ≡ is_other (fit_in fields number value) number old.values → IsMarking first number old.links links linked
        → IsStored fields number value first old (record old { values = values; links = links }) (Ok (record { is_change = change; is_linked = linked }))
    stored_marked within change linked links refused answer marking =
        grind (arith, nat_tests, by (fit_in fields number value) (fits within refused), fits within refused)
      where
        by : (fit : Option Value) → is_some fit ≡ true → IsMarkedWith fit first number old.links links linked
        by None some = absurd (cc)
        by (Some fit) some = marking

    -- there is no such property
    pub stored_nowhere : length fields ≤ number → (change linked : Bool) → linked ≡ false → None ≡ refusal_in fields number value
        → change ≡ is_other (fit_in fields number value) number old.values
        → IsStored fields number value first old (record old { values = values }) (Ok (record { is_change = change; is_linked = linked }))
    stored_nowhere past change linked off refused answer = search (rules, slice_get_past)
