-- Tables with another value at a place.
use Rattle.std.proofs.Common.{◌≡◌, ℕ, zero, suc, List, [], ◌∷◌, ◌++◌, length, get_or, refl, sym, ap, ◌∙◌, arith}
use Rattle.std.proofs.lemmas.Grind.{common_steps}
use Rattle.std.proofs.lemmas.List.{get_or-set_same, set-get_or, set-set}
use Rattle.shared_rows.specs.Table.{ChangesAt, IsPlace, Table, with_place}

-- what stands at a place, put there again
pub with_same : {T : Type 0} (default : T) (table : Table T) (place : ℕ) → with_place table place (get_or table.places place default) ≡ table
with_same default table place = ap (λ places. record { places = places; room = table.room }) (set-get_or table.places place default)

-- the last value that was put there counts
pub with_twice : {T : Type 0} (table : Table T) (place : ℕ) (first second : T)
    → with_place (with_place table place first) place second ≡ with_place table place second
with_twice table place first second = ap (λ places. record { places = places; room = table.room }) (set-set table.places place first second)

-- and stands there then
pub with_there : {T : Type 0} (default : T) (table : Table T) (place : ℕ) (value : T) → IsPlace table place
    → get_or (with_place table place value).places place default ≡ value
with_there default table place value is_place = get_or-set_same table.places place value default is_place

pub changes_same : {T : Type 0} (default : T) (old new : Table T) (place : ℕ) → new ≡ old → ChangesAt default place old new
changes_same default old new place e = e ∙ sym (with_same default old place) ∙ ap (λ table. with_place old place (get_or table.places place default)) (sym e)

pub changes_with : {T : Type 0} (default : T) (old new : Table T) (place : ℕ) (value : T) → IsPlace old place → new ≡ with_place old place value
    → ChangesAt default place old new
changes_with default old new place value is_place e =
    e ∙ ap (with_place old place) (sym (ap (λ table. get_or table.places place default) e ∙ with_there default old place value is_place))

pub changes_twice : {T : Type 0} (default : T) (old middle new : Table T) (place : ℕ) → ChangesAt default place old middle → ChangesAt default place middle new
    → ChangesAt default place old new
changes_twice default old middle new place first second =
    second ∙ ap (λ table. with_place table place (get_or new.places place default)) first
    ∙ with_twice old place (get_or middle.places place default) (get_or new.places place default)

-- as many places as before
pub changes_length : {T : Type 0} (default : T) (old new : Table T) (place : ℕ) → ChangesAt default place old new → length new.places ≡ length old.places
changes_length default old new place e = ap (λ table. length table.places) e ∙ grind (arith, common_steps)

pub changes_open : {T : Type 0} (default : T) (old new : Table T) (place : ℕ) → ChangesAt default place old new → IsPlace old place → IsPlace new place
changes_open default old new place e is_place = omega (arith, changes_length default old new place e)

-- whatever stood at a place before another value is put there
pub with_after : {T : Type 0} (default : T) (old new : Table T) (place : ℕ) (value : T) → ChangesAt default place old new
    → with_place new place value ≡ with_place old place value
with_after default old new place value e = ap (λ table. with_place table place value) e ∙ with_twice old place (get_or new.places place default) value

-- past its end a list is as if it went on with the default
pub default_pushed : {T : Type 0} (default : T) (values : List T) (place : ℕ) → get_or (values ++ default ∷ []) place default ≡ get_or values place default
default_pushed default [] zero = refl
default_pushed default [] (suc place) = refl
default_pushed default (value ∷ values) zero = refl
default_pushed default (value ∷ values) (suc place) = default_pushed default values place
