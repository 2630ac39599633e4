-- Numbers with a fraction or an exponent, as `serde_json` reads them.
use Rattle.std.proofs.Common.{◌≡◌, ◌&&◌, ◌==◌, ℕ, Bool, Float, List, None, Some, true, false, drop, if◌then◌else◌, not, slice_index}
use Rattle.std.proofs.Common.{option_map, unwrap_or, refl}
use Rattle.std.proofs.lemmas.Bool.{and_parts, false≢true}
use Rattle.std.specs.Float.{binary64, float_is_finite}
use Rattle.fast_float.specs.Text.{Parts, minus, nearest, scan}
use Rattle.serde_json.specs.Data.{Num, float, null, number}
use Rattle.serde_json.specs.Find.{of_float}
use Rattle.serde_json.specs.Read.{is_integer, number_from, number_of}
use Rattle.json_reading.specs.Reals.{float_in, has_float, is_float, numeral_in}

-- what is no integer is read as a float
positive_read : (integer finite test : Bool) (n : Num) (x : Float) → (not integer && finite) ≡ true
    → (if integer && test then Some n else (if finite then Some (float x) else None)) ≡ Some (float x)
positive_read true finite test n x h = absurd (false≢true h)
positive_read false true test n x h = refl
positive_read false false test n x h = absurd (false≢true h)

negative_read : (integer finite some small : Bool) (n : Num) (x : Float) → (not integer && finite) ≡ true
    → (if integer && some && small then Some n else (if finite then Some (float x) else None)) ≡ Some (float x)
negative_read true finite some small n x h = absurd (false≢true h)
negative_read false true some small n x h = refl
negative_read false false some small n x h = absurd (false≢true h)

abbrev by_sign : Bool → Parts → Parts → Bool × Parts
by_sign sign p q = if sign then (true, p) else (false, q)

read_by_sign : (sign : Bool) (p q : Parts) → has_float (by_sign sign p q).0 (by_sign sign p q).1 ≡ true
    → (if sign then number_from true p else number_from false q) ≡ Some (float (nearest binary64 (by_sign sign p q).0 (by_sign sign p q).1))
read_by_sign true p q h = negative_read (is_integer p) (float_is_finite (nearest binary64 true p)) _ _ _ (nearest binary64 true p) h
read_by_sign false p q h = positive_read (is_integer q) (float_is_finite (nearest binary64 false q)) _ _ (nearest binary64 false q) h

pub number_of_float : (s : List ℕ) → is_float s ≡ true → number_of s ≡ Some (float (float_in s))
unfolding number_of is_float float_in numeral_in
number_of_float s h = read_by_sign (slice_index s 0 == minus) (scan (drop 1 s)) (scan s) h

-- and is finite, so that it is kept as JSON
pub float_json : (s : List ℕ) → is_float s ≡ true → unwrap_or (option_map number (of_float (float_in s))) null ≡ number (float (float_in s))
unfolding is_float float_in
float_json s h =
    let finite : float_is_finite (float_in s) ≡ true = (and_parts (not (is_integer (numeral_in s).1)) (float_is_finite (float_in s)) h).1 in
    rw finite refl
