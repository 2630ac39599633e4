-- Numbers with a fraction or an exponent.
use Rattle.std.specs.Prelude.{◌&&◌, ◌==◌, ℕ, Bool, Float, List, drop, false, if◌then◌else◌, not, slice_index, true}
use Rattle.std.specs.Float.{binary64, float_is_finite}
use Rattle.fast_float.specs.Text.{Parts, minus, nearest, scan}
use Rattle.serde_json.specs.Read.{is_integer}

-- Whether the number in a text has a minus, and the parts of the number without it.
unfoldable pub numeral_in : List ℕ → Bool × Parts
numeral_in s = if slice_index s 0 == minus then (true, scan (drop 1 s)) else (false, scan s)

-- The float nearest to the number in a text.
unfoldable pub float_in : List ℕ → Float
float_in s = nearest binary64 (numeral_in s).0 (numeral_in s).1

-- There is a point or an exponent, and the number is not too large for a float.
abbrev pub has_float : Bool → Parts → Bool
has_float sign p = not (is_integer p) && float_is_finite (nearest binary64 sign p)

unfoldable pub is_float : List ℕ → Bool
is_float s = has_float (numeral_in s).0 (numeral_in s).1
