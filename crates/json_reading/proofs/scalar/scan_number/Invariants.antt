use Rattle.std.proofs.Common.{◌≡◌, ◌-◌, ◌^◌, ◌<◌, ◌≤◌, length, take}
use Rattle.std.specs.Str.Parse.{AllDigits, digits_value}
use Rattle.json_reading.proofs.scalar.scan_number.Given as goal

abbrev pub invariant-digits : goal.invariant-digits
invariant-digits l =
    AllDigits 10 (take l.end l.bytes) × (l.number ≡ digits_value 10 (take l.end l.bytes)) × (l.end ≤ length l.bytes) × (l.number < 2 ^ 64)

abbrev pub decreases-digits : goal.decreases-digits
decreases-digits l = length l.bytes - l.end
