-- How a device counts its calls and its failures.
use Rattle.std.specs.Prelude.{◌≡◌, ℕ, ◌+◌, ◌-◌, ◌^◌, ◌<◌, ◌≤◌, min, List, length, Result, MatchResult}

-- The greatest count, at which counting stops.
abbrev pub greatest_count : ℕ
greatest_count = 2 ^ 64 - 1

-- The count grew by this many calls, or to the greatest count.
abbrev pub CountsCalls : ℕ → ℕ → ℕ → Type 0
CountsCalls calls old new = new ≡ min (old + calls) greatest_count

-- A call is counted exactly if it gave bytes.
abbrev pub CountsGiven : {E : Type 0} → ℕ → ℕ → Result ℕ E → Type 0
CountsGiven old new r = MatchResult r (λ n. (0 < n → CountsCalls 1 old new) × (n ≡ 0 → new ≡ old)) (λ _. new ≡ old)

-- One failure: the count grew by one, unless it was the greatest.
abbrev pub FailsOnce : ℕ → ℕ → Type 0
FailsOnce old new = (old ≤ greatest_count) × (new ≡ min (old + 1) greatest_count)

-- An error counts as one failure, and any other result as none.
abbrev pub CountsErrors : {T E : Type 0} → ℕ → ℕ → Result T E → Type 0
CountsErrors old new r = MatchResult r (λ _. new ≡ old) (λ _. FailsOnce old new)

-- A write that took none of its bytes counts as one failure, and any other result as none.
abbrev pub CountsTaken : ℕ → ℕ → ℕ → List ℕ → Type 0
CountsTaken old new n bytes =
    (n ≡ 0 → 0 < length bytes → FailsOnce old new) × (0 < n → new ≡ old) × (length bytes ≡ 0 → new ≡ old)

-- `write(bytes)` counts as one failure if it returned an error or took none of its bytes, and otherwise as none.
abbrev pub CountsWrite : {E : Type 0} → ℕ → ℕ → Result ℕ E → List ℕ → Type 0
CountsWrite old new r bytes = MatchResult r (λ n. CountsTaken old new n bytes) (λ _. FailsOnce old new)
