-- What a sink holds after bytes are written to it by several calls.
use Rattle.std.specs.Prelude.{ℕ, ◌<◌, List, length, take, Option, Result, MatchResult}
use Rattle.std.specs.Io.KnownBytes.{Appends}

-- If the bytes of the sink are known, a prefix of these is appended, but not all of them.
abbrev pub AppendsFront : Option (List ℕ) → Option (List ℕ) → List ℕ → Type 0
AppendsFront old new bytes = (n : ℕ) × (n < length bytes) × Appends old new (take n bytes)

-- After `Ok` all bytes are taken, and after `Err` not all.
abbrev pub AppendsAll : {T E : Type 0} → Option (List ℕ) → Option (List ℕ) → Result T E → List ℕ → Type 0
AppendsAll old new r bytes = MatchResult r (λ _. Appends old new bytes) (λ _. AppendsFront old new bytes)
