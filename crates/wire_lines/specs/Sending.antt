-- Text on its way to a sink: a part is written, and the rest is gathered in a buffer.
use Rattle.std.specs.Prelude.{◌≡◌, ℕ, List, ◌++◌, Option, Result, MatchResult}
use Rattle.std.specs.Io.KnownBytes.{Appends}

-- The second list begins with the first.
abbrev pub IsPrefix : List ℕ → List ℕ → Type 0
IsPrefix front whole = (rest : List ℕ) × (whole ≡ front ++ rest)

-- What the sink has taken, if that is known, and what is gathered for it.
pub record Out : Type 0 where
  pub received : Option (List ℕ)
  pub gathered : List ℕ

abbrev pub out : Option (List ℕ) → List ℕ → Out
out held gathered = record { received = held; gathered = gathered }

-- The text follows what was gathered; it is written or gathered too.
abbrev pub Sent : Out → Out → List ℕ → Type 0
Sent old new text =
    (written : List ℕ) × Appends old.received new.received written × (old.gathered ++ text ≡ written ++ new.gathered)

-- At most a prefix of the gathered text and this text is written.
abbrev pub SentFront : Out → Out → List ℕ → Type 0
SentFront old new text =
    (written : List ℕ) × Appends old.received new.received written × IsPrefix (written ++ new.gathered) (old.gathered ++ text)

-- After `Ok` the whole text is sent, and after `Err` a prefix.
abbrev pub SentAll : {T E : Type 0} → Out → Out → Result T E → List ℕ → Type 0
SentAll old new r text = MatchResult r (λ _. Sent old new text) (λ _. SentFront old new text)
