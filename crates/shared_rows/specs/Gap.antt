-- Places with a gap, seen as the list outside the gap.
use Rattle.std.specs.Prelude.{ℕ, ◌+◌, ◌<◌, ◌≤◌, ◌≡◌, ◌⊎◌, List, ◌++◌, drop, length, min, take}
use Rattle.std.specs.Vec.{vec_capacity}
use Rattle.std.specs.declared.vec.Vec.{Vec}
use Rattle.shared_rows.specs.declared.gap.Gap.{Gap}

-- A list without the `gone` places from `start` on.
unfoldable pub without : {T : Type 0} → List T → ℕ → ℕ → List T
without places start gone = take start places ++ drop (start + gone) places

-- The elements outside the gap.
abbrev pub listed : {T : Type 0} → List T → Gap → List T
listed places gap = without places gap.start gap.gone

-- The gap lies within the places, which are counted by 32 bits.
abbrev pub IsGapOf : {T : Type 0} → List T → Gap → Type 0
IsGapOf places gap = (gap.start + gap.gone ≤ length places) × (length places ≤ 4294967295)

-- The place that holds an element of the list.
abbrev pub IsPlaceOf : Gap → ℕ → ℕ → Type 0
IsPlaceOf gap at place = ((at < gap.start) × (place ≡ at)) ⊎ ((gap.start ≤ at) × (place ≡ at + gap.gone))

-- Another element takes no memory, and 32 bits still count the places.
abbrev pub HasRoom : {T A : Type 0} → Vec T A → ℕ → Type 0
HasRoom places count = count < min (vec_capacity places) 4294967295
