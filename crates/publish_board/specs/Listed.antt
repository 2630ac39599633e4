-- The places of one topic. No public clause cites this module.
use Rattle.std.specs.Prelude.{◌≡◌, ℕ, ◌+◌, ◌≤◌, ◌==◌, Bool, true, false, List, find, length, nat_lt}
use Rattle.std.specs.List.Sorted.{IsPartitionPoint}
use Rattle.std.specs.Option.{option_map_or}
use Rattle.std.specs.Ordering.{nat_cmp, on}
use Rattle.std.specs.declared.cmp.Ordering.{Ordering}
use Rattle.publish_board.specs.declared.listed.Listed.{Listed}

-- Places are ordered by their numbers.
abbrev pub listed_cmp : Listed → Listed → Ordering
listed_cmp = on (λ listed. listed.place) nat_cmp

-- Whether it is the same place.
abbrev pub is_of_same : Listed → Listed → Bool
is_of_same = on (λ listed. listed.place) ◌==◌

-- How many joins of a place are listed.
abbrev pub count_in : List Listed → ℕ → ℕ
count_in links place = option_map_or (λ listed. listed.further + 1) (find (λ listed. listed.place == place) links) 0

-- The places before this position are below `least`, and no others are.
abbrev pub IsSeatFrom : List Listed → ℕ → ℕ → Type 0
IsSeatFrom links least at = (at ≤ length links)
    × IsPartitionPoint (λ (listed : Listed). nat_lt listed.place least ≡ true) (λ (listed : Listed). nat_lt listed.place least ≡ false) links at
