-- The counts of objects, in the order of the objects. No public clause cites this module.
use Rattle.std.specs.Prelude.{ℕ, List, false}
use Rattle.std.specs.Ordering.{nat_cmp, on}
use Rattle.std.specs.declared.cmp.Ordering.{Ordering}
use Rattle.shared_rows.specs.Links.{IsInOrder}
use Rattle.event_queue.specs.declared.object_counts.Entry.{Entry}

-- Entries are ordered by their objects.
abbrev pub entry_cmp : Entry → Entry → Ordering
entry_cmp = on (λ entry. entry.object) nat_cmp

-- The object of each entry is below those of all later ones.
abbrev pub AreEntries : List Entry → Type 0
AreEntries = IsInOrder entry_cmp

-- The entry of an object that no row names, for comparison with others.
abbrev pub of_object : ℕ → Entry
of_object object = record { object = object; count = record { rows = 0; is_dropped = false } }

-- The counts of the objects that any row names.
abbrev pub ObjectCounts : Type 0
ObjectCounts = List Entry
