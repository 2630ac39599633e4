-- Marks that are kept apart from the stores.
use Rattle.std.specs.Prelude.{◌≡◌, ◌≢◌, ◌||◌, ◌++◌, ℕ, Bool, true, false, List, refl}
use Rattle.std.specs.Coded.{Coded, code_by, coded×, coded_bool, coded_list}
use Rattle.property_store.specs.contracts.property.Property as property
use Rattle.property_store.specs.declared.property.Property.{Property}
use Rattle.property_store.specs.Marks.{Marks, is_marked, marks_at}
use Rattle.property_store.specs.Table.{StoresView}

-- Marks for exactly these properties.
abbrev pub only : List Property → Marks
only marks = record { all = false; each = marks }

-- The marks of both.
abbrev pub both : Marks → Marks → Marks
both a b = record { all = a.all || b.all; each = a.each ++ b.each }

-- Everything that is marked stays marked.
abbrev pub AreMore : Marks → Marks → Type 0
AreMore marks more = (q : Property) → is_marked marks q ≡ true → is_marked more q ≡ true

-- All stores are unchanged, and so are the marks of other places.
pub record IsDrained (place : ℕ) (old new : StoresView) : Type 0 where
  pub shelves : new.shelves ≡ old.shelves
  pub others : (other : ℕ) → other ≢ place → marks_at new.marks other ≡ marks_at old.marks other

-- How the logic stores marks.
abbrev pub coded_marks : Coded Marks
coded_marks = code_by (Bool × List Property) (coded× coded_bool (coded_list property.the_row.coded))
    (λ m. (m.all, m.each)) (λ p. record { all = p.0; each = p.1 }) (λ _. refl)
