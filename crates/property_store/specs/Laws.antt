-- The laws of marks.
use Rattle.std.specs.Prelude.{◌≡◌, Bool, true, false, List, [], ◌∷◌}
use Rattle.std.specs.List.{list_any}
use Rattle.property_store.specs.declared.property.Property.{Property}
use Rattle.property_store.specs.declared.written.Written.{Written}
use Rattle.property_store.specs.declared.written.Written.TheVariants as told
use Rattle.property_store.specs.Marks.{IsTaken, Marks, is_marked}
use Rattle.property_store.specs.Property.{is_property}

-- Marks are taken one after another, and these are the answers. The last answer is that there are no more.
abbrev pub Drains : Marks → List Written → Type 0
Drains marks [] = ⊥
Drains marks (told.None ∷ rest) = ((after : Marks) × IsTaken marks after told.None) × (rest ≡ [])
Drains marks (told.One at ∷ rest) = (after : Marks) × IsTaken marks after (told.One at) × Drains after rest
Drains marks (told.All ∷ rest) = (after : Marks) × IsTaken marks after told.All × Drains after rest

-- Whether an answer reports a property.
abbrev pub tells : Property → Written → Bool
tells q told.None = false
tells q (told.One at) = is_property at q
tells q told.All = true

-- A property is reported exactly if it is marked.
abbrev pub DrainLaw : Type 0
DrainLaw = (marks : Marks) (answers : List Written) → Drains marks answers → (q : Property) → list_any (tells q) answers ≡ is_marked marks q
