-- The search for an object below another one that passes a test.
use Rattle.std.specs.Prelude.{ℕ, suc, zero, ◌≡◌, ◌<◌, ◌==◌, ◌^◌, ◌&&◌, Bool, List, [], ◌∷◌, ◌++◌, Option}
use Rattle.std.specs.Prelude.{Some, None, Result, IsFalse, IfOk, length, find, drop, nat_lt}
use Rattle.std.specs.declared.alloc.AllocError.{AllocError}
use Rattle.std.specs.List.{flat_map, list_any}
use Rattle.std.specs.Option.{option_or}
use Rattle.object_tree.specs.declared.row.Row.{Row}
use Rattle.object_tree.specs.Rows.{children}
use Rattle.object_tree.specs.Lines.{depth}

-- The children of all these objects, in order.
abbrev pub children_of : List Row → List ℕ → List ℕ
children_of rows level = flat_map (λ number. children rows (Some number)) level

-- The first match on this level, or otherwise on the next ones, for this many levels.
abbrev pub found_within : ℕ → List Row → (ℕ → Bool) → List ℕ → Option ℕ
found_within zero rows passes level = None
found_within (suc most) rows passes level = option_or (find passes level) (found_within most rows passes (children_of rows level))

-- The first match on the first level below the object that has one.
unfoldable pub found_below : List Row → ℕ → (ℕ → Bool) → Option ℕ
found_below rows object passes = found_within (length rows) rows passes (children rows (Some object))

-- This level and those below, one after another, for this many levels.
abbrev pub levels_from : ℕ → List Row → List ℕ → List ℕ
levels_from zero rows level = []
levels_from (suc most) rows level = level ++ levels_from most rows (children_of rows level)

-- All objects below an object by depth, and those of the same depth in preorder.
unfoldable pub below_by_depth : List Row → ℕ → List ℕ
below_by_depth rows object = levels_from (length rows) rows (children rows (Some object))

-- An object and all objects below it in preorder, on this many levels.
abbrev pub preorder_within : ℕ → List Row → ℕ → List ℕ
preorder_within zero rows number = []
preorder_within (suc most) rows number = number ∷ flat_map (preorder_within most rows) (children rows (Some number))

-- All objects below an object, in preorder.
unfoldable pub all_below : List Row → ℕ → List ℕ
all_below rows object = drop 1 (preorder_within (length rows) rows object)

-- If one of these numbers passes, the first one with the least depth that passes is found; otherwise nothing.
abbrev pub IsFirstAtLeast : (ℕ → ℕ) → List ℕ → (ℕ → Bool) → Option ℕ → Type 0
IsFirstAtLeast depth_of numbers passes None = IsFalse (list_any passes numbers)
IsFirstAtLeast depth_of numbers passes (Some found) =
    (find (λ number. passes number && (depth_of number == depth_of found)) numbers ≡ Some found)
    × IsFalse (list_any (λ number. passes number && nat_lt (depth_of number) (depth_of found)) numbers)

-- The match below an object at the least depth, and among those the first in preorder.
abbrev pub IsNearest : List Row → ℕ → (ℕ → Bool) → Option ℕ → Type 0
IsNearest rows object passes found = IsFirstAtLeast (depth rows) (all_below rows object) passes found

-- Each answer of a test is that of `passes`.
abbrev pub AnswersBy : (ℕ → Result Bool AllocError → Type 0) → (ℕ → Bool) → Type 0
AnswersBy answers passes =
    (number : ℕ) (answer : Result Bool AllocError) → number < 2 ^ 32 → answers number answer → IfOk answer (λ passed. passed ≡ passes number)
