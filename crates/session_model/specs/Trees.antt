-- The effects of the commands that make and delete objects, if they are not refused, and the search for objects.
use Rattle.std.specs.Prelude.{◌+◌, ◌&&◌, ℕ, Bool, true, false, List, [], ◌∷◌, Option, Some, None, filter, option_map}
use Rattle.std.specs.Option.{option_map_or}
use Rattle.isolation.specs.Machine.{Effect}
use Rattle.class_table.specs.declared.class.Class.{Class}
use Rattle.class_table.specs.Lookup.{inherits}
use Rattle.object_tree.specs.Rows.{row_of}
use Rattle.object_tree.specs.Finding.{below_by_depth, found_below}
use Rattle.session_model.specs.declared.line.Answer.TheVariants.{Number, Truth}
use Rattle.session_model.specs.declared.line.Line.{Line}
use Rattle.session_model.specs.declared.post.Post.{Post}
use Rattle.session_model.specs.Classes.{class_index}
use Rattle.session_model.specs.Execution.{begun}
use Rattle.session_model.specs.Effects.{does_next, replies}
use Rattle.session_model.specs.Items.{Delete, puts}
use Rattle.session_model.specs.Settings.{Settings}
use Rattle.session_model.specs.State.{State, is_text, title_of, with_object}

-- Makes an object of a class. The reply is its number, which is the next one.
abbrev pub makes : List Class → State → List ℕ → Option ℕ → Effect State Line Post
makes classes state class parent = replies (with_object classes state parent (class_index classes class)) (Number (state.forest.last_number + 1))

-- Deletes an object and everything below it. The reply at the end is true.
abbrev pub deletes : Settings → State → ℕ → Effect State Line Post
deletes settings state target = does_next settings (puts (Delete target 0 ∷ []) (begun settings state)) (Truth true)

-- Whether an object has this title, if one is given.
abbrev pub has_title : State → Option (List ℕ) → ℕ → Bool
has_title state None number = true
has_title state (Some wanted) number = is_text wanted (title_of state number)

-- Whether an object is of this class or one below it, if one is given.
abbrev pub is_of_class : List Class → State → Option ℕ → ℕ → Bool
is_of_class classes state None number = true
is_of_class classes state (Some base) number = option_map_or (λ row. inherits classes row.class base) (row_of state.forest.rows number) false

-- All objects below another one with this title and class, the nearest first.
abbrev pub all_found_in : List Class → State → ℕ → Option (List ℕ) → Option (List ℕ) → List ℕ
all_found_in classes state target title class =
    let base = option_map (class_index classes) class in
    filter (λ number. has_title state title number && is_of_class classes state base number) (below_by_depth state.forest.rows target)

-- The nearest object below another one with this title and class.
abbrev pub found_in : List Class → State → ℕ → Option (List ℕ) → Option (List ℕ) → Option ℕ
found_in classes state target title class =
    let base = option_map (class_index classes) class in
    found_below state.forest.rows target (λ number. has_title state title number && is_of_class classes state base number)
