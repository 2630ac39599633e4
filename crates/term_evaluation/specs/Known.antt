-- A reader of finitely many properties.
use Rattle.std.specs.Prelude.{ℕ, Bool, true, false, ◌&&◌, ◌==◌, List, Err, bytes_eq, if◌then◌else◌}
use Rattle.std.specs.List.{find, list_any}
use Rattle.std.specs.Option.{option_map_or}
use Rattle.plain_types.specs.declared.code.Code.{Code}
use Rattle.plain_types.specs.declared.code.Code.TheVariants.{NoSuchObject, NoSuchProperty}
use Rattle.term_core.specs.declared.target.Target.{Target}
use Rattle.term_core.specs.declared.target.Target.TheVariants.{Itself, Sender, Child, Object}
use Rattle.term_evaluation.specs.Outcomes.{Answer, refused}

-- A property of an object, and the answer for it.
pub record Known (O : Type 0) : Type 0 where
  pub target : Target
  pub name : List ℕ
  pub answer : Answer O

-- Whether two targets are equal.
abbrev pub is_target : Target → Target → Bool
is_target Itself Itself = true
is_target Sender Sender = true
is_target (Child a) (Child b) = bytes_eq a b
is_target (Object a) (Object b) = a == b
is_target a b = false

-- Whether the row is about the object, and about this property of it.
abbrev pub is_of : {O : Type 0} → Target → Known O → Bool
is_of target known = is_target target known.target

abbrev pub is_about : {O : Type 0} → Target → List ℕ → Known O → Bool
is_about target name known = is_of target known && bytes_eq name known.name

-- Why something that is not known cannot be read: if the object has another known property, it has no such property;
-- otherwise there is no such object.
abbrev pub unknown : {O : Type 0} → List (Known O) → Target → Code
unknown all target = if list_any (is_of target) all then NoSuchProperty else NoSuchObject

-- The answer for a property, if this is everything that is known.
abbrev pub read_of : {O : Type 0} → List (Known O) → Target → List ℕ → Answer O
read_of all target name = option_map_or (λ known. known.answer) (find (is_about target name) all) (Err (refused (unknown all target)))
