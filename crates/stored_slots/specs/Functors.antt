-- What contracts see of a server's functors: their names, parameters, bodies, and the expressions for their next states,
-- in the order in which they were added.
use Rattle.std.specs.Prelude.{◌≡◌, ℕ, List, Option, Some, None, IsSomeAnd, bytes_eq, if◌then◌else◌, is_some, length, nat_le, option_map, position, slice_get}
use Rattle.std.specs.List.{AllZip}
use Rattle.plain_types.specs.declared.code.Code.{Code}
use Rattle.plain_types.specs.declared.code.Code.TheVariants.{Limit, NameTaken}
use Rattle.signature_core.specs.declared.kind.Kind.{Kind}
use Rattle.variant_value.specs.declared.value.Value.{Value}
use Rattle.variant_value.specs.Values.{IsOfKind}
use Rattle.term_core.specs.declared.body.Body.{Body}
use Rattle.term_core.specs.Act.{Act}
use Rattle.term_core.specs.Bodies.{IsBody, IsNext}
use Rattle.term_evaluation.specs.Stating.{after, with_state}
use Rattle.term_evaluation.specs.Unfolding.{unfolded_body}
use Rattle.stored_slots.specs.declared.functor.Functor.{Functor}
use Rattle.stored_slots.specs.declared.limit.TheConstants.{FUNCTORS}

-- A body for parameters of these kinds: it keeps to the limits of a class file's bodies, takes no other arguments, and
-- sets only properties with valid names.
pub record IsBodyFor (kinds : List Kind) (body : Body) : Type 0 where
  pub takes : body.params ≡ length kinds
  pub keeps : IsBody body

-- What holds for every functor of a table.
pub record IsFunctor (functor : Functor) : Type 0 where
  pub body : IsBodyFor functor.params functor.body
  pub next : IsNext (length functor.params) functor.next

-- These values fit parameters of these kinds: one for each, of its kind, and no text too long.
abbrev pub AreArguments : List Kind → List Value → Type 0
AreArguments kinds values = AllZip IsOfKind kinds values

-- The index of the functor with this name.
abbrev pub index_of : List ℕ → List Functor → Option ℕ
index_of name functors = position (λ functor. bytes_eq name functor.name) functors

-- Why a functor with this name is refused: the first reason that applies.
abbrev pub add_refusal : List Functor → List ℕ → Option Code
add_refusal functors name =
    if is_some (index_of name functors) then Some NameTaken
    else (if nat_le FUNCTORS (length functors) then Some Limit
    else None)

-- There is a functor at this index, and these values fit its parameters.
abbrev pub IsCall : List Functor → ℕ → List Value → Type 0
IsCall functors index args = IsSomeAnd (slice_get functors index) (λ functor. AreArguments functor.params args)

-- The actions of the functor at this index, with the state and these arguments put in.
abbrev pub actions_of : List Functor → ℕ → ℕ → List Value → Option (List Act)
actions_of functors index state args = option_map (λ functor. unfolded_body args (with_state state functor.body)) (slice_get functors index)

-- The next state after that.
abbrev pub next_of : List Functor → ℕ → ℕ → List Value → Option ℕ
next_of functors index state args = option_map (λ functor. after functor.next state args) (slice_get functors index)
