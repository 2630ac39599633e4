-- The bodies of slots in JSON.
use Rattle.std.specs.Prelude.{◌&&◌, ℕ, Bool, List, [], ◌∷◌, Option, Some, None, Ok, Err, IsTrue, codes}
use Rattle.std.specs.Prelude.{bytes_eq, if◌then◌else◌, is_some, nat_le, option_map, unwrap_or}
use Rattle.serde_json.specs.Data.{Data, array, object, Items, no_items, item, Members, no_members, member}
use Rattle.serde_json.specs.Find.{get}
use Rattle.plain_types.specs.declared.code.Code.TheVariants.{BadValue, Limit}
use Rattle.term_core.specs.declared.body.Body.{Body}
use Rattle.term_core.specs.declared.limits.TheConstants.{ACTIONS}
use Rattle.term_core.specs.declared.scope.Scope.{Scope}
use Rattle.term_core.specs.declared.scope.Scope.TheVariants.{Slot, Functor}
use Rattle.term_core.specs.Act.{Act, single_action, when, acts_of, counts, are_limited, are_named}
use Rattle.term_core.specs.Arguments.{ActsTakeAtMost, TakesAtMost}
use Rattle.term_core.specs.Effects.{effect_in}
use Rattle.term_core.specs.Forms.{is_within_limits, term_in}
use Rattle.term_core.specs.Term.{Term, reads_nothing}
use Rattle.term_core.specs.Json.{Read, ◌>>=◌, where_only, at_key}

-- A choice between two lists of actions, by the values at `then` and `else`.
abbrev pub choice_in : Scope → Data → Option (Read (List Act)) → Option (Read (List Act)) → Read Act
choice_in scope json held failed = where_only (codes "when" ∷ codes "then" ∷ codes "else" ∷ []) json (do
  condition ← at_key (codes "when") json
  a ← unwrap_or held (Err BadValue)
  b ← unwrap_or failed (Ok [])
  test ← term_in scope condition
  Ok (when test (acts_of a) (acts_of b)))

-- An action, by the values at `then` and `else`.
abbrev pub made : Scope → Data → Option (Read (List Act)) → Option (Read (List Act)) → Read Act
made scope json held failed =
    if is_some (get (codes "when") json) then choice_in scope json held failed else (effect_in scope json >>= λ plain. Ok (single_action plain))

abbrev mutual
  -- The action in JSON, of any size.
  pub act_in : Scope → Data → Read Act
  act_in scope (object inside) = made scope (object inside) (branch_in scope (codes "then") inside) (branch_in scope (codes "else") inside)
  act_in scope _ = Err BadValue

  -- The actions at a key, if it is present.
  pub branch_in : Scope → List ℕ → Members → Option (Read (List Act))
  branch_in scope key no_members = None
  branch_in scope key (member other json rest) = if bytes_eq key other then Some (actions_in scope json) else branch_in scope key rest

  -- The actions of an array.
  pub actions_in : Scope → Data → Read (List Act)
  actions_in scope (array items) = acts_in scope items
  actions_in scope _ = Err BadValue

  pub acts_in : Scope → Items → Read (List Act)
  acts_in scope no_items = Ok []
  acts_in scope (item json rest) = act_in scope json >>= λ action. acts_in scope rest >>= λ actions. Ok (action ∷ actions)

-- An action, by the values at its keys.
abbrev pub action_in : Scope → Data → Read Act
action_in scope json = made scope json (option_map (actions_in scope) (get (codes "then") json)) (option_map (actions_in scope) (get (codes "else") json))

-- Whether actions keep to the limits.
abbrev pub is_body_limited : List Act → Bool
is_body_limited actions = nat_le (counts (acts_of actions)) ACTIONS && are_limited (acts_of actions)

abbrev pub limited_body : ℕ → List Act → Read Body
limited_body params actions = if is_body_limited actions then Ok (record { params = params; actions = actions }) else Err Limit

-- The body of a slot with this many parameters.
abbrev pub body_of : ℕ → Data → Read Body
body_of params json = actions_in (Slot params) json >>= limited_body params

-- The body of a functor with this many parameters, which may use the functor's state.
abbrev pub functor_body_of : ℕ → Data → Read Body
functor_body_of params json = actions_in (Functor params) json >>= limited_body params

-- A body keeps to the limits, takes no argument but its parameters, and sets only properties with valid names.
pub record IsBody (body : Body) : Type 0 where
  pub limited : IsTrue (is_body_limited body.actions)
  pub arguments : ActsTakeAtMost body.params (acts_of body.actions)
  pub named : IsTrue (are_named (acts_of body.actions))

-- The expression for the next state of a functor with this many parameters keeps to the limits, takes no argument but
-- the parameters, and reads no property.
pub record IsNext (params : ℕ) (next : Term) : Type 0 where
  pub limited : IsTrue (is_within_limits next)
  pub arguments : TakesAtMost params next
  pub unread : IsTrue (reads_nothing next)
