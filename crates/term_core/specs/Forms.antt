-- The forms of expressions in JSON.
use Rattle.std.specs.Prelude.{◌&&◌, ℕ, Bool, true, false, List, [], ◌∷◌, Option, Some, None, Ok, Err, codes}
use Rattle.std.specs.Prelude.{bytes_eq, if◌then◌else◌, nat_le, nat_lt, is_some, unwrap_or}
use Rattle.std.specs.Option.{option_map_or}
use Rattle.serde_json.specs.Data.{Data, array, object, no_items, item, Members, no_members, member}
use Rattle.serde_json.specs.Find.{get, as_bool}
use Rattle.plain_types.specs.declared.code.Code.TheVariants.{BadValue, Limit}
use Rattle.term_core.specs.declared.limits.TheConstants.{NODES}
use Rattle.term_core.specs.declared.target.Target.{Target}
use Rattle.term_core.specs.declared.target.Target.TheVariants.{Itself, Sender, Child, Object}
use Rattle.term_core.specs.declared.operator.Operator.{Operator}
use Rattle.term_core.specs.declared.operator.Operator.TheVariants.{Sum, Difference, Less, Equal, Concatenated}
use Rattle.term_core.specs.declared.operator.Form.{Form}
use Rattle.term_core.specs.declared.operator.Form.TheVariants as form
use Rattle.term_core.specs.declared.scope.Scope.{Scope}
use Rattle.term_core.specs.declared.scope.Scope.TheVariants.{Binding, Slot, Functor, Next}
use Rattle.term_core.specs.Term.{Term, const, arg, state, prop, binary, choice, nodes, has_short_texts}
use Rattle.term_core.specs.Json.{Read, ◌>>=◌, provided, has_only, at_key, name_in, natural_in, constant_in, target_in}

-- The number of parameters at the place of the expression.
abbrev pub params : Scope → ℕ
params Binding = 0
params (Slot count) = count
params (Functor count) = count
params (Next count) = count

-- Whether a target may be named: only bodies have a sender and search for children, and the next state of a functor
-- names no object.
abbrev pub has_target : Scope → Target → Bool
has_target Binding Itself = true
has_target Binding Sender = false
has_target Binding (Child name) = false
has_target Binding (Object n) = true
has_target (Slot count) target = true
has_target (Functor count) target = true
has_target (Next count) target = false

-- Only a functor has a state.
abbrev pub has_state : Scope → Bool
has_state Binding = false
has_state (Slot count) = false
has_state (Functor count) = true
has_state (Next count) = true

-- The form of a key. `prop` is not one of these, since it may have a second key.
abbrev pub form_named : List ℕ → Option Form
form_named key =
    if bytes_eq key (codes "const") then Some form.Const else (
    if bytes_eq key (codes "arg") then Some form.Arg else (
    if bytes_eq key (codes "state") then Some form.State else (
    if bytes_eq key (codes "+") then Some (form.Binary Sum) else (
    if bytes_eq key (codes "-") then Some (form.Binary Difference) else (
    if bytes_eq key (codes "<") then Some (form.Binary Less) else (
    if bytes_eq key (codes "=") then Some (form.Binary Equal) else (
    if bytes_eq key (codes "cat") then Some (form.Binary Concatenated) else (
    if bytes_eq key (codes "if") then Some form.Choice else None))))))))

-- An argument of the slot.
abbrev pub argument_in : Scope → Data → Read Term
argument_in scope json = do
  place ← natural_in json
  provided (nat_lt place (params scope)) (arg place)

-- The state of the functor, if it has one. The value at the key is true.
abbrev pub state_in : Scope → Data → Read Term
state_in scope json = provided (has_state scope && unwrap_or (as_bool json) false) state

-- The object of a form: this object itself, unless the key `of` names another one.
abbrev pub subject_in : Data → Read Target
subject_in json = option_map_or target_in (get (codes "of") json) (Ok Itself)

-- A property of an object.
abbrev pub property_in : Scope → Data → Read Term
property_in scope json = do
  property ← at_key (codes "prop") json
  name ← name_in property
  target ← subject_in json
  provided (has_target scope target && has_only (codes "prop" ∷ codes "of" ∷ []) json) (prop target name)

-- An expression, by the key of its form and the value there: a constant, an argument or a state, two operands, or three.
abbrev pub made : Scope → Form → Data → (Operator → Read Term) → Read Term → Read Term
made scope form.Const json two three = do
  value ← constant_in json
  Ok (const value)
made scope form.Arg json two three = argument_in scope json
made scope form.State json two three = state_in scope json
made scope (form.Binary operator) json two three = two operator
made scope form.Choice json two three = three

abbrev mutual
  -- The expression in JSON, of any size.
  pub term_in : Scope → Data → Read Term
  term_in scope (object inside) = if is_some (get (codes "prop") (object inside)) then property_in scope (object inside) else only_member scope inside
  term_in scope _ = Err BadValue

  -- An expression with one member, whose key is its form.
  pub only_member : Scope → Members → Read Term
  only_member scope (member key json no_members) =
      option_map_or (λ form. made scope form json (λ operator. binary_in scope operator json) (choice_in scope json)) (form_named key) (Err BadValue)
  only_member scope _ = Err BadValue

  -- Two operands.
  pub binary_in : Scope → Operator → Data → Read Term
  binary_in scope operator (array (item a (item b no_items))) = term_in scope a >>= λ x. term_in scope b >>= λ y. Ok (binary operator x y)
  binary_in scope operator _ = Err BadValue

  -- Three operands. The first one is a test.
  pub choice_in : Scope → Data → Read Term
  choice_in scope (array (item test (item a (item b no_items)))) =
      term_in scope test >>= λ t. term_in scope a >>= λ x. term_in scope b >>= λ y. Ok (choice t x y)
  choice_in scope _ = Err BadValue

-- Whether an expression keeps to the limits.
abbrev pub is_within_limits : Term → Bool
is_within_limits term = nat_le (nodes term) NODES && has_short_texts term

abbrev pub within_limits : Term → Read Term
within_limits term = if is_within_limits term then Ok term else Err Limit

-- The expression of a binding.
abbrev pub binding_term_of : Data → Read Term
binding_term_of json = term_in Binding json >>= within_limits

-- The next state of a functor with this many parameters.
abbrev pub next_term_of : ℕ → Data → Read Term
next_term_of params json = term_in (Next params) json >>= within_limits
