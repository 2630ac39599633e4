-- A body with its arguments put in.
use Rattle.std.specs.Prelude.{List, map, slice_get}
use Rattle.std.specs.Option.{option_map_or}
use Rattle.variant_value.specs.declared.value.Value.{Value}
use Rattle.term_core.specs.declared.action.SingleAction.{SingleAction}
use Rattle.term_core.specs.declared.action.SingleAction.TheVariants as e
use Rattle.term_core.specs.declared.body.Body.{Body}
use Rattle.term_core.specs.Act.{Act, Acts, single_action, when, nothing, more}
use Rattle.term_core.specs.Term.{Term, const, arg, state, prop, binary, choice}

-- An action that does one thing, with each of its expressions changed.
abbrev pub effect_by : (Term → Term) → SingleAction → SingleAction
effect_by change (e.Set of property value) = e.Set of property (change value)
effect_by change (e.Emit of signal sent) = e.Emit of signal (map change sent)
effect_by change other = other

-- Any action with each expression changed: the test of a choice, and those in both branches.
abbrev mutual
  pub act_by : (Term → Term) → Act → Act
  act_by change (single_action plain) = single_action (effect_by change plain)
  act_by change (when test held failed) = when (change test) (acts_by change held) (acts_by change failed)

  pub acts_by : (Term → Term) → Acts → Acts
  acts_by change nothing = nothing
  acts_by change (more action rest) = more (act_by change action) (acts_by change rest)

-- An expression in which the given constants replace the arguments. Other arguments stay.
abbrev pub unfolded_term : List Value → Term → Term
unfolded_term args (const value) = const value
unfolded_term args (arg place) = option_map_or const (slice_get args place) (arg place)
unfolded_term args state = state
unfolded_term args (prop target name) = prop target name
unfolded_term args (binary operator a b) = binary operator (unfolded_term args a) (unfolded_term args b)
unfolded_term args (choice test a b) = choice (unfolded_term args test) (unfolded_term args a) (unfolded_term args b)

-- An action in which the given constants replace the arguments.
abbrev pub unfolded_effect : List Value → SingleAction → SingleAction
unfolded_effect args plain = effect_by (unfolded_term args) plain

abbrev pub unfolded : List Value → Act → Act
unfolded args action = act_by (unfolded_term args) action

abbrev pub unfolded_acts : List Value → Acts → Acts
unfolded_acts args actions = acts_by (unfolded_term args) actions

-- The actions of a body in which the given constants replace the arguments.
abbrev pub unfolded_body : List Value → Body → List Act
unfolded_body args body = map (unfolded args) body.actions
