-- Actions, and their number.
use Rattle.std.specs.Prelude.{ℕ, ◌+◌, ◌&&◌, Bool, true, List, [], ◌∷◌}
use Rattle.std.specs.List.{list_all}
use Rattle.plain_types.specs.Names.{is_name}
use Rattle.term_core.specs.Term.{Term}
use Rattle.term_core.specs.Forms.{is_within_limits}
use Rattle.term_core.specs.declared.action.SingleAction.{SingleAction}
use Rattle.term_core.specs.declared.action.SingleAction.TheVariants as e

mutual
  pub data Act : Type 0 where
    single_action : SingleAction → Act
    when : Term → Acts → Acts → Act

  pub data Acts : Type 0 where
    nothing : Acts
    more : Act → Acts → Acts

abbrev pub acts_of : List Act → Acts
acts_of [] = nothing
acts_of (action ∷ rest) = more action (acts_of rest)

-- The number of actions, those in branches included.
abbrev mutual
  pub count : Act → ℕ
  count (single_action e) = 1
  count (when test a b) = counts a + counts b + 1

  pub counts : Acts → ℕ
  counts nothing = 0
  counts (more action rest) = count action + counts rest

-- Whether the expressions of a single action keep to their limits.
abbrev pub is_effect_limited : SingleAction → Bool
is_effect_limited (e.Set of property value) = is_within_limits value
is_effect_limited (e.Emit of signal args) = list_all is_within_limits args
is_effect_limited _ = true

-- Whether all expressions keep to their limits.
abbrev mutual
  pub is_limited : Act → Bool
  is_limited (single_action e) = is_effect_limited e
  is_limited (when test a b) = is_within_limits test && (are_limited a && are_limited b)

  pub are_limited : Acts → Bool
  are_limited nothing = true
  are_limited (more action rest) = is_limited action && are_limited rest

-- Whether the property that a single action sets has a valid name.
abbrev pub is_effect_named : SingleAction → Bool
is_effect_named (e.Set of property value) = is_name property
is_effect_named _ = true

-- Whether all properties that are set have valid names.
abbrev mutual
  pub is_named : Act → Bool
  is_named (single_action e) = is_effect_named e
  is_named (when test a b) = are_named a && are_named b

  pub are_named : Acts → Bool
  are_named nothing = true
  are_named (more action rest) = is_named action && are_named rest
