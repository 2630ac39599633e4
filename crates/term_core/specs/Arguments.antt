-- The arguments that expressions and actions take.
use Rattle.std.specs.Prelude.{◌<◌, ℕ}
use Rattle.std.specs.List.{All}
use Rattle.term_core.specs.declared.action.SingleAction.{SingleAction}
use Rattle.term_core.specs.declared.action.SingleAction.TheVariants as e
use Rattle.term_core.specs.Act.{Act, Acts, single_action, when, nothing, more}
use Rattle.term_core.specs.Term.{Term, const, arg, state, prop, binary, choice}

-- Every argument in an expression is one of the first `count`.
abbrev pub TakesAtMost : ℕ → Term → Type 0
TakesAtMost n (const value) = Unit {0}
TakesAtMost n (arg place) = place < n
TakesAtMost n state = Unit {0}
TakesAtMost n (prop target name) = Unit {0}
TakesAtMost n (binary operator a b) = TakesAtMost n a × TakesAtMost n b
TakesAtMost n (choice test a b) = TakesAtMost n test × (TakesAtMost n a × TakesAtMost n b)

-- Every argument in an action is one of the first `count`.
abbrev pub EffectTakesAtMost : ℕ → SingleAction → Type 0
EffectTakesAtMost n (e.Set of property value) = TakesAtMost n value
EffectTakesAtMost n (e.Emit of signal sent) = All (TakesAtMost n) sent
EffectTakesAtMost n other = Unit {0}

abbrev mutual
  pub ActTakesAtMost : ℕ → Act → Type 0
  ActTakesAtMost n (single_action plain) = EffectTakesAtMost n plain
  ActTakesAtMost n (when test held failed) = TakesAtMost n test × (ActsTakeAtMost n held × ActsTakeAtMost n failed)

  pub ActsTakeAtMost : ℕ → Acts → Type 0
  ActsTakeAtMost n nothing = Unit {0}
  ActsTakeAtMost n (more action rest) = ActTakesAtMost n action × ActsTakeAtMost n rest
