-- The facts about a functor have at most one proof, so they can be stored with it.
use Rattle.std.proofs.Props.{props}
use Rattle.signature_core.specs.declared.kind.Kind.{Kind}
use Rattle.std.specs.Prelude.{ℕ, List}
use Rattle.std.specs.Coded.{×_prop, Unit-prop}
use Rattle.term_core.specs.declared.action.SingleAction.{SingleAction}
use Rattle.term_core.specs.declared.action.SingleAction.TheVariants as e
use Rattle.term_core.specs.declared.body.Body.{Body}
use Rattle.term_core.specs.Act.{Act, Acts, single_action, when, nothing, more}
use Rattle.term_core.specs.Arguments.{ActTakesAtMost, ActsTakeAtMost, EffectTakesAtMost, TakesAtMost}
use Rattle.term_core.specs.Bodies.{IsNext}
use Rattle.term_core.specs.Term.{Term, const, arg, state, prop, binary, choice}
use Rattle.stored_slots.specs.declared.functor.Functor.{Functor}
use Rattle.stored_slots.specs.Functors.{IsBodyFor, IsFunctor}

TakesAtMost-prop : (n : ℕ) (term : Term) → IsProp (TakesAtMost n term)
TakesAtMost-prop n (const value) = Unit-prop
TakesAtMost-prop n (arg place) = hlevel props
TakesAtMost-prop n state = Unit-prop
TakesAtMost-prop n (prop target name) = Unit-prop
TakesAtMost-prop n (binary operator a b) = ×_prop (TakesAtMost-prop n a) (TakesAtMost-prop n b)
TakesAtMost-prop n (choice test a b) = ×_prop (TakesAtMost-prop n test) (×_prop (TakesAtMost-prop n a) (TakesAtMost-prop n b))

EffectTakesAtMost-prop : (n : ℕ) (effect : SingleAction) → IsProp (EffectTakesAtMost n effect)
EffectTakesAtMost-prop n (e.Set of property value) = TakesAtMost-prop n value
EffectTakesAtMost-prop n (e.Emit of signal sent) = hlevel (props, TakesAtMost-prop)
EffectTakesAtMost-prop n (e.Connect of signal to method mode unique single) = Unit-prop
EffectTakesAtMost-prop n (e.Disconnect of signal to method) = Unit-prop
EffectTakesAtMost-prop n (e.Delete target) = Unit-prop
EffectTakesAtMost-prop n (e.DeleteLater target) = Unit-prop
EffectTakesAtMost-prop n (e.Block of on) = Unit-prop
EffectTakesAtMost-prop n (e.SetParent of parent) = Unit-prop

mutual
  ActTakesAtMost-prop : (n : ℕ) (action : Act) → IsProp (ActTakesAtMost n action)
  ActTakesAtMost-prop n (single_action plain) = EffectTakesAtMost-prop n plain
  ActTakesAtMost-prop n (when test held failed) = ×_prop (TakesAtMost-prop n test) (×_prop (ActsTakeAtMost-prop n held) (ActsTakeAtMost-prop n failed))

  ActsTakeAtMost-prop : (n : ℕ) (actions : Acts) → IsProp (ActsTakeAtMost n actions)
  ActsTakeAtMost-prop n nothing = Unit-prop
  ActsTakeAtMost-prop n (more action rest) = ×_prop (ActTakesAtMost-prop n action) (ActsTakeAtMost-prop n rest)

IsBodyFor-prop : (kinds : List Kind) (body : Body) → IsProp (IsBodyFor kinds body)
IsBodyFor-prop kinds body = hlevel (props, ActsTakeAtMost-prop)

IsNext-prop : (params : ℕ) (next : Term) → IsProp (IsNext params next)
IsNext-prop params next = hlevel (props, TakesAtMost-prop)

pub IsFunctor-prop : (functor : Functor) → IsProp (IsFunctor functor)
IsFunctor-prop functor = hlevel (props, IsBodyFor-prop, IsNext-prop)
