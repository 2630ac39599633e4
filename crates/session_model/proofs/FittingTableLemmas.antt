-- What the classes and the functors of a server have.
use Rattle.std.proofs.Common.{◌≡◌, ◌<◌, ◌≤◌, ℕ, zero, suc, Bool, true, false, List, [], ◌∷◌, ◌++◌, Option, Some, None, IfSome, IsTrue, codes, get_or, is_some}
use Rattle.std.proofs.Common.{length, nat_le, nat_lt, slice_get, refl, sym, ap, subst, ◌∙◌, arith}
use Rattle.std.specs.List.{All}
use Rattle.std.specs.Option.{ForSome}
use Rattle.std.proofs.lemmas.Bool.{and_parts}
use Rattle.std.proofs.lemmas.Bool.Decides.{nat_tests}
use Rattle.std.proofs.lemmas.List.Elements.{All-append, All-nil, All-weaker}
use Rattle.std.proofs.lemmas.Option.{slice_get-get_or, slice_get_past, slice_get_within}
use Rattle.session_model.proofs.Common.{acts_of, counts, with_state, Class, Method, methods, properties, Functor, AreSettings, Settings}
use Rattle.term_core.specs.declared.limits.TheConstants.{ACTIONS}
use Rattle.term_core.specs.Act.{are_limited, are_named}
use Rattle.term_evaluation.proofs.ForCallers.{state_limits, state_named}
use Rattle.class_table.specs.declared.class.Property.{Property}
use Rattle.class_table.specs.Declaring.{q_object, signal_of}
use Rattle.class_table.specs.Lookup.{inherited}
use Rattle.class_table.specs.Sound.{IsClassAt, IsMethod, IsTable, is_told}
use Rattle.class_table.proofs.ForCallers.{of_class-none, told_behind}
use Rattle.stored_slots.specs.Functors.{IsFunctor}
use Rattle.session_model.proofs.FilterLemmas.{of_slice}

-- the first of a list stays the first
first_kept : {X : Type 0} (xs ys : List X) (x : X) → slice_get xs 0 ≡ Some x → slice_get (xs ++ ys) 0 ≡ Some x
first_kept [] ys x is = absurd (cc)
first_kept (first ∷ xs) ys x is = is

-- the signal that every class has
abbrev pub destroyed : Method
destroyed = signal_of (record { name = codes "destroyed"; kinds = [] })

module _ (classes : List Class) (table : IsTable classes) where
  -- what holds of a class where it holds of its superclass holds of each
  module _ (P : ℕ → Type 0) (none : (index : ℕ) → length classes ≤ index → P index)
      (step : (index : ℕ) (class : Class) → slice_get classes index ≡ Some class → IsClassAt classes index class → ForSome class.superclass P → P index) where
    below : (fuel index : ℕ) → index < fuel → P index
    below zero index less = absurd (omega (arith, less))
    below (suc fuel) index less = by (slice_get classes index) refl (λ base within. below fuel base within)
      where
        by : (found : Option Class) → slice_get classes index ≡ found → ((base : ℕ) → base < fuel → P base) → P index
        by None is before = none index (past (nat_lt index (length classes)) refl is)
          where
            past : (within : Bool) → nat_lt index (length classes) ≡ within → slice_get classes index ≡ None → length classes ≤ index
            past true e is = absurd (let within : index < length classes = grind (arith, nat_tests, e) in
                let no : Some (get_or classes index q_object) ≡ None = sym (slice_get-get_or classes index q_object within) ∙ is in cc)
            past false e is = grind (arith, nat_tests, e)
        by (Some class) is before =
            let has = table.each index class is in
            step index class is has (λ base so. before base (let earlier : base < index = has.base_is_earlier base so in omega (arith, less, earlier)))

    each_class : (index : ℕ) → P index
    each_class index = below (suc index) index (omega arith)

  each_inherited : {X : Type 0} (Q : X → Type 0) (of : ℕ → List X) (base : Option ℕ) → ForSome base (λ base. All Q (of base)) → All Q (inherited of base)
  each_inherited Q of None all = All-nil Q
  each_inherited Q of (Some base) all = all base refl

  each_method : (index : ℕ) → All IsMethod (methods classes index)
  each_method = each_class (λ index. All IsMethod (methods classes index))
      (λ index past. subst (All IsMethod) (sym (of_class-none (λ at class. class.methods) classes index past)) (All-nil IsMethod))
      (λ index class is has base. subst (All IsMethod) (sym has.its_methods)
      (All-append IsMethod (inherited (methods classes) class.superclass) class.methods
      (each_inherited IsMethod (methods classes) class.superclass base) has.each_method))

  abbrev Tells : ℕ → Property → Type 0
  Tells index property = IsTrue (is_told (methods classes index) property)

  pub each_property : (index : ℕ) → All (Tells index) (properties classes index)
  each_property = each_class (λ index. All (Tells index) (properties classes index))
      (λ index past. subst (All (Tells index)) (sym (of_class-none (λ at class. class.properties) classes index past)) (All-nil (Tells index)))
      (λ index class is has base.
      let all = inherited (methods classes) class.superclass ++ class.methods in
      subst (λ methods. All (λ property. IsTrue (is_told methods property)) (properties classes index)) (sym has.its_methods)
      (subst (All (λ property. IsTrue (is_told all property))) (sym has.its_properties)
      (All-append (λ property. IsTrue (is_told all property)) (inherited (properties classes) class.superclass) class.properties
      (handed class.superclass class.methods base) has.each_property)))
    where
      handed : (base : Option ℕ) (own : List Method) → ForSome base (λ base. All (Tells base) (properties classes base))
          → All (λ property. IsTrue (is_told (inherited (methods classes) base ++ own) property)) (inherited (properties classes) base)
      handed None own all = All-nil (λ property. IsTrue (is_told ([] ++ own) property))
      handed (Some base) own all = All-weaker (Tells base) (λ property. IsTrue (is_told (methods classes base ++ own) property))
          (told_behind (methods classes base) own) (properties classes base) (all base refl)

module _ (settings : Settings) (are : AreSettings settings) where
  abbrev classes : List Class
  classes = settings.classes

  -- `destroyed()` is the first method of each class
  pub first_method : (index : ℕ) → is_some (slice_get classes index) ≡ true → slice_get (methods classes index) 0 ≡ Some destroyed
  first_method = each_class classes are.table (λ index. is_some (slice_get classes index) ≡ true → slice_get (methods classes index) 0 ≡ Some destroyed)
      (λ index past there. absurd (let none : slice_get classes index ≡ None = slice_get_past classes index past in
      let no : false ≡ true = ap is_some (sym none) ∙ there in cc))
      (λ index class is has base there. ap (λ methods. slice_get methods 0) has.its_methods ∙ by index class is class.superclass refl has base)
    where
      by : (index : ℕ) (class : Class) → slice_get classes index ≡ Some class → (superclass : Option ℕ) → class.superclass ≡ superclass
          → IsClassAt classes index class
          → ForSome class.superclass (λ base. is_some (slice_get classes base) ≡ true → slice_get (methods classes base) 0 ≡ Some destroyed)
          → slice_get (inherited (methods classes) superclass ++ class.methods) 0 ≡ Some destroyed
      by index class is (Some base) so has handed =
          let earlier : base < index = has.base_is_earlier base so in
          let within = slice_get_within classes index class is in
          let there : slice_get classes base ≡ Some (get_or classes base class) = slice_get-get_or classes base class (omega (arith, earlier, within)) in
          first_kept (methods classes base) class.methods destroyed (handed base so (ap is_some there))
      by zero class is None so has handed =
          let same : q_object ≡ class = (let both : Some q_object ≡ Some class = sym are.table.first ∙ is in cc) in
          subst (λ (class : Class). slice_get class.methods 0 ≡ Some destroyed) same refl
      by (suc index) class is None so has handed = absurd (no_base (slice_get classes (suc index)) is (are.table.below index))
        where
          no_base : (found : Option Class) → found ≡ Some class → IfSome found (λ class. IsTrue (is_some class.superclass)) → ⊥
          no_base None e some = absurd (cc)
          no_base (Some other) e some =
              let same : other ≡ class = cc in
              let no : false ≡ true = sym (ap is_some so) ∙ subst (λ (class : Class). is_some class.superclass ≡ true) same some in absurd (cc)

  -- the body of each slot, and of each functor with a state put in, keeps to the limits
  pub method_limited : (index number : ℕ) (method : Method) → slice_get (methods classes index) number ≡ Some method
      → are_limited (acts_of method.body.actions) ≡ true
  method_limited index number method is = (and_parts _ _
      (of_slice IsMethod (methods classes index) number method is (each_method classes are.table index)).body.limited).1

  pub functor_limited : (number state : ℕ) (functor : Functor) → slice_get settings.functors number ≡ Some functor
      → are_limited (acts_of (with_state state functor.body).actions) ≡ true
  functor_limited number state functor is =
      let limited = (of_slice IsFunctor settings.functors number functor is are.functors).body.keeps.limited in
      (and_parts (nat_le (counts (acts_of (with_state state functor.body).actions)) ACTIONS) _ (state_limits functor.body state limited)).1

  -- and sets only what has a name
  pub method_named : (index number : ℕ) (method : Method) → slice_get (methods classes index) number ≡ Some method
      → are_named (acts_of method.body.actions) ≡ true
  method_named index number method is = (of_slice IsMethod (methods classes index) number method is (each_method classes are.table index)).body.named

  pub functor_named : (number state : ℕ) (functor : Functor) → slice_get settings.functors number ≡ Some functor
      → are_named (acts_of (with_state state functor.body).actions) ≡ true
  functor_named number state functor is = state_named functor.body state
      ∙ (of_slice IsFunctor settings.functors number functor is are.functors).body.keeps.named
