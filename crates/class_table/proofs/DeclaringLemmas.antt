-- What is declared is what was written.
use Rattle.std.proofs.Common.{◌≡◌, ◌∙◌, ℕ, ◌+◌, ◌<◌, ◌≤◌, Bool, true, false, ◌&&◌, List, [], ◌∷◌, ◌++◌, Option, Some, None, Result, Ok, Err, length, map}
use Rattle.std.proofs.Common.{position, slice_get, nat_le, is_none, IsTrue, refl, sym, ap, subst, arith, length-append}
use Rattle.std.specs.Prelude.{IfOk}
use Rattle.std.specs.Result.{IsErrAnd}
use Rattle.std.specs.List.{All}
use Rattle.std.specs.Option.{ok_or, option_map, option_map_or}
use Rattle.std.proofs.lemmas.List.{length-map, map-append}
use Rattle.std.proofs.lemmas.List.Elements.{All-nil, All-cons}
use Rattle.std.proofs.lemmas.Bool.{and_from, and_parts, leb-true}
use Rattle.std.proofs.lemmas.Option.{slice_get-map}
use Rattle.plain_types.specs.declared.code.Code.{Code}
use Rattle.signature_core.specs.declared.kind.Kind.{Kind}
use Rattle.signature_core.specs.declared.signature.Signature.{Signature}
use Rattle.signature_core.specs.Reading.{signature_of}
use Rattle.term_core.specs.Bodies.{body_of}
use Rattle.term_core.specs.declared.body.Body.{Body}
use Rattle.term_core.proofs.ForCallers.{IsReadFor, body_read}
use Rattle.serde_json.specs.Data.{Data}
use Rattle.class_table.specs.declared.class.TheConstants.{METHODS, PROPERTIES}
use Rattle.class_table.specs.declared.class.Class.{Class}
use Rattle.class_table.specs.declared.class.Method.{Method}
use Rattle.class_table.specs.declared.class.Property.{Property}
use Rattle.class_table.specs.declared.fault.ClassFaultKind.{ClassFaultKind}
use Rattle.class_table.specs.declared.fault.ClassFaultKind.TheVariants.{BadNotify, DeclaredTwice, Limit}
use Rattle.class_table.specs.declared.fault.Stop.{Stop}
use Rattle.class_table.specs.declared.fault.Stop.TheVariants as stop
use Rattle.class_table.specs.Declaring.{SignedMethod, body_in, class_below, class_with, extending, is_declared_once}
use Rattle.class_table.specs.Declaring.{may_stand, method_of, new_names, new_signatures, notify_of, number_of, property_of, signal_named, signal_of, signed_of}
use Rattle.class_table.specs.Declaring.{is_signal_at, is_within_limits, slot_of, tells}
use Rattle.class_table.specs.Faults.{Gives}
use Rattle.class_table.specs.Lookup.{is_same, methods, names, index_of, properties, signatures}
use Rattle.class_table.specs.Sound.{IsMethod, is_told, is_told_by, FitsBehind}
use Rattle.class_table.specs.Steps.{Read, ◌>>=◌, each, provided}
use Rattle.class_table.specs.Written.{WrittenClass, WrittenProperty}
use Rattle.class_table.proofs.ListLemmas.{position-map, position_passes}
use Rattle.class_table.proofs.OnceLemmas.{Decides-is_same}

-- what a reading that succeeds tells of its steps

bind_ok : {A B : Type 0} (r : Read A) (f : A → Read B) (y : B) → (r >>= f) ≡ Ok y → (x : A) × (r ≡ Ok x) × (f x ≡ Ok y)
bind_ok (Ok x) f y e = (x, refl, e)
bind_ok (Err k) f y e = absurd (cc)

provided_ok : {A : Type 0} (b : Bool) (k : ClassFaultKind) (next : Read A) (y : A) → provided b k next ≡ Ok y → (b ≡ true) × (next ≡ Ok y)
provided_ok true k next y e = (refl, e)
provided_ok false k next y e = absurd (cc)

some_ok : {A : Type 0} (o : Option A) (k : ClassFaultKind) (x : A) → ok_or o k ≡ Ok x → o ≡ Some x
some_ok (Some a) k x e = cc
some_ok None k x e = absurd (cc)

-- what each element keeps, all of them keep
module _ {A B C : Type 0} (f : A → Read B) (of_a : A → C) (of_b : B → C) (keeps : (x : A) (y : B) → f x ≡ Ok y → of_b y ≡ of_a x) where
  each-keeps : (xs : List A) (ys : List B) → each f xs ≡ Ok ys → map of_b ys ≡ map of_a xs
  each-keeps [] [] e = refl
  each-keeps [] (y ∷ ys) e = absurd (cc)
  each-keeps (x ∷ xs) ys e =
      let one = bind_ok (f x) _ ys e in
      let rest = bind_ok (each f xs) _ ys one.2 in
      let is : ys ≡ one.0 ∷ rest.0 = cc rest.2 in
      rw is (λ i. keeps x one.0 one.1 i ∷ each-keeps xs rest.0 rest.1 i)

-- what holds of each element that is read holds of all
module _ {A B : Type 0} (f : A → Read B) (P : B → Type 0) (holds : (x : A) (y : B) → f x ≡ Ok y → P y) where
  each-all : (xs : List A) (ys : List B) → each f xs ≡ Ok ys → All P ys
  each-all [] [] e = All-nil P
  each-all [] (y ∷ ys) e = absurd (cc)
  each-all (x ∷ xs) ys e =
      let one = bind_ok (f x) _ ys e in
      let rest = bind_ok (each f xs) _ ys one.2 in
      let is : one.0 ∷ rest.0 ≡ ys = cc rest.2 in
      subst (All P) is (All-cons P one.0 rest.0 (holds x one.0 one.1) (each-all xs rest.0 rest.1))

-- a method is a signal where no body was written, and else a slot whose body was read for its parameters
method_cases : (P : Method → Type 0) (new : SignedMethod) → (is_none new.body ≡ true → P (signal_of new.signature))
    → ((body : Body) → is_none new.body ≡ false → IsReadFor (length new.signature.kinds) body → P (slot_of new.signature body))
    → (method : Method) → method_of new ≡ Ok method → P method
method_cases P new signal slot method e = by new.body refl e
  where
    n : ℕ
    n = length new.signature.kinds

    read : (r : Result Body Code) (body : Body) → body_in r ≡ Ok body → IfOk r (IsReadFor n) → IsReadFor n body
    read (Ok found) body h sound = let same : found ≡ body = cc in subst (IsReadFor n) same sound
    read (Err fault) body h sound = absurd (cc)

    by : (o : Option Data) → new.body ≡ o
        → option_map_or (λ json. body_in (body_of n json) >>= λ body. Ok (slot_of new.signature body)) o (Ok (signal_of new.signature)) ≡ Ok method → P method
    by None is h = let same : signal_of new.signature ≡ method = cc in subst P same (signal (ap is_none is))
    by (Some json) is h =
        let body = bind_ok (body_in (body_of n json)) _ method h in
        let same : slot_of new.signature body.0 ≡ method = cc body.2 in
        subst P same (slot body.0 (ap is_none is) (read (body_of n json) body.0 body.1 (body_read n json)))

method_keeps : (new : SignedMethod) (method : Method) → method_of new ≡ Ok method → method.signature ≡ new.signature
method_keeps new = method_cases (λ method. method.signature ≡ new.signature) new (λ none. refl) (λ body some read. refl)

signal_keeps : (new : SignedMethod) (method : Method) → method_of new ≡ Ok method → method.is_signal ≡ is_none new.body
signal_keeps new = method_cases (λ method. method.is_signal ≡ is_none new.body) new (λ none. sym none) (λ body some read. sym some)

method_sound : (new : SignedMethod) (method : Method) → method_of new ≡ Ok method → IsMethod method
method_sound new = method_cases IsMethod new
    (λ none. record { text = refl; params = refl; body = record { limited = refl; arguments = tt; named = refl } })
    (λ body some read. record { text = refl; params = read.0; body = read.1 })

-- the property that was written, with the number of its signal
abbrev made : WrittenProperty → Option ℕ → Property
made written notify = record { name = written.name; kind = written.kind; notify = notify; bindable = written.bindable }

property_keeps : (base : List Method) (new : List SignedMethod) (written : WrittenProperty) (property : Property) → property_of base new written ≡ Ok property
    → property.name ≡ written.name
property_keeps base new written property e =
    let notify = bind_ok (notify_of base new written) _ property e in
    let is : made written notify.0 ≡ property = cc notify.2 in
    ap (λ (p : Property). p.name) (sym is)

module _ (base : List Method) (new : List SignedMethod) (own : List Method) (same : signatures own ≡ new_signatures new)
    (signals : map (λ method. method.is_signal) own ≡ map (λ method. is_none method.body) new) where
  -- the signal that was found tells
  told : (kind : Kind) (wanted : Signature) (number : ℕ) → number_of base new wanted ≡ Some number
      → (is_signal_at base new number && tells kind wanted.kinds) ≡ true → IsTrue (is_told_by (base ++ own) kind number)
  told kind wanted number at is = by (slice_get all number) (position_passes (λ m. is_same m.signature wanted) all number found)
      (ap (λ o. option_map_or (λ signal. signal) o false) (sym (slice_get-map (λ m. m.is_signal) all number)) ∙ marked)
    where
      all : List Method
      all = base ++ own

      parts : IsTrue (is_signal_at base new number) × IsTrue (tells kind wanted.kinds)
      parts = and_parts (is_signal_at base new number) (tells kind wanted.kinds) is

      found : position (λ m. is_same m.signature wanted) all ≡ Some number
      found = sym (position-map (λ there. is_same there wanted) (λ m. m.signature) all)
          ∙ ap (position (λ there. is_same there wanted)) (map-append (λ m. m.signature) base own ∙ ap (λ l. signatures base ++ l) same) ∙ at

      marked : option_map_or (λ signal. signal) (slice_get (map (λ m. m.is_signal) all) number) false ≡ true
      marked = ap (λ l. option_map_or (λ signal. signal) (slice_get l number) false)
          (map-append (λ m. m.is_signal) base own ∙ ap (λ l. map (λ m. m.is_signal) base ++ l) signals) ∙ parts.0

      by : (o : Option Method) → option_map_or (λ m. is_same m.signature wanted) o false ≡ true
          → option_map_or (λ signal. signal) (option_map (λ m. m.is_signal) o) false ≡ true
          → option_map_or (λ m. m.is_signal && tells kind m.signature.kinds) o false ≡ true
      by None passes signal = absurd (cc)
      by (Some method) passes signal =
          let is_wanted : method.signature ≡ wanted = (Decides-is_same method.signature wanted).0 passes in
          and_from method.is_signal _ signal (ap (λ (s : Signature). tells kind s.kinds) is_wanted ∙ parts.1)

  named : (kind : Kind) (text : List ℕ) (number : ℕ) → signal_named base new kind text ≡ Ok number → IsTrue (is_told_by (base ++ own) kind number)
  unfolding signal_named
  named kind text number e =
      let wanted = bind_ok (ok_or (signature_of text) BadNotify) _ number e in
      let at = bind_ok (ok_or (number_of base new wanted.0) BadNotify) _ number wanted.2 in
      let tells_it = provided_ok _ BadNotify _ number at.2 in
      let this : at.0 ≡ number = cc tells_it.1 in
      let P : ℕ → Type 0 = λ k. IsTrue (is_told_by (base ++ own) kind k) in
      subst P this (told kind wanted.0 at.0 (some_ok (number_of base new wanted.0) BadNotify at.0 at.1) tells_it.0)

  property_told : (written : WrittenProperty) (property : Property) → property_of base new written ≡ Ok property → IsTrue (is_told (base ++ own) property)
  property_told written property e =
      let notify = bind_ok (notify_of base new written) _ property e in
      let is : made written notify.0 ≡ property = cc notify.2 in
      let P : Property → Type 0 = λ p. IsTrue (is_told (base ++ own) p) in
      subst P is (by written.notify notify.0 notify.1)
    where
      Q : Option ℕ → Type 0
      Q notify = IsTrue (option_map_or (is_told_by (base ++ own) written.kind) notify true)

      by : (o : Option (List ℕ)) (notify : Option ℕ)
          → option_map_or (λ text. signal_named base new written.kind text >>= λ number. Ok (Some number)) o (Ok None) ≡ Ok notify → Q notify
      by None notify h =
          let is : ◌≡◌ {A = Option ℕ} None notify = cc in
          subst Q is refl
      by (Some text) notify h =
          let number = bind_ok (signal_named base new written.kind text) _ notify h in
          let is : Some number.0 ≡ notify = cc number.2 in
          subst Q is (named written.kind text number.0 number.1)

-- a class that was checked may stand behind the others
fits_behind : (classes : List Class) (base : ℕ) (name : List ℕ) (new : List SignedMethod) (written : List WrittenProperty)
    (own_methods : List Method) (own_properties : List Property)
    → base < length classes
    → index_of name classes ≡ None
    → is_declared_once (methods classes base) new (properties classes base) written ≡ true
    → length (methods classes base) + length new ≤ METHODS
    → length (properties classes base) + length written ≤ PROPERTIES
    → each method_of new ≡ Ok own_methods
    → each (property_of (methods classes base) new) written ≡ Ok own_properties
    → FitsBehind classes (extending classes base name own_methods own_properties)
unfolding is_declared_once
fits_behind classes base name new written own_methods own_properties there free once few_m few_p ms ps =
    let same_m : signatures own_methods ≡ new_signatures new = each-keeps method_of (λ n. n.signature) (λ m. m.signature) method_keeps new own_methods ms in
    let same_p : names own_properties ≡ new_names written = each-keeps (property_of (methods classes base) new) (λ w. w.name) (λ p. p.name)
    (property_keeps (methods classes base) new) written own_properties ps in
    let same_s = each-keeps method_of (λ n. is_none n.body) (λ m. m.is_signal) signal_keeps new own_methods ms in
    let len_m : length own_methods ≡ length new = sym (length-map own_methods (λ m. m.signature)) ∙ (ap length same_m ∙ length-map new (λ n. n.signature)) in
    let len_p : length own_properties ≡ length written = sym (length-map own_properties (λ p. p.name))
    ∙ (ap length same_p ∙ length-map written (λ w. w.name)) in
    let two = and_parts _ _ once in
    record {
      is_new = free;
      below = refl;
      base_is_there = λ b e. (let is : base ≡ b = cc in let P : ℕ → Type 0 = λ n. n < length classes in subst P is there);
      method_offset = refl;
      property_offset = refl;
      few_methods = omega (arith, length-append (methods classes base) own_methods);
      few_properties = omega (arith, length-append (properties classes base) own_properties);
      methods_once = rw (map-append (λ m. m.signature) (methods classes base) own_methods, same_m) two.0;
      properties_once = rw (map-append (λ p. p.name) (properties classes base) own_properties, same_p) two.1;
      each_method = each-all method_of IsMethod method_sound new own_methods ms;
      each_property = each-all (property_of (methods classes base) new) (λ property. IsTrue (is_told (methods classes base ++ own_methods) property))
          (property_told (methods classes base) new own_methods same_m same_s) written own_properties ps;
    }

-- a class that is declared below a superclass may stand behind the others
module _ (classes : List Class) (base : ℕ) (written : WrittenClass) (there : base < length classes) (free : index_of written.name classes ≡ None) where
  fits_with : (new : List SignedMethod) (class : Class) → is_declared_once (methods classes base) new (properties classes base) written.properties ≡ true
      → is_within_limits (methods classes base) new (properties classes base) written.properties ≡ true → class_with classes base written new ≡ Ok class
      → FitsBehind classes class
  fits_with new class once within e =
      let few = and_parts (nat_le (length (methods classes base) + length new) METHODS) _ within in
      let ps = bind_ok (each (property_of (methods classes base) new) written.properties) _ class e in
      let ms = bind_ok (each method_of new) _ class ps.2 in
      let is : extending classes base written.name ms.0 ps.0 ≡ class = cc ms.2 in
      subst (FitsBehind classes) is (fits_behind classes base written.name new written.properties ms.0 ps.0 there free once
      (leb-true _ _ few.0) (leb-true _ _ few.1) ms.1 ps.1)

  fits_below : (class : Class) → class_below classes base written ≡ Ok class → FitsBehind classes class
  unfolding class_below
  fits_below class e =
      let new = bind_ok (each signed_of written.methods) _ class e in
      let once = provided_ok _ DeclaredTwice _ class new.2 in
      let within = provided_ok _ Limit _ class once.1 in
      fits_with new.0 class once.0 within.0 within.1

  pub fits_where_given : (result : Result Class Stop) → Gives (λ class. class) result (class_below classes base written)
      → IfOk result (λ class. FitsBehind classes class)
  fits_where_given (Ok class) e = fits_below class e
  fits_where_given (Err stop) e = tt

turned_away : {A : Type 0} (a b : Bool) (j k kind : ClassFaultKind) (next : Read A) → provided a j (provided b k (Ok (tt {0}))) ≡ Err kind
    → provided a j (provided b k next) ≡ Err kind
turned_away true true j k kind next e = absurd (cc)
turned_away true false j k kind next e = cc
turned_away false b j k kind next e = cc

-- a call that gives on why what is declared may not stand below the superclass answers as it should
pub refused_below : (classes : List Class) (base : ℕ) (written : WrittenClass) (new : List SignedMethod) (stop : Stop) (result : Result Class Stop)
    → IsErrAnd result (λ given. given ≡ stop) → each signed_of written.methods ≡ Ok new
    → Gives {T = Unit {0}} (λ _. tt) (Err stop) (may_stand (methods classes base) new (properties classes base) written.properties)
    → Gives (λ class. class) result (class_below classes base written)
unfolding class_below
refused_below classes base written new stop (Ok class) given read refused = absurd given
refused_below classes base written new (stop.Fault kind) (Err given) is read refused = rw (is, read) (turned_away _ _ _ _ kind _ refused)
refused_below classes base written new stop.Memory (Err given) is read refused = rw is tt
