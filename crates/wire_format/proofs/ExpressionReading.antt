-- What is written for the expression of a binding is read as the same expression.
use Rattle.std.proofs.Common.{◌≡◌, ◌∙◌, ◌^◌, ◌-◌, ◌&&◌, ℕ, ℤ, pos, negsuc, Bool, true, false, List, Option, Some, None, Ok, Err, refl, sym, ap, subst}
use Rattle.std.proofs.Common.{codes, arith, if◌then◌else◌}
use Rattle.std.specs.Prelude.{nat_le, nat_lt, bytes_eq, is_some, option_and_then, unsigned_abs}
use Rattle.std.specs.Option.{ok_or, option_map_or, option_or}
use Rattle.std.proofs.lemmas.Bool.{and_parts, ltb-true}
use Rattle.std.proofs.lemmas.Slice.Eq.{bytes_eq-Decides}
use Rattle.serde_json.specs.Data.{Data, null, boolean, number, string, array, object, no_items, item, Members, no_members, member, unsigned}
use Rattle.serde_json.specs.Find.{get, as_integer, of_integer}
use Rattle.serde_json.proofs.OnLiterals.{serde_json_on_literals}
use Rattle.plain_types.specs.Names.{is_name}
use Rattle.plain_types.specs.declared.code.Code.TheVariants.{BadValue, Limit}
use Rattle.variant_value.specs.declared.value.Value.{Value}
use Rattle.variant_value.specs.declared.value.Value.TheVariants as v
use Rattle.variant_value.specs.Values.{inferred_number, is_within, json_of}
use Rattle.term_core.specs.declared.operator.Operator.{Operator}
use Rattle.term_core.specs.declared.operator.Operator.TheVariants.{Sum, Difference, Less, Equal, Concatenated}
use Rattle.term_core.specs.declared.target.Target.{Target}
use Rattle.term_core.specs.declared.target.Target.TheVariants.{Itself, Sender, Child, Object}
use Rattle.term_core.specs.Forms.{argument_in, binary_in, choice_in, form_named, has_state, has_target, is_within_limits, only_member, params, property_in}
use Rattle.term_core.specs.Forms.{made, state_in, subject_in, term_in, within_limits}
use Rattle.term_core.specs.Json.{Read, ◌>>=◌, at_key, child_target, constant_in, name_in, natural_in, numbered_target, provided, target_in}
use Rattle.term_core.specs.Json.{text_in}
use Rattle.term_core.specs.Term.{Term, const, arg, state, prop, binary, choice}
use Rattle.wire_format.specs.Rereading.{AreReadAgain}
use Rattle.wire_format.specs.Terms.{json_of_term}

-- what is read in two steps
then_ok : {A B : Type 0} (r : Read A) (f : A → Read B) (y : B) → (r >>= f) ≡ Ok y → (x : A) × (r ≡ Ok x) × (f x ≡ Ok y)
then_ok (Ok x) f y e = (x, refl, e)
then_ok (Err code) f y e = absurd (cc)

provided_ok : {A : Type 0} (b : Bool) (x y : A) → provided b x ≡ Ok y → (b ≡ true) × (x ≡ y)
provided_ok true x y e = (refl, cc)
provided_ok false x y e = absurd (cc)

-- a target of which a binding may read a property
abbrev IsTarget : Target → Type 0
IsTarget Itself = Unit {0}
IsTarget Sender = ⊥
IsTarget (Child name) = ⊥
IsTarget (Object n) = (nat_le 1 n && nat_lt n (2 ^ 32)) ≡ true

-- an expression that a binding may have
abbrev IsBinding : Term → Type 0
IsBinding (const value) = constant_in (json_of value) ≡ Ok value
IsBinding (arg place) = ⊥
IsBinding state = ⊥
IsBinding (prop target name) = (is_name name ≡ true) × IsTarget target
IsBinding (binary operator a b) = IsBinding a × IsBinding b
IsBinding (choice test a b) = IsBinding test × IsBinding a × IsBinding b

-- constants

not_negative : (z : ℤ) → is_within (pos 0) (pos (2 ^ 64 - 1)) z ≡ true → unsigned (unsigned_abs z) ≡ of_integer z
not_negative (pos n) h = refl
not_negative (negsuc n) h = absurd (cc)

whole_of : (z : ℤ) → as_integer (of_integer z) ≡ Some z
whole_of (pos n) = refl
whole_of (negsuc n) = refl

first_kind : (z : ℤ) (value : Value) (int longlong ulonglong : Bool) → (ulonglong ≡ true → unsigned (unsigned_abs z) ≡ of_integer z)
    → option_or (if int then Some (v.Int z) else None) (option_or (if longlong then Some (v.Longlong z) else None)
    (if ulonglong then Some (v.Ulonglong (unsigned_abs z)) else None)) ≡ Some value
    → json_of value ≡ number (of_integer z)
first_kind z value true longlong ulonglong positive e = let same : value ≡ v.Int z = cc in ap json_of same
first_kind z value false true ulonglong positive e = let same : value ≡ v.Longlong z = cc in ap json_of same
first_kind z value false false true positive e = let same : value ≡ v.Ulonglong (unsigned_abs z) = cc in ap json_of same ∙ ap number (positive refl)
first_kind z value false false false positive e = absurd (cc)

json_of_whole : (z : ℤ) (value : Value) → inferred_number z ≡ Some value → json_of value ≡ number (of_integer z)
json_of_whole z value e = first_kind z value _ _ _ (not_negative z) e

found_ok : {A : Type 0} (o : Option A) (x : A) → ok_or o BadValue ≡ Ok x → o ≡ Some x
found_ok None x e = absurd (cc)
found_ok (Some y) x e = cc

number_again : (o : Option ℤ) (value : Value) → ok_or (option_and_then inferred_number o) BadValue ≡ Ok value → constant_in (json_of value) ≡ Ok value
number_again None value e = absurd (cc)
number_again (Some z) value e =
    ap constant_in (json_of_whole z value (found_ok (inferred_number z) value e))
    ∙ (ap (λ o. ok_or (option_and_then inferred_number o) BadValue) (whole_of z) ∙ e)

constant_again : (json : Data) (value : Value) → constant_in json ≡ Ok value → constant_in (json_of value) ≡ Ok value
constant_again null value e = absurd (cc)
constant_again (boolean b) value e = let same : v.Bool b ≡ value = cc in subst (λ value. constant_in (json_of value) ≡ Ok value) same refl
constant_again (number n) value e = number_again (as_integer n) value e
constant_again (string text) value e = let same : v.Text text ≡ value = cc in subst (λ value. constant_in (json_of value) ≡ Ok value) same refl
constant_again (array items) value e = absurd (cc)
constant_again (object inside) value e = absurd (cc)

-- properties

name_read : (json : Data) (name : List ℕ) → name_in json ≡ Ok name → is_name name ≡ true
name_read json name e =
    let read = then_ok (text_in json) (λ text. provided (is_name text) text) name e in
    let kept = provided_ok (is_name read.0) read.0 name read.2 in
    subst (λ text. is_name text ≡ true) kept.1 kept.0

number_read : (k n : ℕ) → numbered_target k ≡ Ok (Object n) → IsTarget (Object n)
number_read k n e =
    let kept = provided_ok (nat_le 1 k && nat_lt k (2 ^ 32)) (Object k) (Object n) e in
    let same : k ≡ n = cc in
    subst (λ n. (nat_le 1 n && nat_lt n (2 ^ 32)) ≡ true) same kept.0

word_read : (self sender : Bool) (n : ℕ) → (if self then Ok Itself else (if sender then Ok Sender else Err BadValue)) ≡ Ok (Object n) → IsTarget (Object n)
word_read true sender n e = absurd (cc)
word_read false true n e = absurd (cc)
word_read false false n e = absurd (cc)

child_read : (json : Data) (n : ℕ) → child_target json ≡ Ok (Object n) → IsTarget (Object n)
child_read json n e =
    let child = then_ok (at_key (codes "child") json) _ (Object n) e in
    let text = then_ok (text_in child.0) _ (Object n) child.2 in
    let kept = provided_ok _ (Child text.0) (Object n) text.2 in
    absurd (cc)

of_read : (json : Data) (n : ℕ) → target_in json ≡ Ok (Object n) → IsTarget (Object n)
of_read null n e = absurd (cc)
of_read (boolean b) n e = absurd (cc)
of_read (number m) n e = let read = then_ok (natural_in (number m)) numbered_target (Object n) e in number_read read.0 n read.2
of_read (string word) n e = word_read (bytes_eq word (codes "self")) (bytes_eq word (codes "sender")) n e
of_read (array items) n e = absurd (cc)
of_read (object inside) n e = child_read (object inside) n e

-- any form

constant_read : (json : Data) (term : Term) → (constant_in json >>= λ value. Ok (const value)) ≡ Ok term → IsBinding term
constant_read json term e =
    let value = then_ok (constant_in json) (λ value. Ok (const value)) term e in
    let same : const value.0 ≡ term = let kept = value.2 in cc in
    subst IsBinding same (constant_again json value.0 value.1)

none_of : (term : Term) → Err BadValue ≡ Ok term → IsBinding term
none_of term e = absurd (cc)

either : {P : Type 0} (b : Bool) → (b ≡ true → P) → (b ≡ false → P) → P
either true holds fails = holds refl
either false holds fails = fails refl

-- no form has any other key
no_form : (key : List ℕ) → bytes_eq key (codes "const") ≡ false → bytes_eq key (codes "arg") ≡ false → bytes_eq key (codes "state") ≡ false
    → bytes_eq key (codes "+") ≡ false → bytes_eq key (codes "-") ≡ false → bytes_eq key (codes "<") ≡ false → bytes_eq key (codes "=") ≡ false
    → bytes_eq key (codes "cat") ≡ false → bytes_eq key (codes "if") ≡ false → form_named key ≡ None
no_form key e1 e2 e3 e4 e5 e6 e7 e8 e9 = rw (e1, e2, e3, e4, e5, e6, e7, e8, e9) refl

two_read : (operator : Operator) (a b : Read Term) (term : Term) → ((x : Term) → a ≡ Ok x → IsBinding x) → ((x : Term) → b ≡ Ok x → IsBinding x)
    → (a >>= λ x. b >>= λ y. Ok (binary operator x y)) ≡ Ok term → IsBinding term
two_read operator (Err code) b term first second e = absurd (cc)
two_read operator (Ok x) (Err code) term first second e = absurd (cc)
two_read operator (Ok x) (Ok y) term first second e =
    let same : binary operator x y ≡ term = cc in subst IsBinding same (first x refl, second y refl)

three_read : (test a b : Read Term) (term : Term) → ((x : Term) → test ≡ Ok x → IsBinding x) → ((x : Term) → a ≡ Ok x → IsBinding x)
    → ((x : Term) → b ≡ Ok x → IsBinding x) → (test >>= λ t. a >>= λ x. b >>= λ y. Ok (choice t x y)) ≡ Ok term → IsBinding term
three_read (Err code) a b term first second third e = absurd (cc)
three_read (Ok t) (Err code) b term first second third e = absurd (cc)
three_read (Ok t) (Ok x) (Err code) term first second third e = absurd (cc)
three_read (Ok t) (Ok x) (Ok y) term first second third e =
    let same : choice t x y ≡ term = cc in subst IsBinding same (first t refl, second x refl, third y refl)

within_again : (x term : Term) → within_limits x ≡ Ok term → x ≡ term
within_again x term e = by (is_within_limits x) e
  where
    by : (b : Bool) → (if b then Ok x else Err Limit) ≡ Ok term → x ≡ term
    by true e = cc
    by false e = absurd (cc)

clash : (b : Bool) → b ≡ true → b ≡ false → ⊥
clash b h g = cc

-- where there are no parameters and no state, and objects are this one and those that have a number
module _ (scope : _) (none : params scope ≡ 0) (stateless : has_state scope ≡ false) (own : has_target scope Itself ≡ true)
    (numbered : (n : ℕ) → has_target scope (Object n) ≡ true) (sender : has_target scope Sender ≡ false)
    (child : (name : List ℕ) → has_target scope (Child name) ≡ false) where
  subject_read : (o : Option Data) (target : Target) → option_map_or target_in o (Ok Itself) ≡ Ok target → has_target scope target ≡ true → IsTarget target
  subject_read o Itself e has = tt
  subject_read o Sender e has = absurd (clash (has_target scope Sender) has sender)
  subject_read o (Child name) e has = absurd (clash (has_target scope (Child name)) has (child name))
  subject_read None (Object n) e has = absurd (cc)
  subject_read (Some json) (Object n) e has = of_read json n e

  property_read : (json : Data) (term : Term) → property_in scope json ≡ Ok term → IsBinding term
  property_read json term e =
      let property = then_ok (at_key (codes "prop") json) _ term e in
      let name = then_ok (name_in property.0) _ term property.2 in
      let target = then_ok (subject_in json) _ term name.2 in
      let kept = provided_ok _ (prop target.0 name.0) term target.2 in
      let has = and_parts (has_target scope target.0) _ kept.0 in
      subst IsBinding kept.1 (name_read property.0 name.0 name.1, subject_read (get (codes "of") json) target.0 target.1 has.0)

  argument_none : (json : Data) (term : Term) → argument_in scope json ≡ Ok term → IsBinding term
  argument_none json term e =
      let place = then_ok (natural_in json) _ term e in
      let kept = provided_ok (nat_lt place.0 (params scope)) (arg place.0) term place.2 in
      absurd (omega (arith, ltb-true _ _ kept.0, none))

  state_none : (json : Data) (term : Term) → state_in scope json ≡ Ok term → IsBinding term
  state_none json term e =
      let kept = provided_ok _ state term e in
      let has = and_parts (has_state scope) _ kept.0 in
      absurd (clash (has_state scope) has.0 stateless)

  form_read : (key : List ℕ) (json : Data) (term : Term) → ((operator : Operator) → binary_in scope operator json ≡ Ok term → IsBinding term)
      → (choice_in scope json ≡ Ok term → IsBinding term) → only_member scope (member key json no_members) ≡ Ok term → IsBinding term
  form_read key json term two three e =
      let here : (word : List ℕ) → bytes_eq key word ≡ true → only_member scope (member word json no_members) ≡ Ok term =
      λ word same. subst (λ key. only_member scope (member key json no_members) ≡ Ok term) ((bytes_eq-Decides key word).0 same) e in
      either (bytes_eq key (codes "const")) (λ same. constant_read json term (here (codes "const") same)) (λ e1.
      either (bytes_eq key (codes "arg")) (λ same. argument_none json term (here (codes "arg") same)) (λ e2.
      either (bytes_eq key (codes "state")) (λ same. state_none json term (here (codes "state") same)) (λ e3.
      either (bytes_eq key (codes "+")) (λ same. two Sum (here (codes "+") same)) (λ e4.
      either (bytes_eq key (codes "-")) (λ same. two Difference (here (codes "-") same)) (λ e5.
      either (bytes_eq key (codes "<")) (λ same. two Less (here (codes "<") same)) (λ e6.
      either (bytes_eq key (codes "=")) (λ same. two Equal (here (codes "=") same)) (λ e7.
      either (bytes_eq key (codes "cat")) (λ same. two Concatenated (here (codes "cat") same)) (λ e8.
      either (bytes_eq key (codes "if")) (λ same. three (here (codes "if") same)) (λ e9.
      none_of term (sym (ap (λ found. option_map_or
      (λ form. made scope form json (λ operator. binary_in scope operator json) (choice_in scope json)) found (Err BadValue))
      (no_form key e1 e2 e3 e4 e5 e6 e7 e8 e9)) ∙ e))))))))))

  either_read : (is_property : Bool) (inside : Members) (term : Term) → (only_member scope inside ≡ Ok term → IsBinding term)
      → (if is_property then property_in scope (object inside) else only_member scope inside) ≡ Ok term → IsBinding term
  either_read true inside term member_read e = property_read (object inside) term e
  either_read false inside term member_read e = member_read e

  mutual
    -- what is read is an expression that a binding may have
    term_read : (json : Data) (term : Term) → term_in scope json ≡ Ok term → IsBinding term
    term_read null term e = absurd (cc)
    term_read (boolean b) term e = absurd (cc)
    term_read (number n) term e = absurd (cc)
    term_read (string text) term e = absurd (cc)
    term_read (array items) term e = absurd (cc)
    term_read (object inside) term e = either_read (is_some (get (codes "prop") (object inside))) inside term (member_read inside term) e

    member_read : (inside : Members) (term : Term) → only_member scope inside ≡ Ok term → IsBinding term
    member_read no_members term e = absurd (cc)
    member_read (member key json no_members) term e = form_read key json term (λ operator. binary_read operator json term) (choice_read json term) e
    member_read (member key json (member other more rest)) term e = absurd (cc)

    binary_read : (operator : Operator) (json : Data) (term : Term) → binary_in scope operator json ≡ Ok term → IsBinding term
    binary_read operator (array (item a (item b no_items))) term e = two_read operator (term_in scope a) (term_in scope b) term (term_read a) (term_read b) e
    binary_read operator (array (item a (item b (item c rest)))) term e = absurd (cc)
    binary_read operator (array (item a no_items)) term e = absurd (cc)
    binary_read operator (array no_items) term e = absurd (cc)
    binary_read operator null term e = absurd (cc)
    binary_read operator (boolean b) term e = absurd (cc)
    binary_read operator (number n) term e = absurd (cc)
    binary_read operator (string text) term e = absurd (cc)
    binary_read operator (object inside) term e = absurd (cc)

    choice_read : (json : Data) (term : Term) → choice_in scope json ≡ Ok term → IsBinding term
    choice_read (array (item test (item a (item b no_items)))) term e =
        three_read (term_in scope test) (term_in scope a) (term_in scope b) term (term_read test) (term_read a) (term_read b) e
    choice_read (array (item test (item a (item b (item c rest))))) term e = absurd (cc)
    choice_read (array (item test (item a no_items))) term e = absurd (cc)
    choice_read (array (item test no_items)) term e = absurd (cc)
    choice_read (array no_items) term e = absurd (cc)
    choice_read null term e = absurd (cc)
    choice_read (boolean b) term e = absurd (cc)
    choice_read (number n) term e = absurd (cc)
    choice_read (string text) term e = absurd (cc)
    choice_read (object inside) term e = absurd (cc)

  -- and what is written for one is read as it

  own_again : (name : List ℕ) → is_name name ≡ true → term_in scope (json_of_term (prop Itself name)) ≡ Ok (prop Itself name)
  unfolding serde_json_on_literals
  own_again name h =
      ap (λ b. provided b name >>= λ name. provided (has_target scope Itself && true) (prop Itself name)) h
      ∙ ap (λ b. provided (b && true) (prop Itself name)) own

  object_again : (n : ℕ) (name : List ℕ) → is_name name ≡ true → (nat_le 1 n && nat_lt n (2 ^ 32)) ≡ true
      → term_in scope (json_of_term (prop (Object n) name)) ≡ Ok (prop (Object n) name)
  unfolding serde_json_on_literals
  object_again n name h g =
      ap (λ b. provided b name >>= λ name. numbered_target n >>= λ target. provided (has_target scope target && true) (prop target name)) h
      ∙ (ap (λ b. provided b (Object n) >>= λ target. provided (has_target scope target && true) (prop target name)) g
      ∙ ap (λ b. provided (b && true) (prop (Object n) name)) (numbered n))

  property_again : (target : Target) (name : List ℕ) → is_name name ≡ true → IsTarget target
      → term_in scope (json_of_term (prop target name)) ≡ Ok (prop target name)
  property_again Itself name h is = own_again name h
  property_again Sender name h is = absurd is
  property_again (Child child) name h is = absurd is
  property_again (Object n) name h is = object_again n name h is

  constant_read_again : (value : Value) → constant_in (json_of value) ≡ Ok value → term_in scope (json_of_term (const value)) ≡ Ok (const value)
  unfolding serde_json_on_literals
  constant_read_again value e = ap (λ r. r >>= λ value. Ok (const value)) e

  two_again : (operator : Operator) (a b : Term) → term_in scope (json_of_term a) ≡ Ok a → term_in scope (json_of_term b) ≡ Ok b
      → term_in scope (json_of_term (binary operator a b)) ≡ Ok (binary operator a b)
  unfolding serde_json_on_literals
  two_again Sum a b e f = rw (e, f) refl
  two_again Difference a b e f = rw (e, f) refl
  two_again Less a b e f = rw (e, f) refl
  two_again Equal a b e f = rw (e, f) refl
  two_again Concatenated a b e f = rw (e, f) refl

  three_again : (test a b : Term) → term_in scope (json_of_term test) ≡ Ok test → term_in scope (json_of_term a) ≡ Ok a
      → term_in scope (json_of_term b) ≡ Ok b
      → term_in scope (json_of_term (choice test a b)) ≡ Ok (choice test a b)
  unfolding serde_json_on_literals
  three_again test a b e f g = rw (e, f, g) refl

  term_again : (term : Term) → IsBinding term → term_in scope (json_of_term term) ≡ Ok term
  term_again (const value) is = constant_read_again value is
  term_again (arg place) is = absurd is
  term_again state is = absurd is
  term_again (prop target name) is = property_again target name is.0 is.1
  term_again (binary operator a b) is = two_again operator a b (term_again a is.0) (term_again b is.1)
  term_again (choice test a b) is = three_again test a b (term_again test is.0) (term_again a is.1) (term_again b is.2)

  all_again : (json : Data) (term : Term) → (term_in scope json >>= within_limits) ≡ Ok term
      → (term_in scope (json_of_term term) >>= within_limits) ≡ Ok term
  all_again json term e =
      let read = then_ok (term_in scope json) within_limits term e in
      let same = within_again read.0 term read.2 in
      ap (λ r. r >>= within_limits) (term_again term (subst IsBinding same (term_read json read.0 read.1)))
      ∙ subst (λ x. within_limits x ≡ Ok term) same read.2

pub expressions_again : AreReadAgain
expressions_again json term e = all_again _ refl refl refl (λ n. refl) refl (λ name. refl) json term e
