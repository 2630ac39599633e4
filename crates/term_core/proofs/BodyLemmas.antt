-- Every argument of a body that was read for so many parameters is one of theirs, and what it sets has a name.
use Rattle.std.proofs.Common.{◌≡◌, ℕ, ◌&&◌, List, [], Bool, true, false, Option, Some, None, Ok, Err, IsTrue, Result, refl, subst, codes, bytes_eq, nat_lt}
use Rattle.std.proofs.Common.{is_some, arith}
use Rattle.std.specs.Prelude.{IfOk, if◌then◌else◌, unwrap_or}
use Rattle.std.specs.List.{All}
use Rattle.std.specs.Option.{option_map_or}
use Rattle.std.proofs.lemmas.Bool.{and_from, and_parts}
use Rattle.std.proofs.lemmas.Bool.Decides.{nat_tests}
use Rattle.std.proofs.lemmas.List.Elements.{All-nil, All-cons}
use Rattle.serde_json.specs.Data.{Data, array, object, Items, no_items, item, Members, no_members, member}
use Rattle.serde_json.specs.Find.{get, as_array, as_bool, as_str}
use Rattle.plain_types.specs.Names.{is_name}
use Rattle.plain_types.specs.declared.code.Code.TheVariants.{BadValue, Limit}
use Rattle.plain_types.specs.Answers.{Answers}
use Rattle.plain_types.specs.declared.fault.Fault.{Fault}
use Rattle.variant_value.specs.declared.value.Value.{Value}
use Rattle.term_core.specs.declared.target.Target.{Target}
use Rattle.term_core.specs.declared.action.SingleAction.{SingleAction}
use Rattle.term_core.specs.declared.body.Body.{Body}
use Rattle.term_core.specs.declared.operator.Operator.{Operator}
use Rattle.term_core.specs.declared.operator.Operator.TheVariants.{Sum, Difference, Less, Equal, Concatenated}
use Rattle.term_core.specs.Act.{Act, acts_of, are_named, is_effect_named, is_named}
use Rattle.term_core.specs.declared.scope.Scope.TheVariants.{Slot, Functor, Next}
use Rattle.term_core.specs.Arguments.{TakesAtMost, EffectTakesAtMost, ActTakesAtMost, ActsTakeAtMost}
use Rattle.term_core.specs.Bodies as bodies
use Rattle.term_core.specs.Effects.{signature_in, unless_null, optional, flag_in, mode_in, terms_in, set_in, emit_in, connect_in, disconnect_in, delete_in}
use Rattle.term_core.specs.Effects.{delete_later_in, block_in, set_parent_in, effect_in}
use Rattle.term_core.specs.Forms as forms
use Rattle.term_core.specs.Json.{Read, ◌>>=◌, formed, provided, where_holds, at_key, name_in, natural_in, constant_in, target_in}
use Rattle.term_core.specs.Term.{Term, const, arg, state, prop, binary, choice, reads_nothing}

-- what holds of whatever is read in the end

always : {A B : Type 0} (Q : B → Type 0) (r : Read A) (f : A → Read B) → ((x : A) → IfOk (f x) Q) → IfOk (r >>= f) Q
always Q (Ok x) f g = g x
always Q (Err code) f g = tt

kept : {A B : Type 0} (P : A → Type 0) (Q : B → Type 0) (r : Read A) (f : A → Read B) → IfOk r P → ((x : A) → P x → IfOk (f x) Q) → IfOk (r >>= f) Q
kept P Q (Ok x) f h g = g x h
kept P Q (Err code) f h g = tt

either : {A : Type 0} (P : A → Type 0) (b : Bool) (x y : Read A) → IfOk x P → IfOk y P → IfOk (if b then x else y) P
either P true x y h k = h
either P false x y h k = k

wherever : {A B : Type 0} (P : B → Type 0) (f : A → Read B) (o : Option A) (d : Read B) → ((x : A) → IfOk (f x) P) → IfOk d P → IfOk (option_map_or f o d) P
wherever P f None d h k = k
wherever P f (Some x) d h k = h x

if_provided : {A : Type 0} (P : A → Type 0) (b : Bool) (x : A) → (b ≡ true → P x) → IfOk (provided b x) P
if_provided P true x h = h refl
if_provided P false x h = tt

where_read : {A : Type 0} (P : A → Type 0) (b : Bool) (r : Read A) → IfOk r P → IfOk (where_holds b r) P
where_read P true r h = h
where_read P false r h = tt

found : {A B : Type 0} (P : B → Type 0) (f : A → Read B) (b : Bool) (x : A) (rest : Option A) (d : Read B) → IfOk (f x) P → IfOk (option_map_or f rest d) P
    → IfOk (option_map_or f (if b then Some x else rest) d) P
found P f true x rest d h k = h
found P f false x rest d h k = k

-- expressions

-- where an expression stands
abbrev Domain : {A B : Type 0} → (A → B) → Type 0
Domain {A} f = A

abbrev Scope : Type 0
Scope = Domain forms.params

abbrev Term_ok : Scope → Term → Type 0
Term_ok scope = TakesAtMost (forms.params scope)

-- what holds of every expression that stands there, by what holds of its parts
record IsKept (scope : Scope) (P : Term → Type 0) : Type 0 where
  constants : (value : Value) → P (const value)
  arguments : (place : ℕ) → nat_lt place (forms.params scope) ≡ true → P (arg place)
  states : P state
  properties : (target : Target) (name : List ℕ) → forms.has_target scope target ≡ true → P (prop target name)
  pairs : (operator : Operator) (a b : Term) → P a → P b → P (binary operator a b)
  choices : (test a b : Term) → P test → P a → P b → P (choice test a b)

module _ (scope : Scope) (P : Term → Type 0) (is : IsKept scope P) where
  argument_read : (json : Data) → IfOk (forms.argument_in scope json) P
  argument_read json = always P (natural_in json) _ (λ place. if_provided P (nat_lt place (forms.params scope)) (arg place) (is.arguments place))

  state_read : (json : Data) → IfOk (forms.state_in scope json) P
  state_read json = if_provided P _ state (λ e. is.states)

  property_read : (json : Data) → IfOk (forms.property_in scope json) P
  property_read json = always P (at_key (codes "prop") json) _
      (λ property. always P (name_in property) _
      (λ name. always P (forms.subject_in json) _
      (λ target. if_provided P _ (prop target name) (λ e. is.properties target name (and_parts (forms.has_target scope target) _ e).0))))

  constant_read : (json : Data) → IfOk (constant_in json >>= λ value. Ok (const value)) P
  constant_read json = always P (constant_in json) _ is.constants

  mutual
    term_holds : (json : Data) → IfOk (forms.term_in scope json) P
    term_holds (object inside) = either P (is_some (get (codes "prop") (object inside))) _ _ (property_read (object inside)) (only_member_read inside)
    term_holds other = tt

    only_member_read : (inside : Members) → IfOk (forms.only_member scope inside) P
    only_member_read no_members = tt
    only_member_read (member key json no_members) =
        found P _ (bytes_eq key (codes "const")) _ _ _ (constant_read json) (
        found P _ (bytes_eq key (codes "arg")) _ _ _ (argument_read json) (
        found P _ (bytes_eq key (codes "state")) _ _ _ (state_read json) (
        found P _ (bytes_eq key (codes "+")) _ _ _ (binary_read Sum json) (
        found P _ (bytes_eq key (codes "-")) _ _ _ (binary_read Difference json) (
        found P _ (bytes_eq key (codes "<")) _ _ _ (binary_read Less json) (
        found P _ (bytes_eq key (codes "=")) _ _ _ (binary_read Equal json) (
        found P _ (bytes_eq key (codes "cat")) _ _ _ (binary_read Concatenated json) (
        found P _ (bytes_eq key (codes "if")) _ _ _ (choice_read json) tt))))))))
    only_member_read (member key json (member other more rest)) = tt

    binary_read : (operator : Operator) (json : Data) → IfOk (forms.binary_in scope operator json) P
    binary_read operator (array (item a (item b no_items))) =
        kept P P (forms.term_in scope a) _ (term_holds a) (λ x hx. kept P P (forms.term_in scope b) _ (term_holds b) (λ y hy. is.pairs operator x y hx hy))
    binary_read operator other = tt

    choice_read : (json : Data) → IfOk (forms.choice_in scope json) P
    choice_read (array (item t (item a (item b no_items)))) =
        kept P P (forms.term_in scope t) _ (term_holds t)
        (λ w hw. kept P P (forms.term_in scope a) _ (term_holds a)
        (λ x hx. kept P P (forms.term_in scope b) _ (term_holds b) (λ y hy. is.choices w x y hw hx hy)))
    choice_read other = tt

term_read : (scope : Scope) (json : Data) → IfOk (forms.term_in scope json) (Term_ok scope)
term_read scope json = term_holds scope (Term_ok scope) (record {
  constants = λ value. tt;
  arguments = λ place e. grind (arith, nat_tests);
  states = tt;
  properties = λ target name e. tt;
  pairs = λ operator a b ha hb. (ha, hb);
  choices = λ test a b ht ha hb. (ht, (ha, hb));
}) json

unread : (n : ℕ) (json : Data) → IfOk (forms.term_in (Next n) json) (λ term. IsTrue (reads_nothing term))
unread n json = term_holds (Next n) (λ term. IsTrue (reads_nothing term)) (record {
  constants = λ value. refl;
  arguments = λ place e. refl;
  states = refl;
  properties = λ target name e. absurd (cc);
  pairs = λ operator a b ha hb. and_from (reads_nothing a) (reads_nothing b) ha hb;
  choices = λ test a b ht ha hb. and_from (reads_nothing test) (reads_nothing a && reads_nothing b) ht (and_from (reads_nothing a) (reads_nothing b) ha hb);
}) json

-- what was read as the next state of a functor
pub next_read : (n : ℕ) (json : Data) (term : Term) → forms.term_in (Next n) json ≡ Ok term → TakesAtMost n term × IsTrue (reads_nothing term)
next_read n json term e =
    let P : Read Term → Type 0 = λ r. IfOk r (TakesAtMost n) in
    let Q : Read Term → Type 0 = λ r. IfOk r (λ term. IsTrue (reads_nothing term)) in
    (subst P e (term_read (Next n) json), subst Q e (unread n json))

terms_read : (scope : Scope) (items : Items) → IfOk (terms_in scope items) (All (Term_ok scope))
terms_read scope no_items = All-nil (Term_ok scope)
terms_read scope (item json rest) = kept (Term_ok scope) (All (Term_ok scope)) (forms.term_in scope json) _ (term_read scope json)
    (λ x hx. kept (All (Term_ok scope)) (All (Term_ok scope)) (terms_in scope rest) _ (terms_read scope rest) (λ xs hxs. All-cons (Term_ok scope) x xs hx hxs))

-- actions that do one thing

abbrev Effect_ok : Scope → SingleAction → Type 0
Effect_ok scope effect = EffectTakesAtMost (forms.params scope) effect × IsTrue (is_effect_named effect)

abbrev Named : List ℕ → Type 0
Named text = IsTrue (is_name text)

name_read : (json : Data) → IfOk (name_in json) Named
name_read json = always Named (formed (as_str json)) _ (λ text. if_provided Named (is_name text) text (λ is. is))

set_read : (scope : Scope) (json named : Data) → IfOk (set_in scope json named) (Effect_ok scope)
set_read scope json named = where_read (Effect_ok scope) _ _
    (always (Effect_ok scope) (at_key (codes "to") json) _
    (λ to. kept Named (Effect_ok scope) (name_in named) _ (name_read named)
    (λ property is. always (Effect_ok scope) (forms.subject_in json) _
    (λ target. kept (Term_ok scope) (Effect_ok scope) (forms.term_in scope to) _ (term_read scope to) (λ value h. (h, is))))))

emit_read : (scope : Scope) (json named : Data) → IfOk (emit_in scope json named) (Effect_ok scope)
emit_read scope json named = where_read (Effect_ok scope) _ _
    (always (Effect_ok scope) (at_key (codes "args") json) _
    (λ there. always (Effect_ok scope) (formed (as_array there)) _
    (λ items. always (Effect_ok scope) (signature_in named) _
    (λ signal. always (Effect_ok scope) (forms.subject_in json) _
    (λ target. kept (All (Term_ok scope)) (Effect_ok scope) (terms_in scope items) _ (terms_read scope items) (λ args h. (h, refl)))))))

connect_read : (scope : Scope) (json named : Data) → IfOk (connect_in json named) (Effect_ok scope)
connect_read scope json named = where_read (Effect_ok scope) _ _
    (always (Effect_ok scope) (at_key (codes "to") json) _
    (λ receiver. always (Effect_ok scope) (at_key (codes "method") json) _
    (λ there. always (Effect_ok scope) (mode_in json) _
    (λ mode. always (Effect_ok scope) (flag_in (codes "unique") json) _
    (λ unique. always (Effect_ok scope) (flag_in (codes "single") json) _
    (λ single. always (Effect_ok scope) (signature_in named) _
    (λ signal. always (Effect_ok scope) (forms.subject_in json) _
    (λ target. always (Effect_ok scope) (target_in receiver) _ (λ to. always (Effect_ok scope) (signature_in there) _ (λ method. (tt, refl)))))))))))

disconnect_read : (scope : Scope) (json named : Data) → IfOk (disconnect_in json named) (Effect_ok scope)
disconnect_read scope json named = where_read (Effect_ok scope) _ _
    (always (Effect_ok scope) (unless_null signature_in named) _
    (λ signal. always (Effect_ok scope) (forms.subject_in json) _
    (λ target. always (Effect_ok scope) (optional target_in (codes "to") json) _
    (λ to. always (Effect_ok scope) (optional signature_in (codes "method") json) _ (λ method. (tt, refl))))))

delete_read : (scope : Scope) (json named : Data) → IfOk (delete_in json named) (Effect_ok scope)
delete_read scope json named = where_read (Effect_ok scope) _ _ (always (Effect_ok scope) (target_in named) _ (λ target. (tt, refl)))

delete_later_read : (scope : Scope) (json named : Data) → IfOk (delete_later_in json named) (Effect_ok scope)
delete_later_read scope json named = where_read (Effect_ok scope) _ _ (always (Effect_ok scope) (target_in named) _ (λ target. (tt, refl)))

block_read : (scope : Scope) (json named : Data) → IfOk (block_in json named) (Effect_ok scope)
block_read scope json named = where_read (Effect_ok scope) _ _
    (always (Effect_ok scope) (formed (as_bool named)) _ (λ on. always (Effect_ok scope) (forms.subject_in json) _ (λ target. (tt, refl))))

set_parent_read : (scope : Scope) (json named : Data) → IfOk (set_parent_in json named) (Effect_ok scope)
set_parent_read scope json named = where_read (Effect_ok scope) _ _
    (always (Effect_ok scope) (unless_null target_in named) _ (λ parent. always (Effect_ok scope) (forms.subject_in json) _ (λ target. (tt, refl))))

effect_read : (scope : Scope) (json : Data) → IfOk (effect_in scope json) (Effect_ok scope)
effect_read scope json =
    wherever (Effect_ok scope) (set_in scope json) (get (codes "set") json) _ (set_read scope json) (
    wherever (Effect_ok scope) (emit_in scope json) (get (codes "emit") json) _ (emit_read scope json) (
    wherever (Effect_ok scope) (connect_in json) (get (codes "connect") json) _ (connect_read scope json) (
    wherever (Effect_ok scope) (disconnect_in json) (get (codes "disconnect") json) _ (disconnect_read scope json) (
    wherever (Effect_ok scope) (delete_in json) (get (codes "delete") json) _ (delete_read scope json) (
    wherever (Effect_ok scope) (delete_later_in json) (get (codes "deleteLater") json) _ (delete_later_read scope json) (
    wherever (Effect_ok scope) (block_in json) (get (codes "block") json) _ (block_read scope json) (
    wherever (Effect_ok scope) (set_parent_in json) (get (codes "setParent") json) _ (set_parent_read scope json) tt)))))))

-- all actions

abbrev Act_ok : Scope → Act → Type 0
Act_ok scope action = ActTakesAtMost (forms.params scope) action × IsTrue (is_named action)

abbrev Acts_ok : Scope → List Act → Type 0
Acts_ok scope actions = ActsTakeAtMost (forms.params scope) (acts_of actions) × IsTrue (are_named (acts_of actions))

found_branch : {A : Type 0} (P : A → Type 0) (b : Bool) (x : Read A) (rest : Option (Read A)) (d : Read A) → IfOk x P → IfOk (unwrap_or rest d) P
    → IfOk (unwrap_or (if b then Some x else rest) d) P
found_branch P true x rest d h k = h
found_branch P false x rest d h k = k

choice_made : (scope : Scope) (json : Data) (held failed : Option (Read (List Act))) → IfOk (unwrap_or held (Err BadValue)) (Acts_ok scope)
    → IfOk (unwrap_or failed (Ok [])) (Acts_ok scope) → IfOk (bodies.choice_in scope json held failed) (Act_ok scope)
choice_made scope json held failed h k = where_read (Act_ok scope) _ _
    (always (Act_ok scope) (at_key (codes "when") json) _
    (λ condition. kept (Acts_ok scope) (Act_ok scope) (unwrap_or held (Err BadValue)) _ h
    (λ a ha. kept (Acts_ok scope) (Act_ok scope) (unwrap_or failed (Ok [])) _ k
    (λ b hb. kept (Term_ok scope) (Act_ok scope) (forms.term_in scope condition) _ (term_read scope condition)
    (λ test ht. ((ht, (ha.0, hb.0)), and_from (are_named (acts_of a)) (are_named (acts_of b)) ha.1 hb.1))))))

action_made : (scope : Scope) (json : Data) (held failed : Option (Read (List Act))) → IfOk (unwrap_or held (Err BadValue)) (Acts_ok scope)
    → IfOk (unwrap_or failed (Ok [])) (Acts_ok scope) → IfOk (bodies.made scope json held failed) (Act_ok scope)
action_made scope json held failed h k = either (Act_ok scope) (is_some (get (codes "when") json)) _ _ (choice_made scope json held failed h k)
    (kept (Effect_ok scope) (Act_ok scope) (effect_in scope json) _ (effect_read scope json) (λ plain h. h))

mutual
  act_read : (scope : Scope) (json : Data) → IfOk (bodies.act_in scope json) (Act_ok scope)
  act_read scope (object inside) = action_made scope (object inside) (bodies.branch_in scope (codes "then") inside)
      (bodies.branch_in scope (codes "else") inside) (branch_read scope (codes "then") inside (Err BadValue) tt)
      (branch_read scope (codes "else") inside (Ok []) (tt, refl))
  act_read scope other = tt

  branch_read : (scope : Scope) (key : List ℕ) (inside : Members) (d : Read (List Act)) → IfOk d (Acts_ok scope)
      → IfOk (unwrap_or (bodies.branch_in scope key inside) d) (Acts_ok scope)
  branch_read scope key no_members d h = h
  branch_read scope key (member other json rest) d h = found_branch (Acts_ok scope) (bytes_eq key other) _ _ d (actions_read scope json)
      (branch_read scope key rest d h)

  actions_read : (scope : Scope) (json : Data) → IfOk (bodies.actions_in scope json) (Acts_ok scope)
  actions_read scope (array items) = acts_read scope items
  actions_read scope other = tt

  acts_read : (scope : Scope) (items : Items) → IfOk (bodies.acts_in scope items) (Acts_ok scope)
  acts_read scope no_items = (tt, refl)
  acts_read scope (item json rest) = kept (Act_ok scope) (Acts_ok scope) (bodies.act_in scope json) _ (act_read scope json)
      (λ x hx. kept (Acts_ok scope) (Acts_ok scope) (bodies.acts_in scope rest) _ (acts_read scope rest)
      (λ xs hxs. ((hx.0, hxs.0), and_from (is_named x) (are_named (acts_of xs)) hx.1 hxs.1)))

-- a body that was read for so many parameters
abbrev pub IsReadFor : ℕ → Body → Type 0
IsReadFor n body = (body.params ≡ n) × bodies.IsBody body

kept_to : (n : ℕ) (actions : List Act) (b : Bool) → bodies.is_body_limited actions ≡ b
    → ActsTakeAtMost n (acts_of actions) × IsTrue (are_named (acts_of actions))
    → IfOk (if b then Ok (record { params = n; actions = actions }) else Err Limit) (IsReadFor n)
kept_to n actions true e h = (refl, record { limited = e; arguments = h.0; named = h.1 })
kept_to n actions false e h = tt

limited_read : (scope : Scope) (json : Data) → IfOk (bodies.actions_in scope json >>= bodies.limited_body (forms.params scope)) (IsReadFor (forms.params scope))
limited_read scope json = kept (Acts_ok scope) (IsReadFor (forms.params scope)) _ (bodies.limited_body (forms.params scope)) (actions_read scope json)
    (λ actions h. kept_to (forms.params scope) actions (bodies.is_body_limited actions) refl h)

pub body_read : (n : ℕ) (json : Data) → IfOk (bodies.body_of n json) (IsReadFor n)
body_read n json = limited_read (Slot n) json

pub functor_body_read : (n : ℕ) (json : Data) → IfOk (bodies.functor_body_of n json) (IsReadFor n)
functor_body_read n json = limited_read (Functor n) json

-- the body that a call answers, where what it answers was read
pub answered : (n : ℕ) (result : Result Body Fault) (read : Read Body) → Answers result read → IfOk read (IsReadFor n)
    → IfOk result (λ body. body.params ≡ n) × IfOk result bodies.IsBody
answered n (Ok body) read is h = let Q : Read Body → Type 0 = λ r. IfOk r (IsReadFor n) in subst Q is h
answered n (Err fault) read is h = (tt, tt)

pub answers_next : {A B : Type 0} (result : Result B Fault) (read : Read A) (value : A) (next : A → Read B) → read ≡ Ok value → Answers result (next value)
    → Answers result (read >>= next)
answers_next result read value next is h = rw is h
