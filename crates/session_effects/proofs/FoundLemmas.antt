-- Lists of what is found, one after another.
use Rattle.std.proofs.Common.{◌≡◌, ◌+◌, ◌<◌, ◌≤◌, ℕ, Bor, Option, Some, None, get_or, Bool, List, [], ◌∷◌, ◌++◌, Result, Ok, Err, IsErrAnd, subst}
use Rattle.std.proofs.Common.{drop, length, refl, sym, ap, ◌∙◌, append_assoc, arith}
use Rattle.std.proofs.lemmas.List.{append-nil, drop_all, drop_more}
use Rattle.std.specs.List.{HoldsAt}
use Rattle.std.specs.Option.{MatchOption, ok_or, option_copied, option_map_or}
use Rattle.plain_types.specs.declared.code.Code.{Code}
use Rattle.plain_types.specs.declared.code.Code.TheVariants.{BadValue}
use Rattle.plain_types.specs.Answers.{Answers}
use Rattle.plain_types.specs.declared.fault.Fault.{Fault}
use Rattle.plain_types.specs.declared.fault.Fault.TheVariants.{Refused}
use Rattle.signature_core.specs.declared.kind.Kind.{Kind}
use Rattle.variant_value.specs.declared.value.Value.{Value}
use Rattle.variant_value.specs.Values.{converted}
use Rattle.connection_list.specs.declared.connection.NewConnection.{NewConnection}
use Rattle.plain_types.specs.declared.connection_type.ConnectionType.{ConnectionType}
use Rattle.session_model.specs.Connecting.{new_connection}
use Rattle.session_model.specs.Methods.{Found, ◌>>=◌}
use Rattle.session_model.specs.Settings.{Settings}
use Rattle.session_model.specs.State.{State}
use Rattle.session_model.specs.Targets.{all_converted}

-- what was found before, and then the rest
abbrev pub behind : {A : Type 0} → List A → Found (List A) → Found (List A)
behind done (Ok rest) = Ok (done ++ rest)
behind done (Err code) = Err code

pub behind_more : {A : Type 0} (done : List A) (x : A) (rest : Found (List A)) → behind (done ++ x ∷ []) rest ≡ behind done (rest >>= λ xs. Ok (x ∷ xs))
behind_more done x (Ok rest) = rw append_assoc
behind_more done x (Err code) = refl

pub behind_all : {A : Type 0} (done : List A) → behind done (Ok []) ≡ Ok done
behind_all done = ap Ok (append-nil done)

-- the item at an index, in front of those behind it
pub item_at : {A : Type 0} (xs : List A) (i : ℕ) (x : A) → i < length xs → x ≡ get_or xs i x → drop i xs ≡ x ∷ drop (i + 1) xs
item_at xs i x within is = drop_more xs i x within ∙ ap (λ y. y ∷ drop (i + 1) xs) (sym is)

-- a value as one of the kind that was found for it
abbrev pub value_as : Option (Bor Kind) → Value → Found Value
value_as found value = option_map_or (λ kind. ok_or (converted kind value) BadValue) (option_copied found) (Err BadValue)

-- the kind at an index, where there is one
abbrev pub IsKindAt : List Kind → ℕ → Option (Bor Kind) → Type 0
IsKindAt kinds at found = MatchOption found (length kinds ≤ at) (λ kind. (at < length kinds) × HoldsAt (λ its. kind.now ≡ its) kinds at)

module _ (done : List Value) (kinds : List Kind) (at : ℕ) (value : Value) (values : List Value) where
  -- the next value is converted, and then those behind it
  converted_next : (found : Option (Bor Kind)) → IsKindAt kinds at found
      → behind done (all_converted (drop at kinds) (value ∷ values))
      ≡ behind done (value_as found value >>= λ first. all_converted (drop (at + 1) kinds) values >>= λ rest. Ok (first ∷ rest))
  converted_next None past = ap (λ kinds. behind done (all_converted kinds (value ∷ values))) (drop_all at kinds past)
  converted_next (Some kind) met = ap (λ kinds. behind done (all_converted kinds (value ∷ values))) (item_at kinds at kind.now met.0 (met.1 kind.now))

  -- one more value is converted
  pub converted_more : (found : Option (Bor Kind)) → IsKindAt kinds at found → (new : Value) → Ok new ≡ value_as found value
      → behind (done ++ new ∷ []) (all_converted (drop (at + 1) kinds) values) ≡ behind done (all_converted (drop at kinds) (value ∷ values))
  converted_more found met new made =
      behind_more done new (all_converted (drop (at + 1) kinds) values)
      ∙ ap (λ (first : Found Value). behind done (first >>= λ value. all_converted (drop (at + 1) kinds) values >>= λ values. Ok (value ∷ values))) made
      ∙ sym (converted_next found met)

  -- a value that cannot be converted ends it
  pub converted_refused : (found : Option (Bor Kind)) → IsKindAt kinds at found → (code : Code) → Err code ≡ value_as found value
      → behind done (all_converted (drop at kinds) (value ∷ values)) ≡ Err code
  converted_refused found met code refused =
      converted_next found met
      ∙ ap (λ (first : Found Value). behind done (first >>= λ value. all_converted (drop (at + 1) kinds) values >>= λ values. Ok (value ∷ values)))
      (sym refused)

-- a kind that a value was found for stands before the end
pub kind_within : (kinds : List Kind) (at : ℕ) (value new : Value) (found : Option (Bor Kind)) → IsKindAt kinds at found → Ok new ≡ value_as found value
    → at + 1 ≤ length kinds
kind_within kinds at value new None past made = absurd (cc)
kind_within kinds at value new (Some kind) met made = omega (arith, met.0)

-- fewer values than kinds
pub converted_short : (done : List Value) (kind : Kind) (kinds kinds' : List Kind) (values : List Value) → kinds ≡ kind ∷ kinds' → values ≡ []
    → behind done (all_converted kinds values) ≡ Err BadValue
converted_short done kind kinds kinds' values here none = ap (λ kinds. behind done (all_converted kinds values)) here
    ∙ ap (λ values. behind done (all_converted (kind ∷ kinds') values)) none

-- a refusal of what was asked
pub answers_refused : {T : Type 0} (wanted : Found T) (code : Code) (result : Result T Fault) → IsErrAnd result (λ fault. fault ≡ Refused code)
    → wanted ≡ Err code → Answers result wanted
answers_refused wanted code (Ok value) h is = absurd h
answers_refused wanted code (Err fault) h is = subst (λ fault. Answers (Err fault) wanted) (sym h) is

-- a signal and a method that are found are connected, or do not fit
pub connected : (settings : Settings) (state : State) (sender : ℕ) (signal : Found ℕ) (receiver : ℕ) (method : Found ℕ) (mode : ConnectionType) (single : Bool)
    (s m : ℕ) (result : Found NewConnection) → signal ≡ Ok s → method ≡ Ok m
    → result ≡ new_connection settings state sender (Ok s) receiver (Ok m) mode single
    → new_connection settings state sender signal receiver method mode single ≡ result
connected settings state sender signal receiver method mode single s m result found found' is =
    ap (λ signal. new_connection settings state sender signal receiver method mode single) found
    ∙ ap (λ method. new_connection settings state sender (Ok s) receiver method mode single) found'
    ∙ sym is
