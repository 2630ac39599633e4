-- What is looked for by name or signature is there, and a connection that is found fits.
use Rattle.std.proofs.Common.{◌≡◌, ◌<◌, ℕ, zero, suc, Bool, true, cond, List, [], ◌∷◌, Option, Some, Ok, Err, is_some, length, slice_get, refl}
use Rattle.std.proofs.Common.{subst, arith}
use Rattle.session_model.proofs.Common.{Code, DoesNotFit, Signature, Method, NewConnection, Row, Operation, behind, IsFittingOperation, MayBeConnected, Found}
use Rattle.session_model.proofs.Common.{◌>>=◌, is_signal_at, method_named, methods_of, signal_named, signal_with, Settings, State}
use Rattle.class_table.specs.Lookup.{is_same, method_number}
use Rattle.plain_types.specs.declared.connection_type.ConnectionType.{ConnectionType}
use Rattle.plain_types.specs.declared.callee.Callee.TheVariants as callee
use Rattle.connection_list.specs.declared.pattern.Pattern.{Pattern}
use Rattle.property_store.proofs.ForCallers.{position_some}
use Rattle.stored_slots.specs.Functors.{index_of}
use Rattle.session_model.specs.declared.operation.Operation.TheVariants as d
use Rattle.session_model.specs.Connecting.{fits_at, fits_functor, new_connection, new_functor_connection}
use Rattle.session_model.specs.Functors.{functor_named}
use Rattle.session_model.specs.Methods.{method_with, signature_in}
use Rattle.session_model.proofs.FoundLemmas.{found_past, if_found, some_found, then_found}

-- an index within a list leads to something
pub there_within : {X : Type 0} (xs : List X) (index : ℕ) → index < length xs → is_some (slice_get xs index) ≡ true
there_within [] index within = absurd (omega (arith, within))
there_within (x ∷ xs) zero within = refl
there_within (x ∷ xs) (suc index) within = there_within xs index (omega (arith, within))

module _ (methods : List Method) where
  abbrev IsMethodAt : ℕ → Type 0
  IsMethodAt index = is_some (slice_get methods index) ≡ true

  abbrev IsSignalAt : ℕ → Type 0
  IsSignalAt index = is_signal_at methods index ≡ true

  pub numbered_there : (signature : Signature) (index : ℕ) → method_number signature methods ≡ Some index → IsMethodAt index
  numbered_there signature index is = there_within methods index (position_some (λ (method : Method). is_same method.signature signature) methods index is).1

  pub method_there : (signature : Signature) (index : ℕ) → method_with methods signature ≡ Ok index → IsMethodAt index
  method_there signature index e = numbered_there signature index (some_found (method_number signature methods) _ e)

  pub signal_there : (signature : Signature) (index : ℕ) → signal_with methods signature ≡ Ok index → IsSignalAt index
  signal_there signature index e =
      let (number, is, e) = then_found (method_with methods signature) _ e in
      let (signal, e) = if_found (is_signal_at methods number) _ _ e in
      let same : number ≡ index = cc in subst IsSignalAt same signal

  pub named_method_there : (text : List ℕ) (index : ℕ) → method_named methods text ≡ Ok index → IsMethodAt index
  named_method_there text index e = let (signature, is, e) = then_found (signature_in text) _ e in method_there signature index e

  pub named_signal_there : (text : List ℕ) (index : ℕ) → signal_named methods text ≡ Ok index → IsSignalAt index
  named_signal_there text index e = let (signature, is, e) = then_found (signature_in text) _ e in signal_there signature index e

pub functor_there : (settings : Settings) (name : List ℕ) (index : ℕ) → functor_named settings name ≡ Ok index
    → is_some (slice_get settings.functors index) ≡ true
functor_there settings name index e =
    there_within settings.functors index (position_some _ settings.functors index (some_found (index_of name settings.functors) _ e)).1

module _ (settings : Settings) (state : State) (sender : ℕ) (signal : Found ℕ)
    (signals : (index : ℕ) → signal ≡ Ok index → is_signal_at (methods_of settings state sender) index ≡ true) where
  abbrev Joins : NewConnection → Type 0
  Joins new = MayBeConnected settings state.forest.rows new.sender new.signal new.receiver new.callee

  -- where a signal and a callee are found and fit, what is made of both joins them
  made_joins : (made : ℕ → ℕ → NewConnection) (fit : ℕ → ℕ → Bool) (There : ℕ → Type 0) (found : Found ℕ) → ((index : ℕ) → found ≡ Ok index → There index)
      → ((s c : ℕ) → is_signal_at (methods_of settings state sender) s ≡ true → There c → fit s c ≡ true → Joins (made s c)) → (new : NewConnection)
      → (signal >>= λ s. found >>= λ c. cond (fit s c) (Ok (made s c)) (Err DoesNotFit)) ≡ Ok new → Joins new
  made_joins made fit There found callees joins new e =
      let (s, one, e) = then_found signal _ e in
      let (c, other, e) = then_found found _ e in
      let (fits, e) = if_found (fit s c) _ _ e in
      let same : made s c ≡ new = cc in subst Joins same (joins s c (signals s one) (callees c other) fits)

  -- a connection that is found joins a signal to a method that it fits
  pub connection_fits : (receiver : ℕ) (method : Found ℕ)
      → ((index : ℕ) → method ≡ Ok index → is_some (slice_get (methods_of settings state receiver) index) ≡ true) → (mode : ConnectionType) (single : Bool)
      → (new : NewConnection) → new_connection settings state sender signal receiver method mode single ≡ Ok new → Joins new
  connection_fits receiver method methods mode single = made_joins
      (λ s m. record { sender = sender; signal = s; receiver = receiver; callee = callee.Method m; mode = mode; single = single })
      (λ s m. fits_at settings state sender s receiver m) (λ m. is_some (slice_get (methods_of settings state receiver) m) ≡ true) method methods
      (λ s m one other is. record { signal_there = one; callee = other; fitting = is })

  -- or to a functor
  pub functor_connection_fits : (context : ℕ) (functor : Found ℕ) → ((index : ℕ) → functor ≡ Ok index → is_some (slice_get settings.functors index) ≡ true)
      → (mode : ConnectionType) (single : Bool)
      → (new : NewConnection) → new_functor_connection settings state sender signal context functor mode single ≡ Ok new → Joins new
  functor_connection_fits context functor functors mode single = made_joins
      (λ s f. record { sender = sender; signal = s; receiver = context; callee = callee.Functor f; mode = mode; single = single })
      (λ s f. fits_functor settings state sender s f) (λ f. is_some (slice_get settings.functors f) ≡ true) functor functors
      (λ s f one other is. record { signal_there = one; callee = other; fitting = is })

-- so does the operation that makes it
pub operation_fits : (settings : Settings) (rows : List Row) (found : Found NewConnection) (unique : Bool)
    → ((new : NewConnection) → found ≡ Ok new → MayBeConnected settings rows new.sender new.signal new.receiver new.callee)
    → (operation : Operation) → (found >>= λ new. Ok (d.Connect new unique)) ≡ Ok operation → IsFittingOperation settings rows operation
operation_fits settings rows found unique fits operation e =
    let (new, is, e) = then_found found _ e in
    let same : d.Connect new unique ≡ operation = cc in subst (IsFittingOperation settings rows) same (fits new is)

-- what breaks connections makes none
pub pattern_fits : (settings : Settings) (rows : List Row) (absent other : Option Code) (found : Found Pattern) (operation : Operation)
    → behind absent (behind other (found >>= λ pattern. Ok (d.Disconnect pattern))) ≡ Ok operation → IsFittingOperation settings rows operation
pattern_fits settings rows absent other found operation e =
    let (pattern, is, e) = then_found found _ (found_past other _ operation (found_past absent _ operation e)) in
    let same : d.Disconnect pattern ≡ operation = cc in subst (IsFittingOperation settings rows) same tt
