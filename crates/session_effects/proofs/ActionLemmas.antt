-- What actions come to, and what becomes of the tables by them.
use Rattle.std.proofs.Common.{◌≡◌, ℕ, Bool, true, false, Some, None, [], ◌∙◌, sym, ap, refl, if◌then◌else◌}
use Rattle.plain_types.specs.declared.code.Code.TheVariants.{NoSuchObject}
use Rattle.session_model.specs.Execution.{Execution, in_state}
use Rattle.session_model.specs.Items.{puts}
use Rattle.session_model.specs.State.{State}
use Rattle.session_tables.specs.declared.tables.Tables.{Tables}
use Rattle.session_tables.specs.Tables.{IsPlaced, state_at, with_state}
use Rattle.session_tables.proofs.ForCallers.{state_with}

-- where another state was put, the session is in it
pub put_at : (old new : Tables) (place : ℕ) (state : State) (doing : Execution) → IsPlaced old place → new ≡ with_state old place state
    → puts [] (in_state doing state) ≡ puts [] (in_state doing (state_at new place))
put_at old new place state doing placed e = ap (λ (state : State). puts [] (in_state doing state)) (sym (state_with old new place state placed e))

-- what is not absent is there
pub is_there_by : (there : Bool) → None ≡ (if there then None else Some NoSuchObject) → there ≡ true
is_there_by true passed = refl
is_there_by false passed = absurd (cc)

-- what is evaluated where a reader stands
pub read_as : {A : Type 0} (f : State → ℕ → ℕ → A) {t t' : Tables} {p p' o o' s s' : ℕ} → t ≡ t' → p ≡ p' → o ≡ o' → s ≡ s'
    → f (state_at t p) o s ≡ f (state_at t' p') o' s'
read_as f {t} {t'} {p} {p'} {o} {o'} {s} {s'} tables place object sender =
    ap (λ t. f (state_at t p) o s) tables ∙ ap (λ p. f (state_at t' p) o s) place ∙ ap (λ o. f (state_at t' p') o s) object
    ∙ ap (λ s. f (state_at t' p') o' s) sender
