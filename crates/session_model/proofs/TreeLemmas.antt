-- The rule of each command that makes and deletes objects: why it is refused, what it does where it is not, and
-- what it keeps of a session.
use Rattle.class_table.specs.Lookup.{index_of}
use Rattle.object_tree.specs.Changes.{added}
use Rattle.object_tree.specs.Refusing.{add_refusal, parent_refusal}
use Rattle.property_store.proofs.ForCallers.{position_some}
use Rattle.plain_types.specs.declared.code.Code.TheVariants.{NoSuchClass}
use Rattle.std.proofs.Common.{List, None, Option, Some, [], cond, false, is_some, refl, slice_get, true, ℕ, ◌∷◌, ◌≡◌}
use Rattle.std.proofs.lemmas.List.Elements.{All-push}
use Rattle.std.specs.Option.{option_or, unwrap_or}
use Rattle.session_model.proofs.Common.{is_there, Row, absence, Asked, begun, IsFitting, puts, State, with_object}
use Rattle.session_model.proofs.ConnectionLemmas.{or_none}
use Rattle.session_model.proofs.DeclaredLemmas.{declared_with_object}
use Rattle.session_model.proofs.ForestLemmas.{each_added}
use Rattle.session_model.proofs.FittingClassLemmas.{fits_moved, more_classes}
use Rattle.session_model.proofs.FittingFoundLemmas.{there_within}
use Rattle.session_model.proofs.KeepingLemmas.{FitsBefore, Keeps, done, one_begins, replied}
use Rattle.session_model.proofs.NamedLemmas.{named_with_object}
use Rattle.session_model.proofs.StateLemmas.{whole_with_object}
use Rattle.session_model.specs.Asked.{Delete, New}
use Rattle.session_model.specs.Classes.{class_index, class_refusal}
use Rattle.session_model.specs.Refusing.{refusal}
use Rattle.session_model.specs.Thread.{Settings, performs}
use Rattle.session_model.specs.Trees.{deletes, makes}
use Rattle.session_model.specs.declared.line.Answer.TheVariants as a
use Rattle.session_model.specs.Items as to_do

module _ (settings : Settings) (self : List ℕ) (state : State) where
  pub refusal_new : (class : List ℕ) (parent : Option ℕ) → refusal settings self state (New class parent)
      ≡ option_or (parent_refusal state.forest.rows parent) (option_or (class_refusal settings.classes class) (add_refusal state.forest parent))
  unfolding refusal
  refusal_new class parent = refl

  pub performs_new : (class : List ℕ) (parent : Option ℕ) → performs settings self state (New class parent) ≡ makes settings.classes state class parent
  unfolding performs
  performs_new class parent = refl

  pub refusal_delete : (target : ℕ) → refusal settings self state (Delete target) ≡ absence state target
  unfolding refusal
  refusal_delete target = refl

  pub performs_delete : (target : ℕ) → performs settings self state (Delete target) ≡ deletes settings state target
  unfolding performs
  performs_delete target = refl

module _ (settings : Settings) (state : State) where
  -- a new object of a class that is there leaves the others as they were
  made_fits : (asked : Asked) (parent : Option ℕ) (class : ℕ) → is_some (slice_get settings.classes class) ≡ true → FitsBefore settings state asked
      → IsFitting settings (with_object settings.classes state parent class)
  unfolding added
  made_fits asked parent class its fits =
      let rows = state.forest.rows in
      let fit = fits.fit in
      fits_moved rows (λ number. is_there rows number ≡ true) (more_classes rows _)
      fits.sound.whole.meant (λ index default within.
      (let it = fits.sound.whole.ends index default within in record { sender = it.sender; receiver = it.receiver })) fits.sound.whole.named
      (All-push (λ (row : Row). is_some (slice_get settings.classes row.class) ≡ true) rows _ fit.objects its)
      (record { events = fit.events; connections = fit.connections; publications = fit.publications; joins = fit.joins })

  pub new_keeps : (class : List ℕ) (parent : Option ℕ) → option_or (parent_refusal state.forest.rows parent)
      (option_or (class_refusal settings.classes class) (add_refusal state.forest parent)) ≡ None
      → Keeps settings state (New class parent) (makes settings.classes state class parent)
  new_keeps class parent passed = replied (record {
    sound = λ sound. record {
      whole = whole_with_object settings.classes parent _ allowed.1 sound.whole;
      living = each_added (λ number class dying. dying ≡ false) state.forest parent _ refl sound.living;
    };
    declared = λ sound declared. declared_with_object settings.classes state declared parent _ sound.whole.forest.numbers_given;
    fitting = made_fits (New class parent) parent _ its;
    named = λ are is named. named_with_object state named settings.classes parent _;
    joins = λ plain test held. held;
  })
    where
      after : State
      after = with_object settings.classes state parent (class_index settings.classes class)

      allowed : (class_refusal settings.classes class ≡ None) × (add_refusal state.forest parent ≡ None)
      allowed = or_none (class_refusal settings.classes class) _ (or_none (parent_refusal state.forest.rows parent) _ passed).1

      its : is_some (slice_get settings.classes (class_index settings.classes class)) ≡ true
      its = by (index_of class settings.classes) refl allowed.0
        where
          by : (found : Option ℕ) → index_of class settings.classes ≡ found → cond (is_some found) None (Some NoSuchClass) ≡ None
              → is_some (slice_get settings.classes (unwrap_or found 0)) ≡ true
          by None is e = absurd (cc)
          by (Some index) is e = there_within settings.classes index (position_some _ settings.classes index is).1

  pub delete_keeps : (target : ℕ) → Keeps settings state (Delete target) (deletes settings state target)
  delete_keeps target = done (puts (to_do.Delete target 0 ∷ []) (begun settings state)) (a.Truth true)
      (one_begins refl refl refl (λ fits. tt) tt)
