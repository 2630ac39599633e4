-- The rule of the command that writes a property: why it is refused, what it does where it is not, and what it
-- keeps of a session.
use Rattle.std.proofs.Common.{Err, List, Ok, ap, refl, ℕ, ◌∙◌, ◌≡◌}
use Rattle.std.specs.Option.{option_or}
use Rattle.std.specs.Result.{result_err}
use Rattle.session_model.proofs.Common.{Data, absence, begun, does_next, IsFitting, Found, State, Nothing, Writing, asked_writing, with_writing, written}
use Rattle.session_model.proofs.Common.{written_property}
use Rattle.session_model.proofs.DeclaredLemmas.{declared_with_writing}
use Rattle.session_model.proofs.FitLemmas.{asked_fit}
use Rattle.session_model.proofs.KeepingLemmas.{Keeps, refused, told}
use Rattle.session_model.proofs.LawLemmas.{writing_sound}
use Rattle.session_model.proofs.NamedLemmas.{asked_named, named_with_writing}
use Rattle.session_model.proofs.ShrinkLemmas.{written_shrinks}
use Rattle.session_model.specs.Asked.{Set}
use Rattle.session_model.specs.Properties.{is_declared, sets}
use Rattle.session_model.specs.Refusing.{refusal}
use Rattle.session_model.specs.Thread.{Settings, performs}
use Rattle.session_model.specs.declared.line.Answer.TheVariants as a

module _ (settings : Settings) (self : List ℕ) (state : State) where
  module _ (target : ℕ) (property : List ℕ) (value : Data) where
    pub refusal_set : refusal settings self state (Set target property value)
        ≡ option_or (absence state target) (result_err (asked_writing state target property value))
    unfolding refusal
    refusal_set = refl

    pub performs_set : performs settings self state (Set target property value) ≡ sets settings state target (asked_writing state target property value)
    unfolding performs
    performs_set = refl

    -- what was asked to be written is written, and then told of
    pub set_written : (writing : Writing) → asked_writing state target property value ≡ Ok writing
        → performs settings self state (Set target property value)
        ≡ does_next settings (written settings (begun settings state) target 0 writing) (a.Truth (is_declared writing))
    set_written _ found = performs_set ∙ ap (sets settings state target) found

module _ (settings : Settings) (state : State) where
  writing_fits : (object : ℕ) (writing : Writing) → IsFitting settings state → IsFitting settings (with_writing state object writing)
  writing_fits object Nothing fit = fit
  writing_fits object _ fit =
      record { objects = fit.objects; events = fit.events; connections = fit.connections; publications = fit.publications; joins = fit.joins }

  -- what is written is told of
  pub set_keeps : (target : ℕ) (property : List ℕ) (value : Data)
      → Keeps settings state (Set target property value) (sets settings state target (asked_writing state target property value))
  set_keeps target property value = by (asked_writing state target property value) refl
    where
      by : (found : Found Writing) → asked_writing state target property value ≡ found
          → Keeps settings state (Set target property value) (sets settings state target found)
      by (Err code) is = refused
      by (Ok writing) is = told (with_writing state target writing) (written_property target writing)
          (a.Truth (is_declared writing)) (record {
            sound = λ sound. writing_sound (begun settings state) target writing (asked_fit state target property value writing is) sound;
            declared = λ sound declared. declared_with_writing settings.classes state declared target writing;
            fitting = λ fits. writing_fits target writing fits.fit;
            named = λ are its named. named_with_writing state named target writing (asked_named state target property its value writing is);
            joins = λ plain. (written_shrinks (begun settings state) target writing).joins;
          })
