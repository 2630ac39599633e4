-- The rule of each command for bindings and groups: why it is refused, what it does where it is not, and what it
-- keeps of a session.
use Rattle.binding_values.specs.Graph.{end_refusal}
use Rattle.std.proofs.Common.{Err, List, None, Ok, Some, [], ap, refl, true, ℕ, ◌∙◌, ◌≡◌}
use Rattle.std.proofs.lemmas.Bool.{cond_both}
use Rattle.std.proofs.lemmas.List.Elements.{All-nil}
use Rattle.std.specs.List.{All}
use Rattle.std.specs.Result.{result_err}
use Rattle.session_model.proofs.Common.{begin_refusal, bind_refusal, is_bound, is_open, Property, Data, begun, does_next, IsRightPost, Item, Found, IsNamedItem}
use Rattle.session_model.proofs.Common.{comes_to, showing, State, with_binding_taken, without_group}
use Rattle.session_model.proofs.BindableLemmas.{may_be_bound}
use Rattle.session_model.proofs.DeclaredLemmas.{declared_with_binding_taken}
use Rattle.session_model.proofs.FittingToldLemmas.{ending_fits}
use Rattle.session_model.proofs.KeepingLemmas.{Keeps, done, leaves_beside, leaves_with, refused, replied, told}
use Rattle.session_model.proofs.NamedLemmas.{named_with_binding_taken, tells_named}
use Rattle.session_model.proofs.ShowingLemmas.{ending, ending_stays, tells}
use Rattle.session_model.proofs.StateLemmas.{whole_with_binding, whole_with_binding_taken, whole_with_group, whole_without_group}
use Rattle.session_model.specs.Asked.{Begin, Bind, End, Unbind}
use Rattle.session_model.specs.Binding.{Bound, asked_binding, asked_property, begins, binding_refusal, binds_found, ends, unbinds_found}
use Rattle.session_model.specs.Refusing.{refusal}
use Rattle.session_model.specs.State.{with_binding}
use Rattle.session_model.specs.Thread.{Settings, performs}
use Rattle.session_model.specs.declared.line.Answer.TheVariants as a
use Rattle.binding_values.specs.Graph as graph
use Rattle.session_model.proofs.FittingClassLemmas.{fits_own}

module _ (settings : Settings) (self : List ℕ) (state : State) where
  module _ (target : ℕ) (property : List ℕ) (to : Data) where
    pub refusal_bind : refusal settings self state (Bind target property to) ≡ binding_refusal state (asked_binding state target property to)
    unfolding refusal
    refusal_bind = refl

    -- what was looked for is refused only where there are too many bindings
    pub bind_found : (bound : Bound) → asked_binding state target property to ≡ Ok bound
        → refusal settings self state (Bind target property to) ≡ bind_refusal state.graph bound.at
    bind_found _ found = refusal_bind ∙ ap (binding_refusal state) found

    pub performs_bind : performs settings self state (Bind target property to) ≡ binds_found settings state (asked_binding state target property to)
    unfolding performs
    performs_bind = refl

    -- what was asked to be bound is bound, and then told of
    pub bind_done : (bound : Bound) → asked_binding state target property to ≡ Ok bound
        → performs settings self state (Bind target property to)
        ≡ does_next settings (comes_to settings (begun settings state) 0 (with_binding state bound.at bound.term) (Some bound.at)) (a.Truth true)
    bind_done _ found = performs_bind ∙ ap (binds_found settings state) found

  module _ (target : ℕ) (property : List ℕ) where
    pub refusal_unbind : refusal settings self state (Unbind target property) ≡ result_err (asked_property state target property)
    unfolding refusal
    refusal_unbind = refl

    pub performs_unbind : performs settings self state (Unbind target property) ≡ unbinds_found settings state (asked_property state target property)
    unfolding performs
    performs_unbind = refl

    -- what the property shows is stored, and then told of
    pub unbind_done : (at : Property) → asked_property state target property ≡ Ok at
        → performs settings self state (Unbind target property)
        ≡ does_next settings (comes_to settings (begun settings state) 0 (with_binding_taken state at) (Some at))
        (a.Truth (is_bound state.graph.bindings at))
    unbind_done _ found = performs_unbind ∙ ap (unbinds_found settings state) found

  pub refusal_begin : refusal settings self state Begin ≡ begin_refusal state.graph
  unfolding refusal
  refusal_begin = refl

  pub performs_begin : performs settings self state Begin ≡ begins state
  unfolding performs
  performs_begin = refl

  pub refusal_end : refusal settings self state End ≡ end_refusal state.graph
  unfolding refusal
  refusal_end = refl

  pub performs_end : performs settings self state End ≡ ends settings state
  unfolding performs
  performs_end = refl

module _ (settings : Settings) (state : State) where
  -- what was asked to be bound is told of
  pub bind_keeps : (target : ℕ) (property : List ℕ) (to : Data) → binding_refusal state (asked_binding state target property to) ≡ None
      → Keeps settings state (Bind target property to) (binds_found settings state (asked_binding state target property to))
  bind_keeps target property to = by (asked_binding state target property to) refl
    where
      by : (found : Found Bound) → asked_binding state target property to ≡ found → binding_refusal state found ≡ None
          → Keeps settings state (Bind target property to) (binds_found settings state found)
      by (Err code) is passed = refused
      by (Ok bound) is passed =
          let its = may_be_bound state target property to bound is in
          told (with_binding state bound.at bound.term) (Some bound.at) (a.Truth true)
          (leaves_beside (λ sound. whole_with_binding bound.at bound.term its.bindable its.short passed sound.whole) fits_own)

  pub unbind_keeps : (target : ℕ) (property : List ℕ) → Keeps settings state (Unbind target property)
      (unbinds_found settings state (asked_property state target property))
  unbind_keeps target property = by (asked_property state target property)
    where
      by : (found : Found Property) → Keeps settings state (Unbind target property) (unbinds_found settings state found)
      by (Err code) = refused
      by (Ok at) = told (with_binding_taken state at) (Some at) (a.Truth (is_bound state.graph.bindings at))
          (leaves_with (λ sound. whole_with_binding_taken at sound.whole)
          (λ declared. declared_with_binding_taken settings.classes state declared at) (λ before. fits_own before.fit)
          (λ asked named. named_with_binding_taken state named at) (λ plain test held. held))

  pub begin_keeps : begin_refusal state.graph ≡ None → Keeps settings state Begin (begins state)
  begin_keeps passed = replied (leaves_beside (λ sound. whole_with_group passed sound.whole) fits_own)

  pub end_keeps : Keeps settings state End (ends settings state)
  end_keeps = done (ending settings state) (a.Number after.graph.depth) (record {
    none = ending_stays settings state;
    leaves = leaves_beside (λ sound. whole_without_group sound.whole) fits_own;
    items = λ fits. ending_fits settings fits.are.table state fits.sound.whole (whole_without_group fits.sound.whole) fits.declared;
    posts = All-nil IsRightPost;
    names = λ are is named. cond_both (is_open after.graph) [] changed (All IsNamedItem) (λ deep. All-nil IsNamedItem) (λ last. tells_named settings after 0 _);
  })
    where
      after : State
      after = without_group state

      changed : List Item
      changed = tells settings after 0 (graph.changes state.graph.last (showing after) None)
