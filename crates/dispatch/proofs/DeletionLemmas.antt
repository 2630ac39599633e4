-- Deleting by nested calls: a rule for each way that an item goes.
use Rattle.std.proofs.Common.{◌≡◌, ◌<◌, ◌≤◌, ℕ, true, false, List, [], ◌∷◌, map, Some, None, Ok, sym, ap, ◌∙◌, arith}
use Rattle.binding_values.specs.declared.change.Change.{Change}
use Rattle.object_tree.specs.Changes.{marked}
use Rattle.object_tree.specs.Rows.{children}
use Rattle.session_model.specs.declared.call.TheConstants.{DESTROYED}
use Rattle.session_model.specs.Agenda.{delete_children, lives, lives_below, step}
use Rattle.session_model.specs.declared.post.Post.{Post}
use Rattle.session_model.specs.Execution.{Execution, dying, in_state, severed}
use Rattle.session_model.specs.Items.{Detach, Delete, Emit, Remove, Item, DeleteChild, Next, puts}
use Rattle.session_model.specs.Run.{run}
use Rattle.session_model.specs.Settings.{Settings}
use Rattle.session_model.specs.Showing.{changes}
use Rattle.session_model.specs.State.{State, without_object, without_ties}
use Rattle.session_model.proofs.ForCallers as rule
use Rattle.session_model.proofs.ForCallers.{living_rows, after_first, at_end, by_change, by_step, dying_less, severed_shrinks}
use Rattle.session_tables.specs.declared.tables.Tables.{Tables}
use Rattle.session_tables.specs.Tables.{IsPlaced, state_at, with_state}
use Rattle.session_tables.proofs.ForCallers.{state_with}
use Rattle.dispatch.specs.declared.command_output.CommandOutput.{CommandOutput}
use Rattle.dispatch.specs.Agenda.{RunsNext}
use Rattle.dispatch.specs.CommandOutput.{doing_at}
use Rattle.session_effects.specs.declared.session_context.SessionContext.{SessionContext}
use Rattle.session_effects.specs.Actions.{KeepsOthers}
use Rattle.session_effects.specs.Setup.{settings_of}
use Rattle.session_effects.specs.Writing.{told_items}
use Rattle.session_effects.proofs.ForCallers.{keeps_with}
use Rattle.dispatch.proofs.AgendaLemmas.{left_at}
use Rattle.dispatch.proofs.RunsLemmas.{here}
use Rattle.dispatch.proofs.ProgressLemmas.{Progress, changes_to, first_done, starts}

-- the state with an object that is dying
abbrev pub dying_in : State → ℕ → State
dying_in state target = record state { forest = marked state.forest target }

-- a session in which another state was put
module _ (place target : ℕ) (old new : Tables) (output : CommandOutput) (earlier : List Post) (placed : IsPlaced old place) where
  put_there : (state : State) → new ≡ with_state old place state → doing_at place new output earlier ≡ in_state (doing_at place old output earlier) state
  put_there state e = ap (λ (state : State). in_state (doing_at place old output earlier) state) (state_with old new place state placed e)

  marked_is : new ≡ with_state old place (dying_in (state_at old place) target)
      → doing_at place new output earlier ≡ dying (doing_at place old output earlier) target
  unfolding dying
  marked_is e = put_there (dying_in (state_at old place) target) e

  severed_is : new ≡ with_state old place (without_ties (state_at old place) target)
      → doing_at place new output earlier ≡ severed (doing_at place old output earlier) target
  unfolding severed
  severed_is e = put_there (without_ties (state_at old place) target) e

  -- an object that goes is told of by these changes
  pub gone_told : (settings : Settings) (depth : ℕ) (told : List Change) → told ≡ changes (state_at old place) (state_at new place) None
      → new ≡ with_state old place (without_object (state_at old place) target)
      → step settings (Remove target depth) (doing_at place old output earlier)
      ≡ puts (told_items settings (state_at new place) depth told) (doing_at place new output earlier)
  gone_told settings depth told e f =
      let there : state_at new place ≡ without_object (state_at old place) target = state_with old new place _ placed f in
      rule.gone_now settings target depth (doing_at place old output earlier)
      ∙ ap (λ (state : State). puts (told_items settings state depth (changes (state_at old place) state None))
      (in_state (doing_at place old output earlier) state)) (sym there)
      ∙ ap (λ (told : List Change). puts (told_items settings (state_at new place) depth told) (doing_at place new output earlier)) (sym e)

  -- marking a living object leaves less to do
  pub left_marked : lives (doing_at place old output earlier) target ≡ true → new ≡ with_state old place (dying_in (state_at old place) target)
      → left_at place new output < left_at place old output
  left_marked living e =
      let less = dying_less (doing_at place old output earlier) target living in
      let same : living_rows (state_at new place).forest.rows ≡ living_rows (dying (doing_at place old output earlier) target).state.forest.rows =
      ap (λ (doing : Execution). living_rows doing.state.forest.rows) (marked_is e) in
      omega (arith, less, same)

  -- what breaks its ties leaves as much
  pub left_severed : new ≡ with_state old place (without_ties (state_at old place) target) → left_at place new output ≤ left_at place old output
  left_severed e =
      let less = (severed_shrinks (doing_at place old output earlier) target).living in
      let same : living_rows (state_at new place).forest.rows ≡ living_rows (severed (doing_at place old output earlier) target).state.forest.rows =
      ap (λ (doing : Execution). living_rows doing.state.forest.rows) (severed_is e) in
      omega (arith, less, same)

module _ (settings : Settings) (target depth : ℕ) where
  -- the children that are still to be deleted
  abbrev pub delete_children_from : List ℕ → List Item
  delete_children_from found = map (λ child. DeleteChild target child depth) found

  pub delete_none : (doing : Execution) → lives doing target ≡ false → run settings (Delete target depth ∷ []) doing ≡ doing
  delete_none doing dead = by_change settings (Delete target depth) doing doing (rule.delete_none settings target depth doing dead)

  -- what ties a dying object to others is broken, and then there are its children
  pub detach_first : (place : ℕ) (old new : Tables) (output : CommandOutput) (earlier : List Post) → IsPlaced old place → (found : List ℕ)
      → found ≡ children (state_at old place).forest.rows (Some target)
      → new ≡ with_state old place (without_ties (state_at old place) target)
      → run settings (delete_children_from found) (doing_at place new output earlier)
      ≡ run settings (Detach target depth ∷ []) (doing_at place old output earlier)
  unfolding delete_children
  detach_first place old new output earlier placed found e f =
      ap (run settings (delete_children_from found)) (severed_is place target old new output earlier placed f)
      ∙ ap (λ numbers. run settings (delete_children_from numbers) (severed (doing_at place old output earlier) target)) e
      ∙ sym (by_step settings (Detach target depth) (doing_at place old output earlier) _
      (rule.detach_delete_children settings target depth (doing_at place old output earlier)))

  pub delete_child_none : (child : ℕ) (doing : Execution) → lives_below doing target child ≡ false
      → run settings (DeleteChild target child depth ∷ []) doing ≡ doing
  delete_child_none child doing other = by_change settings (DeleteChild target child depth) doing doing
      (rule.delete_child_none settings target child depth doing other)

  pub delete_child_some : (child : ℕ) (doing new : Execution) → lives_below doing target child ≡ true → run settings (Delete child depth ∷ []) doing ≡ new
      → run settings (DeleteChild target child depth ∷ []) doing ≡ new
  delete_child_some child doing new living does = by_step settings (DeleteChild target child depth) doing _
      (rule.delete_child_some settings target child depth doing living) ∙ does

-- a living object is marked, and then it says that it goes, what ties it is cut, and it goes
pub marks : (caller : SessionContext) (target depth : ℕ) (old dead : Tables) (before : CommandOutput) → IsPlaced old caller.place
    → lives (doing_at caller.place old before []) target ≡ true → dead ≡ with_state old caller.place (dying_in (state_at old caller.place) target)
    → Progress 1 caller (here caller (Delete target depth ∷ []) old before)
    (here caller (Emit target DESTROYED [] depth ∷ Detach target depth ∷ Remove target depth ∷ []) dead before) old dead before before
marks caller target depth old dead before placed living marked =
    let settings = settings_of caller.setup.now in
    let less = left_marked caller.place target old dead before [] placed living marked in
    starts placed (keeps_with old dead caller.place _ placed marked) (omega (arith, less))
    (λ earlier.
    ap (run settings (Emit target DESTROYED [] depth ∷ Detach target depth ∷ Remove target depth ∷ []))
    (marked_is caller.place target old dead before earlier placed marked)
    ∙ sym (by_step settings (Delete target depth) (doing_at caller.place old before earlier) _
    (rule.delete_some settings target depth (doing_at caller.place old before earlier) living)))

-- so far it is marked, and has said that it goes
pub says : {caller : SessionContext} {target depth : ℕ} {dead sent : Tables} {before between : CommandOutput} {T E : Type 0} {said : T} (old : Tables)
    → IsPlaced old caller.place → lives (doing_at caller.place old before []) target ≡ true
    → dead ≡ with_state old caller.place (dying_in (state_at old caller.place) target)
    → RunsNext {E = E} caller (here caller (Emit target DESTROYED [] depth ∷ []) dead before) dead sent before between (Ok said)
    → Progress 1 caller (here caller (Delete target depth ∷ []) old before) (here caller (Detach target depth ∷ Remove target depth ∷ []) sent between)
    old sent before between
says {caller} {target} {depth} {dead} {before = before} old placed living marked does =
    first_done (marks caller target depth old dead before placed living marked) placed does

-- it goes, and what has changed is told
pub goes : {fewer : ℕ} {caller : SessionContext} {whole : List Post → Next} {target depth : ℕ} {old now gone : Tables} {before between : CommandOutput}
    {told : List Change}
    → Progress fewer caller whole (here caller (Remove target depth ∷ []) now between) old now before between → IsPlaced old caller.place
    → KeepsOthers caller.place now gone → told ≡ changes (state_at now caller.place) (state_at gone caller.place) None
    → gone ≡ with_state now caller.place (without_object (state_at now caller.place) target)
    → Progress fewer caller whole (here caller (told_items (settings_of caller.setup.now) (state_at gone caller.place) depth told) gone between)
    old gone before between
goes {caller = caller} {target = target} {depth = depth} {now = now} {gone = gone} {between = between} {told = told} progress placed keeps is removed =
    changes_to progress placed keeps (λ earlier.
    gone_told caller.place target now gone between earlier progress.placed (settings_of caller.setup.now) depth told is removed)

-- what ties a dying object to others is cut, and then its children are deleted
pub cuts : (caller : SessionContext) (target depth : ℕ) (old loose : Tables) (before : CommandOutput) → IsPlaced old caller.place → (found : List ℕ)
    → found ≡ children (state_at old caller.place).forest.rows (Some target)
    → loose ≡ with_state old caller.place (without_ties (state_at old caller.place) target)
    → Progress 0 caller (here caller (Detach target depth ∷ []) old before) (here caller (map (λ child. DeleteChild target child depth) found) loose before)
    old loose before before
cuts caller target depth old loose before placed found is severed =
    let less = left_severed caller.place target old loose before [] placed severed in
    starts placed (keeps_with old loose caller.place _ placed severed) (omega (arith, less))
    (λ earlier. detach_first (settings_of caller.setup.now) target depth caller.place old loose before earlier placed found is severed)
