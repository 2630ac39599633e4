-- What nested calls do, one after another.
use Rattle.std.proofs.Common.{◌≡◌, ℕ, Bool, List, [], ◌++◌, Result, Ok, Err, OnErr, OnOk, refl, sym, ap, subst, ◌∙◌, append_assoc}
use Rattle.std.specs.Result.{IsErr}
use Rattle.std.proofs.lemmas.List.{append-nil}
use Rattle.session_model.specs.declared.post.Post.{Post}
use Rattle.session_model.specs.Execution.{Execution}
use Rattle.session_model.specs.Items.{Item, Next, puts}
use Rattle.session_model.specs.Run.{run}
use Rattle.session_tables.specs.declared.tables.Tables.{Tables}
use Rattle.session_tables.specs.Reaching.{Reaches}
use Rattle.session_model.specs.State.{State}
use Rattle.session_tables.specs.Tables.{IsPlaced, with_state}
use Rattle.session_tables.proofs.ForCallers.{placed_shaped, reaches_changed, reaches_twice}
use Rattle.session_effects.specs.Actions.{KeepsOthers}
use Rattle.session_effects.specs.declared.session_context.SessionContext.{SessionContext}
use Rattle.session_effects.specs.Setup.{settings_of}
use Rattle.session_effects.proofs.ForCallers.{keeps_same, keeps_with, placed_kept}
use Rattle.dispatch.specs.declared.command_output.CommandOutput.{CommandOutput}
use Rattle.dispatch.specs.Agenda.{RunsNext}
use Rattle.dispatch.specs.Prefix.{IsPrefix}
use Rattle.dispatch.specs.CommandOutput.{doing_at}
use Rattle.dispatch.proofs.PrefixLemmas.{front_both, front_nothing, front_same, run_front}

-- what follows from what a call has done, where it has
pub OnOk-map : {T E P Q : Type 0} (answer : Result T E) → (P → Q) → OnOk answer P → OnOk answer Q
OnOk-map (Ok value) f h = f h
OnOk-map (Err error) f h = tt

-- and where it wanted memory
pub OnErr-map : {T E P Q : Type 0} (answer : Result T E) → (P → Q) → OnErr answer P → OnErr answer Q
OnErr-map (Ok value) f h = tt
OnErr-map (Err error) f h = f h

pub on_error : {T E : Type 0} {Q : Type 0} (result : Result T E) → Q → OnErr result Q
on_error (Ok value) holds = tt
on_error (Err error) holds = holds

-- where memory was wanted, nothing is said of what was done
on_wanting : (Q : Type 0) {T E : Type 0} (result : Result T E) → IsErr result → OnOk result Q
on_wanting Q (Ok value) wanted = absurd (cc)
on_wanting Q (Err error) wanted = tt

-- all that something comes to, done to its end
abbrev pub done_by : SessionContext → Next → Execution
done_by caller next = run (settings_of caller.setup.now) next.items next.doing

-- what changes only the session itself posts nothing
pub reaches_none : (caller : SessionContext) (old new : Tables) (before after : Bool) → KeepsOthers caller.place old new → after ≡ before
    → Reaches caller.setup.now.classes caller.name.now caller.place [] old new before after
reaches_none caller old new before after keeps same =
    subst (Reaches caller.setup.now.classes caller.name.now caller.place [] old new before) (sym same)
    (reaches_changed caller.setup.now.classes caller.name.now caller.place old new before keeps.only keeps.failed)

module _ (caller : SessionContext) (next : List Post → Next) (old : Tables) (before : CommandOutput) where
  -- where something is posted only behind what was before
  module _ (begins : (earlier : List Post) → IsPrefix earlier (next earlier).doing.posts) where
    -- no post is the front of all posts
    none_front : (earlier : List Post) → IsPrefix (earlier ++ []) (done_by caller (next earlier)).posts
    none_front earlier = front_nothing earlier _ (run_front (settings_of caller.setup.now) earlier (next earlier) (begins earlier))

    -- what is done without a post
    pub next_none : {T E : Type 0} (new : Tables) (after : CommandOutput) (result : Result T E) → KeepsOthers caller.place old new
        → after.failing ≡ before.failing
        → OnOk result ((earlier : List Post) → done_by caller (next earlier) ≡ doing_at caller.place new after earlier)
        → RunsNext caller next old new before after result
    next_none new after result keeps same does = record {
      posts = [];
      runs = OnOk-map result (λ h earlier. h earlier ∙ ap (doing_at caller.place new after) (sym (append-nil earlier))) does;
      front = on_error result none_front;
      reaches = reaches_none caller old new before.failing after.failing keeps same;
    }

  -- what comes to something else when the session has changed, and is done by that
  pub does_after : {T E : Type 0} (other : List Post → Next) (middle new : Tables) (between after : CommandOutput) (result : Result T E)
      → IsPlaced old caller.place → KeepsOthers caller.place old middle → between.failing ≡ before.failing
      → ((earlier : List Post) (done : Execution) → done_by caller (other earlier) ≡ done → done_by caller (next earlier) ≡ done)
      → RunsNext caller other middle new between after result → RunsNext caller next old new before after result
  does_after other middle new between after result placed keeps same by does = record {
    posts = does.posts;
    runs = OnOk-map result (λ h earlier. by earlier _ (h earlier)) does.runs;
    front = OnErr-map result (λ h earlier. subst (λ (done : Execution). IsPrefix (earlier ++ does.posts) done.posts) (sym (by earlier _ refl)) (h earlier))
        does.front;
    reaches = reaches_twice caller.setup.now.classes caller.name.now caller.place
        [] does.posts old middle new before.failing between.failing after.failing placed
        (reaches_none caller old middle before.failing between.failing keeps same) does.reaches;
  }

  -- the same of a session that has not changed
  pub does_by : {T E : Type 0} (other : List Post → Next) (new : Tables) (after : CommandOutput) (result : Result T E)
      → ((earlier : List Post) (done : Execution) → done_by caller (other earlier) ≡ done → done_by caller (next earlier) ≡ done)
      → RunsNext caller other old new before after result → RunsNext caller next old new before after result
  does_by other new after result by does = record {
    posts = does.posts;
    runs = OnOk-map result (λ h earlier. by earlier _ (h earlier)) does.runs;
    front = OnErr-map result (λ h earlier. subst (λ (done : Execution). IsPrefix (earlier ++ does.posts) done.posts) (sym (by earlier _ refl)) (h earlier))
        does.front;
    reaches = does.reaches;
  }

-- items, at these tables
abbrev pub here : SessionContext → List Item → Tables → CommandOutput → List Post → Next
here caller items tables output posts = puts items (doing_at caller.place tables output posts)

-- items that are done without a post
module _ (caller : SessionContext) (items : List Item) (old : Tables) (before : CommandOutput) where
  pub does_none : {T E : Type 0} (new : Tables) (after : CommandOutput) (result : Result T E) → KeepsOthers caller.place old new
      → after.failing ≡ before.failing
      → OnOk result ((earlier : List Post) → done_by caller (here caller items old before earlier) ≡ doing_at caller.place new after earlier)
      → RunsNext caller (here caller items old before) old new before after result
  does_none new after result keeps same does = next_none caller (here caller items old before) old before front_same new after result keeps same does

-- items that only add to the output, or for which memory runs out at once
module _ {T E : Type 0} {caller : SessionContext} {items : List Item} {old : Tables} {before after : CommandOutput} {result : Result T E} where
  pub does_still : after.failing ≡ before.failing
      → OnOk result ((earlier : List Post) → done_by caller (here caller items old before earlier) ≡ doing_at caller.place old after earlier)
      → RunsNext caller (here caller items old before) old old before after result
  does_still same does = does_none caller items old before old after result (keeps_same old old caller.place refl) same does

  pub does_starved : IsErr result → after.failing ≡ before.failing → RunsNext caller (here caller items old before) old old before after result
  does_starved wanted same = does_still same (on_wanting _ result wanted)

-- what changes only the session itself afterwards posts nothing more
pub reaches_kept : (caller : SessionContext) (posts : List Post) (old now new : Tables) (before between : Bool) → IsPlaced old caller.place
    → Reaches caller.setup.now.classes caller.name.now caller.place posts old now before between → KeepsOthers caller.place now new
    → Reaches caller.setup.now.classes caller.name.now caller.place posts old new before between
reaches_kept caller posts old now new before between placed reaches keeps =
    subst (λ posts. Reaches caller.setup.now.classes caller.name.now caller.place posts old new before between) (append-nil posts)
    (reaches_twice caller.setup.now.classes caller.name.now caller.place posts [] old now new before between between placed reaches
    (reaches_none caller now new between between keeps refl))

-- a place stays one where another state is put at it
pub placed_with : (old new : Tables) (place : ℕ) (state : State) → IsPlaced old place → new ≡ with_state old place state → IsPlaced new place
placed_with old new place state placed e = placed_kept old new place (keeps_with old new place state placed e) placed

-- a place stays one
pub placed_reached : (caller : SessionContext) (old new : Tables) (posts : List Post) (before after : Bool)
    → Reaches caller.setup.now.classes caller.name.now caller.place posts old new before after → IsPlaced old caller.place → IsPlaced new caller.place
placed_reached caller old new posts before after reaches placed = placed_shaped old new caller.place reaches.shape placed

-- of all that something comes to a part is done, with these posts, and this is the rest
pub record SoFar (caller : SessionContext) (whole rest : List Post → Next) (old now : Tables) (before between : CommandOutput) : Type 0 where
  pub posts : List Post
  pub runs : (earlier : List Post) → done_by caller (rest (earlier ++ posts)) ≡ done_by caller (whole earlier)
  pub reaches : Reaches caller.setup.now.classes caller.name.now caller.place posts old now before.failing between.failing

module _ (caller : SessionContext) (whole : List Post → Next) (old : Tables) (before : CommandOutput) (placed : IsPlaced old caller.place) where
  -- at first the session may change
  pub far_none : (rest : List Post → Next) (now : Tables) (between : CommandOutput) → KeepsOthers caller.place old now → between.failing ≡ before.failing
      → ((earlier : List Post) → done_by caller (rest earlier) ≡ done_by caller (whole earlier)) → SoFar caller whole rest old now before between
  far_none rest now between keeps same first = record {
    posts = [];
    runs = λ earlier. ap (λ posts. done_by caller (rest posts)) (append-nil earlier) ∙ first earlier;
    reaches = reaches_none caller old now before.failing between.failing keeps same;
  }

  module _ (rest : List Post → Next) (now : Tables) (between : CommandOutput) (so : SoFar caller whole rest old now before between) (step : List Post → Next)
      (new : Tables) (after : CommandOutput) where
    joined : {T E : Type 0} (result : Result T E) (does : RunsNext caller step now new between after result)
        → Reaches caller.setup.now.classes caller.name.now caller.place (so.posts ++ does.posts) old new before.failing after.failing
    joined result does = reaches_twice caller.setup.now.classes caller.name.now caller.place so.posts does.posts old now new before.failing between.failing
        after.failing placed so.reaches does.reaches

    -- a step is done, and this is the rest then
    pub far_next : {T E : Type 0} (value : T) (later : List Post → Next) → RunsNext {E = E} caller step now new between after (Ok value)
        → ((posts more : List Post) (done : Execution) → done_by caller (step posts) ≡ doing_at caller.place new after more → done_by caller (rest posts) ≡ done
        → done_by caller (later more) ≡ done)
        → SoFar caller whole later old new before after
    far_next {T} {E} value later does on = record {
      posts = so.posts ++ does.posts;
      runs = λ earlier.
          ap (λ posts. done_by caller (later posts)) (sym (append_assoc earlier so.posts does.posts))
          ∙ on (earlier ++ so.posts) ((earlier ++ so.posts) ++ does.posts) _ (does.runs (earlier ++ so.posts)) (so.runs earlier);
      reaches = joined {T = T} {E = E} (Ok value) does;
    }

    -- what a step has posted until it stopped is the front of all, where the rest posts behind what the step does
    joined_front : (posts : List Post) → ((earlier : List Post) → IsPrefix (earlier ++ posts) (done_by caller (step earlier)).posts)
        → ((earlier : List Post) → IsPrefix (done_by caller (step earlier)).posts (done_by caller (rest earlier)).posts)
        → (earlier : List Post) → IsPrefix (earlier ++ (so.posts ++ posts)) (done_by caller (whole earlier)).posts
    joined_front posts stopped behind earlier =
        subst (λ (done : Execution). IsPrefix (earlier ++ (so.posts ++ posts)) done.posts) (so.runs earlier)
        (subst (λ front. IsPrefix front (done_by caller (rest (earlier ++ so.posts))).posts) (append_assoc earlier so.posts posts)
        (front_both ((earlier ++ so.posts) ++ posts) (done_by caller (step (earlier ++ so.posts))).posts (done_by caller (rest (earlier ++ so.posts))).posts
        (stopped (earlier ++ so.posts)) (behind (earlier ++ so.posts))))

    -- memory is wanted in a step
    pub far_wanting : {T E T' E' : Type 0} (error : E) (end : Result T' E') → IsErr end → RunsNext {T = T} caller step now new between after (Err error)
        → ((earlier : List Post) → IsPrefix (done_by caller (step earlier)).posts (done_by caller (rest earlier)).posts)
        → RunsNext caller whole old new before after end
    far_wanting {T} {E} error end wanted does behind = record {
      posts = so.posts ++ does.posts;
      runs = on_wanting _ end wanted;
      front = on_error end (joined_front does.posts does.front behind);
      reaches = joined {T = T} {E = E} (Err error) does;
    }

    -- the last step is done
    pub far_last : {T E : Type 0} (result : Result T E) → RunsNext caller step now new between after result
        → ((posts : List Post) (done : Execution) → done_by caller (step posts) ≡ done → done_by caller (rest posts) ≡ done)
        → RunsNext caller whole old new before after result
    far_last result does by = record {
      posts = so.posts ++ does.posts;
      runs = OnOk-map result (λ h earlier. sym (so.runs earlier) ∙ by (earlier ++ so.posts) _ (h (earlier ++ so.posts))
          ∙ ap (doing_at caller.place new after) (append_assoc earlier so.posts does.posts)) does.runs;
      front = OnErr-map result (λ h. joined_front does.posts h
          (λ earlier. subst (λ (done : Execution). IsPrefix (done_by caller (step earlier)).posts done.posts) (sym (by earlier _ refl))
          (front_same (done_by caller (step earlier)).posts))) does.front;
      reaches = joined result does;
    }

  -- nothing is left
  pub far_end : {T E : Type 0} (rest : List Post → Next) (now : Tables) (between : CommandOutput) (value : T) → SoFar caller whole rest old now before between
      → ((posts : List Post) (done : Execution) → done_by caller (rest posts) ≡ done → done ≡ doing_at caller.place now between posts)
      → RunsNext {E = E} caller whole old now before between (Ok value)
  far_end rest now between value so end = record {
    posts = so.posts;
    runs = λ earlier. end (earlier ++ so.posts) _ (so.runs earlier);
    front = tt;
    reaches = so.reaches;
  }

  -- memory is wanted while the session changes, and what is left posts only behind what was before
  pub far_stopped : {T E : Type 0} (rest : List Post → Next) (now new : Tables) (between : CommandOutput) (end : Result T E) → IsErr end
      → SoFar caller whole rest old now before between → KeepsOthers caller.place now new
      → ((earlier : List Post) → IsPrefix earlier (rest earlier).doing.posts) → RunsNext caller whole old new before between end
  far_stopped rest now new between end wanted so keeps begins = record {
    posts = so.posts;
    runs = on_wanting _ end wanted;
    front = on_error end (λ earlier. subst (λ (done : Execution). IsPrefix (earlier ++ so.posts) done.posts) (so.runs earlier)
        (run_front (settings_of caller.setup.now) (earlier ++ so.posts) (rest (earlier ++ so.posts)) (begins (earlier ++ so.posts))));
    reaches = reaches_kept caller so.posts old now new before.failing between.failing placed so.reaches keeps;
  }
