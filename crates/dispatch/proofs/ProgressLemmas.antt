-- How far a sequence of nested calls has come.
use Rattle.std.proofs.Common.{◌≡◌, ◌<◌, ◌≤◌, ◌+◌, ◌*◌, ◌++◌, ℕ, List, [], ◌∷◌, length, map, drop, Result, Ok, Err, refl, sym, ap, subst, ◌∙◌, arith}
use Rattle.std.specs.Result.{IsErr}
use Rattle.std.proofs.lemmas.List.{drop_all}
use Rattle.session_model.specs.declared.post.Post.{Post}
use Rattle.session_model.specs.Agenda.{step}
use Rattle.session_model.specs.declared.call.TheConstants.{NESTED_SIGNALS}
use Rattle.session_model.specs.Execution.{Execution}
use Rattle.session_model.specs.Items.{Item, Next, puts}
use Rattle.session_model.specs.Run.{run}
use Rattle.session_model.specs.Settings.{Settings}
use Rattle.session_model.proofs.ForCallers.{after_first, at_end, by_step}
use Rattle.session_tables.specs.declared.tables.Tables.{Tables}
use Rattle.session_tables.specs.Tables.{IsPlaced}
use Rattle.session_effects.specs.Actions.{KeepsOthers}
use Rattle.session_effects.specs.declared.session_context.SessionContext.{SessionContext}
use Rattle.session_effects.specs.Setup.{settings_of}
use Rattle.session_effects.proofs.ForCallers.{placed_kept}
use Rattle.dispatch.specs.declared.command_output.CommandOutput.{CommandOutput}
use Rattle.dispatch.specs.Agenda.{MayNest, RunsNext}
use Rattle.dispatch.specs.CommandOutput.{doing_at}
use Rattle.dispatch.specs.Prefix.{IsPrefix}
use Rattle.dispatch.proofs.AgendaLemmas.{left_at, left_falls, left_stepped, left_to_do, longest_of, rank_falls, round_falls}
use Rattle.dispatch.proofs.PrefixLemmas.{part_front}
use Rattle.dispatch.proofs.RunsLemmas.{SoFar, done_by, far_end, far_last, far_next, far_none, far_wanting, here, placed_reached, reaches_kept}

-- of all that something comes to a part is done, and this is the rest: the place is still one, and at least so many calls
-- and deletions fewer are left
pub record Progress (fewer : ℕ) (caller : SessionContext) (whole rest : List Post → Next) (old now : Tables) (before between : CommandOutput) : Type 0 where
  pub so : SoFar caller whole rest old now before between
  pub placed : IsPlaced now caller.place
  pub left : left_at caller.place now between + fewer ≤ left_at caller.place old before

-- at first the session may change
pub starts : {fewer : ℕ} {caller : SessionContext} {whole rest : List Post → Next} {old now : Tables} {before : CommandOutput} → IsPlaced old caller.place
    → KeepsOthers caller.place old now → left_at caller.place now before + fewer ≤ left_at caller.place old before
    → ((earlier : List Post) → done_by caller (rest earlier) ≡ done_by caller (whole earlier)) → Progress fewer caller whole rest old now before before
starts {fewer} {caller} {whole} {rest} {old} {now} {before} placed keeps left first = record {
  so = far_none caller whole old before placed rest now before keeps refl first;
  placed = placed_kept old now caller.place keeps placed;
  left = left;
}

-- so a nested call may be made
pub nests : {fewer depth : ℕ} {caller : SessionContext} {whole rest : List Post → Next} {old now : Tables} {before between : CommandOutput}
    → Progress fewer caller whole rest old now before between → depth ≤ NESTED_SIGNALS → MayNest caller now depth
nests progress within = record { placed = progress.placed; within = within }

-- a call that is made meanwhile counts for less: it has a lower rank, or less is left
module _ {caller : SessionContext} {whole rest : List Post → Next} {old now : Tables} {before between : CommandOutput} (rank next : ℕ) where
  pub ranks_lower : Progress 0 caller whole rest old now before between → next < rank
      → left_to_do caller now between next < left_to_do caller old before rank
  ranks_lower progress lower = let left = progress.left in rank_falls caller old now before between rank next (omega (arith, left)) lower

  pub leaves_less : Progress 1 caller whole rest old now before between → next < rank + 100 + 2 * longest_of caller
      → left_to_do caller now between next < left_to_do caller old before rank
  leaves_less progress within = round_falls caller old now before between rank next progress.left within

-- these items are left
module _ {fewer : ℕ} {caller : SessionContext} {whole : List Post → Next} {items : List Item} {old now : Tables} {before between : CommandOutput}
    (progress : Progress fewer caller whole (here caller items now between) old now before between) (placed : IsPlaced old caller.place) where
  abbrev its : Settings
  its = settings_of caller.setup.now

  -- a step is done, and then others are left
  pub goes_on : {T E : Type 0} {value : T} {first : List Item} {new : Tables} {after : CommandOutput} (later : List Item)
      → RunsNext {E = E} caller (here caller first now between) now new between after (Ok value)
      → ((posts more : List Post) (done : Execution) → run its first (doing_at caller.place now between posts) ≡ doing_at caller.place new after more
      → run its items (doing_at caller.place now between posts) ≡ done → run its later (doing_at caller.place new after more) ≡ done)
      → Progress fewer caller whole (here caller later new after) old new before after
  goes_on {T} {E} {value} {first} {new} {after} later does on = record {
    so = far_next caller whole old before placed (here caller items now between) now between progress.so (here caller first now between) new after value
        (here caller later new after) does on;
    placed = placed_reached caller now new does.posts between.failing after.failing does.reaches progress.placed;
    left = let less = left_falls its first caller.place now new between after [] does.posts (does.runs []) in let left = progress.left in
        omega (arith, less, left);
  }

  -- memory runs out in a step, and what is left posts only after what the step does
  pub stops : {T E T' E' : Type 0} {error : E} {end : Result T' E'} {first : List Item} {new : Tables} {after : CommandOutput} → IsErr end
      → RunsNext {T = T} caller (here caller first now between) now new between after (Err error)
      → ((posts : List Post) → IsPrefix (run its first (doing_at caller.place now between posts)).posts
      (run its items (doing_at caller.place now between posts)).posts)
      → RunsNext caller whole old new before after end
  stops {T} {E} {T'} {E'} {error} {end} {first} {new} {after} wanted does front = far_wanting caller whole old before placed (here caller items now between)
      now between progress.so (here caller first now between) new after error end wanted does front

  -- nothing is left to do
  pub ends : {T E : Type 0} {value : T}
      → ((posts : List Post) (done : Execution) → run its items (doing_at caller.place now between posts) ≡ done → done ≡ doing_at caller.place now between
      posts)
      → RunsNext {E = E} caller whole old now before between (Ok value)
  ends {T} {E} {value} end = far_end caller whole old before placed (here caller items now between) now between value progress.so end

  -- what is left is done
  pub finishes : {T E : Type 0} {new : Tables} {after : CommandOutput} {result : Result T E}
      → RunsNext caller (here caller items now between) now new between after result → RunsNext caller whole old new before after result
  finishes {T} {E} {new} {after} {result} does = far_last caller whole old before placed (here caller items now between) now between progress.so
      (here caller items now between) new after result does (λ posts done is. is)

-- an item is left, and others after it
module _ {fewer : ℕ} {caller : SessionContext} {whole : List Post → Next} {item : Item} {items : List Item} {old now : Tables} {before between :
    CommandOutput}
    (progress : Progress fewer caller whole (here caller (item ∷ items) now between) old now before between) (placed : IsPlaced old caller.place) where
  -- it is done
  pub first_done : {T E : Type 0} {value : T} {new : Tables} {after : CommandOutput}
      → RunsNext {E = E} caller (here caller (item ∷ []) now between) now new between after (Ok value)
      → Progress fewer caller whole (here caller items new after) old new before after
  first_done does = goes_on progress placed items does (λ posts more done e rest. ap (run (settings_of caller.setup.now) items) (sym e)
      ∙ sym (after_first (settings_of caller.setup.now) item items (doing_at caller.place now between posts)) ∙ rest)

  -- memory runs out in it
  pub first_stops : {T E T' E' : Type 0} {error : E} {end : Result T' E'} {new : Tables} {after : CommandOutput} → IsErr end
      → RunsNext {T = T} caller (here caller (item ∷ []) now between) now new between after (Err error) → RunsNext caller whole old new before after end
  first_stops wanted does = stops progress placed wanted does (λ posts. part_front (settings_of caller.setup.now) items _ _
      (sym (after_first (settings_of caller.setup.now) item items (doing_at caller.place now between posts))))

-- the only item that is left changes the session itself, and puts these in its place
pub changes_to : {fewer : ℕ} {caller : SessionContext} {whole : List Post → Next} {item : Item} {more : List Item} {old now new : Tables}
    {before between : CommandOutput}
    → Progress fewer caller whole (here caller (item ∷ []) now between) old now before between → IsPlaced old caller.place → KeepsOthers caller.place now new
    → ((earlier : List Post)
    → step (settings_of caller.setup.now) item (doing_at caller.place now between earlier) ≡ puts more (doing_at caller.place new between earlier))
    → Progress fewer caller whole (here caller more new between) old new before between
changes_to {fewer} {caller} {whole} {item} {more} {old} {now} {new} {before} {between} progress placed keeps is = record {
  so = record {
    posts = progress.so.posts;
    runs = λ earlier. sym (by_step (settings_of caller.setup.now) item (doing_at caller.place now between (earlier ++ progress.so.posts)) _
        (is (earlier ++ progress.so.posts))) ∙ progress.so.runs earlier;
    reaches = reaches_kept caller progress.so.posts old now new before.failing between.failing placed progress.so.reaches keeps;
  };
  placed = placed_kept now new caller.place keeps progress.placed;
  left = let less = left_stepped (settings_of caller.setup.now) item more caller.place now new between [] (is []) in let left = progress.left in
      omega (arith, less, left);
}

-- an item is done for each element of a list, and those from an index on are left
module _ {A : Type 0} {fewer : ℕ} {caller : SessionContext} {whole : List Post → Next} {old now : Tables} {before between : CommandOutput} (item : A → Item)
    (xs : List A) (i : ℕ) (progress : Progress fewer caller whole (here caller (map item (drop i xs)) now between) old now before between)
    (placed : IsPlaced old caller.place) where
  module _ (x : A) (first : drop i xs ≡ x ∷ drop (i + 1) xs) where
    its_first : Progress fewer caller whole (here caller (item x ∷ map item (drop (i + 1) xs)) now between) old now before between
    its_first = subst (λ left. Progress fewer caller whole (here caller (map item left) now between) old now before between) first progress

    -- the next one is done
    pub next_done : {T E : Type 0} {value : T} {new : Tables} {after : CommandOutput}
        → RunsNext {E = E} caller (here caller (item x ∷ []) now between) now new between after (Ok value)
        → Progress fewer caller whole (here caller (map item (drop (i + 1) xs)) new after) old new before after
    next_done does = first_done its_first placed does

    -- memory runs out in the next one
    pub next_stops : {T E T' E' : Type 0} {error : E} {end : Result T' E'} {new : Tables} {after : CommandOutput} → IsErr end
        → RunsNext {T = T} caller (here caller (item x ∷ []) now between) now new between after (Err error) → RunsNext caller whole old new before after end
    next_stops wanted does = first_stops its_first placed wanted does

  -- all are done
  pub list_ends : {T E : Type 0} {value : T} → length xs ≤ i → RunsNext {E = E} caller whole old now before between (Ok value)
  list_ends past = ends (subst (λ left. Progress fewer caller whole (here caller (map item left) now between) old now before between)
      (drop_all i xs past) progress)
      placed (λ posts done e. sym e ∙ at_end (settings_of caller.setup.now) (doing_at caller.place now between posts))
