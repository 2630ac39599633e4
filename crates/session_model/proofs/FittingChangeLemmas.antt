-- After each change what a session holds still fits the objects of some rows, and what it has posted is right.
use Rattle.std.proofs.Common.{◌≡◌, ◌+◌, ◌==◌, ℕ, Bool, true, not, List, [], ◌∷◌, ◌++◌, None, refl}
use Rattle.std.specs.List.{All}
use Rattle.std.proofs.lemmas.Bool.{cond_both}
use Rattle.std.proofs.lemmas.List.Elements.{All-append, All-cons, All-filter, All-nil, All-push}
use Rattle.session_model.proofs.Common.{TurnsUsedUp, Connection, matches, touches, Rows, has_number, numbered, Event, QueuedCall, Queue, has_room, Row, Join}
use Rattle.session_model.proofs.Common.{Publication, all_stepped, Operation, Line, Warning, Post, queued, with_operation, Execution, in_state, IsConnected}
use Rattle.session_model.proofs.Common.{IsFittingOperation, IsFittingEvent, IsFittingItem, IsJoined, IsPublished, IsRightPost, Item, Next, puts, Settings}
use Rattle.session_model.proofs.Common.{State, with_event, without_connections, Nothing, Writing, with_writing, Desk}
use Rattle.event_queue.specs.declared.event.Event.TheVariants as event
use Rattle.session_model.specs.declared.operation.Operation.TheVariants as d
use Rattle.session_model.specs.Operations.{operation_done}
use Rattle.session_model.specs.Execution.{dying, first_taken, lost, enqueued, posting, severed, single_shot_broken, line_told}
use Rattle.session_model.specs.Execution.{turn_taken, used_up, stepped}
use Rattle.session_model.proofs.FittingClassLemmas.{AllFit, Fits}
use Rattle.session_model.proofs.QueueLemmas.{each_dropped, each_posted, each_taken}

module _ (settings : Settings) (rows : List Row) where
  -- what a session holds fits the objects of these rows, and what it has posted is right
  pub record AllCarried (queue : Queue) (connections : Rows) (desk : Desk) (posted : List Post) : Type 0 where
    pub fits : AllFit settings rows queue connections desk
    pub posts : All IsRightPost posted

  abbrev pub Carries : Execution → Type 0
  Carries doing = AllCarried doing.state.queue doing.state.connections doing.state.desk doing.posts

  -- and so after an item, with all that is to be done first then
  pub record Comes (next : Next) : Type 0 where
    pub carries : Carries next.doing
    pub items : All (IsFittingItem settings next.doing.state) next.items

module _ {settings : Settings} {rows : List Row} where
  -- fewer connections fit
  pub fits_without : (state : State) (test : Connection → Bool) → Fits settings rows state → Fits settings rows (without_connections state test)
  fits_without state test fit = record {
    events = fit.events;
    connections = All-filter (λ row. not (test row)) (IsConnected settings rows) state.connections.rows fit.connections;
    publications = fit.publications;
    joins = fit.joins;
  }

  -- and one more event that fits
  pub fits_event : (state : State) (event : Event) → IsFittingEvent settings rows event → Fits settings rows state → Fits settings rows (with_event state event)
  fits_event state event new fit = record {
    events = each_posted (IsFittingEvent settings rows) state.queue event new fit.events;
    connections = fit.connections;
    publications = fit.publications;
    joins = fit.joins;
  }

  pub fits_operation : (state : State) (operation : Operation) → IsFittingOperation settings rows operation → Fits settings rows state
      → Fits settings rows (with_operation state operation)
  fits_operation state (d.Connect new unique) may fit = record {
    events = fit.events;
    connections = All-push (IsConnected settings rows) state.connections.rows (numbered (state.connections.last_number + 1) new) fit.connections may;
    publications = fit.publications;
    joins = fit.joins;
  }
  fits_operation state (d.Disconnect pattern) may fit = fits_without state (matches pattern) fit
  fits_operation state (d.DeleteLater target) may fit = fits_event state (event.Deletion target) tt fit
  fits_operation state _ may fit = fit

  pub fits_writing : (state : State) (object : ℕ) (writing : Writing) → Fits settings rows state → Fits settings rows (with_writing state object writing)
  fits_writing state object Nothing fit = fit
  fits_writing state object _ fit = fit

  module _ (doing : Execution) (on : Carries settings rows doing) where
    pub told_carries : (said : Line) → Carries settings rows (line_told doing said)
    unfolding line_told
    told_carries said = on

    pub posting_carries : (more : List Post) → All IsRightPost more → Carries settings rows (posting doing more)
    unfolding posting
    posting_carries more right = record { fits = on.fits; posts = All-append IsRightPost doing.posts more on.posts right }

    pub turn_carries : Carries settings rows (turn_taken doing)
    unfolding turn_taken
    turn_carries = on

    pub used_up_carries : Carries settings rows (used_up doing)
    unfolding used_up
    used_up_carries = cond_both doing.spent doing (record doing { spent = true; lines = doing.lines ++ Warning TurnsUsedUp None ∷ [] })
        (Carries settings rows) (λ spent. on) (λ fresh. on)

    pub shot_carries : (row : Connection) → Carries settings rows (single_shot_broken doing row)
    unfolding single_shot_broken
    shot_carries row = cond_both row.single (in_state doing (without_connections doing.state (has_number row.number))) doing (Carries settings rows)
        (λ single. record { fits = fits_without doing.state (has_number row.number) on.fits; posts = on.posts }) (λ lasting. on)

    pub stepped_carries : (number next : ℕ) → Carries settings rows (stepped doing number next)
    unfolding stepped
    stepped_carries number next = record {
      fits = record {
        events = on.fits.events;
        connections = all_stepped number next (IsConnected settings rows)
            (λ row may. record { signal_there = may.signal_there; callee = may.callee; fitting = may.fitting }) doing.state.connections.rows
            on.fits.connections;
        publications = on.fits.publications;
        joins = on.fits.joins;
      };
      posts = on.posts;
    }

    posted_carries : (event : Event) → IsFittingEvent settings rows event → Carries settings rows (enqueued doing event)
    unfolding enqueued
    posted_carries event new = record { fits = fits_event doing.state event new on.fits; posts = on.posts }

    lost_carries : Carries settings rows (lost doing)
    unfolding lost
    lost_carries = record {
      fits = record { events = on.fits.events; connections = on.fits.connections; publications = on.fits.publications; joins = on.fits.joins };
      posts = on.posts;
    }

    pub queued_carries : (call : QueuedCall) → IsFittingEvent settings rows (event.Call call) → Carries settings rows (queued doing call)
    queued_carries call new = cond_both (has_room doing.state.queue) (enqueued doing (event.Call call)) (lost doing) (Carries settings rows)
        (λ room. posted_carries (event.Call call) new) (λ full. lost_carries)

    pub first_carries : Carries settings rows (first_taken doing)
    unfolding first_taken
    first_carries = record {
      fits = record {
        events = each_taken (IsFittingEvent settings rows) doing.state.queue on.fits.events;
        connections = on.fits.connections;
        publications = on.fits.publications;
        joins = on.fits.joins;
      };
      posts = on.posts;
    }

    pub done_carries : (operation : Operation) → IsFittingOperation settings rows operation → Carries settings rows (operation_done doing operation)
    unfolding operation_done
    done_carries operation may = record { fits = fits_operation doing.state operation may on.fits; posts = on.posts }

    pub dying_carries : (target : ℕ) → Carries settings rows (dying doing target)
    unfolding dying
    dying_carries target = on

    pub severed_carries : (target : ℕ) → Carries settings rows (severed doing target)
    unfolding severed
    severed_carries target = record {
      fits = record {
        events = each_dropped (IsFittingEvent settings rows) target doing.state.queue on.fits.events;
        connections = All-filter (λ row. not (touches target row)) (IsConnected settings rows) doing.state.connections.rows on.fits.connections;
        publications = All-filter (λ (row : Publication). not (row.object == target))
            (IsPublished settings rows) doing.state.desk.publications on.fits.publications;
        joins = All-filter (λ (join : Join). not (join.object == target)) (IsJoined settings rows) doing.state.desk.joins on.fits.joins;
      };
      posts = on.posts;
    }

  -- nothing more is to be done, or one thing
  pub no_item : {doing : Execution} → Carries settings rows doing → Comes settings rows (puts [] doing)
  no_item {doing} on = record { carries = on; items = All-nil (IsFittingItem settings doing.state) }

  pub one_item : {doing : Execution} {item : Item} → Carries settings rows doing → IsFittingItem settings doing.state item
      → Comes settings rows (puts (item ∷ []) doing)
  one_item {doing} {item} on fit = record {
    carries = on;
    items = All-cons (IsFittingItem settings doing.state) item [] fit (All-nil (IsFittingItem settings doing.state));
  }

-- a turn, and a single-shot connection that is broken, leave the objects
pub turn_rows : (doing : Execution) → (turn_taken doing).state.forest.rows ≡ doing.state.forest.rows
unfolding turn_taken
turn_rows doing = refl

pub shot_rows : (doing : Execution) (row : Connection) → (single_shot_broken doing row).state.forest.rows ≡ doing.state.forest.rows
unfolding single_shot_broken
shot_rows doing row = cond_both row.single (in_state doing (without_connections doing.state (has_number row.number))) doing
    (λ (new : Execution). new.state.forest.rows ≡ doing.state.forest.rows) (λ single. refl) (λ lasting. refl)

pub first_rows : (doing : Execution) → (first_taken doing).state.forest.rows ≡ doing.state.forest.rows
unfolding first_taken
first_rows doing = refl
