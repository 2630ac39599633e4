-- What each change leaves of what bounds a run: turns, objects and connections.
use Rattle.std.proofs.Common.{◌≡◌, ◌≤◌, ◌+◌, ◌-◌, ◌==◌, ℕ, Bool, true, false, not, cond, List, [], ◌∷◌, ◌++◌, length, filter, max, None, refl, arith}
use Rattle.std.proofs.lemmas.List.{length-append, length-map}
use Rattle.std.proofs.lemmas.Bool.{cond_both, eqb-false}
use Rattle.connection_list.specs.declared.limit.TheConstants.{CONNECTIONS}
use Rattle.connection_list.proofs.ForCallers.{stepped_row}
use Rattle.object_tree.specs.Rows.{has_number as has_object}
use Rattle.object_tree.specs.Changes.{marked, removed, with_blocked}
use Rattle.event_queue.specs.declared.event.Event.TheVariants as event
use Rattle.std.specs.List.{list_any}
use Rattle.session_model.proofs.Common.{TurnsUsedUp, Connection, matches, touches, has_number, numbered, Row, object_refusal, orphaned, Event, QueuedCall}
use Rattle.session_model.proofs.Common.{has_room, Line, Warning, Join, Post, lives, queued, Operation, operation_refusal, Execution, in_state, properties_in}
use Rattle.session_model.proofs.Common.{with_dynamic, with_value, without_dynamic, without_connections, without_object, Declared, Dynamic, Nothing, Removed}
use Rattle.session_model.proofs.Common.{Writing, with_writing}
use Rattle.session_model.specs.declared.operation.Operation.TheVariants as d
use Rattle.session_model.specs.Operations.{operation_done}
use Rattle.session_model.specs.Execution.{dying, first_taken, lost, enqueued, single_shot_broken, stepped, line_told, turn_taken, used_up}
use Rattle.session_model.specs.Execution.{posting, severed}
use Rattle.session_model.proofs.BindingLemmas.{fewer_without, many_changed}
use Rattle.session_model.proofs.ConnectionLemmas.{allowed, or_none}
use Rattle.session_model.proofs.DeskLemmas.{fewer_pass}
use Rattle.session_model.proofs.LivingLemmas.{all_orphaned-living, changed-as_many, filter-fewer, filter-living, living_rows, marked-one, reparented-as_many}

-- what bounds a run
pub record Bounds : Type 0 where
  pub turns : ℕ
  pub taken : ℕ
  pub living : ℕ
  pub objects : ℕ
  pub connections : ℕ
  pub properties : ℕ
  pub joins : List Join

abbrev pub bounds : Execution → Bounds
bounds doing = record {
  turns = doing.turns;
  taken = doing.taken;
  living = living_rows doing.state.forest.rows;
  objects = length doing.state.forest.rows;
  connections = max CONNECTIONS (length doing.state.connections.rows);
  properties = length (properties_in doing.state.store);
  joins = doing.state.desk.joins;
}

-- no bound has grown
pub record Fewer (old new : Bounds) : Type 0 where
  pub turns : new.turns ≤ old.turns
  -- every event that is taken takes a turn
  pub taken : new.turns + new.taken ≤ old.turns + old.taken
  pub living : new.living ≤ old.living
  pub objects : new.objects ≤ old.objects
  pub connections : new.connections ≤ old.connections
  pub properties : new.properties ≤ old.properties
  -- no join is made
  pub joins : (test : Join → Bool) → list_any test new.joins ≡ true → list_any test old.joins ≡ true

abbrev pub Shrinks : Execution → Execution → Type 0
Shrinks old new = Fewer (bounds old) (bounds new)

as_before : (old : Bounds) → Fewer old old
as_before old = record {
  turns = omega arith;
  taken = omega arith;
  living = omega arith;
  objects = omega arith;
  connections = omega arith;
  properties = omega arith;
  joins = λ test held. held;
}

after : (one two three : Bounds) → Fewer one two → Fewer two three → Fewer one three
after one two three first second = record {
  turns = omega (arith, first.turns, second.turns);
  taken = omega (arith, first.taken, second.taken);
  living = omega (arith, first.living, second.living);
  objects = omega (arith, first.objects, second.objects);
  connections = omega (arith, first.connections, second.connections);
  properties = omega (arith, first.properties, second.properties);
  joins = λ test held. first.joins test (second.joins test held);
}

-- where each bound is known to have grown no further
less : (old new : Bounds) → new.turns ≤ old.turns → new.turns + new.taken ≤ old.turns + old.taken → new.living ≤ old.living → new.objects ≤ old.objects
    → new.connections ≤ old.connections → new.properties ≤ old.properties
    → ((test : Join → Bool) → list_any test new.joins ≡ true → list_any test old.joins ≡ true) → Fewer old new
less old new turns taken living objects connections properties joins =
    record { turns = turns; taken = taken; living = living; objects = objects; connections = connections; properties = properties; joins = joins }

turns_less : (old : Bounds) (turns taken : ℕ) → turns ≤ old.turns → turns + taken ≤ old.turns + old.taken
    → Fewer old (record old { turns = turns; taken = taken })
turns_less old turns taken fewer both = let like = as_before old in
    less old (record old { turns = turns; taken = taken }) fewer both like.living like.objects like.connections like.properties like.joins

objects_less : (old : Bounds) (living objects : ℕ) → living ≤ old.living → objects ≤ old.objects
    → Fewer old (record old { living = living; objects = objects })
objects_less old living objects fewer some = let like = as_before old in
    less old (record old { living = living; objects = objects }) like.turns like.taken fewer some like.connections like.properties like.joins

connections_less : (old : Bounds) (connections : ℕ) → connections ≤ old.connections → Fewer old (record old { connections = connections })
connections_less old connections fewer = let like = as_before old in
    less old (record old { connections = connections }) like.turns like.taken like.living like.objects fewer like.properties like.joins

properties_less : (old : Bounds) (properties : ℕ) → properties ≤ old.properties → Fewer old (record old { properties = properties })
properties_less old properties fewer = let like = as_before old in
    less old (record old { properties = properties }) like.turns like.taken like.living like.objects like.connections fewer like.joins

pub same : (doing : Execution) → Shrinks doing doing
same doing = as_before (bounds doing)

pub both : (one two three : Execution) → Shrinks one two → Shrinks two three → Shrinks one three
both one two three first second = after (bounds one) (bounds two) (bounds three) first second

-- fewer rows are no more of them
kept : (n : ℕ) (test : Connection → Bool) (rows : List Connection) → max n (length (filter test rows)) ≤ max n (length rows)
kept n test rows = let fewer = filter-fewer test rows in omega (arith, fewer)

pub told_shrinks : (doing : Execution) (said : Line) → Shrinks doing (line_told doing said)
unfolding line_told
told_shrinks doing said = same doing

pub posting_shrinks : (doing : Execution) (more : List Post) → Shrinks doing (posting doing more)
unfolding posting
posting_shrinks doing more = same doing

pub used_up_shrinks : (doing : Execution) → Shrinks doing (used_up doing)
unfolding used_up
used_up_shrinks doing =
    cond_both doing.spent doing (record doing { spent = true; lines = doing.lines ++ Warning TurnsUsedUp None ∷ [] }) (Shrinks doing)
    (λ spent. same doing) (λ fresh. same doing)

pub turn_shrinks : (doing : Execution) → Shrinks doing (turn_taken doing)
unfolding turn_taken
turn_shrinks doing = turns_less (bounds doing) (doing.turns - 1) doing.taken (omega arith) (omega arith)

pub turn_taken-less : (doing : Execution) → (doing.turns == 0) ≡ false → (turn_taken doing).turns + 1 ≤ doing.turns
unfolding turn_taken
turn_taken-less doing some = let more = eqb-false doing.turns 0 some in omega (arith, more)

pub shot_shrinks : (doing : Execution) (row : Connection) → Shrinks doing (single_shot_broken doing row)
unfolding single_shot_broken
shot_shrinks doing row =
    cond_both row.single (in_state doing (without_connections doing.state (has_number row.number))) doing (Shrinks doing)
    (λ single. connections_less (bounds doing) _ (kept CONNECTIONS (λ other. not (has_number row.number other)) doing.state.connections.rows))
    (λ lasting. same doing)

pub stepped_shrinks : (doing : Execution) (number next : ℕ) → Shrinks doing (stepped doing number next)
unfolding stepped
stepped_shrinks doing number next =
    let many = length-map doing.state.connections.rows (stepped_row number next) in
    connections_less (bounds doing) _ (omega (arith, many))

pub severed_shrinks : (doing : Execution) (target : ℕ) → Shrinks doing (severed doing target)
unfolding severed
severed_shrinks doing target = let like = same doing in record {
  turns = like.turns;
  taken = like.taken;
  living = like.living;
  objects = like.objects;
  connections = kept CONNECTIONS (λ row. not (touches target row)) doing.state.connections.rows;
  properties = like.properties;
  joins = λ test held. fewer_pass test (λ join. not (join.object == target)) doing.state.desk.joins held;
}

pub posted_shrinks : (doing : Execution) (event : Event) → Shrinks doing (enqueued doing event)
unfolding enqueued
posted_shrinks doing event = same doing

pub lost_shrinks : (doing : Execution) → Shrinks doing (lost doing)
unfolding lost
lost_shrinks doing = same doing

pub queued_shrinks : (doing : Execution) (call : QueuedCall) → Shrinks doing (queued doing call)
queued_shrinks doing call =
    cond_both (has_room doing.state.queue) (enqueued doing (event.Call call)) (lost doing) (Shrinks doing)
    (λ room. posted_shrinks doing (event.Call call))
    (λ full. lost_shrinks doing)

-- the first event is taken, with a turn
pub taken_shrinks : (doing : Execution) → (doing.turns == 0) ≡ false → Shrinks doing (first_taken (turn_taken doing))
unfolding first_taken turn_taken
taken_shrinks doing some =
    let more = eqb-false doing.turns 0 some in
    turns_less (bounds doing) (doing.turns - 1) (doing.taken + 1) (omega arith) (omega (arith, more))

pub first_taken-turns : (doing : Execution) → (first_taken doing).turns ≡ doing.turns
unfolding first_taken
first_taken-turns doing = refl

-- what is written bounds nothing
pub written_shrinks : (doing : Execution) (target : ℕ) (writing : Writing) → Shrinks doing (in_state doing (with_writing doing.state target writing))
written_shrinks doing target (Declared number value) =
    let many = many_changed (with_value number value) target (λ of. refl) (λ of. refl) doing.state.store in
    properties_less (bounds doing) _ (omega (arith, many))
written_shrinks doing target (Dynamic name value) =
    let many = many_changed (with_dynamic name value) target (λ of. refl) (λ of. refl) doing.state.store in
    properties_less (bounds doing) _ (omega (arith, many))
written_shrinks doing target (Removed name) =
    let many = many_changed (without_dynamic name) target (λ of. refl) (λ of. refl) doing.state.store in
    properties_less (bounds doing) _ (omega (arith, many))
written_shrinks doing target Nothing = same doing

-- an operation leaves as many living objects
pub operation_shrinks : (doing : Execution) (operation : Operation) → operation_refusal doing.state operation ≡ None
    → Shrinks doing (operation_done doing operation)
unfolding operation_done with_blocked
operation_shrinks doing (d.Connect new unique) passed =
    let all = or_none (object_refusal doing.state.forest.rows new.sender) _ passed in
    let its = allowed new unique (or_none (object_refusal doing.state.forest.rows new.receiver) _ all.1).1 in
    connections_less (bounds doing) _
    (omega (arith, its.room, length-append doing.state.connections.rows (numbered (doing.state.connections.last_number + 1) new ∷ [])))
operation_shrinks doing (d.Disconnect pattern) passed =
    connections_less (bounds doing) _ (kept CONNECTIONS (λ row. not (matches pattern row)) doing.state.connections.rows)
operation_shrinks doing (d.SetParent target parent) passed =
    let many = reparented-as_many doing.state.forest target parent in
    objects_less (bounds doing) _ _ (omega (arith, many.living)) (omega (arith, many.objects))
operation_shrinks doing (d.DeleteLater target) passed = same doing
operation_shrinks doing (d.Block target on) passed =
    let many = changed-as_many (λ (row : Row). record row { blocked = on }) target (λ row. refl) doing.state.forest.rows in
    objects_less (bounds doing) _ _ (omega (arith, many.living)) (omega (arith, many.objects))

pub gone_shrinks : (doing : Execution) (target : ℕ) → Shrinks doing (in_state doing (without_object doing.state target))
unfolding removed
gone_shrinks doing target =
    let rows = doing.state.forest.rows in
    let left = filter (λ row. not (has_object target row)) rows in
    let fewer = filter-fewer (λ row. not (has_object target row)) rows in
    let mapped = length-map left (orphaned target) in
    let like = same doing in
    record {
      turns = like.turns;
      taken = like.taken;
      living = omega (arith, all_orphaned-living target left, filter-living (λ row. not (has_object target row)) rows);
      objects = omega (arith, fewer, mapped);
      connections = like.connections;
      properties = fewer_without target doing.state.store;
      joins = like.joins;
    }

-- marking a living object as dying leaves fewer living ones
pub dying_less : (doing : Execution) (target : ℕ) → lives doing target ≡ true
    → living_rows (dying doing target).state.forest.rows + 1 ≤ living_rows doing.state.forest.rows
unfolding dying marked
dying_less doing target lives = let less = marked-one target doing.state.forest.rows lives in omega (arith, less)

pub dying_shrinks : (doing : Execution) (target : ℕ) → lives doing target ≡ true → Shrinks doing (dying doing target)
unfolding dying marked
dying_shrinks doing target lives =
    let less = marked-one target doing.state.forest.rows lives in
    let mapped = length-map doing.state.forest.rows (λ row. cond (has_object target row) (record row { dying = true }) row) in
    objects_less (bounds doing) _ _ (omega (arith, less)) (omega (arith, mapped))
