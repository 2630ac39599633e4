-- What a post does to a session.
use Rattle.std.proofs.Common.{◌≡◌, ℕ, Bool, true, false, cond, List, [], ◌∷◌, ◌++◌, All, refl}
use Rattle.std.proofs.lemmas.List.Elements.{All-head, All-tail}
use Rattle.session_model.proofs.Common.{Class, Queue, has_room, with_mismatched, Row, Join, Post, joined_call, reached_by, State, arrives}
use Rattle.event_queue.specs.declared.event.Event.TheVariants.{Call}
use Rattle.event_queue.specs.Queue.{enqueued, with_lost}
use Rattle.isolation.specs.World.{all_arrive}
use Rattle.publish_board.specs.Rows.{listens}
use Rattle.session_model.specs.Arriving.{is_matched, reached, with_call}
use Rattle.session_model.specs.Machine.{machine}
use Rattle.session_model.specs.Thread.{Settings, arrive_all}

-- by each join a queue gets a call, or counts it as lost or mismatched, or stays as it was
module _ (classes : List Class) (rows : List Row) (from : List ℕ) (post : Post) (P : Queue → Type 0)
    (mismatched : (queue : Queue) → P queue → P (with_mismatched queue)) (lost : (queue : Queue) → P queue → P (with_lost queue))
    (Q : Join → Type 0) (called : (queue : Queue) (join : Join) → is_matched post.kinds join ≡ true → Q join → P queue
    → P (enqueued queue (Call (joined_call classes rows post.arguments join)))) where
  reached_keeps : (queue : Queue) (join : Join) → Q join → P queue → P (reached classes rows from post queue join)
  reached_keeps queue join meant holds = by (listens from post.name join) (is_matched post.kinds join) refl
    where
      call : is_matched post.kinds join ≡ true → (room : Bool)
          → P (cond room (enqueued queue (Call (joined_call classes rows post.arguments join))) (with_lost queue))
      call is true = called queue join is meant holds
      call is false = lost queue holds

      by : (a b : Bool) → is_matched post.kinds join ≡ b
          → P (cond a (cond b (with_call queue (joined_call classes rows post.arguments join)) (with_mismatched queue)) queue)
      by false b is = holds
      by true false is = mismatched queue holds
      by true true is = call is (has_room queue)

  pub reached_by_keeps : (queue : Queue) (joins : List Join) → All Q joins → P queue → P (reached_by classes rows from post queue joins)
  reached_by_keeps queue [] all holds = holds
  reached_by_keeps queue (join ∷ joins) all holds =
      reached_by_keeps (reached classes rows from post queue join) joins (All-tail Q join joins all)
      (reached_keeps queue join (All-head Q join joins all) holds)

module _ (classes : List Class) where
  -- posts of a session arrive one after another
  pub arrive_all-append : (state : State) (from : List ℕ) (posts more : List Post)
      → arrive_all classes state from (posts ++ more) ≡ arrive_all classes (arrive_all classes state from posts) from more
  arrive_all-append state from [] more = refl
  arrive_all-append state from (post ∷ posts) more = arrive_all-append (arrives classes state from post) from posts more

-- as the theory says of them
pub arrive_all-is : (settings : Settings) (state : State) (from : List ℕ) (posts : List Post)
    → all_arrive (machine settings) state from posts ≡ arrive_all settings.classes state from posts
arrive_all-is settings state from [] = refl
arrive_all-is settings state from (post ∷ posts) = arrive_all-is settings (arrives settings.classes state from post) from posts
