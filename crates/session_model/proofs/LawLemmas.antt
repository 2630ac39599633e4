-- Posts and items keep a session sound, and so does an agenda that is done to its end.
use Rattle.event_queue.specs.declared.event.Event.TheVariants.{Call}
use Rattle.std.proofs.Common.{List, None, [], ap, arith, false, refl, sym, true, ℕ, ◌++◌, ◌||◌, ◌∙◌, ◌∷◌, ◌≡◌}
use Rattle.std.proofs.lemmas.List.Elements.{All-weaker}
use Rattle.std.proofs.lemmas.List.Folds.{list_any-append}
use Rattle.std.specs.List.{All, list_any}
use Rattle.session_model.proofs.Common.{Class, Queue, is_there, Row, Join, joined_call, operation_refusal, with_operation, Execution, Item, run}
use Rattle.session_model.proofs.Common.{IsMeant, IsSound, State, empty, IsUnderWay, is_gone, Writing, with_writing, Operation, Answer, Post}
use Rattle.session_model.proofs.ArrivingLemmas.{reached_by_keeps}
use Rattle.session_model.proofs.FitLemmas.{IsFit}
use Rattle.session_model.proofs.ItemLemmas.{item_under_way}
use Rattle.session_model.proofs.QueueLemmas.{each_posted, sound_lost, sound_mismatched, sound_posted}
use Rattle.session_model.proofs.RunLemmas.{run_keeps}
use Rattle.session_model.proofs.StateLemmas.{whole_empty, whole_with_queue}
use Rattle.session_model.proofs.UnderWayLemmas.{IsGoing, operation_under, none_goes, untied_staying, writing_under}
use Rattle.session_model.specs.Operations.{operation_done}
use Rattle.session_model.specs.Laws.{KeepsUnderWay}
use Rattle.session_model.specs.Thread.{Settings, arrives}
use Rattle.event_queue.specs.Queue as events
use Rattle.session_model.specs.Items as to_do

-- between commands no agenda needs to let an object go
under_way : (agenda : List Item) (state : State) → list_any is_gone agenda ≡ false → IsSound state → IsUnderWay agenda state
under_way agenda state none sound = record {
  whole = sound.whole;
  going = All-weaker (λ (row : Row). row.dying ≡ false) (λ row. IsGoing agenda row.number row.class row.dying)
      (λ row lives. none_goes row.number agenda none ∙ sym lives) state.forest.rows sound.living;
  in_time = λ index default within. record
      { sender = untied_staying _ agenda (none_goes _ agenda none); receiver = untied_staying _ agenda (none_goes _ agenda none) };
  forgotten = λ index default within. untied_staying _ agenda (none_goes _ agenda none);
  withdrawn = record {
    publications = λ index default within. untied_staying _ agenda (none_goes _ agenda none);
    joins = λ index default within. untied_staying _ agenda (none_goes _ agenda none);
  };
}

-- where nothing is left to do, no object is dying
sound_at_end : (state : State) → IsUnderWay [] state → IsSound state
sound_at_end state under = record {
  whole = under.whole;
  living = All-weaker (λ row. IsGoing [] row.number row.class row.dying) (λ (row : Row). row.dying ≡ false) (λ row going. sym going) state.forest.rows
      under.going;
}

pub keeps_under_way : KeepsUnderWay
keeps_under_way = record { at_first = under_way; by_item = item_under_way; at_end = sound_at_end }

-- an agenda done to its end leaves a session sound
pub run_sound : (settings : Settings) (agenda : List Item) (doing : Execution) → list_any is_gone agenda ≡ false → IsSound doing.state
    → IsSound (run settings agenda doing).state
run_sound settings agenda doing none sound =
    sound_at_end (run settings agenda doing).state
    (run_keeps settings (λ items doing. IsUnderWay items doing.state) (item_under_way settings) agenda doing (under_way agenda doing.state none sound))

-- nor does a reply behind items let an object go
pub replies_stay : (items : List Item) (answer : Answer) → list_any is_gone items ≡ false → list_any is_gone (items ++ to_do.Reply answer ∷ []) ≡ false
replies_stay items answer none = list_any-append is_gone items (to_do.Reply answer ∷ []) ∙ ap (λ b. b || false) none

-- properties are written
pub writing_sound : (doing : Execution) (target : ℕ) (writing : Writing) → IsFit doing.state target writing → IsSound doing.state
    → IsSound (with_writing doing.state target writing)
writing_sound doing target writing fit sound = sound_at_end (with_writing doing.state target writing)
    (writing_under [] doing (under_way [] doing.state refl sound) target writing fit)

pub operation_sound : (doing : Execution) (operation : Operation) → operation_refusal doing.state operation ≡ None → IsSound doing.state
    → IsSound (with_operation doing.state operation)
unfolding operation_done
operation_sound doing operation passed sound = sound_at_end (with_operation doing.state operation)
    (operation_under [] doing (under_way [] doing.state refl sound) operation passed)

-- before the first command
pub empty_sound : IsSound empty
empty_sound = record { whole = whole_empty; living = λ index default within. absurd (omega arith) }

pub post_sound : (classes : List Class) (state : State) (from : List ℕ) (post : Post) → IsSound state → IsSound (arrives classes state from post)
unfolding arrives
post_sound classes state from post sound =
    let queue = reached_by_keeps classes state.forest.rows from post (λ (queue : Queue). events.IsSound queue × All (IsMeant state) queue.events)
    (λ queue holds. (sound_mismatched holds.0, holds.1))
    (λ queue holds. (sound_lost holds.0, holds.1))
    (λ (join : Join). is_there state.forest.rows join.object ≡ true)
    (λ queue join matched there holds. (
      sound_posted (Call (joined_call classes state.forest.rows post.arguments join)) holds.0,
      each_posted (IsMeant state) queue (Call (joined_call classes state.forest.rows post.arguments join)) there holds.1,
    ))
    state.queue state.desk.joins sound.whole.named.joins (sound.whole.queue, sound.whole.meant) in
    record {
      whole = whole_with_queue queue.0 queue.1 sound.whole;
      living = sound.living;
    }
