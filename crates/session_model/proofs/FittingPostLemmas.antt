-- Before the first command, and after each post, what a session holds fits the classes and the functors.
use Rattle.std.proofs.Common.{List, arith, ℕ}
use Rattle.std.proofs.lemmas.Bool.{and_parts}
use Rattle.std.specs.List.{All}
use Rattle.session_model.proofs.Common.{Row, joined_call, kinds_of, IsFitting, IsFittingEvent, IsJoined, IsRightPost, Settings, State, empty, Post}
use Rattle.session_model.proofs.ArrivingLemmas.{reached_by_keeps}
use Rattle.session_model.proofs.FittingArgumentLemmas.{fitting_through}
use Rattle.session_model.proofs.QueueLemmas.{each_posted}
use Rattle.session_model.specs.Thread.{arrives}
use Rattle.event_queue.specs.declared.event.Event.TheVariants as event

-- before the first command there is nothing that may not fit
pub first_fits : (settings : Settings) → IsFitting settings empty
first_fits settings = record {
  objects = λ index default within. absurd (omega arith);
  events = λ index default within. absurd (omega arith);
  connections = λ index default within. absurd (omega arith);
  publications = λ index default within. absurd (omega arith);
  joins = λ index default within. absurd (omega arith);
}

-- a right post calls the methods of joins with arguments of their kinds
pub post_fits : (settings : Settings) (state : State) (from : List ℕ) (post : Post) → IsFitting settings state → IsRightPost post
    → IsFitting settings (arrives settings.classes state from post)
unfolding arrives
post_fits settings state from post fit right = record {
  objects = fit.objects;
  events = reached_by_keeps settings.classes rows' from post (λ queue. All (IsFittingEvent settings rows') queue.events)
      (λ queue holds. holds) (λ queue holds. holds) (IsJoined settings rows')
      (λ queue join matched joined holds. each_posted (IsFittingEvent settings rows') queue
      (event.Call (joined_call settings.classes rows' post.arguments join))
      (record {
        callee = joined.callee;
        arguments = fitting_through post.kinds join.kinds
            (kinds_of settings.classes rows' join.object join.method) post.arguments (and_parts _ _ matched).0 joined.fitting right;
      }) holds)
      state.queue state.desk.joins fit.joins fit.events;
  connections = fit.connections;
  publications = fit.publications;
  joins = fit.joins;
}
  where
    rows' : List Row
    rows' = state.forest.rows
