-- A command that brings its session to another state, does what there is to do for it, and then replies.
use Rattle.std.proofs.Common.{◌≡◌, false, List, [], None, Result, Ok, Err, IsErrAnd, refl, sym, ap, subst, ◌∙◌}
use Rattle.session_engine.proofs.Common.{Fault, Memory, Line, Post, Asked, begun, in_state, line_told, does_next, ended, Item, Next, puts, run, Tables, Reaches}
use Rattle.session_engine.proofs.Common.{IsPlaced, state_at, SessionContext, settings_of, CommandOutput, RunsItems, doing_at, fresh_output, Performs}
use Rattle.session_engine.proofs.Common.{its_effect, its_refusal, reply_after}
use Rattle.session_model.specs.declared.line.Answer.{Answer}
use Rattle.session_model.specs.declared.line.Line.TheVariants as line
use Rattle.session_model.proofs.ForCallers.{replies_last}
use Rattle.session_tables.proofs.ForCallers.{reaches_twice}
use Rattle.session_effects.specs.Actions.{KeepsOthers}
use Rattle.dispatch.proofs.ForCallers.{reaches_none}
use Rattle.session_engine.specs.Commands.{reply_once_told}
use Rattle.session_engine.proofs.CommandsLemmas.{at_first_reaches, replied_last, starved_last}

-- what there is to do, where the session has come from one state to another
abbrev pub comes : SessionContext → Tables → Tables → List Item → Next
comes caller old middle items = puts items (in_state (begun (settings_of caller.setup.now) (state_at old caller.place)) (state_at middle caller.place))

module _ (caller : SessionContext) (asked : Asked) (old middle new : Tables) (before after : CommandOutput) (items : List Item) (next : Next) (answer : Answer)
    (placed : IsPlaced old caller.place) (fresh : before ≡ fresh_output caller.setup.now.turns) (passed : its_refusal caller asked old ≡ None)
    (effect : its_effect caller asked old ≡ does_next (settings_of caller.setup.now) next answer) (is : next ≡ comes caller old middle items)
    (keeps : KeepsOthers caller.place old middle) where
  -- it is done, and then replied
  told_runs : its_effect caller asked old ≡ ended
      (line_told (run (settings_of caller.setup.now) items (doing_at caller.place middle before [])) (line.Reply answer))
  told_runs =
      let settings = settings_of caller.setup.now in
      effect
      ∙ ap (λ (next : Next). does_next settings next answer) is
      ∙ replies_last settings (comes caller old middle items) answer
      ∙ ap (λ (output : CommandOutput). ended (line_told (run settings items (doing_at caller.place middle output [])) (line.Reply answer))) (sym fresh)

  -- the change itself has posted nothing
  told_reaches : (posts : List Post) → Reaches caller.setup.now.classes caller.name.now caller.place posts middle new before.failing after.failing
      → Reaches caller.setup.now.classes caller.name.now caller.place posts old new false after.failing
  told_reaches posts reaches =
      at_first_reaches caller old new before after posts fresh
      (reaches_twice caller.setup.now.classes caller.name.now caller.place [] posts old middle new before.failing before.failing after.failing placed
      (reaches_none caller old middle before.failing before.failing keeps refl) reaches)

  pub performs_told : {T E : Type 0} (value : T) → RunsItems {E = E} caller items middle new before after (Ok value)
      → Performs caller asked old new after.failing (reply_after after.lines) (Ok answer)
  performs_told value does = replied_last after passed
      (told_runs ∙ ap (λ doing. ended (line_told doing (line.Reply answer))) (does.runs [])) (told_reaches does.posts does.reaches)

  -- where memory was wanted, the first of its posts are made
  pub starved_told : {T E U : Type 0} (error : E) (lines : U → List Line) (result : Result U Fault) → IsErrAnd result (λ fault. fault ≡ Memory)
      → RunsItems {T = T} caller items middle new before after (Err error) → Performs caller asked old new after.failing lines result
  starved_told error lines result wanted does = starved_last after does.posts _ _ result wanted passed told_runs (does.front [])
      (told_reaches does.posts does.reaches)

  -- in both cases, where the result is the reply or that memory ran out
  pub told_performs : {T E : Type 0} (told : Result T E) (result : Result Answer Fault) → result ≡ reply_once_told told answer
      → RunsItems caller items middle new before after told → Performs caller asked old new after.failing (reply_after after.lines) result
  told_performs (Ok value) result is does =
      subst (Performs caller asked old new after.failing (reply_after after.lines)) (sym is) (performs_told value does)
  told_performs (Err error) result is does =
      subst (Performs caller asked old new after.failing (reply_after after.lines)) (sym is)
      (starved_told error (reply_after after.lines) (Err Memory) refl does)
