-- The effect of a command on the session at a place.
use Rattle.std.specs.Prelude.{◌≡◌, ℕ, Bool, eqb, List, [], ◌∷◌, Option, ◌++◌, ◌||◌, Result, Ok, Err, OnOk, IsFalse, IsTrue}
use Rattle.isolation.specs.Machine.{Effect}
use Rattle.class_table.specs.declared.class.Class.{Class}
use Rattle.plain_types.specs.declared.code.Code.{Code}
use Rattle.plain_types.specs.Answers.{OnDone, OnMemory}
use Rattle.plain_types.specs.declared.fault.Fault.{Fault}
use Rattle.plain_types.specs.declared.fault.Fault.TheVariants.{Memory}
use Rattle.session_model.specs.declared.line.Answer.{Answer}
use Rattle.session_model.specs.declared.line.Line.{Line}
use Rattle.session_model.specs.declared.line.Line.TheVariants.{Reply}
use Rattle.session_model.specs.declared.command.Command.{Command}
use Rattle.session_model.specs.declared.command.Command.TheVariants as c
use Rattle.session_model.specs.Asked.{Asked}
use Rattle.session_model.specs.Refusing.{refusal}
use Rattle.session_model.specs.State.{State}
use Rattle.session_model.specs.Thread.{does, performs}
use Rattle.session_tables.specs.declared.tables.Tables.{Tables}
use Rattle.session_tables.specs.Refused.{OnRefused}
use Rattle.session_tables.specs.Session.{failed_session}
use Rattle.session_tables.specs.Reaching.{AreShaped, ReceivesPosts, after_posts}
use Rattle.session_tables.specs.Tables.{AreLaid, AreStored, IsPlaced, failed_at, session_at, state_at}
use Rattle.session_model.specs.declared.post.Post.{Post}
use Rattle.session_effects.specs.declared.session_context.SessionContext.{SessionContext}
use Rattle.dispatch.specs.Prefix.{IsPrefix}
use Rattle.session_engine.specs.Returning.{Returns, wants_memory}
use Rattle.session_engine.specs.Sessions.{is_shut, session_after, session_does, session_refusal}
use Rattle.session_effects.specs.Setup.{settings_of}

-- The lines of a reply.
abbrev pub reply_lines : Answer → List Line
reply_lines answer = Reply answer ∷ []

-- The lines of a reply, after earlier lines.
abbrev pub reply_after : List Line → Answer → List Line
reply_after lines answer = lines ++ Reply answer ∷ []

-- The result of a command that replies in this way, unless memory ran out for what precedes the reply.
abbrev pub reply_once_told : {T E : Type 0} → Result T E → Answer → Result Answer Fault
reply_once_told (Ok value) answer = Ok answer
reply_once_told (Err error) answer = Err Memory

-- Why a command of a session that has not failed is refused, and its effect if it is not.
abbrev pub its_refusal : SessionContext → Asked → Tables → Option Code
its_refusal caller asked old = refusal (settings_of caller.setup.now) caller.name.now (state_at old caller.place) asked

abbrev pub its_effect : SessionContext → Asked → Tables → Effect State Line Post
its_effect caller asked old = performs (settings_of caller.setup.now) caller.name.now (state_at old caller.place) asked

-- The families of commands, in the order in which they are tried: 0 for queries, objects and properties; 1 for bindings,
-- calls and events; 2 for connections; 3 for publications and joins.
abbrev pub family : Command → ℕ
family (c.Bind target property to) = 1
family (c.Unbind target property) = 1
family c.Begin = 1
family c.End = 1
family (c.Invoke target method args mode priority) = 1
family c.Spin = 1
family (c.DeleteLater target) = 1
family (c.Block target on) = 1
family (c.Connect sender signal receiver method mode unique single) = 2
family (c.ConnectFunctor sender signal context functor mode unique single) = 2
family (c.DisconnectOne connection) = 2
family (c.Disconnect sender signal receiver method) = 2
family (c.Publish target signal name) = 3
family (c.Unpublish name) = 3
family (c.Join from name types target method) = 3
family (c.Leave from name target method) = 3
family c.Reset = 3
family _ = 0

-- The tables know the properties that each class declares, and those of each object in the caller's session.
pub record KnowsProperties (caller : SessionContext) (tables : Tables) : Type 0 where
  pub laid : AreLaid caller.setup.now.classes tables
  pub stored : AreStored (state_at tables caller.place)

-- The posts of the session at a place have reached all others, and whether one of them has failed by that.
pub record OthersHear (classes : List Class) (from : List ℕ) (place : ℕ) (posts : List Post) (old new : Tables) (failing : Bool) : Type 0 where
  pub shape : AreShaped old new
  pub hear : (at : ℕ) → IsFalse (eqb at place) → IsPlaced old at → ReceivesPosts classes from posts (session_at old at) (session_at new at)
  pub all : IsFalse failing → (at : ℕ) → IsFalse (eqb at place) → IsPlaced old at → session_at new at ≡ after_posts classes from posts (session_at old at)
  pub one : IsTrue failing → (at : ℕ) × IsFalse (eqb at place) × IsPlaced old at × IsFalse (failed_at old at) × IsTrue (failed_at new at)

-- A command of a session that has not failed. `failing` is whether another session has failed by its posts, and `lines`
-- gives the lines of what the call returns.
pub record Performs {T : Type 0} (caller : SessionContext)
    (asked : Asked) (old new : Tables) (failing : Bool) (lines : T → List Line) (result : Result T Fault) : Type 0 where
  -- It is refused exactly by its refusal, and otherwise returns its lines, unless memory ran out.
  pub returns : Returns (its_refusal caller asked old) (λ value. (its_effect caller asked old).lines ≡ lines value) result
  -- Its posts; if memory ran out, a prefix of them.
  pub posts : List Post
  pub front : OnMemory result (IsPrefix posts (does (settings_of caller.setup.now) caller.name.now (state_at old caller.place) asked).posts)
  -- It has made its posts, and changed the state of its session, as defined.
  pub posted : OnOk result (posts ≡ (its_effect caller asked old).posts)
  pub done : OnOk result (session_at new caller.place ≡ record { state = (its_effect caller asked old).state; failed = failed_at old caller.place })
  pub refused : OnRefused result (new ≡ old)
  -- The posts have reached all other sessions.
  pub others : OthersHear caller.setup.now.classes caller.name.now caller.place posts old new failing

-- A command of any session, and whether memory had run out before it and has after it.
pub record Obeys (caller : SessionContext) (asked : Asked) (old new : Tables) (was now : Bool) (result : Result (List Line) Fault) : Type 0 where
  pub returns : Returns (session_refusal (settings_of caller.setup.now) caller.name.now (session_at old caller.place) asked)
      (λ lines. lines ≡ (its_effect caller asked old).lines) result
  pub posts : List Post
  pub done : OnDone result ((session_at new caller.place ≡ session_after (settings_of caller.setup.now) caller.name.now (session_at old caller.place) asked)
      × (posts ≡ (session_does (settings_of caller.setup.now) caller.name.now (session_at old caller.place) asked).posts))
  pub front : OnMemory result (IsPrefix posts (session_does (settings_of caller.setup.now) caller.name.now (session_at old caller.place) asked).posts)
  pub refused : OnRefused result (new ≡ old)
  -- If memory ran out, its session has failed, and had not refused the command as a failed session.
  pub fails : OnMemory result ((session_at new caller.place ≡ failed_session) × IsFalse (is_shut (session_at old caller.place) asked))
  -- Whether another session has failed by its posts.
  pub failing : Bool
  pub others : OthersHear caller.setup.now.classes caller.name.now caller.place posts old new failing
  pub mark : now ≡ (wants_memory result || failing || was)
