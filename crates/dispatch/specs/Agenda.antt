-- The effects of an agenda's items.
use Rattle.std.specs.Prelude.{◌≡◌, ◌≤◌, ◌++◌, ℕ, List, Result, OnErr, OnOk}
use Rattle.session_model.specs.declared.call.TheConstants.{NESTED_SIGNALS}
use Rattle.session_model.specs.declared.post.Post.{Post}
use Rattle.session_model.specs.Items.{Item, Next, puts}
use Rattle.session_model.specs.Run.{run}
use Rattle.session_tables.specs.declared.tables.Tables.{Tables}
use Rattle.session_tables.specs.Reaching.{Reaches}
use Rattle.session_tables.specs.Tables.{IsPlaced}
use Rattle.session_effects.specs.declared.session_context.SessionContext.{SessionContext}
use Rattle.session_effects.specs.Setup.{settings_of}
use Rattle.dispatch.specs.declared.command_output.CommandOutput.{CommandOutput}
use Rattle.dispatch.specs.Prefix.{IsPrefix}
use Rattle.dispatch.specs.CommandOutput.{doing_at}

-- The whole effect is done, with these posts. Whatever was posted before, it leads to this session, with these posts
-- appended, and they have reached all other sessions. If memory ran out for the session itself, these are a prefix of
-- its posts.
pub record RunsNext {T E : Type 0} (caller : SessionContext) (next : List Post → Next) (old new : Tables) (before after : CommandOutput)
    (result : Result T E) : Type 0 where
  pub posts : List Post
  pub runs : OnOk result ((earlier : List Post)
      → run (settings_of caller.setup.now) (next earlier).items (next earlier).doing ≡ doing_at caller.place new after (earlier ++ posts))
  pub front : OnErr result ((earlier : List Post)
      → IsPrefix (earlier ++ posts) (run (settings_of caller.setup.now) (next earlier).items (next earlier).doing).posts)
  pub reaches : Reaches caller.setup.now.classes caller.name.now caller.place posts old new before.failing after.failing

-- These items are done.
abbrev pub RunsItems : {T E : Type 0} → SessionContext → List Item → Tables → Tables → CommandOutput → CommandOutput → Result T E → Type 0
RunsItems caller items old new before after = RunsNext caller (λ earlier. puts items (doing_at caller.place old before earlier)) old new before after

-- A nested call may be made: the session has its place in the tables, and the depth is at most the one at which a signal is
-- only warned of and not sent.
pub record MayNest (caller : SessionContext) (tables : Tables) (depth : ℕ) : Type 0 where
  pub placed : IsPlaced tables caller.place
  pub within : depth ≤ NESTED_SIGNALS
