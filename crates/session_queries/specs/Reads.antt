-- The result of a query.
use Rattle.std.specs.Prelude.{Result}
use Rattle.plain_types.specs.Answers.{Answers}
use Rattle.plain_types.specs.declared.fault.Fault.{Fault}
use Rattle.session_model.specs.declared.line.Answer.{Answer}
use Rattle.session_model.specs.declared.query.Query.{Query}
use Rattle.session_model.specs.Queries.{query_answer}
use Rattle.session_tables.specs.declared.tables.Tables.{Tables}
use Rattle.session_tables.specs.Tables.{state_at}
use Rattle.session_effects.specs.declared.session_context.SessionContext.{SessionContext}
use Rattle.session_effects.specs.Setup.{settings_of}
use Rattle.session_queries.specs.declared.session_view.SessionView.{SessionView}

-- A query returns exactly its answer, or why it is refused, unless memory ran out.
pub record Reads (caller : SessionContext) (query : Query) (tables : Tables) (result : Result Answer Fault) : Type 0 where
  pub returns : Answers result (query_answer (settings_of caller.setup.now) (state_at tables caller.place) query)

-- The query is answered so over a session that is seen.
abbrev pub ReadsIn : SessionView → Query → Result Answer Fault → Type 0
ReadsIn session query result = Reads session.caller.now query session.tables.now result
