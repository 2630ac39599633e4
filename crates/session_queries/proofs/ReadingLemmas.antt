-- What the commands that read return.
use Rattle.std.proofs.Common.{◌≡◌, Option, Some, None, Result, Ok, Err, IsErrAnd, sym, ap, subst, ◌∙◌}
use Rattle.std.specs.Option.{ok_or}
use Rattle.object_tree.specs.declared.row.Row.{Row}
use Rattle.plain_types.specs.declared.code.Code.{Code}
use Rattle.plain_types.specs.declared.code.Code.TheVariants.{NoSuchObject}
use Rattle.plain_types.specs.declared.fault.Fault.{Fault}
use Rattle.plain_types.specs.declared.fault.Fault.TheVariants.{Memory, Refused}
use Rattle.session_model.specs.declared.line.Answer.{Answer}
use Rattle.session_model.specs.declared.query.Query.{Query}
use Rattle.session_model.specs.Methods.{Found, ◌>>=◌}
use Rattle.session_model.specs.Operations.{behind}
use Rattle.session_model.specs.Queries.{query_answer}
use Rattle.session_tables.specs.declared.tables.Tables.{Tables}
use Rattle.session_tables.specs.Tables.{state_at}
use Rattle.session_effects.specs.declared.session_context.SessionContext.{SessionContext}
use Rattle.session_effects.specs.Setup.{settings_of}
use Rattle.session_queries.specs.Reads.{Reads}

-- a query that is refused
pub refused_reading : (caller : SessionContext) (query : Query) (tables : Tables) (code : Code) (result : Result Answer Fault)
    → IsErrAnd result (λ fault. fault ≡ Refused code)
    → query_answer (settings_of caller.setup.now) (state_at tables caller.place) query ≡ Err code → Reads caller query tables result
refused_reading caller query tables code (Ok answer) h refused = absurd h
refused_reading caller query tables code (Err fault) h refused = subst (λ fault. Reads caller query tables (Err fault)) (sym h) (record { returns = refused })

-- and one for which memory was wanted
pub starved_reading : (caller : SessionContext) (query : Query) (tables : Tables) (result : Result Answer Fault) → IsErrAnd result (λ fault. fault ≡ Memory)
    → Reads caller query tables result
starved_reading caller query tables (Ok answer) h = absurd h
starved_reading caller query tables (Err fault) h = subst (λ fault. Reads caller query tables (Err fault)) (sym h) (record { returns = tt })

-- where something is looked for, the first of two refusals, or what stands behind it
pub behind_first : {A : Type 0} (a : Option Code) (found : Found A) (code : Code) → Some code ≡ a → behind a found ≡ Err code
behind_first a found code e = sym (ap (λ a. behind a found) e)

pub behind_second : {A : Type 0} (a : Option Code) (found : Found A) → None ≡ a → behind a found ≡ found
behind_second a found e = sym (ap (λ a. behind a found) e)

pub behind_both : {A : Type 0} (a b : Option Code) (found : Found A) → None ≡ a → None ≡ b → behind a (behind b found) ≡ found
behind_both a b found e f = behind_second a (behind b found) e ∙ behind_second b found f

-- a query that is refused by the first thing that it checks
pub refused_first : (caller : SessionContext) (query : Query) (tables : Tables) (code : Code) (a : Option Code) (found : Found Answer)
    (result : Result Answer Fault) → IsErrAnd result (λ fault. fault ≡ Refused code)
    → query_answer (settings_of caller.setup.now) (state_at tables caller.place) query ≡ behind a found → Some code ≡ a → Reads caller query tables result
refused_first caller query tables code a found result h is e = refused_reading caller query tables code result h (is ∙ behind_first a found code e)

-- what is answered by what is found, where it is refused and where it is not
pub found_refused : {A B : Type 0} (found : Found A) (answer : A → Found B) (code : Code) → Err code ≡ found → (found >>= answer) ≡ Err code
found_refused found answer code e = sym (ap (λ found. found >>= answer) e)

pub found_there : {A B : Type 0} (found : Found A) (answer : A → Found B) (value : A) → Ok value ≡ found → (found >>= answer) ≡ answer value
found_there found answer value e = sym (ap (λ found. found >>= answer) e)

-- what a query about an object is answered, where the object exists and where it does not
module _ (found : Option Row) (answer : Row → Found Answer) where
  pub object_missing : found ≡ None → (ok_or found NoSuchObject >>= answer) ≡ Err NoSuchObject
  object_missing e = ap (λ found. ok_or found NoSuchObject >>= answer) e

  pub object_there : (row : Row) → found ≡ Some row → (ok_or found NoSuchObject >>= answer) ≡ answer row
  object_there row e = ap (λ found. ok_or found NoSuchObject >>= answer) e
