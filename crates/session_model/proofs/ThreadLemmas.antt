-- What a command comes to; and the rule of queries.
use Rattle.std.proofs.Common.{◌≡◌, ◌∙◌, ℕ, List, [], ◌∷◌, Some, None, Ok, Err, refl, ap}
use Rattle.std.specs.Result.{result_err}
use Rattle.session_model.proofs.Common.{Code, Answer, begun, line_told, does_next, replies, Next, Spin, run, State}
use Rattle.session_model.specs.declared.line.Answer.TheVariants as a
use Rattle.session_model.specs.declared.line.Line.TheVariants as line
use Rattle.session_model.specs.declared.query.Query.{Query}
use Rattle.session_model.specs.Asked.{Ask}
use Rattle.session_model.specs.Effects.{answers, ended}
use Rattle.session_model.specs.Events.{spins}
use Rattle.session_model.specs.Items.{Reply, ReplySpun}
use Rattle.session_model.specs.Posting.{spin_of}
use Rattle.session_model.specs.Queries.{query_answer}
use Rattle.session_model.specs.Refusing.{refusal}
use Rattle.session_model.specs.Thread.{Settings, performs}
use Rattle.session_model.proofs.RunLemmas.{by_change, in_parts}

-- a command that does an agenda tells its reply last
pub replies_last : (settings : Settings) (next : Next) (answer : Answer)
    → does_next settings next answer ≡ ended (line_told (run settings next.items next.doing) (line.Reply answer))
replies_last settings next answer =
    let done = run settings next.items next.doing in
    ap ended (in_parts settings next.items (Reply answer ∷ []) next.doing ∙ by_change settings (Reply answer) done (line_told done (line.Reply answer)) refl)

-- taking events tells last what came of it
pub spun_last : (settings : Settings) (state : State) → let done = run settings (Spin ∷ []) (begun settings state) in spins settings state
    ≡ ended (line_told done (line.Reply (a.Spun (spin_of done))))
spun_last settings state =
    let done = run settings (Spin ∷ []) (begun settings state) in
    ap ended (in_parts settings (Spin ∷ []) (ReplySpun ∷ []) (begun settings state)
    ∙ by_change settings ReplySpun done (line_told done (line.Reply (a.Spun (spin_of done)))) refl)

-- a query is refused, or replies what it is answered
module _ (settings : Settings) (self : List ℕ) (state : State) (query : Query) where
  pub query_refused : (code : Code) → query_answer settings state query ≡ Err code → refusal settings self state (Ask query) ≡ Some code
  unfolding refusal
  query_refused code is = ap result_err is

  pub query_passed : (answer : Answer) → query_answer settings state query ≡ Ok answer → refusal settings self state (Ask query) ≡ None
  unfolding refusal
  query_passed answer is = ap result_err is

  pub query_replies : (answer : Answer) → query_answer settings state query ≡ Ok answer → performs settings self state (Ask query) ≡ replies state answer
  unfolding performs
  query_replies answer is = ap (answers state) is
