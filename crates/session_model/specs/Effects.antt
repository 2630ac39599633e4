-- The forms of a command's effect.
use Rattle.std.specs.Prelude.{[], ◌∷◌, ◌++◌, Option, Some, None, Ok, Err}
use Rattle.isolation.specs.Machine.{Effect}
use Rattle.plain_types.specs.declared.code.Code.{Code}
use Rattle.session_model.specs.declared.line.Answer.{Answer}
use Rattle.session_model.specs.declared.line.Line.{Line}
use Rattle.session_model.specs.declared.line.Line.TheVariants.{Reply, Error}
use Rattle.session_model.specs.declared.post.Post.{Post}
use Rattle.session_model.specs.Execution.{Execution}
use Rattle.session_model.specs.Items.{Next, Reply as to_reply}
use Rattle.session_model.specs.Methods.{Found}
use Rattle.session_model.specs.Run.{run}
use Rattle.session_model.specs.Settings.{Settings}
use Rattle.session_model.specs.State.{State}

-- A command that replies with one line, and posts nothing.
abbrev pub replies : State → Answer → Effect State Line Post
replies state answer = record { state = state; lines = Reply answer ∷ []; posts = [] }

-- The effect of a command that is done: its lines, its posts, and the state after it.
abbrev pub ended : Execution → Effect State Line Post
ended doing = record { state = doing.state; lines = doing.lines; posts = doing.posts }

-- A command that does this to its end, and then replies.
abbrev pub does_next : Settings → Next → Answer → Effect State Line Post
does_next settings next answer = ended (run settings (next.items ++ to_reply answer ∷ []) next.doing)

-- A refused command prints only its code, and changes nothing.
abbrev pub refuses : State → Code → Effect State Line Post
refuses state code = record { state = state; lines = Error code ∷ []; posts = [] }

-- The line that shows what was found, or why it was not.
abbrev pub answer_line : Found Answer → Line
answer_line (Ok answer) = Reply answer
answer_line (Err code) = Error code

-- A command that changes nothing prints one line, and posts nothing.
abbrev pub answers : State → Found Answer → Effect State Line Post
answers state found = record { state = state; lines = answer_line found ∷ []; posts = [] }

-- The refusal if there is one, and otherwise the effect.
abbrev pub unless : Option Code → State → Effect State Line Post → Effect State Line Post
unless (Some code) state effect = refuses state code
unless None state effect = effect
