-- The effects of the commands for publications and joins that are not refused.
use Rattle.std.specs.Prelude.{ℕ, List, [], ◌∷◌, true, Option, Some, Ok, Err, length, nat_le, if◌then◌else◌}
use Rattle.std.specs.List.{list_any}
use Rattle.std.specs.Option.{ok_or}
use Rattle.isolation.specs.Machine.{Effect}
use Rattle.plain_types.specs.declared.code.Code.{Code}
use Rattle.plain_types.specs.declared.code.Code.TheVariants.{BadSignature}
use Rattle.signature_core.specs.declared.kind.Kind.{Kind}
use Rattle.signature_core.specs.Kinds.{kind_named}
use Rattle.publish_board.specs.declared.join.Join.{Join}
use Rattle.publish_board.specs.declared.publication.Publication.{Publication}
use Rattle.publish_board.specs.Desk.{join_refusal, with_join, left, publish_refusal, published, unpublished}
use Rattle.publish_board.specs.Rows.{has_name, is_join}
use Rattle.session_model.specs.declared.line.Answer.TheVariants.{Truth}
use Rattle.session_model.specs.declared.line.Line.{Line}
use Rattle.session_model.specs.declared.post.Post.{Post}
use Rattle.session_model.specs.Absence.{absence}
use Rattle.session_model.specs.Arriving.{kinds_of}
use Rattle.session_model.specs.Operations.{behind}
use Rattle.session_model.specs.Effects.{refuses, replies}
use Rattle.session_model.specs.Methods.{Found, ◌>>=◌, method_named, methods_of, signal_named}
use Rattle.session_model.specs.Settings.{Settings}
use Rattle.session_model.specs.State.{State, with_desk}

-- The kinds that these texts name, each spelled exactly.
abbrev pub kinds_named : List (List ℕ) → Found (List Kind)
kinds_named [] = Ok []
kinds_named (text ∷ texts) = ok_or (kind_named text) BadSignature >>= λ kind. kinds_named texts >>= λ kinds. Ok (kind ∷ kinds)

-- The kinds that these texts name, if they are at most as many as a signature may have.
abbrev pub asked_kinds : List (List ℕ) → Found (List Kind)
asked_kinds texts = if nat_le (length texts) 10 then kinds_named texts else Err BadSignature

-- The publication that a command asks for.
abbrev pub asked_publication : Settings → State → ℕ → List ℕ → List ℕ → Found Publication
asked_publication settings state target signal name =
    behind (absence state target)
    (signal_named (methods_of settings state target) signal >>= λ index. Ok (record { name = name; object = target; signal = index }))

-- The join that a command asks for.
abbrev pub asked_join : Settings → State → List ℕ → List ℕ → List (List ℕ) → ℕ → List ℕ → Found Join
asked_join settings state from name types target method =
    behind (absence state target)
    (asked_kinds types >>= λ kinds. method_named (methods_of settings state target) method >>= λ index.
    Ok (record { from = from; name = name; kinds = kinds; object = target; method = index }))

-- The method of the joins to be removed.
abbrev pub asked_listener : Settings → State → ℕ → List ℕ → Found ℕ
asked_listener settings state target method = behind (absence state target) (method_named (methods_of settings state target) method)

-- Why a publication is refused, or why it was not found.
abbrev pub publication_refusal : State → Found Publication → Option Code
publication_refusal state (Ok row) = publish_refusal state.desk row.name
publication_refusal state (Err code) = Some code

-- Why a join is refused in the session with this name, or why it was not found.
abbrev pub joining_refusal : Settings → List ℕ → State → Found Join → Option Code
joining_refusal settings self state (Ok join) = join_refusal self state.desk join (kinds_of settings.classes state.forest.rows join.object join.method)
joining_refusal settings self state (Err code) = Some code

abbrev pub publishes_found : State → Found Publication → Effect State Line Post
publishes_found state (Ok row) = replies (with_desk state (published state.desk row)) (Truth true)
publishes_found state (Err code) = refuses state code

-- Removes a publication. The reply is whether there was one.
abbrev pub unpublishes : State → List ℕ → Effect State Line Post
unpublishes state name = replies (with_desk state (unpublished state.desk name)) (Truth (list_any (has_name name) state.desk.publications))

abbrev pub joins_found : State → Found Join → Effect State Line Post
joins_found state (Ok join) = replies (with_desk state (with_join state.desk join)) (Truth true)
joins_found state (Err code) = refuses state code

-- Removes joins. The reply is whether there was one.
abbrev pub leaves : State → List ℕ → List ℕ → ℕ → Found ℕ → Effect State Line Post
leaves state from name target (Ok method) =
    replies (with_desk state (left state.desk from name target method)) (Truth (list_any (is_join from name target method) state.desk.joins))
leaves state from name target (Err code) = refuses state code
