use Rattle.std.proofs.Common.{◌≡◌, ◌∙◌, ℕ, true, false, List, Some, refl, inl, inr, subst}
use Rattle.std.specs.Str.{is_utf8}
use Rattle.std.proofs.lemmas.Bool.{false_from_ne_true}
use Rattle.std.proofs.lemmas.Result.{IfOk-at_ok}
use Rattle.std.proofs.lemmas.Str.{IsUtf8-from_is_utf8, is_utf8-from_IsUtf8}
use Rattle.plain_types.specs.Names.{is_name}
use Rattle.metad_c.specs.Answers.{Comes, seen}
use Rattle.metad_c.specs.Reading.{piece_for}
use Rattle.metad_c.proofs.HandleLemmas.{is_named, serves_none, serves_some}
use Rattle.metad_c.proofs.metad_inner_line_for.Goals as goal

pub returns-in_default : goal.returns-in_default
returns-in_default c =
    let no_text : is_utf8 c.args.session.now ≡ false =
    false_from_ne_true _ (λ text. c.in_default.ensures.cases.0 (IsUtf8-from_is_utf8 c.args.session.now text)) in
    inr (refl, inl (refl, rw no_text))

pub returns-in_default-take : goal.returns-in_default-take
returns-in_default-take c =
    let session = c.args.session.now in
    let text : is_utf8 session ≡ true = is_utf8-from_IsUtf8 session c.in-Ok.ensures.cases.1 in
    let name : is_name session ≡ true = cc (c.in-Ok.ensures.cases.0) in
    inl (
      is_named session text name,
      serves_none c.args.handle.now.loose.value c.take.new.self.loose.value (piece_for session c.args.line.now)
          c.in_default-take.ensures.found c.take.ensures.left,
    )

pub returns : goal.returns
returns c =
    let session = c.args.session.now in
    let found : c.args.handle.now.loose.value ≡ Some c.in-Some.kept.value = c.in-Some.ensures.found in
    let was : c.args.handle.now.loose.value ≡ Some c.deref_mut.result.now = cc in
    let given = IfOk-at_ok (λ name. name ≡ c.in-Ok.name.now) c.in-Ok-from_str.is c.from_str.ensures in
    let named : c.in-Ok-from_str.name ≡ session = given ∙ c.in-Ok.ensures.cases.0 in
    let before = c.deref_mut.result.now in
    let after = c.serve_for-outcome.new.kept in
    let outcome = c.serve_for-outcome.result in
    let text : is_utf8 session ≡ true = is_utf8-from_IsUtf8 session c.in-Ok.ensures.cases.1 in
    let name : is_name session ≡ true = cc in
    let for_it = λ (session : List ℕ). Comes (seen before) (seen after) (piece_for session c.args.line.now) outcome in
    inl (
      is_named session text name,
      serves_some c.args.handle.now.loose.value _ before after (piece_for session c.args.line.now) outcome c.status.result
          was c.of.ensures c.status.ensures (subst for_it named c.serve_for-outcome.ensures),
    )
