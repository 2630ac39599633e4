-- Which sessions join another one: by place, and so by name.
use Rattle.std.proofs.Common.{◌≡◌, ◌<◌, ◌≤◌, ◌==◌, ◌||◌, ℕ, suc, Bool, true, false, true≢false, eqb, List, [], ◌∷◌, Option, Some, None, length, get_or, map}
use Rattle.std.proofs.Common.{position, refl, sym, ap, subst, ◌∙◌, ⊎_elim, arith}
use Rattle.std.specs.Prelude.{All, IfOk, Ok, Err, Result, bytes_eq}
use Rattle.std.specs.List.{list_any}
use Rattle.std.proofs.lemmas.Bool.{cases_lt}
use Rattle.std.proofs.lemmas.Bool.Decides.{nat_tests}
use Rattle.std.proofs.lemmas.List.Folds.{list_any_at, list_any_none}
use Rattle.std.proofs.lemmas.List.Quantifiers.{position-Some}
use Rattle.std.proofs.lemmas.Slice.Eq.{bytes_eq-Decides}
use Rattle.std.specs.Option.{option_map_or}
use Rattle.session_engine.proofs.Common.{Session, fresh, session_at, state_at, session_past, EngineState, IsWhole, place, states}
use Rattle.session_model.specs.State.{empty}
use Rattle.session_model.specs.Thread.{joins_name}
use Rattle.session_tables.specs.Joining.{AreJoiners}
use Rattle.session_engine.specs.Core.{AreJoinersOf, name_at, names_at}
use Rattle.session_engine.proofs.EngineLemmas.{position-None, sessions-place}

-- tests that agree on each element find alike
any_alike : {X Y : Type 0} (p : Y → Bool) (f : X → Y) (q : X → Bool) (xs : List X) → All (λ x. p (f x) ≡ q x) xs → list_any p (map f xs) ≡ list_any q xs
any_alike p f q [] alike = refl
any_alike p f q (x ∷ xs) alike =
    ap (λ found. found || list_any p (map f xs)) (alike 0 x (omega arith))
    ∙ ap (λ found. q x || found) (any_alike p f q xs (λ k default within. alike (suc k) default (omega (arith, within))))

module _ (names : List (List ℕ)) (name : List ℕ) where
  -- where no two places have one name, a place has this one exactly if it is the place of the name
  named_there : (found at : ℕ) → ((at : ℕ) → at < length names → position (bytes_eq (get_or names at [])) names ≡ Some at)
      → position (bytes_eq name) names ≡ Some found
      → at < length names → bytes_eq name (get_or names at []) ≡ eqb at found
  named_there found at named there within = by (bytes_eq name (get_or names at [])) (eqb at found) refl refl
    where
      by : (has same : Bool) → bytes_eq name (get_or names at []) ≡ has → eqb at found ≡ same → has ≡ same
      by true true e f = refl
      by false false e f = refl
      by true false e f =
          let is : name ≡ get_or names at [] = (bytes_eq-Decides name _).0 e in
          let own : position (bytes_eq name) names ≡ Some at = subst (λ (it : List ℕ). position (bytes_eq it) names ≡ Some at) (sym is) (named at within) in
          let same : at ≡ found = cc in
          absurd (grind (arith, nat_tests, same, f))
      by false true e f =
          let same : found ≡ at = grind (arith, nat_tests, f) in
          let passes : bytes_eq name (get_or names at []) ≡ true =
          subst (λ at. bytes_eq name (get_or names at []) ≡ true) same (position-Some (bytes_eq name) names found [] there).1 in
          absurd (true≢false (sym passes ∙ e))

  -- and none has a name that has no place
  named_nowhere : (at : ℕ) → position (bytes_eq name) names ≡ None → at < length names → bytes_eq name (get_or names at []) ≡ false
  named_nowhere at absent within = by (bytes_eq name (get_or names at [])) refl
    where
      by : (has : Bool) → bytes_eq name (get_or names at []) ≡ has → has ≡ false
      by true e = absurd (true≢false (sym (list_any_at (bytes_eq name) names at [] within e) ∙ position-None (bytes_eq name) names absent))
      by false e = refl

-- a session that has had no command joins none
fresh_joins : (from : List ℕ) → joins_name empty from ≡ false
unfolding joins_name
fresh_joins from = refl

module _ (engine : EngineState) (from : List ℕ) (places : List ℕ) (whole : IsWhole engine) (are : AreJoiners engine.tables from places) where
  -- each of these places has a name, since the session of one without a name has had no command
  joiners_within : All (λ at. at < length engine.names) places
  joiners_within i default within = ⊎_elim (λ less. less) (λ past. absurd (true≢false (sym joins ∙ strange past))) (cases_lt at (length engine.names))
    where
      at : ℕ
      at = get_or places i default

      joins : joins_name (state_at engine.tables at) from ≡ true
      joins = sym (are.exact at) ∙ list_any_at (λ place. place == at) places i default within (grind (arith, nat_tests))

      strange : length engine.names ≤ at → joins_name (state_at engine.tables at) from ≡ false
      strange past = ap (λ (session : Session). joins_name session.state from) (session_past engine.tables at whole.even (omega (arith, past, whole.paired)))
          ∙ fresh_joins from

  -- and a name is among theirs exactly if its session joins
  joiners_named : (name : List ℕ) → list_any (bytes_eq name) (names_at engine places) ≡ joins_name (states engine name) from
  joiners_named name = by (place engine name) refl
    where
      by : (found : Option ℕ) → place engine name ≡ found → list_any (bytes_eq name) (names_at engine places) ≡ joins_name (states engine name) from
      by (Some at) there =
          any_alike (bytes_eq name) (name_at engine) (λ place. place == at) places
          (λ i default within. named_there engine.names name at (get_or places i default) whole.named there (joiners_within i default within))
          ∙ are.exact at
          ∙ sym (ap (λ (session : Session). joins_name session.state from) (sessions-place engine name at there))
      by None absent =
          any_alike (bytes_eq name) (name_at engine) (λ place. false) places
          (λ i default within. named_nowhere engine.names name (get_or places i default) absent (joiners_within i default within))
          ∙ list_any_none (λ place. false) places (λ i default within. refl)
          ∙ sym (ap (λ found. joins_name (option_map_or (session_at engine.tables) found fresh).state from) absent ∙ fresh_joins from)

  pub joiners_of : AreJoinersOf engine from places
  joiners_of = record { joiners = are; named = joiners_named; within = joiners_within }

-- so what has found the places has found the names
pub if_joiners : {X E : Type 0} (engine : EngineState) (from : List ℕ) (items : X → List ℕ) (result : Result X E) → IsWhole engine
    → IfOk result (λ found. AreJoiners engine.tables from (items found)) → IfOk result (λ found. AreJoinersOf engine from (items found))
if_joiners engine from items (Ok found) whole are = joiners_of engine from (items found) whole are
if_joiners engine from items (Err error) whole are = are
