-- Only an accepted join makes a join, and a post of a session that no join names does nothing.
use Rattle.publish_board.specs.Desk.{join_refusal, names_session}
use Rattle.publish_board.specs.Rows.{is_from}
use Rattle.std.proofs.Common.{⊎_elim, Bool, Err, List, None, Ok, Option, Some, [], ap, arith, bytes_eq, cond, false, inl, inr, is_none, refl, sym, true, ℕ}
use Rattle.std.proofs.Common.{◌&&◌, ◌||◌, ◌∙◌, ◌∷◌, ◌≡◌, ◌⊎◌}
use Rattle.std.proofs.lemmas.Bool.{or_cases, or_right}
use Rattle.std.proofs.lemmas.List.Folds.{list_any-append}
use Rattle.std.specs.List.{list_any}
use Rattle.session_model.proofs.Common.{Class, Queue, with_mismatched, Join, Code, joined_call, kinds_of, reached_by, Asked, Found, State, Post}
use Rattle.session_model.proofs.CommandLemmas.{command_keeps}
use Rattle.session_model.proofs.KeepingLemmas.{is_join_asked}
use Rattle.session_model.specs.Arriving.{is_matched, reached, with_call}
use Rattle.session_model.specs.Asked.{Join as AsksJoin}
use Rattle.session_model.specs.Effects.{unless}
use Rattle.session_model.specs.Refusing.{refusal}
use Rattle.session_model.specs.Sharing.{asked_join, joining_refusal, joins_found}
use Rattle.session_model.specs.Thread.{Settings, accepts_join, arrives, does, joins_name, performs}
use Rattle.session_model.proofs.SharingLemmas.{join_found}

or-false : (a : Bool) → (a || false) ≡ a
or-false true = refl
or-false false = refl

-- a join that was found is of the session that is asked for
found_from : (settings : Settings) (state : State) (from name : List ℕ) (types : List (List ℕ)) (target : ℕ) (method : List ℕ) (join : Join)
    → asked_join settings state from name types target method ≡ Ok join → join.from ≡ from
found_from settings state from name types target method join is =
    sym (ap (λ (join : Join). join.from) (join_found settings state target from name types method join is).is)

module _ (settings : Settings) (self : List ℕ) (state : State) where
  -- the session after a join that is asked for, where it is refused or not
  abbrev after_join : Option Code → Found Join → State
  after_join refusal found = (unless refusal state (joins_found state found)).state

  -- what is named after it was named before, or is what it names, and it is not refused
  join_made : (found : Found Join) (from name : List ℕ) → ((join : Join) → found ≡ Ok join → join.from ≡ from)
      → names_session name (after_join (joining_refusal settings self state found) found).desk ≡ true
      → (names_session name state.desk ≡ true) ⊎ ((is_none (joining_refusal settings self state found) && bytes_eq from name) ≡ true)
  join_made (Err code) from name whose named = inl named
  join_made (Ok join) from name whose named = by (join_refusal self state.desk join (kinds_of settings.classes state.forest.rows join.object join.method)) named
    where
      by : (refused : Option Code) → names_session name (after_join refused (Ok join)).desk ≡ true
          → (names_session name state.desk ≡ true) ⊎ ((is_none refused && bytes_eq from name) ≡ true)
      by (Some code) named = inl named
      by None named = ⊎_elim (λ old. inl old) (λ new. inr
          (ap (λ from. bytes_eq from name) (sym (whose join refl)) ∙ sym (or-false (bytes_eq join.from name)) ∙ new))
          (or_cases (names_session name state.desk) _ (sym (list_any-append (is_from name) state.desk.joins (join ∷ [])) ∙ named))

  -- and what it names is named after it, where it is not refused
  join_stands : (found : Found Join) (from name : List ℕ) → ((join : Join) → found ≡ Ok join → join.from ≡ from)
      → (is_none (joining_refusal settings self state found) && bytes_eq from name) ≡ true
      → names_session name (after_join (joining_refusal settings self state found) found).desk ≡ true
  join_stands (Err code) from name whose accepted = absurd (cc)
  join_stands (Ok join) from name whose accepted = by (join_refusal self state.desk join (kinds_of settings.classes state.forest.rows join.object join.method))
      accepted
    where
      by : (refused : Option Code) → (is_none refused && bytes_eq from name) ≡ true → names_session name (after_join refused (Ok join)).desk ≡ true
      by (Some code) accepted = absurd (cc)
      by None accepted =
          list_any-append (is_from name) state.desk.joins (join ∷ [])
          ∙ or_right (names_session name state.desk) _ (or-false (bytes_eq join.from name) ∙ ap (λ from. bytes_eq from name) (whose join refl) ∙ accepted)

  -- a command that is no join makes none
  plain_made : (asked : Asked) (name : List ℕ) → is_join_asked asked ≡ false → joins_name (does settings self state asked).state name ≡ true
      → joins_name state name ≡ true
  unfolding joins_name
  plain_made asked name plain = (command_keeps settings self state asked).leaves.joins plain (is_from name)

  pub command_made : (asked : Asked) (name : List ℕ) → joins_name (does settings self state asked).state name ≡ true
      → (joins_name state name ≡ true) ⊎ (accepts_join settings self state asked name ≡ true)
  unfolding does performs refusal joins_name accepts_join
  command_made (AsksJoin from name types target method) other named =
      join_made (asked_join settings state from name types target method) from other (found_from settings state from name types target method) named
  command_made asked other named = inl (plain_made asked other (grind (arith)) named)

  pub command_stands : (asked : Asked) (name : List ℕ) → accepts_join settings self state asked name ≡ true
      → joins_name (does settings self state asked).state name ≡ true
  unfolding does performs refusal joins_name accepts_join
  command_stands (AsksJoin from name types target method) other accepted =
      join_stands (asked_join settings state from name types target method) from other (found_from settings state from name types target method) accepted
  command_stands asked other accepted = absurd (cc)

-- where no join names the session, its posts do nothing
pub post_stranger : (classes : List Class) (state : State) (from : List ℕ) (post : Post) → joins_name state from ≡ false
    → arrives classes state from post ≡ state
unfolding joins_name arrives
post_stranger classes state from post unnamed = ap (λ queue. record state { queue = queue }) (by state.desk.joins state.queue unnamed)
  where
    passed : (queue : Queue) (join : Join) → bytes_eq join.from from ≡ false → reached classes state.forest.rows from post queue join ≡ queue
    passed queue join e = ap (λ b. cond (b && bytes_eq join.name post.name)
        (cond (is_matched post.kinds join) (with_call queue (joined_call classes state.forest.rows post.arguments join)) (with_mismatched queue)) queue) e

    by : (joins : List Join) (queue : Queue) → list_any (is_from from) joins ≡ false → reached_by classes state.forest.rows from post queue joins ≡ queue
    by [] queue none = refl
    by (join ∷ joins) queue none = either (bytes_eq join.from from) refl none (by joins queue)
      where
        either : (named : Bool) → bytes_eq join.from from ≡ named → (named || list_any (is_from from) joins) ≡ false
            → (list_any (is_from from) joins ≡ false → reached_by classes state.forest.rows from post queue joins ≡ queue)
            → reached_by classes state.forest.rows from post queue (join ∷ joins) ≡ queue
        either true e none rest = absurd (cc)
        either false e none rest = ap (λ queue. reached_by classes state.forest.rows from post queue joins) (passed queue join e) ∙ rest none
