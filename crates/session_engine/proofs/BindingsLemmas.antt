-- What the commands for bindings and groups come to.
use Rattle.std.proofs.Common.{◌≡◌, ℕ, Bool, true, false, cond, List, [], ◌∷◌, Option, Some, None, Result, Ok, Err, IsErrAnd, refl, sym, ap, subst, ◌∙◌}
use Rattle.std.specs.Option.{option_map_or, option_or}
use Rattle.session_engine.proofs.Common.{Code, Fault, Refused, Answers, Data, reads_refusal, begun, in_state, Next, puts, Found, ◌>>=◌, Settings, State, Tables}
use Rattle.session_engine.proofs.Common.{state_at, SessionContext, settings_of, told_items}
use Rattle.plain_types.specs.declared.code.Code.TheVariants.{NoSuchObject}
use Rattle.term_core.specs.Forms.{binding_term_of}
use Rattle.term_core.specs.Term.{Term}
use Rattle.term_evaluation.specs.declared.reading.Read.{Read}
use Rattle.term_evaluation.specs.Reading.{reads_of}
use Rattle.binding_values.specs.declared.change.Change.{Change}
use Rattle.property_store.specs.declared.property.Property.{Property}
use Rattle.binding_values.specs.Graph as graph
use Rattle.binding_values.specs.Graph.{is_open}
use Rattle.binding_values.specs.Stored.{meant}
use Rattle.session_model.specs.Binding.{Bound, asked_binding, bindable_property, refusal_of}
use Rattle.session_model.specs.Operations.{behind}
use Rattle.session_model.specs.Showing.{changes, comes_to, showing}
use Rattle.session_model.proofs.ForCallers.{tells}
use Rattle.session_engine.proofs.CommandsLemmas.{or_first, or_second}
use Rattle.session_engine.proofs.ToldLemmas.{comes}

-- a property that is to be bound, and its expression
abbrev pub bound_to : Property → Term → Bound
bound_to at term = record { at = at; term = term }

-- what is to be bound where this is its expression
abbrev pub with_term : State → ℕ → Property → Found Term → Found Bound
with_term state target at found = found >>= λ term. behind (reads_refusal state target (reads_of term)) (Ok (bound_to at term))

-- what stands behind a refusal is refused by that alone
behind_other : {A B : Type 0} (refusal : Option Code) (a : A) (b : B) → behind refusal (Ok b) ≡ behind refusal (Ok a) >>= λ _. Ok b
behind_other None a b = refl
behind_other (Some code) a b = refl

-- a binding is asked for step by step: its property, its expression, and what that reads
module _ (state : State) (target : ℕ) (name : List ℕ) (to : Data) where
  pub unbindable : (code : Code) → Err code ≡ bindable_property state target name → asked_binding state target name to ≡ Err code
  unbindable code is = ap (λ found. found >>= λ at. with_term state target at (binding_term_of to)) (sym is)

  module _ (at : Property) (is : Ok at ≡ bindable_property state target name) where
    pub behind_property : asked_binding state target name to ≡ with_term state target at (binding_term_of to)
    behind_property = ap (λ found. found >>= λ at. with_term state target at (binding_term_of to)) (sym is)

    module _ (term : Term) (read : binding_term_of to ≡ Ok term) where
      pub behind_term : asked_binding state target name to ≡ behind (reads_refusal state target (reads_of term)) (Ok (tt {0})) >>= λ _. Ok (bound_to at term)
      behind_term = behind_property ∙ ap (with_term state target at) read
          ∙ behind_other (reads_refusal state target (reads_of term)) (tt {0}) (bound_to at term)

      pub bound_found : behind (reads_refusal state target (reads_of term)) (Ok (tt {0})) ≡ Ok (tt {0})
          → asked_binding state target name to ≡ Ok (bound_to at term)
      bound_found passed = behind_term ∙ ap (λ found. found >>= λ _. Ok (bound_to at term)) passed

-- the refusal of the first of some reads comes before those of the others
reads_first : (state : State) (target : ℕ) (read : Read) (rest : List Read)
    → reads_refusal state target (read ∷ rest) ≡ option_or (reads_refusal state target (read ∷ [])) (reads_refusal state target rest)
reads_first state target read rest = by (option_map_or (λ object. refusal_of (bindable_property state object read.name)) (meant target read.target)
    (Some NoSuchObject)) (reads_refusal state target rest)
  where
    by : (first others : Option Code) → option_or first others ≡ option_or (option_or first None) others
    by None others = refl
    by (Some code) others = refl

-- so is a list of reads refused by the first that is
pub read_refused : (state : State) (target : ℕ) (read : Read) (rest : List Read) (code : Code) (result : Result (Unit {0}) Fault)
    → IsErrAnd result (λ fault. fault ≡ Refused code) → Some code ≡ reads_refusal state target (read ∷ [])
    → Answers result (behind (reads_refusal state target (read ∷ rest)) (Ok (tt {0})))
read_refused state target read rest code (Ok value) h is = absurd h
read_refused state target read rest code (Err fault) h is =
    subst (λ fault. Answers {T = Unit {0}} (Err fault) (behind (reads_refusal state target (read ∷ rest)) (Ok (tt {0})))) (sym h)
    (ap (λ refusal. behind refusal (Ok (tt {0}))) (reads_first state target read rest ∙ or_first _ (reads_refusal state target rest) code is))

pub read_passed : (state : State) (target : ℕ) (read : Read) (rest : List Read) → None ≡ reads_refusal state target (read ∷ [])
    → reads_refusal state target (read ∷ rest) ≡ reads_refusal state target rest
read_passed state target read rest is = reads_first state target read rest ∙ or_second _ (reads_refusal state target rest) is

-- the changes that were found are those that are told
pub comes_found : (caller : SessionContext) (old middle : Tables) (after : State) (written : Option Property) (found : List Change)
    → state_at middle caller.place ≡ after → found ≡ changes (state_at old caller.place) (state_at middle caller.place) written
    → comes_to (settings_of caller.setup.now) (begun (settings_of caller.setup.now) (state_at old caller.place)) 0 after written
    ≡ comes caller old middle (told_items (settings_of caller.setup.now) (state_at middle caller.place) 0 found)
comes_found caller old middle after written found is all =
    ap (λ after. comes_to (settings_of caller.setup.now) (begun (settings_of caller.setup.now) (state_at old caller.place)) 0 after written) (sym is)
    ∙ ap (λ found. comes caller old middle (told_items (settings_of caller.setup.now) (state_at middle caller.place) 0 found)) (sym all)

-- what has changed since the outermost group began, where it ends, and nothing within another one
abbrev pub changes_of_group : State → State → List Change
changes_of_group before after = cond (is_open after.graph) [] (graph.changes before.graph.last (showing after) None)

-- what the end of a group comes to
abbrev pub group_ends : Settings → State → State → Next
group_ends settings before after = puts (cond (is_open after.graph) [] (tells settings after 0 (graph.changes before.graph.last (showing after) None)))
    (in_state (begun settings before) after)

pub comes_at_end : (caller : SessionContext) (old middle : Tables) (after : State) (found : List Change) → state_at middle caller.place ≡ after
    → found ≡ changes_of_group (state_at old caller.place) (state_at middle caller.place)
    → group_ends (settings_of caller.setup.now) (state_at old caller.place) after
    ≡ comes caller old middle (told_items (settings_of caller.setup.now) (state_at middle caller.place) 0 found)
comes_at_end caller old middle after found is all =
    let settings = settings_of caller.setup.now in
    let state = state_at old caller.place in
    let now = state_at middle caller.place in
    ap (group_ends settings state) (sym is)
    ∙ ap (λ items. puts items (in_state (begun settings state) now)) (by settings now (is_open now.graph) (graph.changes state.graph.last (showing now) None))
    ∙ ap (λ found. comes caller old middle (told_items settings now 0 found)) (sym all)
  where
    by : (settings : Settings) (now : State) (deep : Bool) (all : List Change)
        → cond deep [] (tells settings now 0 all) ≡ told_items settings now 0 (cond deep [] all)
    by settings now true all = refl
    by settings now false all = refl
