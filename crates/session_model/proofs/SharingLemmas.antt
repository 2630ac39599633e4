-- The rule of each command for publications and joins, and of the one that begins anew: why it is refused,
-- what it does where it is not, and what it keeps of a session.
use Rattle.publish_board.specs.Desk.{left, published, unpublished, with_join}
use Rattle.publish_board.specs.Rows.{has_name, is_join}
use Rattle.plain_types.specs.declared.code.Code.TheVariants.{BadSignature}
use Rattle.signature_core.specs.Kinds.{kind_named}
use Rattle.std.proofs.Common.{Bool, Err, List, None, Ok, Option, Some, [], ap, arith, cond, false, is_some, length, nat_le, not, refl, slice_get, subst, suc}
use Rattle.std.proofs.Common.{sym, true, ℕ, ◌∷◌, ◌≡◌, ◌≤◌}
use Rattle.std.proofs.lemmas.Bool.Decides.{nat_tests}
use Rattle.std.proofs.lemmas.List.Elements.{All-filter, All-push}
use Rattle.std.specs.List.{All}
use Rattle.std.specs.Option.{ok_or}
use Rattle.std.specs.Result.{result_err}
use Rattle.session_model.proofs.Common.{is_there, Row, Desk, Join, Publication, Kind, Code, DoesNotFit, NoSuchObject, fits, kinds_of, Asked, behind, replies}
use Rattle.session_model.proofs.Common.{IsFitting, IsJoined, IsPublished, Found, method_named, methods_of, signal_named, AreNamed, IsSound, OfDesk}
use Rattle.session_model.proofs.Common.{State, empty}
use Rattle.session_model.proofs.DeskLemmas.{fewer_pass, of_joined, of_left, of_published, of_unpublished, sound_joined, sound_left, sound_published}
use Rattle.session_model.proofs.DeskLemmas.{sound_unpublished}
use Rattle.session_model.proofs.FittingFoundLemmas.{named_method_there, named_signal_there}
use Rattle.session_model.proofs.FittingPostLemmas.{first_fits}
use Rattle.session_model.proofs.FoundLemmas.{if_found, then_found}
use Rattle.session_model.proofs.KeepingLemmas.{Falls, Keeps, Leaves, is_join_asked, refused, replied, leaves_with}
use Rattle.session_model.proofs.LawLemmas.{empty_sound}
use Rattle.session_model.proofs.NamedLemmas.{empty_named}
use Rattle.session_model.proofs.StateLemmas.{whole_with_desk}
use Rattle.session_model.specs.Asked.{Join as AsksJoin, Leave, Publish, Reset, Unpublish}
use Rattle.session_model.specs.Named.{IsNamedAsked, IsNamedJoin, IsNamedPublication}
use Rattle.session_model.specs.Refusing.{refusal}
use Rattle.session_model.specs.Sharing.{asked_join, asked_kinds, asked_listener, asked_publication, joining_refusal, joins_found, kinds_named, leaves}
use Rattle.session_model.specs.Sharing.{publication_refusal, publishes_found, unpublishes}
use Rattle.session_model.specs.State.{with_desk}
use Rattle.session_model.specs.Thread.{Settings, performs}
use Rattle.session_model.specs.declared.line.Answer.TheVariants as a
use Rattle.publish_board.specs.Desk as board

module _ (settings : Settings) (self : List ℕ) (state : State) where
  module _ (target : ℕ) (signal name : List ℕ) where
    pub refusal_publish : refusal settings self state (Publish target signal name)
        ≡ publication_refusal state (asked_publication settings state target signal name)
    unfolding refusal
    refusal_publish = refl

    pub performs_publish : performs settings self state (Publish target signal name)
        ≡ publishes_found state (asked_publication settings state target signal name)
    unfolding performs
    performs_publish = refl

  pub refusal_unpublish : (name : List ℕ) → refusal settings self state (Unpublish name) ≡ None
  unfolding refusal
  refusal_unpublish name = refl

  pub performs_unpublish : (name : List ℕ) → performs settings self state (Unpublish name) ≡ unpublishes state name
  unfolding performs
  performs_unpublish name = refl

  module _ (from name : List ℕ) (types : List (List ℕ)) (target : ℕ) (method : List ℕ) where
    pub refusal_join : refusal settings self state (AsksJoin from name types target method)
        ≡ joining_refusal settings self state (asked_join settings state from name types target method)
    unfolding refusal
    refusal_join = refl

    pub performs_join : performs settings self state (AsksJoin from name types target method)
        ≡ joins_found state (asked_join settings state from name types target method)
    unfolding performs
    performs_join = refl

  module _ (from name : List ℕ) (target : ℕ) (method : List ℕ) where
    pub refusal_leave : refusal settings self state (Leave from name target method) ≡ result_err (asked_listener settings state target method)
    unfolding refusal
    refusal_leave = refl

    pub performs_leave : performs settings self state (Leave from name target method)
        ≡ leaves state from name target (asked_listener settings state target method)
    unfolding performs
    performs_leave = refl

  pub refusal_reset : refusal settings self state Reset ≡ None
  unfolding refusal
  refusal_reset = refl

  pub performs_reset : performs settings self state Reset ≡ replies empty (a.Truth true)
  unfolding performs
  performs_reset = refl

-- each text names one kind, and no more are taken than a signature may have
kinds_counted : (texts : List (List ℕ)) (kinds : List Kind) → kinds_named texts ≡ Ok kinds → length kinds ≡ length texts
kinds_counted [] kinds e = let same : [] ≡ kinds = cc in ap length (sym same)
kinds_counted (text ∷ texts) kinds e =
    let (kind, is, e) = then_found (ok_or (kind_named text) BadSignature) _ e in
    let (others, so, e) = then_found (kinds_named texts) _ e in
    let same : kind ∷ others ≡ kinds = cc in
    subst (λ (kinds : List Kind). length kinds ≡ length (text ∷ texts)) same (ap suc (kinds_counted texts others so))

few_kinds : (texts : List (List ℕ)) (kinds : List Kind) → asked_kinds texts ≡ Ok kinds → length kinds ≤ 10
few_kinds texts kinds e =
    let (few, e) = if_found (nat_le (length texts) 10) _ _ e in
    let within : length texts ≤ 10 = grind (arith, nat_tests, few) in
    omega (arith, within, kinds_counted texts kinds e)

-- what was looked for behind an object is found where that is there
found_behind : {A : Type 0} (there : Bool) (found : Found A) (value : A) → behind (cond there None (Some NoSuchObject)) found ≡ Ok value
    → (there ≡ true) × (found ≡ Ok value)
found_behind true found value is = (refl, is)
found_behind false found value is = absurd (cc)

module _ (settings : Settings) (state : State) (target : ℕ) where
  -- a publication that was found is of a signal of an object that stands
  abbrev publication_of : List ℕ → ℕ → Publication
  publication_of name index = record { name = name; object = target; signal = index }

  record FoundPublication (signal name : List ℕ) (row : Publication) : Type 0 where
    index : ℕ
    there : is_there state.forest.rows target ≡ true
    named : signal_named (methods_of settings state target) signal ≡ Ok index
    is : publication_of name index ≡ row

  publication_found : (signal name : List ℕ) (row : Publication) → asked_publication settings state target signal name ≡ Ok row
      → FoundPublication signal name row
  publication_found signal name row is =
      let (there, found) = found_behind (is_there state.forest.rows target) _ row is in
      let (index, named, e) = then_found (signal_named (methods_of settings state target) signal) _ found in
      record { index = index; there = there; named = named; is = cc }

  -- and a join that was found calls a method of one
  abbrev pub join_of : List ℕ → List ℕ → List Kind → ℕ → Join
  join_of from name kinds index = record { from = from; name = name; kinds = kinds; object = target; method = index }

  pub record FoundJoin (from name : List ℕ) (types : List (List ℕ)) (method : List ℕ) (join : Join) : Type 0 where
    kinds : List Kind
    index : ℕ
    there : is_there state.forest.rows target ≡ true
    kinds_named : asked_kinds types ≡ Ok kinds
    named : method_named (methods_of settings state target) method ≡ Ok index
    pub is : join_of from name kinds index ≡ join

  pub join_found : (from name : List ℕ) (types : List (List ℕ)) (method : List ℕ) (join : Join)
      → asked_join settings state from name types target method ≡ Ok join → FoundJoin from name types method join
  join_found from name types method join is =
      let (there, found) = found_behind (is_there state.forest.rows target) _ join is in
      let (kinds, so, e) = then_found (asked_kinds types) _ found in
      let (index, named, e) = then_found (method_named (methods_of settings state target) method) _ e in
      record { kinds = kinds; index = index; there = there; kinds_named = so; named = named; is = cc }

module _ (settings : Settings) (state : State) where
  abbrev rows : List Row
  rows = state.forest.rows

  -- another desk, each of whose objects stands
  desk_leaves : {asked : Asked} {desk : Desk} → (IsSound state → board.IsSound desk × OfDesk (λ number. is_there rows number ≡ true) desk)
      → (IsFitting settings state → All (IsPublished settings rows) desk.publications × All (IsJoined settings rows) desk.joins)
      → (IsNamedAsked asked → AreNamed state → All IsNamedPublication desk.publications × All IsNamedJoin desk.joins)
      → (is_join_asked asked ≡ false → Falls state (with_desk state desk)) → Leaves settings state asked (with_desk state desk)
  desk_leaves sound fits named falls = leaves_with
      (λ its. whole_with_desk (sound its).0 (sound its).1 its.whole) (λ declared. declared)
      (λ before. (let fit = before.fit in record
      { events = fit.events; connections = fit.connections; publications = (fits fit).0; joins = (fits fit).1 }))
      (λ is its. record { store = its.store; publications = (named is its).0; joins = (named is its).1 }) falls

  -- a signal that is found is published
  pub publish_keeps : (target : ℕ) (signal name : List ℕ) → publication_refusal state (asked_publication settings state target signal name) ≡ None
      → Keeps settings state (Publish target signal name) (publishes_found state (asked_publication settings state target signal name))
  publish_keeps target signal name = by (asked_publication settings state target signal name) refl
    where
      by : (found : Found Publication) → asked_publication settings state target signal name ≡ found → publication_refusal state found ≡ None
          → Keeps settings state (Publish target signal name) (publishes_found state found)
      by (Err code) is passed = refused
      by (Ok row) is passed = replied (desk_leaves
          (λ sound. (
            sound_published row passed sound.whole.desk,
            of_published _ state.desk sound.whole.named row (subst (λ (row : Publication). is_there rows row.object ≡ true) its.is its.there),
          ))
          (λ fit. (
            All-push (IsPublished settings rows) state.desk.publications row fit.publications (subst (IsPublished settings rows) its.is
                (named_signal_there (methods_of settings state target) signal its.index its.named)),
            fit.joins,
          ))
          (λ called named. (
            All-push IsNamedPublication state.desk.publications row named.publications
                (subst IsNamedPublication its.is called),
            named.joins,
          ))
          (λ plain test held. held))
        where
          its : FoundPublication settings state target signal name row
          its = publication_found settings state target signal name row is

  pub unpublish_keeps : (name : List ℕ) → Keeps settings state (Unpublish name) (unpublishes state name)
  unpublish_keeps name = replied (desk_leaves
      (λ sound. (sound_unpublished name sound.whole.desk, of_unpublished _ state.desk sound.whole.named name))
      (λ fit. (All-filter (λ row. not (has_name name row)) (IsPublished settings rows) state.desk.publications fit.publications, fit.joins))
      (λ is named. (All-filter (λ row. not (has_name name row)) IsNamedPublication state.desk.publications named.publications, named.joins))
      (λ plain test held. held))

  -- and so is a method joined
  pub join_keeps : (self from name : List ℕ) (types : List (List ℕ)) (target : ℕ) (method : List ℕ)
      → joining_refusal settings self state (asked_join settings state from name types target method) ≡ None
      → Keeps settings state (AsksJoin from name types target method) (joins_found state (asked_join settings state from name types target method))
  join_keeps self from name types target method = by (asked_join settings state from name types target method) refl
    where
      by : (found : Found Join) → asked_join settings state from name types target method ≡ found → joining_refusal settings self state found ≡ None
          → Keeps settings state (AsksJoin from name types target method) (joins_found state found)
      by (Err code) is passed = refused
      by (Ok join) is passed = replied (desk_leaves
          (λ sound. (
            sound_joined self join _ passed sound.whole.desk,
            of_joined _ state.desk sound.whole.named join (subst (λ (join : Join). is_there rows join.object ≡ true) its.is its.there),
          ))
          (λ fit. (
            fit.publications,
            All-push (IsJoined settings rows) state.desk.joins join fit.joins
                (record {
                  callee = subst (λ (join : Join). is_some (slice_get (methods_of settings state join.object) join.method) ≡ true) its.is
                      (named_method_there (methods_of settings state target) method its.index its.named);
                  fitting = fitting;
                  few = subst (λ (join : Join). length join.kinds ≤ 10) its.is (few_kinds types its.kinds its.kinds_named);
                }),
          ))
          (λ called named. (
            named.publications,
            All-push IsNamedJoin state.desk.joins join named.joins
                (subst IsNamedJoin its.is called),
          ))
          (λ plain. absurd (cc)))
        where
          its : FoundJoin settings state target from name types method join
          its = join_found settings state target from name types method join is

          fitting : fits join.kinds (kinds_of settings.classes rows join.object join.method) ≡ true
          fitting = of_found (fits join.kinds (kinds_of settings.classes rows join.object join.method)) _ passed
            where
              of_found : (fit : Bool) (rest : Option Code) → cond (not fit) (Some DoesNotFit) rest ≡ None → fit ≡ true
              of_found true rest e = refl
              of_found false rest e = absurd (cc)

  pub leave_keeps : (from name : List ℕ) (target : ℕ) (method : List ℕ)
      → Keeps settings state (Leave from name target method) (leaves state from name target (asked_listener settings state target method))
  leave_keeps from name target method = by (asked_listener settings state target method)
    where
      by : (found : Found ℕ) → Keeps settings state (Leave from name target method) (leaves state from name target found)
      by (Err code) = refused
      by (Ok index) = replied (desk_leaves
          (λ sound. (sound_left from name target index sound.whole.desk, of_left _ state.desk sound.whole.named from name target index))
          (λ fit. (fit.publications, All-filter (λ join. not (is_join from name target index join)) (IsJoined settings rows) state.desk.joins fit.joins))
          (λ is named. (named.publications, All-filter (λ join. not (is_join from name target index join)) IsNamedJoin state.desk.joins named.joins))
          (λ plain test held. fewer_pass test (λ join. not (is_join from name target index join)) state.desk.joins held))

  pub reset_keeps : Keeps settings state Reset (replies empty (a.Truth true))
  reset_keeps = replied (record {
    sound = λ sound. empty_sound;
    declared = λ sound declared index default within. absurd (omega arith);
    fitting = λ fits. first_fits settings;
    named = λ are is named. empty_named;
    joins = λ plain test held. absurd (cc);
  })
