-- Commands one after another, and what each session sees of the whole run.
use Rattle.std.proofs.Common.{◌≡◌, ◌⊎◌, inl, inr, ℕ, ◌+◌, ◌<◌, ◌≤◌, Bool, true, not, List, [], ◌∷◌, ◌++◌, Option, Some, None, OnSome, IsTrue, IsFalse, length}
use Rattle.std.proofs.Common.{map, take, get_or, add-one, refl, sym, ap, ap₂, subst, ◌∙◌, ⊎_elim, arith}
use Rattle.std.specs.Prelude.{bytes_eq}
use Rattle.std.specs.List.{list_any}
use Rattle.std.proofs.Math.Seq.{take-suc}
use Rattle.std.proofs.lemmas.Bool.{cases_Bool, both_ways, or_left, or_right}
use Rattle.std.proofs.lemmas.List.{map-append, take_all}
use Rattle.isolation.specs.Machine.{Tagged}
use Rattle.isolation.specs.World.{entries_of, only, world_after, world_lines, at_session}
use Rattle.isolation.specs.Influence.{IsClosed}
use Rattle.isolation.specs.Laws.{SameFor}
use Rattle.isolation.proofs.ForCallers.{between_law, first_half, leaving_out, second_half, slice_law}
use Rattle.session_model.specs.declared.command.Tagged.{Tagged as Given}
use Rattle.session_model.specs.declared.line.Line.{Line}
use Rattle.session_model.specs.State.{State}
use Rattle.session_model.specs.Asked.{Asked, tag}
use Rattle.session_model.specs.Machine.{machine}
use Rattle.session_model.proofs.ForCallers.{lawful}
use Rattle.server_world.specs.declared.report.Entry.{Entry}
use Rattle.server_world.specs.declared.report.Entry.TheVariants.{Lines, OutOfMemory}
use Rattle.server_world.specs.Names.{with_name, with_names}
use Rattle.server_world.specs.Runs.{AnotherFailed, AreSteps, IsApart, IsAsAlone, IsAsWith, IsEntry, IsIsolated, IsShort, IsWorldRun, entry_lines}
use Rattle.server_world.specs.Runs.{is_out_of_memory, resets, tags}
use Rattle.server_world.specs.Server.{Server, KnowsAtMost, failed, names, settings, states, was_refused}
use Rattle.server_world.proofs.ServerLemmas.{failed_kept, failed_there, knows_all, named_by, named_itself, named_more}

-- what was found after was found before
pub found_before : (was now : Bool) → (IsTrue was → IsTrue now) → IsFalse now → IsFalse was
found_before was now keeps found = ⊎_elim (λ refused. absurd (both_ways _ found (keeps refused))) (λ fine. fine) (cases_Bool was)

-- the commands so far, with the next
pub tags_more : (list : List Given) (i : ℕ) (given : Given) → i < length list → given ≡ get_or list i given
    → tags (take (i + 1) list) ≡ tags (take i list) ++ tag given ∷ []
tags_more list i given within is =
    ap (λ n. tags (take n list)) (add-one i) ∙ ap tags (take-suc list i given within) ∙ map-append tag (take i list) _
    ∙ ap (λ g. tags (take i list) ++ tag g ∷ []) (sym is)

-- one more command behind others
pub steps_more : (old now next : Server) (ts : List (Tagged (List ℕ) Asked)) (entries : List Entry) (t : Tagged (List ℕ) Asked) (entry : Entry)
    → AreSteps old ts entries now → IsEntry now next t entry → AreSteps old (ts ++ t ∷ []) (entries ++ entry ∷ []) next
steps_more old now next [] [] t entry same is = (next, subst (λ server. IsEntry server next t entry) same is, refl)
steps_more old now next [] (one ∷ entries) t entry steps is = absurd steps
steps_more old now next (first ∷ ts) [] t entry steps is = absurd steps
steps_more old now next (first ∷ ts) (one ∷ entries) t entry steps is = (steps.0, steps.1, steps_more steps.0 now next ts entries t entry steps.2 is)

-- all commands, where the list is at its end
pub steps_all : (old new : Server) (list : List Given) (i : ℕ) (entries all : List Entry) → length list ≤ i → all ≡ entries
    → AreSteps old (tags (take i list)) entries new → AreSteps old (tags list) all new
steps_all old new list i entries all within same steps =
    subst (λ entries. AreSteps old (tags list) entries new) (sym same) (subst (λ list. AreSteps old (tags list) entries new) (take_all i list within) steps)

-- the settings stay, and so does that memory was refused
pub steps_settings : (old new : Server) (ts : List (Tagged (List ℕ) Asked)) (entries : List Entry) → AreSteps old ts entries new → settings new ≡ settings old
steps_settings old new [] [] same = ap settings same
steps_settings old new [] (entry ∷ entries) steps = absurd steps
steps_settings old new (t ∷ ts) [] steps = absurd steps
steps_settings old new (t ∷ ts) (entry ∷ entries) steps = steps_settings steps.0 new ts entries steps.2 ∙ steps.1.step.settings

pub steps_kept : (old new : Server) (ts : List (Tagged (List ℕ) Asked)) (entries : List Entry) → AreSteps old ts entries new → IsTrue (was_refused old)
    → IsTrue (was_refused new)
steps_kept old new [] [] same was = ap was_refused same ∙ was
steps_kept old new [] (entry ∷ entries) steps was = absurd steps
steps_kept old new (t ∷ ts) [] steps was = absurd steps
steps_kept old new (t ∷ ts) (entry ∷ entries) steps was = steps_kept steps.0 new ts entries steps.2 (steps.1.step.kept was)

-- an entry that tells lines has them
pub entry_is : (entry : Entry) (lines : List Line) → entry_lines entry ≡ Some lines → entry ≡ Lines lines
entry_is (Lines told) lines e = cc
entry_is OutOfMemory lines e = absurd (cc)

pub told_some : {T P : Type 0} (value : Option T) (x : T) → value ≡ Some x → OnSome value P → P
told_some (Some y) x e h = h
told_some None x e h = absurd (cc)

-- where memory was found, steps are a run of the world
pub steps_world : (old new : Server) (ts : List (Tagged (List ℕ) Asked)) (entries : List Entry) → AreSteps old ts entries new → IsFalse (was_refused new)
    → IsWorldRun old new ts entries
steps_world old new [] [] same found = record { lines = refl; states = ap states same; names = ap names same }
steps_world old new [] (entry ∷ entries) steps found = absurd steps
steps_world old new (t ∷ ts) [] steps found = absurd steps
steps_world old new (t ∷ ts) (entry ∷ entries) steps found =
    let (between, one, others) = steps in
    let here = found_before _ _ (steps_kept between new ts entries others) found in
    let rest = steps_world between new ts entries others found in
    let told = one.step.lines here in
    record {
      lines = ap₂ (λ x xs. x ∷ xs) (entry_is entry _ told)
          (rest.lines ∙ ap₂ (λ settings world. map Lines (world_lines (machine settings) world ts)) one.step.settings (one.step.states here));
      states = rest.states ∙ ap₂ (λ settings world. world_after (machine settings) world ts) one.step.settings (one.step.states here);
      names = rest.names ∙ ap (λ names. with_names names ts) (told_some (entry_lines entry) _ told one.there);
    }

-- who is known stays so with further commands
known_kept : (names : List (List ℕ)) (ts : List (Tagged (List ℕ) Asked)) (name : List ℕ) → list_any (bytes_eq name) names ≡ true
    → list_any (bytes_eq name) (with_names names ts) ≡ true
known_kept names [] name there = there
known_kept names (t ∷ ts) name there = known_kept (with_name names t.session) ts name (named_more (bytes_eq name) names t.session there)

-- and more are known where more were
known_more : (names more : List (List ℕ)) (ts : List (Tagged (List ℕ) Asked))
    → ((name : List ℕ) → list_any (bytes_eq name) names ≡ true → list_any (bytes_eq name) more ≡ true)
    → (name : List ℕ) → list_any (bytes_eq name) (with_names names ts) ≡ true → list_any (bytes_eq name) (with_names more ts) ≡ true
known_more names more [] within = within
known_more names more (t ∷ ts) within = known_more (with_name names t.session) (with_name more t.session) ts
    (λ name there. ⊎_elim
    (λ was. named_more (bytes_eq name) more t.session (within name was))
    (λ is. subst (λ other. list_any (bytes_eq other) (with_name more t.session) ≡ true) (sym is) (named_itself more t.session))
    (named_by names t.session name there))

-- who is known after a command was there before, or gave it
known_after : (old new : Server) (session : List ℕ) → KnowsAtMost old new session → (name : List ℕ) → list_any (bytes_eq name) (names new) ≡ true
    → list_any (bytes_eq name) (with_name (names old) session) ≡ true
known_after old new session (inl same) name there = named_more (bytes_eq name) (names old) session (sym (ap (list_any (bytes_eq name)) same) ∙ there)
known_after old new session (inr more) name there = sym (ap (list_any (bytes_eq name)) more) ∙ there

-- what has failed has failed still, or has begun anew
failed_later : (old new : Server) (ts : List (Tagged (List ℕ) Asked)) (entries : List Entry) → AreSteps old ts entries new → (name : List ℕ)
    → IsTrue (failed old name) → IsTrue (failed new name) ⊎ IsTrue (list_any (resets name) ts)
failed_later old new [] [] same name was = inl (ap (λ server. failed server name) same ∙ was)
failed_later old new [] (entry ∷ entries) steps name was = absurd steps
failed_later old new (t ∷ ts) [] steps name was = absurd steps
failed_later old new (t ∷ ts) (entry ∷ entries) steps name was =
    let (between, one, others) = steps in
    ⊎_elim
    (λ still. ⊎_elim (λ failed. inl failed) (λ anew. inr (or_right (resets name t) _ anew)) (failed_later between new ts entries others name still))
    (λ anew. inr (or_left (resets name t) _ anew))
    (failed_kept old between t.session t.command (entry_lines entry) one.step one.lost name was)

is_short : (entry : Entry) → entry_lines entry ≡ None → IsTrue (is_out_of_memory entry)
is_short (Lines lines) e = absurd (cc)
is_short OutOfMemory e = refl

-- who is to blame, if memory was refused first
pub steps_blame : (old new : Server) (ts : List (Tagged (List ℕ) Asked)) (entries : List Entry) → AreSteps old ts entries new → IsFalse (was_refused old)
    → IsTrue (was_refused new) → IsShort entries ⊎ AnotherFailed old new ts
steps_blame old new [] [] same was refused = absurd (both_ways _ was (sym (ap was_refused same) ∙ refused))
steps_blame old new [] (entry ∷ entries) steps was refused = absurd steps
steps_blame old new (t ∷ ts) [] steps was refused = absurd steps
steps_blame old new (t ∷ ts) (entry ∷ entries) steps was refused =
    let (between, one, others) = steps in
    ⊎_elim
    (λ now. ⊎_elim
    (λ nothing. inl (or_left _ _ (is_short entry nothing)))
    (λ another. inr (record {
      name = another.0;
      there = known_kept (with_name (names old) t.session) ts another.0
          (known_after old between t.session one.known another.0 (failed_there between.engine another.0 another.3));
      another = or_left _ _ (ap not another.1);
      fails = ⊎_elim (λ still. inl still) (λ anew. inr (or_right (resets another.0 t) _ anew)) (failed_later between new ts entries others another.0 another.3);
    }))
    (one.step.blame was now))
    (λ fine. ⊎_elim
    (λ short. inl (or_right (is_out_of_memory entry) _ short))
    (λ fails. inr (record {
      name = fails.name;
      there = known_more (names between) (with_name (names old) t.session) ts (known_after old between t.session one.known) fails.name fails.there;
      another = or_right _ _ fails.another;
      fails = ⊎_elim (λ still. inl still) (λ anew. inr (or_right (resets fails.name t) _ anew)) fails.fails;
    }))
    (steps_blame between new ts entries others fine refused))
    (cases_Bool (was_refused between))

-- the entries of a session, each made of one
pub entries_of-map : {Name Command A B : Type 0} (f : A → B) (keep : Name → Bool) (ts : List (Tagged Name Command)) (xs : List A)
    → entries_of keep ts (map f xs) ≡ map f (entries_of keep ts xs)
entries_of-map f keep [] xs = refl
entries_of-map f keep (t ∷ ts) [] = refl
entries_of-map f keep (t ∷ ts) (x ∷ xs) =
    let rest = entries_of-map f keep ts xs in
    ⊎_elim (λ e. grind (arith, e, rest)) (λ e. grind (arith, e, rest)) (cases_Bool (keep t.session))

module _ (old : Server) (ts : List (Tagged (List ℕ) Asked)) (entries : List Entry) (s : List ℕ) (Ends : State → Type 0)
    (told : at_session (machine (settings old)) s ts entries ≡ map Lines
    (at_session (machine (settings old)) s ts (world_lines (machine (settings old)) (states old) ts)))
    (ends : Ends (world_after (machine (settings old)) (states old) ts s)) where
  as_alone : IsAsAlone (settings old) (states old) ts entries s Ends
  as_alone =
      let alone = first_half (machine (settings old)) (lawful (settings old)) s (states old) ts in
      record { lines = told ∙ ap (map Lines) alone.lines; state = subst Ends alone.state ends }

  as_with : (others : List (Tagged (List ℕ) Asked)) → SameFor (machine (settings old)) s (states old) ts (states old) others
      → IsAsWith (settings old) (states old) ts entries s others Ends
  as_with others same = record { lines = told ∙ ap (map Lines) (sym same.lines); state = subst Ends (sym same.state) ends }

  -- lists that have the same commands of a closed set tell its members the same
  same_interleaved : (keep : List ℕ → Bool) (others : List (Tagged (List ℕ) Asked)) → keep s ≡ true
      → IsClosed (machine (settings old)) keep (states old) ts → IsClosed (machine (settings old)) keep (states old) others → only keep others ≡ only keep ts
      → SameFor (machine (settings old)) s (states old) ts (states old) others
  same_interleaved keep others passes closed too same =
      let m = machine (settings old) in
      let one = leaving_out m (lawful (settings old)) keep (states old) (states old) ts closed (λ name kept. refl) s passes in
      let other = leaving_out m (lawful (settings old)) keep (states old) (states old) others too (λ name kept. refl) s passes in
      record {
        lines = sym other.lines ∙ ap (λ (cs : List (Tagged (List ℕ) Asked)). at_session m s cs (world_lines m (states old) cs)) same ∙ one.lines;
        state = sym other.state ∙ ap (λ (cs : List (Tagged (List ℕ) Asked)). world_after m (states old) cs s) same ∙ one.state;
      }

  pub apart : IsApart old ts entries s Ends
  apart =
      let m = machine (settings old) in
      record {
        alone = as_alone;
        influenced = as_with _ (second_half m (lawful (settings old)) (states old) (names old) ts (knows_all (settings old) old.engine) s);
        sliced = as_with _ (slice_law m (lawful (settings old)) s (states old) ts);
        between = λ more within. as_with _ (between_law m (lawful (settings old)) s (states old) ts more within);
        interleaved = λ keep others passes closed too same. as_with others (same_interleaved keep others passes closed too same);
      }

-- so with a run in which memory was found
pub isolated : (old new : Server) (ts : List (Tagged (List ℕ) Asked)) (entries : List Entry) → IsWorldRun old new ts entries → (s : List ℕ)
    → IsIsolated old new ts entries s
isolated old new ts entries run s =
    apart old ts entries s (λ state. states new s ≡ state)
    (ap (at_session (machine (settings old)) s ts) run.lines ∙ entries_of-map Lines (bytes_eq s) ts (world_lines (machine (settings old)) (states old) ts))
    (ap (λ states. states s) run.states)
