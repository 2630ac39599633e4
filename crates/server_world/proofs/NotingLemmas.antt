-- Notes of places are notes of the names of these places, and the way back over either is one.
use Rattle.std.proofs.Common.{Result, Ok, Err, OnErr, take, IsFalse, None, append-nil, subst, cond, ◌≡◌, ◌∙◌, ℕ, ◌+◌, ◌<◌, ◌==◌, ◌||◌, Bool, true, false, List}
use Rattle.std.proofs.Common.{[], ◌∷◌, ◌++◌, Some, length, map, position, get_or, refl, sym, ap, ap₂, ⊎_elim, arith}
use Rattle.std.specs.Prelude.{bytes_eq}
use Rattle.std.specs.List.{All, list_any}
use Rattle.std.proofs.lemmas.Bool.{both_ways, cases_Bool, eq-eqb, false_from_ne_true}
use Rattle.std.proofs.lemmas.List.{get_or_append_left, length-append, map-append, take-map}
use Rattle.std.proofs.lemmas.List.Folds.{list_any_at}
use Rattle.std.proofs.lemmas.Slice.Eq.{bytes_eq-Decides}
use Rattle.std.proofs.Math.Seq.{get_or-append_seam}
use Rattle.std.proofs.lemmas.List.Quantifiers.{position-Some}
use Rattle.std.proofs.lemmas.List.Elements.{All-append}
use Rattle.isolation.specs.Machine.{Tagged}
use Rattle.isolation.specs.Slice.{AreNotes, IsNote, Note, Slice, back, with_mark}
use Rattle.isolation.specs.World.{is_in, world_after}
use Rattle.isolation.proofs.ForCallers.{AreNotes-push, notes_give_slice}
use Rattle.session_model.specs.declared.command.Tagged.{Tagged as Given}
use Rattle.session_model.specs.Asked.{Asked, tag}
use Rattle.session_model.specs.State.{State}
use Rattle.session_model.specs.Machine.{machine}
use Rattle.session_model.specs.Thread.{Settings}
use Rattle.session_model.proofs.ForCallers.{lawful}
use Rattle.session_engine.specs.Core.{AreJoinersOf, place}
use Rattle.session_engine.proofs.EngineLemmas.{position-None}
use Rattle.server_world.specs.Server.{Server, names, settings, states, was_refused}
use Rattle.server_world.specs.declared.report.Entry.{Entry}
use Rattle.server_world.specs.Runs.{AreSteps, IsEntry, entry_lines, tags}
use Rattle.server_world.specs.Names.{with_name}
use Rattle.server_world.specs.NotedRuns.{Stops}
use Rattle.server_world.specs.Noting.{AreNoted, IsNoted, IsWithin, kept_places, marked_from, name_at, named}
use Rattle.server_world.specs.NotedInside.{by_place}
use Rattle.server_world.proofs.RunLemmas.{found_before, steps_settings, steps_world, told_some}
use Rattle.server_world.proofs.ServerLemmas.{with_name-new, with_name-there}
use Rattle.server_world.proofs.NotesLemmas.{all_front, all_more, all_rest, list_any_same}

-- names that come behind change no note of places before them
name_stays : (names more : List (List ℕ)) (places : List ℕ) → All (λ place. place < length names) places
    → map (name_at (names ++ more)) places ≡ map (name_at names) places
name_stays names more [] within = refl
name_stays names more (place ∷ places) within =
    ap₂ (λ (name : List ℕ) (others : List (List ℕ)). name ∷ others)
    (get_or_append_left names more [] place (all_front (λ place. place < length names) place places within))
    (name_stays names more places (all_rest (λ place. place < length names) place places within))

pub named_stays : (names more : List (List ℕ)) (notes : List (Note ℕ)) → All (IsWithin (length names)) notes
    → map (named (names ++ more)) notes ≡ map (named names) notes
named_stays names more [] within = refl
named_stays names more (note ∷ notes) within =
    let here = all_front (IsWithin (length names)) note notes within in
    ap₂ (λ (note : Note (List ℕ)) (others : List (Note (List ℕ))). note ∷ others)
    (ap₂ (λ (session : List ℕ) (joiners : List (List ℕ)). (let note : Note (List ℕ) = record { session = session; joiners = joiners } in note))
    (get_or_append_left names more [] note.session here.0) (name_stays names more note.joiners here.1))
    (named_stays names more notes (all_rest (IsWithin (length names)) note notes within))

list_any-map : {A B : Type 0} (p : B → Bool) (f : A → B) (xs : List A) → list_any p (map f xs) ≡ list_any (λ x. p (f x)) xs
list_any-map p f [] = refl
list_any-map p f (x ∷ xs) = ap (λ b. p (f x) || b) (list_any-map p f xs)

module _ (settings : Settings) (names : List (List ℕ)) where
  module _ (apart : (at : ℕ) → at < length names → position (bytes_eq (name_at names at)) names ≡ Some at) where
    same_name : (a b : ℕ) → a < length names → b < length names → bytes_eq (name_at names a) (name_at names b) ≡ (a == b)
    same_name a b a_there b_there = ⊎_elim
        (λ same. let e : a ≡ b = grind (arith, same) in (bytes_eq-Decides (name_at names a) (name_at names b)).1 (ap (name_at names) e) ∙ sym same)
        (λ other. false_from_ne_true _ (λ equal.
        let name : name_at names a ≡ name_at names b = (bytes_eq-Decides (name_at names a) (name_at names b)).0 equal in
        let place : Some a ≡ Some b = sym (apart a a_there) ∙ ap (λ name. position (bytes_eq name) names) name ∙ apart b b_there in
        let e : a ≡ b = cc in
        both_ways (a == b) other (eq-eqb a b e)) ∙ sym other)
        (cases_Bool (a == b))

    is_in-names : (place : ℕ) (places : List ℕ) → place < length names → All (λ place. place < length names) places
        → is_in (machine settings) (name_at names place) (map (name_at names) places) ≡ is_in by_place place places
    is_in-names place places there within =
        list_any-map (bytes_eq (name_at names place)) (name_at names) places
        ∙ list_any_same (λ other. bytes_eq (name_at names place) (name_at names other)) (λ other. place == other) places
        (λ k d inner. same_name place (get_or places k d) there (within k d inner))

    -- what is found by places, as names
    abbrev by_name : Slice ℕ → Slice (List ℕ)
    by_name slice = record { members = map (name_at names) slice.members; marks = slice.marks }

    by_name-mark : (mark : Bool) (place : ℕ) (rest : Slice ℕ) → with_mark mark (name_at names place) (by_name rest) ≡ by_name (with_mark mark place rest)
    by_name-mark true place rest = refl
    by_name-mark false place rest = refl

    within-mark : (mark : Bool) (place : ℕ) (rest : Slice ℕ) → place < length names → All (λ place. place < length names) rest.members
        → All (λ place. place < length names) (with_mark mark place rest).members
    within-mark true place rest there within = all_more (λ place. place < length names) place rest.members there within
    within-mark false place rest there within = within

    members_within : (at : ℕ) (notes : List (Note ℕ)) → at < length names → All (IsWithin (length names)) notes
        → All (λ place. place < length names) (back by_place at notes).members
    members_within at [] there within = all_more (λ place. place < length names) at [] there (λ k d none. absurd (omega arith))
    members_within at (note ∷ notes) there within =
        let rest = back by_place at notes in
        within-mark (is_in by_place note.session rest.members || list_any (λ r. is_in by_place r note.joiners) rest.members) note.session rest
        (all_front (IsWithin (length names)) note notes within).0 (members_within at notes there (all_rest (IsWithin (length names)) note notes within))

    -- the way back over names is that over places
    pub back_by_name : (at : ℕ) (notes : List (Note ℕ)) → at < length names → All (IsWithin (length names)) notes
        → back (machine settings) (name_at names at) (map (named names) notes) ≡ by_name (back by_place at notes)
    back_by_name at [] there within = refl
    back_by_name at (note ∷ notes) there within =
        let here = all_front (IsWithin (length names)) note notes within in
        let others = all_rest (IsWithin (length names)) note notes within in
        let rest = back by_place at notes in
        let members = members_within at notes there others in
        let session = is_in-names note.session rest.members here.0 members in
        let joiners = list_any-map (λ r. is_in (machine settings) r (map (name_at names) note.joiners)) (name_at names) rest.members
        ∙ list_any_same (λ r. is_in (machine settings) (name_at names r) (map (name_at names) note.joiners)) (λ r. is_in by_place r note.joiners) rest.members
        (λ k d inner. is_in-names (get_or rest.members k d) note.joiners (members k d inner) here.1) in
        ap (λ (rest : Slice (List ℕ)). with_mark
        (is_in (machine settings) (name_at names note.session) rest.members
        || list_any (λ r. is_in (machine settings) r (map (name_at names) note.joiners)) rest.members) (name_at names note.session) rest)
        (back_by_name at notes there others)
        ∙ ap (λ mark. with_mark mark (name_at names note.session) (by_name rest)) (ap₂ (λ a b. a || b) session joiners)
        ∙ by_name-mark (is_in by_place note.session rest.members || list_any (λ r. is_in by_place r note.joiners) rest.members) note.session rest

  -- a session that has no place is named by no note, so its slice keeps nothing
  module _ (s : List ℕ) (absent : list_any (bytes_eq s) names ≡ false) where
    another : (place : ℕ) → place < length names → bytes_eq s (name_at names place) ≡ false
    another place there = false_from_ne_true _ (λ same. both_ways (list_any (bytes_eq s) names) absent (list_any_at (bytes_eq s) names place [] there same))

    another_turned : (place : ℕ) → place < length names → bytes_eq (name_at names place) s ≡ false
    another_turned place there = false_from_ne_true _ (λ same.
        both_ways (bytes_eq s (name_at names place)) (another place there)
        ((bytes_eq-Decides s (name_at names place)).1 (sym ((bytes_eq-Decides (name_at names place) s).0 same))))

    not_joining : (places : List ℕ) → All (λ place. place < length names) places → is_in (machine settings) s (map (name_at names) places) ≡ false
    not_joining [] within = refl
    not_joining (place ∷ places) within =
        ap₂ (λ a b. a || b) (another place (all_front (λ place. place < length names) place places within))
        (not_joining places (all_rest (λ place. place < length names) place places within))

    pub back_of_none : (notes : List (Note ℕ)) → All (IsWithin (length names)) notes
        → ((back (machine settings) s (map (named names) notes)).members ≡ s ∷ [])
        × ((first : ℕ) → marked_from first (back (machine settings) s (map (named names) notes)).marks ≡ [])
    back_of_none [] within = (refl, λ first. refl)
    back_of_none (note ∷ notes) within =
        let here = all_front (IsWithin (length names)) note notes within in
        let rest = back (machine settings) s (map (named names) notes) in
        let (alone, nothing) = back_of_none notes (all_rest (IsWithin (length names)) note notes within) in
        let matters : (is_in (machine settings) (name_at names note.session) rest.members
        || list_any (λ r. is_in (machine settings) r (map (name_at names) note.joiners)) rest.members) ≡ false =
        ap (λ members. is_in (machine settings) (name_at names note.session) members
        || list_any (λ r. is_in (machine settings) r (map (name_at names) note.joiners)) members) alone
        ∙ ap₂ (λ a b. (a || false) || (b || false)) (another_turned note.session here.0) (not_joining note.joiners here.1) in
        let is = ap (λ mark. with_mark mark (name_at names note.session) rest) matters in (
          ap (λ (slice : Slice (List ℕ)). slice.members) is ∙ alone,
          λ first. ap (λ (slice : Slice (List ℕ)). marked_from first slice.marks) is
              ∙ nothing (first + 1),
        )

-- a name more is a name behind the others, or none
with_name_behind : (names : List (List ℕ)) (name : List ℕ) → (more : List (List ℕ)) × (with_name names name ≡ names ++ more)
with_name_behind names name = by (list_any (bytes_eq name) names)
  where
    by : (there : Bool) → (more : List (List ℕ)) × (cond there names (names ++ name ∷ []) ≡ names ++ more)
    by true = ([], sym (append-nil names))
    by false = (name ∷ [], refl)

within_more : (names more : List (List ℕ)) (note : Note ℕ) → IsWithin (length names) note → IsWithin (length (names ++ more)) note
within_more names more note within =
    let longer = length-append names more in
    (omega (arith, within.0, longer), λ k d inner. let below = within.1 k d inner in omega (arith, below, longer))

-- the notes of some commands, with that of the next, by the names that are known then
pub notes_more : (settings : Settings) (world : List ℕ → State) (ts : List (Tagged (List ℕ) Asked)) (names : List (List ℕ)) (notes : List (Note ℕ))
    (t : Tagged (List ℕ) Asked) (note : Note ℕ)
    → All (IsWithin (length names)) notes → AreNotes (machine settings) world ts (map (named names) notes)
    → IsWithin (length (with_name names t.session)) note → IsNote (machine settings) (world_after (machine settings) world ts) t
    (named (with_name names t.session) note)
    → All (IsWithin (length (with_name names t.session))) (notes ++ note ∷ [])
    × AreNotes (machine settings) world (ts ++ t ∷ []) (map (named (with_name names t.session)) (notes ++ note ∷ []))
notes_more settings world ts names notes t note within right here is =
    let (more, behind) = with_name_behind names t.session in
    let known : All (IsWithin (length (with_name names t.session))) notes =
    subst (λ names. All (IsWithin (length names)) notes) (sym behind) (λ k d inner. within_more names more (get_or notes k d) (within k d inner)) in
    let stays : map (named (with_name names t.session)) notes ≡ map (named names) notes = ap (λ names. map (named names) notes) behind
    ∙ named_stays names more notes within in
    let pushed = AreNotes-push (machine settings) (lawful settings) world ts (map (named names) notes) t (named (with_name names t.session) note) right is in (
      All-append (IsWithin (length (with_name names t.session))) notes (note ∷ []) known
          (all_more (IsWithin (length (with_name names t.session))) note [] here (λ k d none. absurd (omega arith))),
      subst (AreNotes (machine settings) world (ts ++ t ∷ []))
          (sym (map-append (named (with_name names t.session)) notes (note ∷ []) ∙ ap (λ notes. notes ++ named (with_name names t.session) note ∷ []) stays))
          pushed,
    )

-- the place of a session is that of its name when its command is done
pub place_there : (server : Server) (name : List ℕ) (at : ℕ) → place server.engine name ≡ Some at
    → (at < length (with_name (names server) name)) × (name_at (with_name (names server) name) at ≡ name)
place_there server name at found =
    let known = with_name-there server.engine name at found in
    let (inside, passes, first) = position-Some (bytes_eq name) (names server) at [] found in (
      subst (λ names. at < length names) known inside,
      ap (λ names. name_at names at) (sym known) ∙ sym ((bytes_eq-Decides name (name_at (names server) at)).0 passes),
    )

-- and a session without one will get that behind the others
pub place_new : (server : Server) (name : List ℕ) → place server.engine name ≡ None
    → (length (names server) < length (with_name (names server) name)) × (name_at (with_name (names server) name) (length (names server)) ≡ name)
place_new server name absent =
    let known = with_name-new server.engine name absent in
    let longer : length (with_name (names server) name) ≡ length (names server) + 1 = ap length (sym known) ∙ length-append (names server) (name ∷ []) in
    (omega (arith, longer), ap (λ all. name_at all (length (names server))) (sym known) ∙ get_or-append_seam (names server) name [] [])

-- the note of a command, by this place of its session and by who joins that
pub noted_at : (server : Server) (t : Tagged (List ℕ) Asked) (at : ℕ) (joiners : List ℕ) → at < length (with_name (names server) t.session)
    → name_at (with_name (names server) t.session) at ≡ t.session → AreJoinersOf server.engine t.session joiners
    → IsNoted server t (record { session = at; joiners = joiners })
noted_at server t at joiners there is are =
    let (more, behind) = with_name_behind (names server) t.session in
    let longer : length (with_name (names server) t.session) ≡ length (names server) + length more = ap length behind ∙ length-append (names server) more in
    record {
      within = (there, λ k d inner. let below = are.within k d inner in omega (arith, below, longer));
      right = record {
        session = is;
        joiners = λ r. ap (λ names. is_in (machine (settings server)) r (map (name_at names) joiners)) behind
            ∙ ap (is_in (machine (settings server)) r) (name_stays (names server) more joiners are.within) ∙ are.named r;
      };
    }

-- no command, and no note
pub notes_begin : (server : Server) (world : List ℕ → State) → AreNoted world [] server []
notes_begin server world = record { within = λ k d none. absurd (omega arith); right = refl }

-- after a command that was told, the notes with its own are right
pub noted_more_commands : (world : List ℕ → State) (ts : List (Tagged (List ℕ) Asked)) (old new : Server) (notes : List (Note ℕ)) (t : Tagged (List ℕ) Asked)
    (note : Note ℕ)
    → settings new ≡ settings old → names new ≡ with_name (names old) t.session → states old ≡ world_after (machine (settings old)) world ts
    → AreNoted world ts old notes → IsNoted old t note → AreNoted world (ts ++ t ∷ []) new (notes ++ note ∷ [])
noted_more_commands world ts old new notes t note same known here noted is =
    let right = subst (λ states. IsNote (machine (settings old)) states t (named (with_name (names old) t.session) note)) here is.right in
    let more = notes_more (settings old) world ts (names old) notes t note noted.within noted.right is.within right in
    record {
      within = subst (λ names. All (IsWithin (length names)) (notes ++ note ∷ [])) (sym known) more.0;
      right = subst (λ settings. AreNotes (machine settings) world (ts ++ t ∷ []) (map (named (names new)) (notes ++ note ∷ []))) (sym same)
          (subst (λ names. AreNotes (machine (settings old)) world (ts ++ t ∷ []) (map (named names) (notes ++ note ∷ []))) (sym known) more.1);
    }

-- the places that the way back over right notes keeps are those that the slice keeps
pub kept_are : (world : List ℕ → State) (ts : List (Tagged (List ℕ) Asked)) (server : Server) (notes : List (Note ℕ)) (s : List ℕ)
    → AreNoted world ts server notes
    → marked_from 0 (back (machine (settings server)) s (map (named (names server)) notes)).marks ≡ kept_places (settings server) world ts s
kept_are world ts server notes s noted =
    ap (λ (slice : Slice (List ℕ)). marked_from 0 slice.marks)
    (notes_give_slice (machine (settings server)) (lawful (settings server)) s world ts (map (named (names server)) notes) noted.right)

-- and those of the way back over places, where the session has one
pub kept_there : (server : Server) (s : List ℕ) (at : ℕ) (notes : List (Note ℕ))
    → ((at : ℕ) → at < length (names server) → place server.engine (name_at (names server) at) ≡ Some at) → place server.engine s ≡ Some at
    → All (IsWithin (length (names server))) notes
    → marked_from 0 (back by_place at notes).marks ≡ marked_from 0 (back (machine (settings server)) s (map (named (names server)) notes)).marks
kept_there server s at notes apart found within =
    let (inside, passes, first) = position-Some (bytes_eq s) (names server) at [] found in
    let is : s ≡ name_at (names server) at = (bytes_eq-Decides s (name_at (names server) at)).0 passes in
    sym (ap (λ s. marked_from 0 (back (machine (settings server)) s (map (named (names server)) notes)).marks) is
    ∙ ap (λ (slice : Slice (List ℕ)). marked_from 0 slice.marks) (back_by_name (settings server) (names server) apart at notes inside within))

pub kept_none : (server : Server) (s : List ℕ) (notes : List (Note ℕ)) → place server.engine s ≡ None → All (IsWithin (length (names server))) notes
    → [] ≡ marked_from 0 (back (machine (settings server)) s (map (named (names server)) notes)).marks
kept_none server s notes absent within =
    sym ((back_of_none (settings server) (names server) s (position-None (bytes_eq s) (names server) absent) notes within).1 0)

-- so they are after a command of a run, while memory is found
pub noted_step : (old now next : Server) (ts : List (Tagged (List ℕ) Asked)) (entries : List Entry) (t : Tagged (List ℕ) Asked) (entry : Entry)
    (notes : List (Note ℕ)) (note : Note ℕ)
    → AreSteps old ts entries now → IsEntry now next t entry → (IsFalse (was_refused now) → AreNoted (states old) ts now notes) → IsNoted now t note
    → IsFalse (was_refused next) → AreNoted (states old) (ts ++ t ∷ []) next (notes ++ note ∷ [])
noted_step old now next ts entries t entry notes note steps one noted is found =
    let before = found_before _ _ one.step.kept found in
    let world = steps_world old now ts entries steps before in
    noted_more_commands (states old) ts now next notes t note one.step.settings (told_some (entry_lines entry) _ (one.step.lines found) one.there)
    (world.states ∙ ap (λ settings. world_after (machine settings) (states old) ts) (sym (steps_settings old now ts entries steps))) (noted before) is

-- a run that stops keeps the settings
pub stops_settings : (old new : Server) (ts : List (Tagged (List ℕ) Asked)) → Stops old new ts → settings new ≡ settings old
stops_settings old new ts stops = steps_settings old new (take stops.count ts) stops.entries stops.steps

-- and stands after the commands so far
pub stops_at : (old new : Server) (list : List Given) (i : ℕ) (entries : List Entry) → AreSteps old (tags (take i list)) entries new → Stops old new (tags list)
stops_at old new list i entries steps = record
    { count = i; entries = entries; steps = subst (λ ts. AreSteps old ts entries new) (sym (take-map tag i list)) steps }

pub if_stops : {T E : Type 0} (result : Result T E) (old new : Server) (ts : List (Tagged (List ℕ) Asked)) → Stops old new ts → OnErr result (Stops old new ts)
if_stops (Ok value) old new ts stops = tt
if_stops (Err error) old new ts stops = stops
