-- Lines that are answered one after another, whatever memory is refused, and what spared sessions are told of them.
use Rattle.std.proofs.Common.{◌≡◌, ℕ, Bool, true, false, List, [], ◌∷◌, ◌++◌, length, map, take, codes, Option, Some, None, Result, Ok, Err, IsOk, suc, refl}
use Rattle.std.proofs.Common.{sym, ap, ap₂, subst, ◌∙◌, ⊎_elim, append-nil}
use Rattle.std.specs.Prelude.{MatchResult}
use Rattle.std.specs.List.{flat_map}
use Rattle.std.proofs.lemmas.Bool.{cases_Bool}
use Rattle.std.proofs.lemmas.List.{length-map}
use Rattle.std.proofs.lemmas.List.Concat.{flat_map-append}
use Rattle.std.proofs.lemmas.List.Elements.{All-head, All-tail}
use Rattle.isolation.specs.Influence.{IsClosed}
use Rattle.isolation.specs.Machine.{Tagged}
use Rattle.isolation.specs.Pieces.{Given, Faulty, commands_of, piece_answers}
use Rattle.isolation.specs.Spared.{AreDone, AreLossy, IsLossy, Mortal, Told}
use Rattle.isolation.specs.World.{entries_of, world_after}
use Rattle.isolation.proofs.ForCallers.{IsClosed-influences, influences-self, spared_law}
use Rattle.plain_types.specs.declared.code.Code.TheVariants as code
use Rattle.server_world.specs.declared.report.Entry.{Entry}
use Rattle.server_world.specs.declared.report.Entry.TheVariants.{Lines, OutOfMemory}
use Rattle.server_world.specs.Runs.{entry_lines}
use Rattle.server_world.specs.Server.{OnlyRefused, Server, names, settings, states}
use Rattle.server_world.specs.Spared.{EndsIn, IsFine, mortal}
use Rattle.server_world.proofs.ForCallers.{begins_anew, ends_first, ends_in, is_done, is_lossy, knows_all, told_of}
use Rattle.session_engine.specs.Sessions.{is_reset}
use Rattle.session_tables.specs.Session.{Session}
use Rattle.session_model.specs.Asked.{Asked}
use Rattle.session_model.specs.Machine.{machine}
use Rattle.session_model.specs.State.{State}
use Rattle.session_model.specs.Thread.{Settings}
use Rattle.session_model.specs.declared.line.Line.{Line}
use Rattle.session_model.specs.declared.line.Line.TheVariants.{Error}
use Rattle.session_model.proofs.ForCallers.{lawful}
use Rattle.wire_format.specs.declared.fault.LineFault.{LineFault}
use Rattle.wire_format.specs.Input.{Piece, lines_of, piece_of, pieces_of, whole_lines, bare}
use Rattle.wire_format.specs.Output.{Said, lines_said_to, said_all, said_by, said_in, text_of_said, world_of}
use Rattle.wire_format.specs.Text.{blamed}
use Rattle.wire_format.proofs.ForCallers.{text_of_said-said_by}
use Rattle.wire_lines.specs.Run.{WritesAll}
use Rattle.wire_lines.specs.Spared.{AreSpared, IsApart, IsSparing, Spares, SparesAll, first_lines, influencing, said_by_entry, said_for, without_unread}
use Rattle.wire_lines.specs.Steps.{AreAnswered, IsAnswered, IsDone, IsFaultSaid, IsUnread, entry_text, read_lines}
use Rattle.wire_lines.proofs.Isolated.{told_as_alone, told_as_without, told_between, told_interleaved}
use Rattle.wire_lines.proofs.SparedLines.{are_of_world, commands_read, pieces_of-without_unread, pieces_read, read_lines-first_lines, spared_behind}
use Rattle.wire_lines.proofs.SparedLines.{spared_said}

-- the text of the lines of an entry
text_of_entry : (session : List ℕ) (entry : Entry) → text_of_said (said_by_entry session entry) ≡ entry_text session entry
text_of_entry session (Lines lines) = text_of_said-said_by session lines
text_of_entry session OutOfMemory = append-nil _

-- a command whose session was spared was answered by its lines
fine_entry : (keep : List ℕ → Bool) (session : List ℕ) (entry : Entry) (rest : List Said) → keep session ≡ true
    → AreSpared keep (said_by_entry session entry ++ rest) → IsFine entry
fine_entry keep session (Lines lines) rest passes spared = λ e.
    let found = subst (λ lines. AreSpared keep (map (said_by session) lines ++ rest)) e spared in
    (All-head (λ (line : Said). keep line.session ≡ true → IsSparing line) (said_by session (Error code.SessionFailed)) rest found passes).well refl
fine_entry keep session OutOfMemory rest passes spared =
    (All-head (λ (line : Said). keep line.session ≡ true → IsSparing line) (said_by session (Error code.OutOfMemory)) rest spared passes).found refl

-- where only memory was refused, no session has changed
mortal_stays : (old new : Server) → OnlyRefused old new → mortal new ≡ mortal old
mortal_stays old new only = ap {B = List ℕ → Mortal State}
    (λ (sessions : List ℕ → Session) (name : List ℕ). record { state = (sessions name).state; failed = (sessions name).failed }) only.sessions

-- lines that were answered: which of them were read, what came of each command that was, and the steps that the
-- sessions made
record Answered (s : Settings) (old new : Server) (lines : List (Option Piece)) (text : List ℕ) : Type 0 where
  read : List Bool
  entries : List Entry
  told : List (Told Line)
  marked : length read ≡ length lines
  counted : length entries ≡ length (commands_read lines read)
  says : text ≡ text_of_said (said_for lines read entries)
  steps : AreLossy (machine s) is_reset (mortal old) (commands_read lines read) told (mortal new)
  -- the entries are what the steps tell, and where a session was spared its commands were done
  same : (keep : List ℕ → Bool) → map (λ (one : Told Line). one.lines) (entries_of keep (commands_read lines read) told)
      ≡ map entry_lines (entries_of keep (commands_read lines read) entries)
  done : (keep : List ℕ → Bool) → AreSpared keep (said_for lines read entries) → AreDone keep (commands_read lines read) told

answered_nothing : (s : Settings) (old new : Server) (text : List ℕ) → new ≡ old → text ≡ [] → Answered s old new [] text
answered_nothing s old new text stays none = record {
  read = [];
  entries = [];
  told = [];
  marked = refl;
  counted = refl;
  says = none;
  steps = ap mortal stays;
  same = λ keep. refl;
  done = λ keep spared. tt;
}

module _ (s : Settings) (old between new : Server) (lines : List (Option Piece)) (first rest : List ℕ) (later : Answered s between new lines rest) where
  -- a blank line before them,
  answered_blank : between ≡ old → first ≡ [] → Answered s old new (None ∷ lines) (first ++ rest)
  answered_blank stays none = record {
    read = true ∷ later.read;
    entries = later.entries;
    told = later.told;
    marked = ap suc later.marked;
    counted = later.counted;
    says = ap (λ l. l ++ rest) none ∙ later.says;
    steps = subst (λ (sessions : List ℕ → Mortal State). AreLossy (machine s) is_reset sessions (commands_read lines later.read) later.told (mortal new))
        (ap mortal stays) later.steps;
    same = later.same;
    done = later.done;
  }

  -- one that was not read,
  answered_unread : (piece : Piece) → IsUnread old first between → Answered s old new (Some piece ∷ lines) (first ++ rest)
  answered_unread piece unread = record {
    read = false ∷ later.read;
    entries = later.entries;
    told = later.told;
    marked = ap suc later.marked;
    counted = later.counted;
    says = ap₂ (λ a b. a ++ b) unread.says later.says;
    steps = subst (λ (sessions : List ℕ → Mortal State). AreLossy (machine s) is_reset sessions (commands_read lines later.read) later.told (mortal new))
        (mortal_stays old between unread.only) later.steps;
    same = later.same;
    done = λ keep spared. later.done keep (All-tail (λ (line : Said). keep line.session ≡ true → IsSparing line) (said_by (codes "-") (Error code.OutOfMemory))
        (said_for lines later.read later.entries) spared);
  }

  -- one that is no command,
  answered_faulty : (fault : LineFault) → IsFaultSaid old fault first between → Answered s old new (Some (Faulty fault) ∷ lines) (first ++ rest)
  answered_faulty fault said = record {
    read = true ∷ later.read;
    entries = later.entries;
    told = later.told;
    marked = ap suc later.marked;
    counted = later.counted;
    says = ap₂ (λ a b. a ++ b) said.says later.says;
    steps = subst (λ (sessions : List ℕ → Mortal State). AreLossy (machine s) is_reset sessions (commands_read lines later.read) later.told (mortal new))
        (ap mortal said.stays) later.steps;
    same = later.same;
    done = λ keep spared. later.done keep (All-tail (λ (line : Said). keep line.session ≡ true → IsSparing line) (said_by (blamed fault) (Error fault.code))
        (said_for lines later.read later.entries) spared);
  }

  -- and a command
  answered_done : (t : Tagged (List ℕ) Asked) → settings old ≡ s → IsDone old t first between → Answered s old new (Some (Given t) ∷ lines) (first ++ rest)
  answered_done t fixed done = record {
    read = true ∷ later.read;
    entries = done.entry ∷ later.entries;
    told = told_of old t done.entry ∷ later.told;
    marked = ap suc later.marked;
    counted = ap suc later.counted;
    says = ap₂ (λ a b. a ++ b) (done.says ∙ sym (text_of_entry t.session done.entry)) later.says
        ∙ sym (flat_map-append (λ (said : Said). said.text) (said_by_entry t.session done.entry) (said_for lines later.read later.entries));
    steps = (
      mortal between,
      subst (λ settings. IsLossy (machine settings) is_reset (mortal old) (mortal between) t (told_of old t done.entry)) fixed
          (is_lossy old between t done.entry done.does),
      later.steps,
    );
    same = λ keep. ⊎_elim
        (λ passes. rw passes (ap (λ more. entry_lines done.entry ∷ more) (later.same keep)))
        (λ left_out. rw left_out (later.same keep))
        (cases_Bool (keep t.session));
    done = λ keep spared. (
      (λ passes. is_done old between t done.entry done.does (fine_entry keep t.session done.entry (said_for lines later.read later.entries) passes spared)),
      later.done keep (spared_behind keep (said_by_entry t.session done.entry) (said_for lines later.read later.entries) spared),
    );
  }

-- so lines are answered one after another
answered_line : (s : Settings) (old between new : Server) (line : Option Piece) (lines : List (Option Piece)) (first rest : List ℕ) → settings old ≡ s
    → IsAnswered old line first between →
    (settings between ≡ s → Answered s between new lines rest) → Answered s old new (line ∷ lines) (first ++ rest)
answered_line s old between new None lines first rest fixed here later =
    answered_blank s old between new lines first rest (later (ap settings here.0 ∙ fixed)) here.0 here.1
answered_line s old between new (Some (Given t)) lines first rest fixed here later = ⊎_elim
    (λ done. answered_done s old between new lines first rest (later (done.does.step.settings ∙ fixed)) t fixed done)
    (λ unread. answered_unread s old between new lines first rest (later (unread.settings ∙ fixed)) (Given t) unread)
    here
answered_line s old between new (Some (Faulty fault)) lines first rest fixed here later = ⊎_elim
    (λ said. answered_faulty s old between new lines first rest (later (ap settings said.stays ∙ fixed)) fault said)
    (λ unread. answered_unread s old between new lines first rest (later (unread.settings ∙ fixed)) (Faulty fault) unread)
    here

answered_all : (s : Settings) (old new : Server) (lines : List (Option Piece)) (text : List ℕ) → settings old ≡ s → AreAnswered old lines text new
    → Answered s old new lines text
answered_all s old new [] text fixed answered = answered_nothing s old new text answered.0 answered.1
answered_all s old new (line ∷ lines) text fixed answered =
    subst (Answered s old new (line ∷ lines)) (sym answered.5)
    (answered_line s old answered.0 new line lines answered.1 answered.2 fixed answered.3
    (λ same. answered_all s answered.0 new lines answered.2 same answered.4))

count_lines : (input : List ℕ) → length (read_lines input) ≡ length (whole_lines input)
unfolding lines_of
count_lines input = length-map (lines_of input) piece_of ∙ length-map (whole_lines input) bare

module _ (old new : Server) (input text : List ℕ) (all : Answered (settings old) old new (read_lines input) text) where
  is_apart : (s : List ℕ) → AreSpared (influencing old (without_unread all.read input) s) (said_for (read_lines input) all.read all.entries)
      → IsApart (without_unread all.read input) old new (said_for (read_lines input) all.read all.entries) s
  unfolding said_all world_of
  is_apart s spared =
      let m = machine (settings old) in
      let law = lawful (settings old) in
      let other = without_unread all.read input in
      let keep = influencing old other s in
      let closed = IsClosed-influences m law (states old) (names old) (commands_of (pieces_of other)) (knows_all (settings old) old.engine) s in
      let passes = influences-self m law (states old) (names old) (commands_of (pieces_of other)) s in
      let is : pieces_of other ≡ pieces_read (read_lines input) all.read = pieces_of-without_unread all.read input in
      let ts = commands_read (read_lines input) all.read in
      let run = spared_law m is_reset law (begins_anew (settings old)) keep (states old) (mortal old) (mortal new) ts all.told
      (subst (λ pieces. IsClosed m keep (states old) (commands_of pieces)) is closed) (ends_first (settings old) keep old) all.steps (all.done keep spared) in
      let of_world = are_of_world (settings old) keep s passes (states old) ts all.entries all.counted (sym (all.same keep) ∙ run.lines) in
      record {
        lines = spared_said (settings old) keep s passes (states old) (read_lines input) all.read all.entries of_world spared
            ∙ ap (λ (pieces : List Piece). lines_said_to s (flat_map said_in (piece_answers m (states old) pieces))) (sym is);
        state = subst (λ (pieces : List Piece). EndsIn new s (world_after m (states old) (commands_of pieces) s)) (sym is)
            (ends_in new s (world_after m (states old) ts s) (run.states s passes));
        alone = told_as_alone (settings old) (states old) other s;
        left_out = told_as_without old other s;
        between = told_between (settings old) (states old) other s;
        interleaved = told_interleaved (settings old) (states old) other s;
      }

-- whatever memory was refused, sessions that were spared are isolated,
pub spares : (old new : Server) (input text : List ℕ) → AreAnswered old (read_lines input) text new → Spares input old new text
spares old new input text answered =
    let all = answered_all (settings old) old new (read_lines input) text refl answered in
    record {
      read = all.read;
      entries = all.entries;
      marked = all.marked ∙ count_lines input;
      counted = all.counted ∙ ap (λ (pieces : List Piece). length (commands_of pieces)) (sym (pieces_of-without_unread all.read input));
      says = all.says;
      spared = is_apart old new input text all;
    }

-- in a whole run,
pub spares_all : {T E : Type 0} (result : Result T E) (F : E → Type 0) (input : List ℕ) (held : Option (List ℕ)) (old : Server) (held_after : Option (List ℕ))
    (new : Server) →
    MatchResult result (λ _. WritesAll input held old held_after new) F → IsOk result → SparesAll input held old held_after new
spares_all (Ok done) F input held old held_after new writes ok = (writes.0, spares old new input writes.0 writes.1, writes.2)
spares_all (Err fault) F input held old held_after new writes ok = absurd (cc ok)

-- and in the first lines of one
pub spares_first : (old new : Server) (input : List ℕ) (count : ℕ) (text : List ℕ) → AreAnswered old (take count (read_lines input)) text new
    → Spares (first_lines count input) old new text
spares_first old new input count text answered =
    spares old new (first_lines count input) text (subst (λ lines. AreAnswered old lines text new) (sym (read_lines-first_lines count input)) answered)
