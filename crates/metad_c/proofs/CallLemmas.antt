-- What calls on one handle do to its server and its output.
use Rattle.std.proofs.Common.{◌≡◌, ◌⊎◌, ◌==◌, inl, inr, ℕ, true, false, List, [], ◌∷◌, ◌++◌, Option, Some, None, IfNone, OnSome, IsTrue, IsFalse}
use Rattle.std.proofs.Common.{flat_map, length, take, drop, refl, sym, ap, ap₂, subst, ◌∙◌, ⊎_elim, append_assoc, append-nil, arith}
use Rattle.std.proofs.lemmas.List.{length-take-le, take-append-drop, take_at}
use Rattle.isolation.specs.Machine.{Tagged}
use Rattle.isolation.specs.Pieces.{Given, Faulty}
use Rattle.session_engine.specs.Sessions.{IsStep, Sessions}
use Rattle.session_model.specs.Asked.{Asked}
use Rattle.session_model.specs.declared.line.Line.{Line as ServerLine}
use Rattle.session_model.specs.State.{State}
use Rattle.server_world.specs.declared.report.Entry.{Entry}
use Rattle.server_world.specs.declared.report.Entry.TheVariants.{Lines, OutOfMemory}
use Rattle.server_world.specs.Names.{with_name}
use Rattle.server_world.specs.Runs.{AreSteps, IsApart, IsEntry, entry_lines}
use Rattle.server_world.specs.Server.{IsLost, KnowsAtMost, OnlyRefused, Server, names, seen_by_name, sessions, settings, was_refused}
use Rattle.server_world.specs.Spared.{EndsIn}
use Rattle.server_world.proofs.ForCallers as world
use Rattle.wire_format.specs.Input.{Piece, piece_of}
use Rattle.wire_lines.specs.Steps.{IsAnswered}
use Rattle.metad_c.specs.declared.kept.Kept.{Kept}
use Rattle.metad_c.specs.declared.outcome.Outcome.{Outcome}
use Rattle.metad_c.specs.declared.outcome.Outcome.TheVariants.{Said, Undone, Unsaid}
use Rattle.metad_c.specs.Answers.{Comes, Seen, Serves, IsFetched, seen, status_of}
use Rattle.metad_c.specs.Calls.{AreCalls, Call, CallsAreIsolated, CallsGoOn, CallEffect, HasEffect, HaveEffects, IsAnswerTo, IsCall, IsEffect}
use Rattle.metad_c.specs.Calls.{Line, LineFor, Fetch, Done, Refused, Unread, Nothing, commands_of, entries_of, fetched_by, said_by, said_by_all, text_of}
use Rattle.metad_c.specs.Reading.{piece_for}

-- Two servers have the same sessions and settings.
record AreAlike (one other : Server) : Type 0 where
  names : names other ≡ names one
  sessions : sessions other ≡ sessions one
  settings : settings other ≡ settings one

alike_itself : (one other : Server) → other ≡ one → AreAlike one other
alike_itself one other same = record { names = ap names same; sessions = ap sessions same; settings = ap settings same }

alike_on : (one other third : Server) → AreAlike one other → AreAlike other third → AreAlike one third
alike_on one other third first second = record {
  names = second.names ∙ first.names;
  sessions = second.sessions ∙ first.sessions;
  settings = second.settings ∙ first.settings;
}

alike_refused : (old new : Server) → OnlyRefused old new → settings new ≡ settings old → AreAlike old new
alike_refused old new only kept = record { names = only.names; sessions = only.sessions; settings = kept }

-- A server with a note that memory was refused.
abbrev noted : Server → Server
noted server = record {
  engine = record { settings = server.engine.settings; names = server.engine.names; tables = server.engine.tables; memory_refused = true };
  memory_refused = true;
}

-- With the note, a command does what it did, also from a server that has the same sessions.
noted_step : (old new : Server) (t : Tagged (List ℕ) Asked) (told : Option (List ServerLine))
    → IsStep (seen_by_name old) (seen_by_name new) t.session t.command told
    → IsStep (seen_by_name (noted old)) (seen_by_name (noted new)) t.session t.command told
unfolding was_refused
noted_step old new t told step = record {
  lines = λ found. absurd (cc found);
  states = λ found. absurd (cc found);
  tells = step.tells;
  leaves = step.leaves;
  refused = step.refused;
  posts = step.posts;
  posted = step.posted;
  front = step.front;
  others = step.others;
  settings = step.settings;
  kept = λ was. refl;
  memory = λ none. refl;
  blame = λ was now. absurd (cc was);
  well = λ found. absurd (cc found);
  sound = step.sound;
  named = step.named;
}

same_seen : (one other : Server) → AreAlike one other → seen_by_name (noted other) ≡ seen_by_name (noted one)
unfolding was_refused
same_seen one other alike =
    ap₂ {C = Sessions} (λ settings sessions. record { settings = settings; session = sessions; memory_refused = true }) alike.settings alike.sessions

if_none : (entry : Entry) (P Q : Type 0) → (P → Q) → IfNone (entry_lines entry) P → IfNone (entry_lines entry) Q
if_none (Lines lines) P Q by none = tt
if_none OutOfMemory P Q by none = by none

module _ (front old new : Server) (t : Tagged (List ℕ) Asked) (alike : AreAlike front old) where
  noted_lost : IsLost old new t.session → IsLost (noted front) (noted new) t.session
  noted_lost (inl fails) = inl fails
  noted_lost (inr out) = inr (record {
    absent = out.absent;
    names = out.names ∙ alike.names;
    sessions = out.sessions ∙ alike.sessions;
    settings = out.settings ∙ alike.settings;
    refused = refl;
  })

  noted_known : KnowsAtMost old new t.session → KnowsAtMost (noted front) (noted new) t.session
  noted_known (inl same) = inl (same ∙ alike.names)
  noted_known (inr more) = inr (more ∙ ap (λ names. with_name names t.session) alike.names)

  noted_entry : (entry : Entry) → IsEntry old new t entry → IsEntry (noted front) (noted new) t entry
  noted_entry entry is = record {
    step = subst (λ seen. IsStep seen (seen_by_name (noted new)) t.session t.command (entry_lines entry)) (same_seen front old alike)
        (noted_step old new t (entry_lines entry) is.step);
    known = noted_known is.known;
    there = subst (λ known. OnSome (entry_lines entry) (names new ≡ with_name known t.session)) alike.names is.there;
    lost = if_none entry _ _ noted_lost is.lost;
  }

-- What a call does to the server.
Moves : Server → CallEffect → Server → Type 0
Moves old (Done given entry) new = IsEntry old new given entry
Moves old (Refused fault) new = AreAlike old new
Moves old Unread new = AreAlike old new
Moves old Nothing new = AreAlike old new

-- A line has an effect that its status allows.
record HasCome (old new : Seen) (line : Option Piece) (status : ℕ) : Type 0 where
  effect : CallEffect
  each : IsEffect line status effect
  moves : Moves old.server effect new.server
  said : new.said ≡ old.said ++ said_by (Line [] status) effect

record IsToldBy (old new : Server) (line : Option Piece) (text : List ℕ) : Type 0 where
  effect : CallEffect
  answers : IsAnswerTo line effect
  moves : Moves old effect new
  says : text ≡ text_of effect

told_by : (old new : Server) (line : Option Piece) (text : List ℕ) → IsAnswered old line text new → IsToldBy old new line text
unfolding Moves
told_by old new None text answered = record { effect = Nothing; answers = refl; moves = alike_itself old new answered.0; says = answered.1 }
told_by old new (Some (Given t)) text (inl done) =
    record { effect = Done t done.entry; answers = inl (done.entry, refl); moves = done.does; says = done.says }
told_by old new (Some (Given t)) text (inr unread) =
    record { effect = Unread; answers = inr refl; moves = alike_refused old new unread.only unread.settings; says = unread.says }
told_by old new (Some (Faulty fault)) text (inl said) =
    record { effect = Refused fault; answers = inl refl; moves = alike_itself old new said.stays; says = said.says }
told_by old new (Some (Faulty fault)) text (inr unread) =
    record { effect = Unread; answers = inr refl; moves = alike_refused old new unread.only unread.settings; says = unread.says }

-- A call with another status than 0 and 6 does nothing.
none_done : (old new : Seen) (line : Option Piece) (status : ℕ) → (status == 0) ≡ false → (status == 6) ≡ false → AreAlike old.server new.server
    → new.said ≡ old.said → HasCome old new line status
unfolding Moves
none_done old new line status not_zero not_six alike silent = record {
  effect = Nothing;
  each = record {
    said = λ zero. let bad = rw zero at not_zero in absurd (cc bad);
    unsaid = λ six. let bad = rw six at not_six in absurd (cc bad);
    undone = λ zero six. refl;
  };
  moves = alike;
  said = silent ∙ rw not_zero (sym (append-nil old.said));
}

comes_out : (old new : Seen) (line : Option Piece) (outcome : Outcome) → Comes old new line outcome → HasCome old new line (status_of outcome)
unfolding Moves
comes_out old new line Said comes =
    let told = told_by old.server new.server line comes.text comes.answered in
    record {
      effect = told.effect;
      each = record { said = λ zero. told.answers; unsaid = λ six. absurd (cc six); undone = λ zero six. absurd (zero refl) };
      moves = told.moves;
      said = comes.said ∙ ap (λ text. old.said ++ text) told.says;
    }
comes_out old new line Undone comes =
    none_done old new line 5 refl refl
    (⊎_elim (λ same. alike_itself old.server new.server same) (λ only. alike_refused old.server new.server only comes.settings) comes.server) comes.said
comes_out old new line Unsaid comes = record {
  effect = Done comes.given comes.done.entry;
  each = record {
    said = λ zero. absurd (cc zero);
    unsaid = λ six. (comes.given, comes.done.entry, comes.command, refl);
    undone = λ zero six. absurd (six refl);
  };
  moves = comes.done.does;
  said = comes.said ∙ sym (append-nil old.said);
}

-- A call for which nothing is done.
nothing_done : (kept : Seen) (line : Option Piece) (status : ℕ) → (status ≡ 3) ⊎ (status ≡ 5) → HasCome kept kept line status
nothing_done kept line status none =
    none_done kept kept line status (⊎_elim (λ three. rw three) (λ five. rw five) none) (⊎_elim (λ three. rw three) (λ five. rw five) none)
    (alike_itself kept.server kept.server refl) refl

-- A call on a handle that has a server.
record IsMade (old : Kept) (call : Call) (new : Option Kept) : Type 0 where
  kept : Kept
  is : new ≡ Some kept
  effect : CallEffect
  each : HasEffect call effect
  moves : Moves (seen old).server effect (seen kept).server
  output : fetched_by call ++ (seen kept).said ≡ (seen old).said ++ said_by call effect

serves_made : (old : Kept) (new : Option Kept) (line : Option Piece) (status : ℕ) → Serves (Some old) new line status
    → (kept : Kept) × (new ≡ Some kept) × HasCome (seen old) (seen kept) line status
serves_made old new line status serves = (
  serves.0,
  serves.2,
  subst (HasCome (seen old) (seen serves.0) line) (sym serves.3) (comes_out (seen old) (seen serves.0) line serves.1 serves.4),
)

fetches_made : (old new : Seen) (before after : List ℕ) (count : ℕ) → IsFetched old new before after count → take count after ++ new.said ≡ old.said
fetches_made old new before after count is =
    let within : length (take count old.said) ≡ count = length-take-le count old.said (omega (arith, is.counted)) in
    ap₂ (λ front rest. front ++ rest) (ap (take count) is.fetched ∙ take_at (take count old.said) (drop count before) count within) is.rest
    ∙ take-append-drop count old.said

made : (old : Kept) (call : Call) (new : Option Kept) → IsCall (Some old) call new → IsMade old call new
unfolding Moves
made old (Line line status) new serves =
    let come = serves_made old new (piece_of line) status serves in
    record { kept = come.0; is = come.1; effect = come.2.effect; each = come.2.each; moves = come.2.moves; output = come.2.said }
made old (LineFor session line status) new (inl serves) =
    let come = serves_made old new (piece_for session line) status serves.1 in
    record { kept = come.0; is = come.1; effect = come.2.effect; each = come.2.each; moves = come.2.moves; output = come.2.said }
made old (LineFor session line status) new (inr none) =
    let come = nothing_done (seen old) (piece_for session line) status (⊎_elim (λ three. inl three.0) (λ five. inr five) none.1) in
    record { kept = old; is = none.0; effect = come.effect; each = come.each; moves = come.moves; output = come.said }
made old (Fetch before after count) new fetches = record {
  kept = fetches.0;
  is = fetches.1;
  effect = Nothing;
  each = refl;
  moves = alike_itself (seen old).server (seen fetches.0).server fetches.2.server;
  output = fetches_made (seen old) (seen fetches.0) before after count fetches.2 ∙ sym (append-nil (seen old).said);
}

-- Calls on a handle that has a server, and the commands that they do, from a server that has the same sessions.
record AreMade (front : Server) (old : Kept) (calls : List Call) (new : Option Kept) : Type 0 where
  last : Kept
  is : new ≡ Some last
  effects : List CallEffect
  each : HaveEffects calls effects
  output : flat_map fetched_by calls ++ (seen last).said ≡ (seen old).said ++ said_by_all calls effects
  behind : Server
  steps : AreSteps (noted front) (commands_of effects) (entries_of effects) (noted behind)
  ends : AreAlike behind (seen last).server

output_more : (fetched more said last told texts between : List ℕ) → fetched ++ between ≡ said ++ told → more ++ last ≡ between ++ texts
    → (fetched ++ more) ++ last ≡ said ++ (told ++ texts)
output_more fetched more said last told texts between here rest =
    append_assoc fetched more last ∙ ap (λ l. fetched ++ l) rest ∙ sym (append_assoc fetched between texts) ∙ ap (λ l. l ++ texts) here
    ∙ append_assoc said told texts

module _ (front : Server) (old kept : Kept) (call : Call) (calls : List Call) (new : Option Kept) (alike : AreAlike front (seen old).server)
    (rest : (next : Server) → AreAlike next (seen kept).server → AreMade next kept calls new) where
  -- a call before the others, by the steps of its command and of theirs
  one_more : (next : Server) (effect : CallEffect) (later : AreMade next kept calls new) → HasEffect call effect
      → fetched_by call ++ (seen kept).said ≡ (seen old).said ++ said_by call effect
      → AreSteps (noted front) (commands_of (effect ∷ later.effects)) (entries_of (effect ∷ later.effects)) (noted later.behind)
      → AreMade front old (call ∷ calls) new
  one_more next effect later each output steps = record {
    last = later.last;
    is = later.is;
    effects = effect ∷ later.effects;
    each = (each, later.each);
    output = output_more (fetched_by call) (flat_map fetched_by calls) (seen old).said (seen later.last).said (said_by call effect)
        (said_by_all calls later.effects) (seen kept).said output later.output;
    behind = later.behind;
    steps = steps;
    ends = later.ends;
  }

  -- the calls behind one that leaves sessions and settings unchanged
  behind_it : AreAlike (seen old).server (seen kept).server → AreMade front kept calls new
  behind_it moves = rest front (alike_on front (seen old).server (seen kept).server alike moves)

  made_more : (effect : CallEffect) → HasEffect call effect → Moves (seen old).server effect (seen kept).server
      → fetched_by call ++ (seen kept).said ≡ (seen old).said ++ said_by call effect → AreMade front old (call ∷ calls) new
  unfolding Moves
  made_more (Done given entry) each moves output =
      let now = (seen kept).server in
      let later = rest now (alike_itself now now refl) in
      one_more now (Done given entry) later each output (noted now, noted_entry front (seen old).server now given alike entry moves, later.steps)
  made_more (Refused fault) each moves output = one_more front (Refused fault) (behind_it moves) each output (behind_it moves).steps
  made_more Unread each moves output = one_more front Unread (behind_it moves) each output (behind_it moves).steps
  made_more Nothing each moves output = one_more front Nothing (behind_it moves) each output (behind_it moves).steps

all_made : (front : Server) (old : Kept) (calls : List Call) (new : Option Kept) → AreAlike front (seen old).server → AreCalls (Some old) calls new
    → AreMade front old calls new
all_made front old [] new alike same = record {
  last = old;
  is = same;
  effects = [];
  each = tt;
  output = sym (append-nil (seen old).said);
  behind = front;
  steps = refl;
  ends = alike;
}
all_made front old (call ∷ calls) new alike calls_made =
    let one = made old call calls_made.0 calls_made.1 in
    made_more front old one.kept call calls new alike
    (λ next same. all_made next one.kept calls new same (subst (λ between. AreCalls between calls new) one.is calls_made.2))
    one.effect one.each one.moves one.output

-- A server with the note, and one that has the same sessions as another, leave the sessions of the same run.
apart_plain : (old behind new : Server) (ts : List (Tagged (List ℕ) Asked)) (entries : List Entry) (s : List ℕ) → AreAlike behind new
    → IsApart (noted old) ts entries s (EndsIn (noted behind) s) → IsApart old ts entries s (EndsIn new s)
apart_plain old behind new ts entries s alike run =
    subst (λ ends. IsApart old ts entries s ends)
    (ap (λ sessions (state : State). IsTrue (sessions s).failed ⊎ (IsFalse (sessions s).failed × ((sessions s).state ≡ state))) (sym alike.sessions))
    (record {
      alone = run.alone;
      influenced = run.influenced;
      sliced = run.sliced;
      between = run.between;
      interleaved = run.interleaved;
    })

pub calls_are_isolated : CallsAreIsolated
calls_are_isolated first calls new calls_made =
    let old = (seen first).server in
    let all = all_made old first calls new (alike_itself old old refl) calls_made in
    let ts = commands_of all.effects in
    let entries = entries_of all.effects in (
      all.last,
      all.is,
      record {
        effects = all.effects;
        each = all.each;
        output = all.output;
        spared = λ s fine. apart_plain old all.behind (seen all.last).server ts entries s all.ends
            (world.spared (noted old) (noted all.behind) ts entries all.steps s fine);
      },
    )

pub calls_go_on : CallsGoOn
calls_go_on old between new [] call made is = (new, subst (λ handle. IsCall handle call new) made is, refl)
calls_go_on old between new (first ∷ calls) call made is = (made.0, made.1, calls_go_on made.0 between new calls call made.2 is)
