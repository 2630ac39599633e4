-- Lines that are answered one after another, and what that comes to where memory was found.
use Rattle.std.proofs.Common.{◌≡◌, ℕ, true, List, [], ◌∷◌, ◌++◌, map, inl, inr, bytes_eq, IsTrue, IsFalse, refl, sym, ap, ap₂, ◌∙◌, subst, ⊎_elim, append-nil}
use Rattle.std.proofs.Common.{append_assoc, arith, get_or, length-append}
use Rattle.std.specs.Prelude.{Option, None, Some, IfSome, Result, Ok, Err}
use Rattle.std.specs.List.{All, cons_option, filter_map, list_any}
use Rattle.std.proofs.lemmas.List.{get_or_append_left}
use Rattle.std.proofs.lemmas.List.Elements.{All-head, All-map, All-push, All-tail}
use Rattle.std.proofs.lemmas.Bool.{both_ways, cond_both, false_from_ne_true}
use Rattle.isolation.specs.Machine.{Tagged}
use Rattle.isolation.specs.Pieces.{Given, Faulty}
use Rattle.plain_types.specs.Names.{is_name}
use Rattle.server_world.proofs.ForCallers.{entry_is}
use Rattle.server_world.specs.Server.{KnowsAtMost, OnlyRefused, Server, names, seen_by_name, states, was_refused, settings}
use Rattle.session_engine.specs.Sessions.{AllAreNamed}
use Rattle.session_tables.specs.Session.{Session}
use Rattle.session_model.specs.Asked.{Asked}
use Rattle.session_model.specs.Named.{AreNamed}
use Rattle.wire_format.specs.declared.fault.LineFault.{LineFault}
use Rattle.wire_format.specs.Command.{command_of, is_blank}
use Rattle.wire_format.specs.Input.{Piece, lines_of, piece_from, piece_of, pieces_of}
use Rattle.wire_format.specs.Output.{output, world_of, text_of_piece, world_after_piece}
use Rattle.wire_format.proofs.ForCallers.{IsNamedPiece, piece_named, session_is_name, text_of_pieces, text_of_pieces-cons, text_of_pieces-nothing}
use Rattle.wire_format.proofs.ForCallers.{world_after_pieces, world_after_pieces-cons, world_after_pieces-nothing, by_pieces, world_by_pieces}
use Rattle.wire_lines.specs.Sending.{IsPrefix}
use Rattle.wire_lines.specs.Steps.{AreAnswered, IsAnswered, IsUnread, entry_text, read_lines}
use Rattle.wire_lines.specs.Stream.{HaveNames, Later}

pub Later-trans : (a b c : Server) → Later a b → Later b c → Later a c
Later-trans a b c first second = record {
  settings = second.settings ∙ first.settings;
  refused = λ refused. second.refused (first.refused refused);
  named = λ named. second.named (first.named named);
  sessions = λ named. second.sessions (first.sessions named);
}

pub Later-same : (a b : Server) → b ≡ a → Later a b
Later-same a b same = record {
  settings = ap settings same;
  refused = λ refused. subst (λ server. IsTrue (was_refused server)) (sym same) refused;
  named = λ named. subst (λ server. AllAreNamed (seen_by_name server)) (sym same) named;
  sessions = λ named. subst HaveNames (sym same) named;
}

-- where nothing has changed but that memory was refused, all names are as before
pub only_named : (a b : Server) → OnlyRefused a b → AllAreNamed (seen_by_name a) → AllAreNamed (seen_by_name b)
only_named a b only named = subst (λ (sessions : List ℕ → Session). (name : List ℕ) → AreNamed (sessions name).state) (sym only.sessions) named

pub only_sessions : (a b : Server) → OnlyRefused a b → HaveNames a → HaveNames b
only_sessions a b only named = subst (All (λ name. IsTrue (is_name name))) (sym only.names) named

-- a session that is entered has a name, where the command names it so
pub entered_named : (a b : Server) (name : List ℕ) → KnowsAtMost a b name → is_name name ≡ true → HaveNames a → HaveNames b
entered_named a b name (inl same) is named = subst (All (λ name. IsTrue (is_name name))) (sym same) named
entered_named a b name (inr more) is named = subst (All (λ name. IsTrue (is_name name))) (sym more)
    (cond_both (list_any (bytes_eq name) (names a)) (names a) (names a ++ name ∷ []) (All (λ name. IsTrue (is_name name)))
    (λ there. named) (λ new. All-push (λ name. IsTrue (is_name name)) (names a) name named is))

-- the settings stay, and so does that memory was refused, and where so much holds of lines, sessions and what they
-- hold stay called by names
record Stays (named : Type 0) (a b : Server) : Type 0 where
  settings : settings b ≡ settings a
  refused : IsTrue (was_refused a) → IsTrue (was_refused b)
  names : named → AllAreNamed (seen_by_name a) → AllAreNamed (seen_by_name b)
  sessions : named → HaveNames a → HaveNames b

same_stays : (named : Type 0) (a b : Server) → b ≡ a → Stays named a b
same_stays named a b same = let later = Later-same a b same in record
    { settings = later.settings; refused = later.refused; names = λ is. later.named; sessions = λ is. later.sessions }

-- where memory was never refused at the end, it was not in between
stays_found : (named : Type 0) (a b : Server) → Stays named a b → IsFalse (was_refused b) → IsFalse (was_refused a)
stays_found named a b stays found = false_from_ne_true _ (λ refused. both_ways _ found (stays.refused refused))

unread_stays : (named : Type 0) (a b : Server) (text : List ℕ) → IsUnread a text b → Stays named a b
unread_stays named a b text unread = record {
  settings = unread.settings;
  refused = λ refused. unread.only.refused;
  names = λ is. only_named a b unread.only;
  sessions = λ is. only_sessions a b unread.only;
}

-- the session of a command has a name
abbrev NamesSession : Piece → Type 0
NamesSession (Given t) = IsTrue (is_name t.session)
NamesSession (Faulty fault) = Unit {0}

session_named : (line : List ℕ) → IfSome (piece_of line) NamesSession
unfolding piece_of
session_named line = cond_both (is_blank line) None (Some (piece_from (command_of line))) (λ piece. IfSome piece NamesSession) (λ blank. tt)
    (λ not_blank. by (command_of line) (session_is_name line))
  where
    by : (read : Result (Tagged (List ℕ) Asked) LineFault) → ((given : Tagged (List ℕ) Asked) → read ≡ Ok given → is_name given.session ≡ true)
        → NamesSession (piece_from read)
    by (Ok given) is = is given refl
    by (Err fault) is = tt

-- a line uses names for its session and for what it sets, publishes and joins
abbrev pub IsNamedLine : Option Piece → Type 0
IsNamedLine line = IfSome line IsNamedPiece × IfSome line NamesSession

-- a line that is answered keeps the settings, and that memory was refused
answered_stays : (a b : Server) (line : Option Piece) (text : List ℕ) → IsAnswered a line text b → Stays (IsNamedLine line) a b
answered_stays a b None text answered = same_stays (IsNamedLine None) a b answered.0
answered_stays a b (Some (Given t)) text answered = ⊎_elim
    (λ done. record {
      settings = done.does.step.settings;
      refused = done.does.step.kept;
      names = λ is. done.does.step.named is.0;
      sessions = λ is. entered_named a b t.session done.does.known is.1;
    })
    (unread_stays (IsNamedLine (Some (Given t))) a b text)
    answered
answered_stays a b (Some (Faulty fault)) text answered = ⊎_elim (λ said. same_stays (IsNamedLine (Some (Faulty fault))) a b said.stays)
    (unread_stays (IsNamedLine (Some (Faulty fault))) a b text) answered

-- and so do many
AreAnswered-stays : (a b : Server) (lines : List (Option Piece)) (text : List ℕ) → AreAnswered a lines text b → Stays (All IsNamedLine lines) a b
AreAnswered-stays a b [] text answered = same_stays (All IsNamedLine []) a b answered.0
AreAnswered-stays a b (line ∷ lines) text answered =
    let first = answered_stays a answered.0 line answered.1 answered.3 in
    let rest = AreAnswered-stays answered.0 b lines answered.2 answered.4 in
    record {
      settings = rest.settings ∙ first.settings;
      refused = λ refused. rest.refused (first.refused refused);
      names = λ all named. rest.names (All-tail IsNamedLine line lines all) (first.names (All-head IsNamedLine line lines all) named);
      sessions = λ all named. rest.sessions (All-tail IsNamedLine line lines all) (first.sessions (All-head IsNamedLine line lines all) named);
    }

-- the lines of an input use names, and so do the first of them
pub front_named : (bytes : List ℕ) (lines behind : List (Option Piece)) → read_lines bytes ≡ lines ++ behind → All IsNamedLine lines
front_named bytes lines behind is k d within =
    let all : All IsNamedLine (lines ++ behind) = subst (All IsNamedLine) is
    (All-map IsNamedLine piece_of (lines_of bytes)
    (λ index default inside. (piece_named (get_or (lines_of bytes) index default), session_named (get_or (lines_of bytes) index default)))) in
    subst IsNamedLine (get_or_append_left lines behind d k within) (all k d (omega (arith, length-append lines behind, within)))

pub AreAnswered-later : (a b : Server) (bytes : List ℕ) (lines behind : List (Option Piece)) (text : List ℕ) → read_lines bytes ≡ lines ++ behind
    → AreAnswered a lines text b → Later a b
AreAnswered-later a b bytes lines behind text is answered =
    let stays = AreAnswered-stays a b lines text answered in
    let named = front_named bytes lines behind is in
    record { settings = stays.settings; refused = stays.refused; named = stays.names named; sessions = stays.sessions named }

-- one line, and some lines behind others
pub AreAnswered-one : (a b : Server) (line : Option Piece) (text : List ℕ) → IsAnswered a line text b → AreAnswered a (line ∷ []) text b
AreAnswered-one a b line text answered = (b, text, [], answered, (refl, refl), sym (append-nil text))

pub AreAnswered-append : (a b c : Server) (lines more : List (Option Piece)) (text behind : List ℕ) → AreAnswered a lines text b → AreAnswered b more behind c
    → AreAnswered a (lines ++ more) (text ++ behind) c
AreAnswered-append a b c [] more text behind first second =
    subst (λ text. AreAnswered a more (text ++ behind) c) (sym first.1) (subst (λ server. AreAnswered server more behind c) first.0 second)
AreAnswered-append a b c (line ∷ lines) more text behind first second = (
  first.0,
  first.1,
  first.2 ++ behind,
  first.3,
  AreAnswered-append first.0 b c lines more first.2 behind first.4 second,
  ap (λ l. l ++ behind) first.5 ∙ append_assoc first.1 first.2 behind,
)

-- where memory was found, a line is answered by the text of its piece, and the states are those after it
found_text : (a b : Server) (line : Option Piece) (text : List ℕ) → IsAnswered a line text b → IsFalse (was_refused b)
    → (text ≡ text_of_piece (settings a) (states a) line) × (states b ≡ world_after_piece (settings a) (states a) line)
unfolding text_of_piece world_after_piece
found_text a b None text answered found = (answered.1, ap states answered.0)
found_text a b (Some (Given t)) text answered found = ⊎_elim
    (λ done. (done.says ∙ ap (entry_text t.session) (entry_is done.entry _ (done.does.step.lines found)), done.does.step.states found))
    (λ unread. absurd (both_ways _ found unread.only.refused))
    answered
found_text a b (Some (Faulty fault)) text answered found = ⊎_elim
    (λ said. (said.says, ap states said.stays))
    (λ unread. absurd (both_ways _ found unread.only.refused))
    answered

-- the pieces of lines, without those that are none
abbrev pub given : List (Option Piece) → List Piece
given lines = filter_map (λ line. line) lines

given-map : (lines : List (List ℕ)) → given (map piece_of lines) ≡ filter_map piece_of lines
given-map [] = refl
given-map (line ∷ lines) = ap (cons_option (piece_of line)) (given-map lines)

pub pieces_of-given : (bytes : List ℕ) → pieces_of bytes ≡ given (read_lines bytes)
unfolding pieces_of
pieces_of-given bytes = sym (given-map (lines_of bytes))

-- so what is said to lines is the text of their pieces, in front of that of further ones in the states after them
texts_found : (a b : Server) (lines more : List (Option Piece)) (text : List ℕ) → AreAnswered a lines text b → IsFalse (was_refused b) →
    text_of_pieces (settings a) (states a) (given (lines ++ more)) ≡ text ++ text_of_pieces (settings a) (states b) (given more)
texts_found a b [] more text answered found =
    ap₂ (λ front world. front ++ text_of_pieces (settings a) world (given more)) (sym answered.1) (ap states (sym answered.0))
texts_found a b (line ∷ lines) more text answered found =
    let between = answered.0 in
    let first = found_text a between line answered.1 answered.3
    (stays_found (All IsNamedLine lines) between b (AreAnswered-stays between b lines answered.2 answered.4) found) in
    let same = (answered_stays a between line answered.1 answered.3).settings in
    let rest = subst (λ s. text_of_pieces s (states between) (given (lines ++ more)) ≡ answered.2 ++ text_of_pieces s (states b) (given more)) same
    (texts_found between b lines more answered.2 answered.4 found) in
    text_of_pieces-cons (settings a) (states a) line (given (lines ++ more))
    ∙ ap₂ (λ front world. front ++ text_of_pieces (settings a) world (given (lines ++ more))) (sym first.0) (sym first.1)
    ∙ ap (λ l. answered.1 ++ l) rest
    ∙ sym (append_assoc answered.1 answered.2 (text_of_pieces (settings a) (states b) (given more)))
    ∙ ap (λ l. l ++ text_of_pieces (settings a) (states b) (given more)) (sym answered.5)

worlds_found : (a b : Server) (lines : List (Option Piece)) (text : List ℕ) → AreAnswered a lines text b → IsFalse (was_refused b) →
    states b ≡ world_after_pieces (settings a) (states a) (given lines)
worlds_found a b [] text answered found = ap states answered.0 ∙ sym (world_after_pieces-nothing (settings a) (states a))
worlds_found a b (line ∷ lines) text answered found =
    let between = answered.0 in
    let first = found_text a between line answered.1 answered.3
    (stays_found (All IsNamedLine lines) between b (AreAnswered-stays between b lines answered.2 answered.4) found) in
    let same = (answered_stays a between line answered.1 answered.3).settings in
    worlds_found between b lines answered.2 answered.4 found
    ∙ ap₂ (λ s world. world_after_pieces s world (given lines)) same first.1
    ∙ sym (world_after_pieces-cons (settings a) (states a) line (given lines))

-- what is said to the first lines of an input is a front of its output,
pub front_found : (a b : Server) (input : List ℕ) (lines behind : List (Option Piece)) (text : List ℕ) → read_lines input ≡ lines ++ behind
    → AreAnswered a lines text b → IsFalse (was_refused b) →
    IsPrefix text (output (settings a) (states a) input)
front_found a b input lines behind text is answered found = (
  text_of_pieces (settings a) (states b) (given behind),
  by_pieces (settings a) (states a) input
      ∙ ap (text_of_pieces (settings a) (states a)) (pieces_of-given input ∙ ap given is)
      ∙ texts_found a b lines behind text answered found,
)

-- and what is said to all of them is the output, and the states are those after it
pub output_found : (a b : Server) (input text : List ℕ) → AreAnswered a (read_lines input) text b → IsFalse (was_refused b)
    → text ≡ output (settings a) (states a) input
output_found a b input text answered found = sym (
    by_pieces (settings a) (states a) input
    ∙ ap (text_of_pieces (settings a) (states a)) (pieces_of-given input ∙ ap given (sym (append-nil (read_lines input))))
    ∙ texts_found a b (read_lines input) [] text answered found
    ∙ ap (λ l. text ++ l) (text_of_pieces-nothing (settings a) (states b))
    ∙ append-nil text)

pub world_found : (a b : Server) (input text : List ℕ) → AreAnswered a (read_lines input) text b → IsFalse (was_refused b)
    → states b ≡ world_of (settings a) (states a) input
world_found a b input text answered found =
    worlds_found a b (read_lines input) text answered found
    ∙ ap (world_after_pieces (settings a) (states a)) (sym (pieces_of-given input))
    ∙ sym (world_by_pieces (settings a) (states a) input)
