-- Leaving lines out of an input.
use Rattle.std.proofs.Common.{◌≡◌, ◌⊎◌, ◌==◌, ℕ, zero, suc, Bool, true, false, cond, List, [], ◌∷◌, ◌++◌, map, filter, bytes_eq, Option, Some, None, refl, sym}
use Rattle.std.proofs.Common.{ap, ◌∙◌, ⊎_elim, inl, inr, append_assoc, append-nil, arith}
use Rattle.std.specs.List.{flat_map, filter_map, cons_option}
use Rattle.std.specs.Option.{option_map_or}
use Rattle.std.proofs.lemmas.Bool.{cases_Bool, both_ways, false_from_ne_true, eqb-true}
use Rattle.std.proofs.lemmas.Slice.Eq.{bytes_eq-Decides}
use Rattle.isolation.specs.Pieces.{Told, Blamed, piece_passes, only_pieces, only_answers, commands_of, piece_answers}
use Rattle.isolation.specs.Influence.{influences}
use Rattle.isolation.specs.Slice.{kept}
use Rattle.isolation.proofs.ForCallers.{influences-self, IsClosed-influences, kept-map, leaving_out_pieces}
use Rattle.session_model.specs.Machine.{machine}
use Rattle.session_model.specs.declared.line.Line.{Line}
use Rattle.session_model.proofs.ForCallers.{lawful}
use Rattle.wire_format.specs.declared.fault.LineFault.{LineFault}
use Rattle.wire_format.specs.Input.{Piece, NoEnd, in_front, whole_lines, bare, lines_of, piece_of, pieces_of, line_passes, without}
use Rattle.wire_format.specs.Output.{Answer, Said, said_by, said_in, said_all, lines_said_to, LeavingOutLines, LeavingOutStrangers}
use Rattle.wire_format.proofs.Cutting.{whole_lines-line, whole_lines-last}

no_end_more : (byte : ℕ) (line : List ℕ) → (byte == 10) ≡ false → NoEnd line → NoEnd (byte ∷ line)
no_end_more byte line other whole zero within = λ e. both_ways (byte == 10) other (rw e)
no_end_more byte line other whole (suc k) within = whole k (omega arith)

-- a line with its line feed, and one that lacks it
record Ended (line : List ℕ) : Type 0 where
  pub front : List ℕ
  pub whole : NoEnd front
  pub is : line ≡ front ++ 10 ∷ []

record Open (line : List ℕ) : Type 0 where
  pub first : ℕ
  pub rest : List ℕ
  pub whole : NoEnd (first ∷ rest)
  pub is : line ≡ first ∷ rest

-- lines as an input has them: all but the last have their line feed
IsCut : List (List ℕ) → Type 0
IsCut [] = Unit {0}
IsCut (line ∷ lines) = (Ended line × IsCut lines) ⊎ (Open line × (lines ≡ []))

in_front-Ended : (byte : ℕ) (line : List ℕ) → (byte == 10) ≡ false → Ended line → Ended (byte ∷ line)
in_front-Ended byte line other ended = record
    { front = byte ∷ ended.front; whole = no_end_more byte ended.front other ended.whole; is = ap (λ rest. byte ∷ rest) ended.is }

in_front-Open : (byte : ℕ) (line : List ℕ) → (byte == 10) ≡ false → Open line → Open (byte ∷ line)
in_front-Open byte line other open_line =
    record {
      first = byte;
      rest = open_line.first ∷ open_line.rest;
      whole = no_end_more byte (open_line.first ∷ open_line.rest) other open_line.whole;
      is = ap (λ rest. byte ∷ rest) open_line.is;
    }

IsCut-in_front : (byte : ℕ) (lines : List (List ℕ)) → (byte == 10) ≡ false → IsCut lines → IsCut (in_front byte lines)
unfolding IsCut
IsCut-in_front byte [] other cut = inr (
  record { first = byte; rest = []; whole = no_end_more byte [] other (λ k within. absurd (omega arith)); is = refl },
  refl,
)
IsCut-in_front byte (line ∷ lines) other cut =
    ⊎_elim
    (λ ended. inl (in_front-Ended byte line other ended.0, ended.1))
    (λ last. inr (in_front-Open byte line other last.0, last.1))
    cut

IsCut-whole_lines : (bytes : List ℕ) → IsCut (whole_lines bytes)
unfolding IsCut whole_lines
IsCut-whole_lines [] = tt
IsCut-whole_lines (byte ∷ rest) =
    let later : IsCut (whole_lines rest) = IsCut-whole_lines rest in
    ⊎_elim
    (λ ends. rw ends (inl (record { front = []; whole = λ k within. absurd (omega arith); is = ap (λ b. b ∷ []) (eqb-true byte 10 ends) }, later)))
    (λ other. rw other (IsCut-in_front byte (whole_lines rest) other later))
    (cases_Bool (byte == 10))

IsCut-filter : (test : List ℕ → Bool) (lines : List (List ℕ)) → IsCut lines → IsCut (filter test lines)
unfolding IsCut
IsCut-filter test [] cut = tt
IsCut-filter test (line ∷ lines) cut =
    ⊎_elim
    (λ ended.
    let later : IsCut (filter test lines) = IsCut-filter test lines ended.1 in
    ⊎_elim (λ e. rw e (inl (ended.0, later))) (λ e. rw e later) (cases_Bool (test line)))
    (λ last. rw last.1 (⊎_elim (λ e. rw e (inr (last.0, refl))) (λ e. rw e tt) (cases_Bool (test line))))
    cut

-- and lines of which some are kept
kept-nothing : (marks : List Bool) → kept {Entry = List ℕ} marks [] ≡ []
kept-nothing [] = refl
kept-nothing (mark ∷ marks) = refl

IsCut-kept : (marks : List Bool) (lines : List (List ℕ)) → IsCut lines → IsCut (kept marks lines)
unfolding IsCut
IsCut-kept [] lines cut = tt
IsCut-kept (mark ∷ marks) [] cut = tt
IsCut-kept (true ∷ marks) (line ∷ lines) cut =
    ⊎_elim
    (λ ended. inl (ended.0, IsCut-kept marks lines ended.1))
    (λ last. inr (last.0, ap (kept marks) last.1 ∙ kept-nothing marks))
    cut
IsCut-kept (false ∷ marks) (line ∷ lines) cut =
    ⊎_elim
    (λ ended. IsCut-kept marks lines ended.1)
    (λ last. rw (last.1, kept-nothing marks) tt)
    cut

whole_lines-nothing : whole_lines [] ≡ []
unfolding whole_lines
whole_lines-nothing = refl

-- such lines behind one another are cut into the same lines
whole_lines-joined : (lines : List (List ℕ)) → IsCut lines → whole_lines (flat_map (λ line. line) lines) ≡ lines
unfolding IsCut
whole_lines-joined [] cut = whole_lines-nothing
whole_lines-joined (line ∷ lines) cut =
    ⊎_elim
    (λ ended.
    let first = ended.0 in
    let joined = flat_map (λ (rest : List ℕ). rest) lines in
    ap whole_lines (ap (λ start. start ++ joined) first.is ∙ append_assoc first.front (10 ∷ []) joined)
    ∙ whole_lines-line first.front joined first.whole
    ∙ ap (λ start. start ∷ whole_lines joined) (sym first.is)
    ∙ ap (λ rest. line ∷ rest) (whole_lines-joined lines ended.1))
    (λ last.
    let only_line = last.0 in
    rw (last.1, only_line.is) (ap whole_lines (append-nil (only_line.first ∷ only_line.rest))
    ∙ whole_lines-last only_line.first only_line.rest only_line.whole))
    cut

-- the lines that are left
pub whole_lines-without : (keep : List ℕ → Bool) (bytes : List ℕ)
    → whole_lines (without keep bytes) ≡ filter (λ line. line_passes keep (bare line)) (whole_lines bytes)
unfolding without
whole_lines-without keep bytes =
    let test = λ (line : List ℕ). line_passes keep (bare line) in
    whole_lines-joined (filter test (whole_lines bytes)) (IsCut-filter test (whole_lines bytes) (IsCut-whole_lines bytes))

-- the lines of an input of which some are kept, as they came
pub lines_of-kept : (marks : List Bool) (bytes : List ℕ) → lines_of (flat_map (λ line. line) (kept marks (whole_lines bytes))) ≡ kept marks (lines_of bytes)
unfolding lines_of
lines_of-kept marks bytes =
    ap (map bare) (whole_lines-joined (kept marks (whole_lines bytes)) (IsCut-kept marks (whole_lines bytes) (IsCut-whole_lines bytes)))
    ∙ sym (kept-map bare marks (whole_lines bytes))

-- one more line, where it is a piece
filter-cons_option : (test : Piece → Bool) (found : Option Piece) (pieces : List Piece)
    → filter test (cons_option found pieces) ≡ cond (option_map_or test found true) (cons_option found (filter test pieces)) (filter test pieces)
filter-cons_option test None pieces = refl
filter-cons_option test (Some piece) pieces = refl

filter-piece : (keep : List ℕ → Bool) (line : List ℕ) (pieces : List Piece) →
    only_pieces keep (λ fault. true) (cons_option (piece_of line) pieces)
    ≡ cond (line_passes keep line) (cons_option (piece_of line) (only_pieces keep (λ fault. true) pieces)) (only_pieces keep (λ fault. true) pieces)
unfolding line_passes
filter-piece keep line pieces = filter-cons_option (piece_passes keep (λ fault. true)) (piece_of line) pieces

pieces_of-filter : (keep : List ℕ → Bool) (lines : List (List ℕ)) →
    filter_map piece_of (map bare (filter (λ line. line_passes keep (bare line)) lines))
    ≡ only_pieces keep (λ fault. true) (filter_map piece_of (map bare lines))
pieces_of-filter keep [] = refl
pieces_of-filter keep (line ∷ lines) =
    let later = pieces_of-filter keep lines in
    let kept = only_pieces {Fault = LineFault} keep (λ fault. true) (filter_map piece_of (map bare lines)) in
    ⊎_elim
    (λ e. rw e (ap (cons_option (piece_of (bare line))) later ∙ ap (λ passes. cond passes (cons_option (piece_of (bare line)) kept) kept) (sym e)
    ∙ sym (filter-piece keep (bare line) (filter_map piece_of (map bare lines)))))
    (λ e. rw e (later ∙ ap (λ passes. cond passes (cons_option (piece_of (bare line)) kept) kept) (sym e)
    ∙ sym (filter-piece keep (bare line) (filter_map piece_of (map bare lines)))))
    (cases_Bool (line_passes keep (bare line)))

-- the pieces that are left
pub pieces_of-without : (keep : List ℕ → Bool) (bytes : List ℕ) → pieces_of (without keep bytes) ≡ only_pieces keep (λ fault. true) (pieces_of bytes)
unfolding pieces_of lines_of
pieces_of-without keep bytes = rw (whole_lines-without keep bytes) (pieces_of-filter keep (whole_lines bytes))

-- what is said by a session to which nothing is kept
pub lines_said_to-append : (s : List ℕ) (xs ys : List Said) → lines_said_to s (xs ++ ys) ≡ lines_said_to s xs ++ lines_said_to s ys
lines_said_to-append s [] ys = refl
lines_said_to-append s (x ∷ xs) ys =
    let rest = lines_said_to-append s xs ys in
    ⊎_elim (λ e. rw e (ap (λ said. x ∷ said) rest)) (λ e. rw e rest) (cases_Bool (bytes_eq s x.session))

-- of what another session is told, nothing is said to s
pub nothing_said : (s session : List ℕ) (lines : List Line) → bytes_eq s session ≡ false → lines_said_to s (map (said_by session) lines) ≡ []
nothing_said s session [] other = refl
nothing_said s session (line ∷ lines) other = rw other (nothing_said s session lines other)

-- leaving out the answers to sessions that do not pass leaves out nothing that is said to one that does
said_to_kept : (keep : List ℕ → Bool) (s : List ℕ) → keep s ≡ true → (answers : List Answer)
    → lines_said_to s (flat_map said_in (only_answers keep (λ fault. true) answers)) ≡ lines_said_to s (flat_map said_in answers)
said_to_kept keep s passes [] = refl
said_to_kept keep s passes (Told session lines ∷ answers) =
    let rest = said_to_kept keep s passes answers in
    let here = map (said_by session) lines in
    ⊎_elim
    (λ kept. rw kept (lines_said_to-append s here _ ∙ ap (λ said. lines_said_to s here ++ said) rest ∙ sym (lines_said_to-append s here _)))
    (λ left_out.
    let other : bytes_eq s session ≡ false = false_from_ne_true _
    (λ same. both_ways (keep session) left_out (ap keep (sym ((bytes_eq-Decides s session).0 same)) ∙ passes)) in
    rw left_out (rest ∙ sym (lines_said_to-append s here (flat_map said_in answers)
    ∙ ap (λ said. said ++ lines_said_to s (flat_map said_in answers)) (nothing_said s session lines other))))
    (cases_Bool (keep session))
said_to_kept keep s passes (Blamed fault ∷ answers) =
    let rest = said_to_kept keep s passes answers in
    let here = said_in (Blamed fault) in
    lines_said_to-append s here _ ∙ ap (λ said. lines_said_to s here ++ said) rest ∙ sym (lines_said_to-append s here _)

pub leaving_out_lines : LeavingOutLines
unfolding said_all
leaving_out_lines settings keep world bytes closed s passes =
    let said = λ (pieces : List Piece). lines_said_to s (flat_map said_in (piece_answers (machine settings) world pieces)) in
    ap said (pieces_of-without keep bytes)
    ∙ ap (λ (answers : List Answer). lines_said_to s (flat_map said_in answers))
    (leaving_out_pieces LineFault (machine settings) (lawful settings) keep (λ fault. true) world world (pieces_of bytes) closed (λ name kept. refl))
    ∙ said_to_kept keep s passes (piece_answers (machine settings) world (pieces_of bytes))

pub leaving_out_strangers : LeavingOutStrangers
leaving_out_strangers settings world known bytes knows s =
    let m = machine settings in
    let ts = commands_of (pieces_of bytes) in
    leaving_out_lines settings (influences m world known ts s) world bytes (IsClosed-influences m (lawful settings) world known ts knows s) s
    (influences-self m (lawful settings) world known ts s)
