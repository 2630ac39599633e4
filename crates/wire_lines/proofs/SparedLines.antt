-- What is said to lines of which some were not read.
use Rattle.std.proofs.Common.{◌≡◌, ℕ, Bool, true, false, List, [], ◌∷◌, ◌++◌, length, map, take, bytes_eq, codes, Option, Some, None, refl, sym, ap, ap₂, ◌∙◌}
use Rattle.std.proofs.Common.{⊎_elim, arith, zero, suc, replicate}
use Rattle.std.specs.List.{flat_map}
use Rattle.std.proofs.lemmas.Bool.{cases_Bool, both_ways, false_from_ne_true}
use Rattle.std.proofs.lemmas.List.Elements.{All-head, All-tail}
use Rattle.std.proofs.lemmas.Slice.Eq.{bytes_eq-Decides}
use Rattle.isolation.specs.Machine.{Tagged}
use Rattle.isolation.specs.Pieces.{Given, Faulty, commands_of, piece_answers}
use Rattle.isolation.specs.Slice.{kept}
use Rattle.isolation.specs.World.{after, effect, entries_of, world_lines}
use Rattle.plain_types.specs.declared.code.Code.TheVariants as code
use Rattle.server_world.specs.declared.report.Entry.{Entry}
use Rattle.server_world.specs.declared.report.Entry.TheVariants.{Lines, OutOfMemory}
use Rattle.server_world.specs.Runs.{entry_lines}
use Rattle.server_world.proofs.ForCallers.{entry_is}
use Rattle.session_model.specs.Asked.{Asked}
use Rattle.session_model.specs.Machine.{machine}
use Rattle.session_model.specs.Thread.{Settings}
use Rattle.session_model.specs.declared.line.Line.{Line}
use Rattle.session_model.specs.declared.line.Line.TheVariants.{Error}
use Rattle.wire_format.specs.Input.{Piece, lines_of, piece_of, pieces_of, whole_lines}
use Rattle.wire_format.specs.Output.{Said, World, lines_said_to, said_by, said_in}
use Rattle.wire_format.proofs.ForCallers.{lines_of-kept, lines_said_to-append, nothing_said}
use Rattle.isolation.proofs.ForCallers.{kept-map}
use Rattle.wire_lines.specs.Spared.{AreSpared, IsSparing, first_lines, said_by_entry, said_for, without_unread}
use Rattle.wire_lines.specs.Steps.{read_lines}
use Rattle.wire_lines.proofs.Answering.{given, pieces_of-given}

-- the pieces of the lines that were read
abbrev pub pieces_read : List (Option Piece) → List Bool → List Piece
pieces_read lines read = given (kept read lines)

abbrev pub commands_read : List (Option Piece) → List Bool → List (Tagged (List ℕ) Asked)
commands_read lines read = commands_of (pieces_read lines read)

-- those of the input without the other lines
pub pieces_of-without_unread : (read : List Bool) (bytes : List ℕ) → pieces_of (without_unread read bytes) ≡ pieces_read (read_lines bytes) read
pieces_of-without_unread read bytes =
    pieces_of-given (without_unread read bytes)
    ∙ ap (λ lines. given (map piece_of lines)) (lines_of-kept read bytes)
    ∙ ap given (sym (kept-map piece_of read (lines_of bytes)))

-- the first lines are those that stand at so many marks
kept-all : {Entry : Type 0} (count : ℕ) (xs : List Entry) → kept (replicate count true) xs ≡ take count xs
kept-all zero xs = refl
kept-all (suc count) [] = refl
kept-all (suc count) (x ∷ xs) = ap (λ rest. x ∷ rest) (kept-all count xs)

pub read_lines-first_lines : (count : ℕ) (bytes : List ℕ) → read_lines (first_lines count bytes) ≡ take count (read_lines bytes)
read_lines-first_lines count bytes =
    ap (λ lines. map piece_of (lines_of (flat_map (λ line. line) lines))) (sym (kept-all count (whole_lines bytes)))
    ∙ ap (map piece_of) (lines_of-kept (replicate count true) bytes)
    ∙ sym (kept-map piece_of (replicate count true) (lines_of bytes))
    ∙ kept-all count (read_lines bytes)

-- what is said to s for a line of another session
not_said : (s session : List ℕ) (line : Line) (rest : List Said) → bytes_eq s session ≡ false
    → lines_said_to s (said_by session line ∷ rest) ≡ lines_said_to s rest
not_said s session line rest other = rw other refl

entry_not_said : (s session : List ℕ) (entry : Entry) → bytes_eq s session ≡ false → lines_said_to s (said_by_entry session entry) ≡ []
entry_not_said s session (Lines lines) other = nothing_said s session lines other
entry_not_said s session OutOfMemory other = not_said s session (Error code.OutOfMemory) [] other

same_first : (s : List ℕ) (line : Said) (xs ys : List Said) → lines_said_to s xs ≡ lines_said_to s ys
    → lines_said_to s (line ∷ xs) ≡ lines_said_to s (line ∷ ys)
same_first s line xs ys rest = lines_said_to-append s (line ∷ []) xs ∙ ap (λ more. lines_said_to s (line ∷ []) ++ more) rest
    ∙ sym (lines_said_to-append s (line ∷ []) ys)

-- what holds of some lines holds of those behind
pub spared_behind : (keep : List ℕ → Bool) (front rest : List Said) → AreSpared keep (front ++ rest) → AreSpared keep rest
spared_behind keep [] rest spared = spared
spared_behind keep (line ∷ front) rest spared = spared_behind keep front rest
    (All-tail (λ (line : Said). keep line.session ≡ true → IsSparing line) line (front ++ rest) spared)

module _ (settings : Settings) (keep : List ℕ → Bool) (s : List ℕ) (passes : keep s ≡ true) where
  -- the entries of commands whose sessions pass are the lines of the world
  pub AreOfWorld : World → List (Tagged (List ℕ) Asked) → List Entry → Type 0
  AreOfWorld world [] entries = Unit {0}
  AreOfWorld world (t ∷ ts) [] = ⊥
  AreOfWorld world (t ∷ ts) (entry ∷ entries) =
      (keep t.session ≡ true → entry ≡ Lines (effect (machine settings) world t).lines) × AreOfWorld (after (machine settings) world t) ts entries

  pub are_of_world : (world : World) (ts : List (Tagged (List ℕ) Asked)) (entries : List Entry) → length entries ≡ length ts
      → map entry_lines (entries_of keep ts entries) ≡ map Some (entries_of keep ts (world_lines (machine settings) world ts))
      → AreOfWorld world ts entries
  unfolding AreOfWorld
  are_of_world world [] entries count same = tt
  are_of_world world (t ∷ ts) [] count same = absurd (omega arith)
  are_of_world world (t ∷ ts) (entry ∷ entries) count same = ⊎_elim
      (λ kept.
      let found = rw kept at same in
      let here : entry_lines entry ≡ Some (effect (machine settings) world t).lines = cc in
      let rest : map entry_lines (entries_of keep ts entries)
      ≡ map Some (entries_of keep ts (world_lines (machine settings) (after (machine settings) world t) ts)) = cc in
      ((λ is. entry_is entry _ here), are_of_world (after (machine settings) world t) ts entries (omega arith) rest))
      (λ left_out.
      let rest = rw left_out at same in
      ((λ is. absurd (both_ways _ left_out is)), are_of_world (after (machine settings) world t) ts entries (omega arith) rest))
      (cases_Bool (keep t.session))

  -- a session that does not pass is another one
  other_than : (session : List ℕ) → keep session ≡ false → bytes_eq s session ≡ false
  other_than session left_out = false_from_ne_true _ (λ same. both_ways (keep session) left_out (ap keep (sym ((bytes_eq-Decides s session).0 same)) ∙ passes))

  -- so the lines of an entry are those of the world for s
  entry_said : (session : List ℕ) (entry : Entry) (lines : List Line) → (keep session ≡ true → entry ≡ Lines lines)
      → lines_said_to s (said_by_entry session entry) ≡ lines_said_to s (map (said_by session) lines)
  entry_said session entry lines told = ⊎_elim
      (λ kept. ap (λ entry. lines_said_to s (said_by_entry session entry)) (told kept))
      (λ left_out. entry_not_said s session entry (other_than session left_out) ∙ sym (nothing_said s session lines (other_than session left_out)))
      (cases_Bool (keep session))

  -- a spared session is not the one that unread lines name
  not_unnamed : (rest : List Said) → AreSpared keep (said_by (codes "-") (Error code.OutOfMemory) ∷ rest) → bytes_eq s (codes "-") ≡ false
  not_unnamed rest spared = false_from_ne_true _ (λ same.
      let sparing = All-head (λ (line : Said). keep line.session ≡ true → IsSparing line) (said_by (codes "-") (Error code.OutOfMemory)) rest spared in
      (sparing (ap keep (sym ((bytes_eq-Decides s (codes "-")).0 same)) ∙ passes)).found refl)

  -- what is said to a spared session is what is said to it in the world, for the lines that were read
  pub spared_said : (world : World) (lines : List (Option Piece)) (read : List Bool) (entries : List Entry)
      → AreOfWorld world (commands_read lines read) entries → AreSpared keep (said_for lines read entries)
      → lines_said_to s (said_for lines read entries) ≡ lines_said_to s (flat_map said_in (piece_answers (machine settings) world (pieces_read lines read)))
  unfolding AreOfWorld
  spared_said world [] [] entries told spared = refl
  spared_said world [] (mark ∷ read) entries told spared = refl
  spared_said world (None ∷ lines) [] entries told spared = refl
  spared_said world (Some (Given t) ∷ lines) [] entries told spared = refl
  spared_said world (Some (Faulty fault) ∷ lines) [] entries told spared = refl
  spared_said world (None ∷ lines) (true ∷ read) entries told spared = spared_said world lines read entries told spared
  spared_said world (None ∷ lines) (false ∷ read) entries told spared = spared_said world lines read entries told spared
  spared_said world (Some (Given t) ∷ lines) (false ∷ read) entries told spared =
      let rest = said_for lines read entries in
      not_said s (codes "-") (Error code.OutOfMemory) rest (not_unnamed rest spared)
      ∙ spared_said world lines read entries told
      (All-tail (λ (line : Said). keep line.session ≡ true → IsSparing line) (said_by (codes "-") (Error code.OutOfMemory)) rest spared)
  spared_said world (Some (Faulty fault) ∷ lines) (false ∷ read) entries told spared =
      let rest = said_for lines read entries in
      not_said s (codes "-") (Error code.OutOfMemory) rest (not_unnamed rest spared)
      ∙ spared_said world lines read entries told
      (All-tail (λ (line : Said). keep line.session ≡ true → IsSparing line) (said_by (codes "-") (Error code.OutOfMemory)) rest spared)
  spared_said world (Some (Faulty fault) ∷ lines) (true ∷ read) entries told spared =
      let rest = said_for lines read entries in
      same_first s _ rest _ (spared_said world lines read entries told (All-tail (λ (line : Said). keep line.session ≡ true → IsSparing line) _ rest spared))
  spared_said world (Some (Given t) ∷ lines) (true ∷ read) [] told spared = absurd told
  spared_said world (Some (Given t) ∷ lines) (true ∷ read) (entry ∷ entries) told spared =
      let front = said_by_entry t.session entry in
      let rest = said_for lines read entries in
      lines_said_to-append s front rest
      ∙ ap₂ (λ first more. first ++ more) (entry_said t.session entry (effect (machine settings) world t).lines told.0)
      (spared_said (after (machine settings) world t) lines read entries told.1 (spared_behind keep front rest spared))
      ∙ sym (lines_said_to-append s _ _)
