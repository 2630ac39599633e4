-- What is taken of an input, line by line.
use Rattle.std.proofs.Common.{◌≡◌, ◌⊎◌, inl, inr, ℕ, ◌+◌, ◌<◌, List, [], ◌∷◌, ◌++◌, length, length-append, map, filter, take, Option, Some, None, refl, sym, ap}
use Rattle.std.proofs.Common.{ap₂, ◌∙◌, subst, arith, append_assoc, append-nil, ⊎_elim}
use Rattle.std.specs.Prelude.{All, IfErr, OnOk, Result, Ok, Err}
use Rattle.std.proofs.lemmas.List.{map_push, take-append-le, take_all}
use Rattle.std.proofs.lemmas.List.Elements.{All-nil, All-push, filter-append}
use Rattle.isolation.specs.Machine.{Tagged}
use Rattle.isolation.specs.Pieces.{Given, Faulty, commands_of}
use Rattle.isolation.specs.Slice.{Note}
use Rattle.server_world.specs.declared.report.Entry.{Entry}
use Rattle.server_world.specs.Noting.{AreNoted}
use Rattle.server_world.specs.Runs.{AreSteps, IsEntry}
use Rattle.server_world.specs.Server.{Server, OnlyRefused, states}
use Rattle.server_world.proofs.ForCallers.{noted_step, notes_begin, steps_more}
use Rattle.session_model.specs.Asked.{Asked}
use Rattle.wire_format.specs.Input.{Piece, lines_of, piece_of, pieces_of}
use Rattle.wire_lines.specs.declared.fault.RunFault.{RunFault}
use Rattle.wire_lines.specs.declared.fault.RunFault.TheVariants.{Read, Write, Endless, Memory}
use Rattle.wire_lines.specs.Slicing.{HasRun, is_command}
use Rattle.wire_lines.specs.Taking.{DoesNoted, HasStopped, HasTaken, Noted, RunsShort, StopsAt, Takes, commands_in, line_at}
use Rattle.wire_lines.proofs.Sliced.{commands_in-append, commands_in-lines}

-- nothing yet
pub HasTaken-nothing : (input : List ℕ) (server : Server) (notes : List (Note ℕ)) (starts : List ℕ) (count : ℕ) → notes ≡ [] → starts ≡ [] → count ≡ 0 →
    HasTaken input server (record { server = server; notes = notes; starts = starts }) count input
HasTaken-nothing input server notes starts count no_notes no_starts zero = record {
  lines = [];
  reads = refl;
  counted = zero;
  within = subst (All (λ start. start < length input)) (sym no_starts) (All-nil (λ start. start < length input));
  begins = ap (map (line_at input)) no_starts;
  entries = [];
  steps = refl;
  right = λ found. subst (AreNoted (states server) [] server) (sym no_notes) (notes_begin server (states server));
}

module _ (input : List ℕ) (old : Server) (now : Noted) (count : ℕ) (rest : List ℕ) (taken : HasTaken input old now count rest) where
  module _ (line behind : List ℕ) (first : lines_of rest ≡ line ∷ lines_of behind) where
    one_more : lines_of input ≡ (taken.lines ++ line ∷ []) ++ lines_of behind
    one_more = taken.reads ∙ ap (λ l. taken.lines ++ l) first ∙ sym (append_assoc taken.lines (line ∷ []) (lines_of behind))

    -- a line that is no command
    passed : commands_in (line ∷ []) ≡ [] → filter is_command (line ∷ []) ≡ [] → HasTaken input old now (count + 1) behind
    passed silent none =
        let long = length-append taken.lines (line ∷ []) in
        let same : commands_in (taken.lines ++ line ∷ []) ≡ commands_in taken.lines = commands_in-append taken.lines (line ∷ [])
        ∙ ap (λ l. commands_in taken.lines ++ l) silent ∙ append-nil (commands_in taken.lines) in
        let lines : filter is_command (taken.lines ++ line ∷ []) ≡ filter is_command taken.lines = filter-append is_command taken.lines (line ∷ [])
        ∙ ap (λ l. filter is_command taken.lines ++ l) none ∙ append-nil (filter is_command taken.lines) in
        record {
          lines = taken.lines ++ line ∷ [];
          reads = one_more;
          counted = omega (arith, taken.counted, long);
          within = taken.within;
          begins = taken.begins ∙ sym lines;
          entries = taken.entries;
          steps = subst (λ ts. AreSteps old ts taken.entries now.server) (sym same) taken.steps;
          right = λ found. subst (λ ts. AreNoted (states old) ts now.server now.notes) (sym same) (taken.right found);
        }

    module _ (start : ℕ) (next : Noted) (below : start < length input) (here : line_at input start ≡ line) where
      -- a line whose command is done
      done : (t : Tagged (List ℕ) Asked) → commands_in (line ∷ []) ≡ t ∷ [] → filter is_command (line ∷ []) ≡ line ∷ [] → DoesNoted start t now next
          → HasTaken input old next (count + 1) behind
      done t given command does =
          let long = length-append taken.lines (line ∷ []) in
          let same : commands_in (taken.lines ++ line ∷ []) ≡ commands_in taken.lines ++ t ∷ [] = commands_in-append taken.lines (line ∷ [])
          ∙ ap (λ l. commands_in taken.lines ++ l) given in
          let lines : filter is_command (taken.lines ++ line ∷ []) ≡ filter is_command taken.lines ++ line ∷ [] =
          filter-append is_command taken.lines (line ∷ []) ∙ ap (λ l. filter is_command taken.lines ++ l) command in
          record {
            lines = taken.lines ++ line ∷ [];
            reads = one_more;
            counted = omega (arith, taken.counted, long);
            within = subst (All (λ start. start < length input)) (sym does.starts)
                (All-push (λ start. start < length input) now.starts start taken.within below);
            begins = ap (map (line_at input)) does.starts ∙ map_push (line_at input) now.starts start ∙ ap₂ (λ ls l. ls ++ l ∷ []) taken.begins here
                ∙ sym lines;
            entries = taken.entries ++ does.entry ∷ [];
            steps = subst (λ ts. AreSteps old ts (taken.entries ++ does.entry ∷ []) next.server) (sym same)
                (steps_more old now.server next.server (commands_in taken.lines) taken.entries t does.entry taken.steps does.does);
            right = λ found.
                subst (λ ts. AreNoted (states old) ts next.server next.notes) (sym same)
                (subst (AreNoted (states old) (commands_in taken.lines ++ t ∷ []) next.server) (sym does.notes)
                (noted_step old now.server next.server (commands_in taken.lines) taken.entries t does.entry now.notes does.note taken.steps does.does
                taken.right does.right found));
          }

      by_piece : (piece : Option Piece) → piece_of line ≡ piece → Takes start piece now next → HasTaken input old next (count + 1) behind
      unfolding is_command
      by_piece None is takes = subst (λ at. HasTaken input old at (count + 1) behind) (sym takes) (passed (rw is refl) (rw is refl))
      by_piece (Some (Given t)) is takes = done t (rw is refl) (rw is refl) takes
      by_piece (Some (Faulty fault)) is takes = subst (λ at. HasTaken input old at (count + 1) behind) (sym takes) (passed (rw is refl) (rw is refl))

      -- one more line
      pub HasTaken-line : Takes start (piece_of line) now next → HasTaken input old next (count + 1) behind
      HasTaken-line takes = by_piece (piece_of line) refl takes

  -- some first commands are done
  first_done : (ts more : List (Tagged (List ℕ) Asked)) (entries : List Entry) (between new : Server) → commands_of (pieces_of input) ≡ ts ++ more
      → AreSteps old ts entries between → (new ≡ between) ⊎ OnlyRefused between new → HasRun input old new
  first_done ts more entries between new is steps left =
      let first : take (length ts) (commands_of (pieces_of input)) ≡ ts = ap (take (length ts)) is ∙ take-append-le (length ts) ts more (omega arith)
      ∙ take_all (length ts) ts (omega arith) in
      record {
        count = length ts;
        between = between;
        entries = entries;
        steps = subst (λ ts. AreSteps old ts entries between) (sym first) steps;
        left = left;
      }

  commands_so_far : commands_of (pieces_of input) ≡ commands_in taken.lines ++ commands_in (lines_of rest)
  commands_so_far = commands_in-lines input ∙ ap commands_in taken.reads ∙ commands_in-append taken.lines (lines_of rest)

  -- the lines so far are those of a run, also where memory is then wanted and not found
  pub HasRun-taken : (new : Server) → (new ≡ now.server) ⊎ OnlyRefused now.server new → HasRun input old new
  HasRun-taken new left = first_done (commands_in taken.lines) (commands_in (lines_of rest)) taken.entries now.server new commands_so_far taken.steps left

  -- and so they are with a command that found no memory
  entered : (line behind : List ℕ) → lines_of rest ≡ line ∷ lines_of behind → (t : Tagged (List ℕ) Asked) (entry : Entry) (new : Server)
      → piece_of line ≡ Some (Given t) → IsEntry now.server new t entry → HasRun input old new
  entered line behind first t entry new is does =
      let next : commands_in (lines_of rest) ≡ t ∷ commands_in (lines_of behind) = ap commands_in first ∙ rw is refl in
      let all : commands_of (pieces_of input) ≡ (commands_in taken.lines ++ t ∷ []) ++ commands_in (lines_of behind) =
      commands_so_far ∙ ap (λ l. commands_in taken.lines ++ l) next ∙ sym (append_assoc (commands_in taken.lines) (t ∷ []) (commands_in (lines_of behind))) in
      first_done (commands_in taken.lines ++ t ∷ []) (commands_in (lines_of behind)) (taken.entries ++ entry ∷ []) new new all
      (steps_more old now.server new (commands_in taken.lines) taken.entries t entry taken.steps does) (inl refl)

  -- where a further line is not taken
  pub HasStopped-line : (line behind : List ℕ) → lines_of rest ≡ line ∷ lines_of behind → (fault : RunFault) (new : Server)
      → StopsAt fault count (piece_of line) now.server new → HasStopped fault input old new
  HasStopped-line line behind first Read new stops = stops
  HasStopped-line line behind first Write new stops = stops
  HasStopped-line line behind first Endless new stops =
      let lines = ap length (one_more line behind first) in
      let parts = length-append (taken.lines ++ line ∷ []) (lines_of behind) in
      let front = length-append taken.lines (line ∷ []) in
      (HasRun-taken new (inl stops.1), omega (arith, stops.0, lines, parts, front, taken.counted))
  HasStopped-line line behind first Memory new stops = ⊎_elim (λ only. HasRun-taken new (inr only))
      (λ short. entered line behind first short.0 short.1 new short.2 short.3) stops

-- a call whose answer is not asked
pub on_ok : {T E : Type 0} (r : Result T E) (P : Type 0) → P → OnOk r P
on_ok (Ok value) P holds = holds
on_ok (Err error) P holds = tt

-- a command is not done for want of memory
pub StopsAt-given : {T : Type 0} (count : ℕ) (piece : Option Piece) (t : Tagged (List ℕ) Asked) (old new : Server) (r : Result T RunFault)
    → piece ≡ Some (Given t) →
    IfErr r (λ fault. (fault ≡ Memory) × RunsShort (Some (Given t)) old new) → IfErr r (λ fault. StopsAt fault count piece old new)
StopsAt-given count piece t old new (Ok value) is short = tt
StopsAt-given count piece t old new (Err fault) is short = subst (λ f. StopsAt f count piece old new) (sym short.0)
    (subst (λ p. RunsShort p old new) (sym is) short.1)
