-- Inputs in pieces, of which some are left out.
use Rattle.std.proofs.Common.{◌≡◌, Bool, true, cond, List, [], ◌∷◌, ◌++◌, filter, refl, sym, ap, ap₂, ◌∙◌, ⊎_elim, arith}
use Rattle.std.proofs.lemmas.Bool.{cases_Bool}
use Rattle.isolation.specs.Machine.{Effect, Machine, IsLawful}
use Rattle.isolation.specs.World.{effect, after, world_lines, at_session}
use Rattle.isolation.specs.Influence.{influences}
use Rattle.isolation.specs.Pieces.{Piece, Given, Faulty, Answer, Told, Blamed, commands_of, answer_passes, piece_answers, said, told}
use Rattle.isolation.specs.Laws.{LeavingOutPieces, SaidStays, SaidByInfluence, ToldAlone}
use Rattle.isolation.proofs.Isolated.{first_half}
use Rattle.isolation.proofs.LeftOut.{IsClosed-after, effect-kept, Agree-kept, Agree-left_out, unknown_to_kept}
use Rattle.isolation.proofs.Reaching.{influences-self, IsClosed-influences}

-- of what passes one test, what passes a narrower one
filter_within : {A : Type 0} (narrow wide : A → Bool) → ((x : A) → narrow x ≡ true → wide x ≡ true) → (xs : List A)
    → filter narrow (filter wide xs) ≡ filter narrow xs
filter_within narrow wide within [] = refl
filter_within narrow wide within (x ∷ xs) =
    let rest : filter narrow (filter wide xs) ≡ filter narrow xs = filter_within narrow wide within xs in
    let here = within x in
    ⊎_elim (λ e. grind (arith, rest, here, e)) (λ e. grind (arith, rest, here, e)) (cases_Bool (wide x))

-- the commands of two inputs, one after another
pub commands_of-append : {Name Command Fault : Type 0} (xs ys : List (Piece Name Command Fault)) → commands_of (xs ++ ys) ≡ commands_of xs ++ commands_of ys
commands_of-append [] ys = refl
commands_of-append (Given t ∷ xs) ys = ap (λ ts. t ∷ ts) (commands_of-append xs ys)
commands_of-append (Faulty fault ∷ xs) ys = commands_of-append xs ys

module _ {Name State Command Line Post : Type 0} (m : Machine Name State Command Line Post) where
  -- what the commands of s are told is what they are told in the run of the commands
  pub told-piece_answers : {Fault : Type 0} (s : Name) (world : Name → State) (pieces : List (Piece Name Command Fault))
      → told m s (piece_answers m world pieces) ≡ at_session m s (commands_of pieces) (world_lines m world (commands_of pieces))
  told-piece_answers s world [] = refl
  told-piece_answers s world (Given t ∷ pieces) = ap (λ lines. cond (m.same s t.session) ((effect m world t).lines ∷ lines) lines)
      (told-piece_answers s (after m world t) pieces)
  told-piece_answers s world (Faulty fault ∷ pieces) = told-piece_answers s world pieces

module _ {Name State Command Line Post : Type 0} (Fault : Type 0) (m : Machine Name State Command Line Post) (lawful : IsLawful m) where
  pub leaving_out_pieces : LeavingOutPieces Fault m
  leaving_out_pieces keep passes world other [] closed agree = refl
  leaving_out_pieces keep passes world other (Given t ∷ pieces) closed agree =
      let later = IsClosed-after m lawful keep world t (commands_of pieces) closed in
      ⊎_elim
      (λ kept.
      let rest = leaving_out_pieces keep passes (after m world t) (after m other t) pieces later (Agree-kept m lawful keep world other t agree kept) in
      let does_same = effect-kept m lawful keep world other t agree kept in
      rw kept (ap₂ (λ (e : Effect State Line Post) (answers : List (Answer Name Line Fault)). Told t.session e.lines ∷ answers) does_same rest))
      (λ left_out.
      let rest = leaving_out_pieces keep passes (after m world t) other pieces later
      (Agree-left_out m lawful keep world other t agree left_out (unknown_to_kept m lawful keep world t (commands_of pieces) closed left_out)) in
      rw left_out rest)
      (cases_Bool (keep t.session))
  leaving_out_pieces keep passes world other (Faulty fault ∷ pieces) closed agree =
      let rest = leaving_out_pieces keep passes world other pieces closed agree in
      ⊎_elim
      (λ kept. rw kept (ap (λ answers. Blamed fault ∷ answers) rest))
      (λ left_out. rw left_out rest)
      (cases_Bool (passes fault))

  -- what is said to a kept session passes
  said_passes : (keep : Name → Bool) (passes its_own : Fault → Bool) (s : Name) → keep s ≡ true → ((fault : Fault) → its_own fault ≡ true → passes fault ≡ true)
      → (answer : Answer Name Line Fault) → answer_passes (m.same s) its_own answer ≡ true → answer_passes keep passes answer ≡ true
  said_passes keep passes its_own s kept within (Told session lines) h = ap keep (sym (lawful.equal s session h)) ∙ kept
  said_passes keep passes its_own s kept within (Blamed fault) h = within fault h

  pub said_stays : SaidStays Fault m
  said_stays keep passes its_own world other pieces closed agree s kept within =
      ap (said m s its_own) (leaving_out_pieces keep passes world other pieces closed agree)
      ∙ filter_within (answer_passes (m.same s) its_own) (answer_passes keep passes) (said_passes keep passes its_own s kept within)
      (piece_answers m world pieces)

  pub said_by_influence : SaidByInfluence Fault m
  said_by_influence its_own world known pieces knows s =
      said_stays (influences m world known (commands_of pieces) s) (λ fault. true) its_own world world pieces
      (IsClosed-influences m lawful world known (commands_of pieces) knows s) (λ name passes. refl) s
      (influences-self m lawful world known (commands_of pieces) s) (λ fault own. refl)

  pub told_alone : ToldAlone Fault m
  told_alone s world pieces = told-piece_answers m s world pieces ∙ (first_half m lawful s world (commands_of pieces)).lines
