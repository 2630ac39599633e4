-- What each change leaves of the connections of a session.
use Rattle.std.proofs.Common.{◌≡◌, ◌+◌, ◌-◌, ◌^◌, ◌<◌, ◌≤◌, ◌==◌, ◌&&◌, ℕ, Bool, true, false, not, cond, List, [], ◌∷◌, ◌++◌, All, Option, Some, None, filter}
use Rattle.std.proofs.Common.{length, nat_le, refl, sym, ap, ◌∙◌, arith, ⊎_elim}
use Rattle.std.specs.List.{list_any}
use Rattle.std.specs.Option.{option_or}
use Rattle.std.proofs.lemmas.Bool.{cases_Bool, eqb-true, or_left}
use Rattle.std.proofs.lemmas.Bool.Decides.{nat_tests}
use Rattle.std.proofs.lemmas.List.Elements.{All-head, All-push, All-tail, All-weaker}
use Rattle.std.proofs.lemmas.List.{length-append}
use Rattle.std.proofs.lemmas.List.Folds.{list_any-append}
use Rattle.std.proofs.lemmas.List.Kept.{AllPairs-cons}
use Rattle.session_model.proofs.Common.{Limit, is_there, numbers, Connection, NewConnection, IsRising, Rows, numbered, rising_head, rising_tail, IsTied, State}
use Rattle.plain_types.specs.declared.code.Code.TheVariants.{ConnectedAlready, NumbersUsedUp}
use Rattle.object_tree.proofs.ForCallers.{there_among}
use Rattle.connection_list.specs.declared.limit.TheConstants.{CONNECTIONS}
use Rattle.connection_list.specs.Ends.{same_ends}
use Rattle.connection_list.specs.Rows.{IsSound, connect_refusal, connected, no_rows}

pub sound_empty : IsSound no_rows
sound_empty = record {
  rising = λ i j default below within. absurd (omega arith);
  from_one = λ index default within. absurd (omega arith);
  given = λ index default within. absurd (omega arith);
  fits = omega arith;
  few = omega arith;
}

-- there is room for one more connection, and a number for it
pub record IsAllowed (place : Rows) : Type 0 where
  pub room : length place.rows < CONNECTIONS
  pub number : place.last_number < 2 ^ 32 - 1

-- nothing is refused where neither of two refusals stands
pub or_none : {A : Type 0} (first second : Option A) → option_or first second ≡ None → (first ≡ None) × (second ≡ None)
or_none None second passed = (refl, passed)
or_none (Some code) second passed = absurd (cc)

pub allowed : {place : Rows} (new : NewConnection) (unique : Bool) → connect_refusal place new unique ≡ None → IsAllowed place
allowed {place} new unique passed = by (unique && list_any (same_ends new) place.rows) passed
  where
    numbers' : (full : Bool) → nat_le (2 ^ 32 - 1) place.last_number ≡ full → cond full (Some NumbersUsedUp) None ≡ None → place.last_number < 2 ^ 32 - 1
    numbers' true is e = absurd (cc)
    numbers' false is e = grind (arith, nat_tests, is)

    room' : (full : Bool) → nat_le CONNECTIONS (length place.rows) ≡ full
        → cond full (Some Limit) (cond (nat_le (2 ^ 32 - 1) place.last_number) (Some NumbersUsedUp) None) ≡ None → IsAllowed place
    room' true is e = absurd (cc)
    room' false is e = record { room = grind (arith, nat_tests, is); number = numbers' (nat_le (2 ^ 32 - 1) place.last_number) refl e }

    by : (joined : Bool) → cond joined (Some ConnectedAlready)
        (cond (nat_le CONNECTIONS (length place.rows)) (Some Limit) (cond (nat_le (2 ^ 32 - 1) place.last_number) (Some NumbersUsedUp) None)) ≡ None
        → IsAllowed place
    by true e = absurd (cc)
    by false e = room' (nat_le CONNECTIONS (length place.rows)) refl e

-- a number above all others stands last
rising_push : (rows : List Connection) (last : Connection) → All (λ (row : Connection). row.number < last.number) rows → IsRising rows
    → IsRising (rows ++ last ∷ [])
rising_push [] last above rising = λ i j default below within. absurd (omega arith)
rising_push (row ∷ rows) last above rising =
    AllPairs-cons (λ (earlier later : Connection). earlier.number < later.number) row (rows ++ last ∷ [])
    (All-push (λ (later : Connection). row.number < later.number) rows last (rising_head row rows rising)
    (All-head (λ (row : Connection). row.number < last.number) row rows above))
    (rising_push rows last (All-tail (λ (row : Connection). row.number < last.number) row rows above) (rising_tail row rows rising))

-- the connections stay sound with one more that is not refused
pub sound_connected : {place : Rows} (new : NewConnection) → IsAllowed place → IsSound place → IsSound (connected place new)
sound_connected {place} new is_allowed sound =
    let last : Connection = numbered (place.last_number + 1) new in
    record {
      rising = rising_push place.rows last (All-weaker (λ (row : Connection). row.number ≤ place.last_number)
          (λ (row : Connection). row.number < place.last_number + 1) (λ row h. omega arith) place.rows sound.given) sound.rising;
      from_one = All-push (λ (row : Connection). 1 ≤ row.number) place.rows last sound.from_one (omega arith);
      given = All-push (λ (row : Connection). row.number ≤ place.last_number + 1) place.rows last
          (All-weaker (λ (row : Connection). row.number ≤ place.last_number) (λ (row : Connection). row.number ≤ place.last_number + 1)
          (λ row h. omega arith) place.rows sound.given) (omega arith);
      fits = omega (arith, is_allowed.number);
      few = omega (arith, is_allowed.room, length-append place.rows (last ∷ []));
    }

-- what is said of both ends of a connection
pub record OfEnds (P : ℕ → Type 0) (row : Connection) : Type 0 where
  pub sender : P row.sender
  pub receiver : P row.receiver

abbrev pub Ends : (ℕ → Type 0) → List Connection → Type 0
Ends P rows = All (OfEnds P) rows

-- both ends of a connection stand still, where what stands at its ends does
pub tied_to : (old new : State) (P : ℕ → Type 0) → ((number : ℕ) → P number → is_there old.forest.rows number ≡ true → is_there new.forest.rows number ≡ true)
    → (rows : List Connection) → Ends P rows → All (IsTied old) rows → All (IsTied new) rows
tied_to old new P stands rows ends tied index default within =
    let end : OfEnds P _ = ends index default within in
    let was : IsTied old _ = tied index default within in
    record { sender = stands _ end.sender was.sender; receiver = stands _ end.receiver was.receiver }

-- an object stands still where the numbers of objects stay the same
pub there_same : (old new : State) → numbers new.forest.rows ≡ numbers old.forest.rows → (number : ℕ) → is_there old.forest.rows number ≡ true
    → is_there new.forest.rows number ≡ true
there_same old new same number there =
    there_among new.forest.rows number ∙ ap (list_any (λ key. number == key)) same ∙ sym (there_among old.forest.rows number) ∙ there

-- and where one more number is there
pub there_more : (old new : State) (added : ℕ) → numbers new.forest.rows ≡ numbers old.forest.rows ++ added ∷ [] → (number : ℕ)
    → is_there old.forest.rows number ≡ true → is_there new.forest.rows number ≡ true
there_more old new added more number there =
    there_among new.forest.rows number ∙ ap (list_any (λ key. number == key)) more
    ∙ list_any-append (λ key. number == key) (numbers old.forest.rows) (added ∷ [])
    ∙ or_left (list_any (λ key. number == key) (numbers old.forest.rows)) _ (sym (there_among old.forest.rows number) ∙ there)

pub tied_same : (old new : State) → numbers new.forest.rows ≡ numbers old.forest.rows → (rows : List Connection) → All (IsTied old) rows → All (IsTied new) rows
tied_same old new same rows =
    tied_to old new (λ number. Unit {0}) (λ number any there. there_same old new same number there)
    rows (λ index default within. record { sender = tt; receiver = tt })

pub tied_more : (old new : State) (number : ℕ) → numbers new.forest.rows ≡ numbers old.forest.rows ++ number ∷ [] → (rows : List Connection)
    → All (IsTied old) rows → All (IsTied new) rows
tied_more old new number more rows =
    tied_to old new (λ number. Unit {0}) (λ end any there. there_more old new number more end there)
    rows (λ index default within. record { sender = tt; receiver = tt })

-- another number is there as before where one is taken out
others_among : (number end : ℕ) → (end == number) ≡ false → (keys : List ℕ)
    → list_any (λ key. end == key) (filter (λ key. not (key == number)) keys) ≡ list_any (λ key. end == key) keys
others_among number end other [] = refl
others_among number end other (key ∷ keys) = let rest = others_among number end other keys in
    ⊎_elim
    (λ same. let apart : (end == key) ≡ false = ap (λ n. end == n) (eqb-true key number same) ∙ other in grind (arith, same, apart, rest))
    (λ apart. grind (arith, apart, rest))
    (cases_Bool (key == number))

-- where a number goes, another stands still
pub there_without : (old new : State) (gone : ℕ) → numbers new.forest.rows ≡ filter (λ key. not (key == gone)) (numbers old.forest.rows) → (number : ℕ)
    → (number == gone) ≡ false → is_there old.forest.rows number ≡ true → is_there new.forest.rows number ≡ true
there_without old new gone fewer number other there =
    there_among new.forest.rows number ∙ ap (list_any (λ key. number == key)) fewer ∙ others_among gone number other (numbers old.forest.rows)
    ∙ sym (there_among old.forest.rows number) ∙ there

-- where a number goes that is no end
pub tied_without : (old new : State) (number : ℕ) → numbers new.forest.rows ≡ filter (λ key. not (key == number)) (numbers old.forest.rows)
    → (rows : List Connection) → Ends (λ end. (end == number) ≡ false) rows → All (IsTied old) rows → All (IsTied new) rows
tied_without old new number fewer rows others = tied_to old new (λ end. (end == number) ≡ false) (there_without old new number fewer) rows others
