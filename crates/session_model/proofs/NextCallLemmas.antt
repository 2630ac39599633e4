-- An emission calls one connection after another: the next one of greater number, up to the number that was
-- the last when it began.
use Rattle.std.proofs.Common.{◌≡◌, ◌<◌, ◌≤◌, ◌||◌, ◌&&◌, ℕ, Bool, true, false, cond, List, [], ◌∷◌, ◌++◌, Some, None, filter, find, map, nat_le, nat_lt, refl}
use Rattle.std.proofs.Common.{sym, ap, ◌∙◌, arith}
use Rattle.std.specs.List.{AllByRecursion, list_any}
use Rattle.std.specs.Option.{option_map}
use Rattle.std.proofs.lemmas.Bool.Decides.{nat_tests}
use Rattle.std.proofs.lemmas.List.{append-nil}
use Rattle.std.proofs.lemmas.List.Elements.{filter-append, recursion_from_All}
use Rattle.std.proofs.lemmas.List.Folds.{list_any-append}
use Rattle.session_model.proofs.Common.{Value, Connection, calls, Rows, has_number, Execution, Call, Item, run, Settings}
use Rattle.connection_list.specs.Rows.{IsSound, is_next}
use Rattle.connection_list.proofs.ForCallers.{filter-changed, find-changed, sound_changed}
use Rattle.session_model.specs.Agenda.{calls_of}
use Rattle.session_model.proofs.EmissionLemmas.{call_broken}
use Rattle.session_model.proofs.LaterLemmas.{IsLater, Later, bare, bare_row, run_later}
use Rattle.session_model.proofs.RunLemmas.{after_first, at_end, by_change}
use Rattle.session_model.proofs.RemainingLemmas.{made_since, next_first, none_at, none_left, out_of, remaining}
use Rattle.session_model.proofs.FilterLemmas.{each_left, filter-alike, filter-none, filter-swap, find-none, find-passes, none-found}

-- a connection of this number is not there and will not be made
record IsDead (place : Rows) (number : ℕ) : Type 0 where
  pub broken : list_any (has_number number) place.rows ≡ false
  pub given : number ≤ place.last_number

-- what is not among those that are left is dead
dead_after : (old new : Rows) (number : ℕ) (later : IsLater old new) → number ≤ old.last_number
    → list_any (has_number number) (filter later.left old.rows) ≡ false → IsDead new number
dead_after old new number later given out = record {
  broken =
      ap (list_any (has_number number)) later.rows
      ∙ list_any-append (has_number number) (filter later.left old.rows) later.added
      ∙ ap (λ b. b || list_any (has_number number) later.added) out
      ∙ none_at number later.added (recursion_from_All (λ row. number < row.number) later.added
      (λ index default within. omega (arith, given, later.above index default within)));
  given = omega (arith, given, later.last);
}

-- and what is dead stays so
dead_later : (old new : Rows) (number : ℕ) → IsLater old new → IsDead old number → IsDead new number
dead_later old new number later dead = dead_after old new number later dead.given (none_left number later.left old.rows dead.broken)

-- what a connection's functor keeps makes no difference to its number
any_bare : (number : ℕ) (rows : List Connection) → list_any (has_number number) (map bare_row rows) ≡ list_any (has_number number) rows
any_bare number [] = refl
any_bare number (row ∷ rows) = ap (λ b. has_number number row || b) (any_bare number rows)

module _ (settings : Settings) (args : List Value) (depth : ℕ) where
  -- calls of connections
  abbrev pub calls_to : List Connection → List Item
  calls_to rows = map (λ row. Call row.number args depth) rows

  calls_bare : (rows : List Connection) → calls_to (map bare_row rows) ≡ calls_to rows
  calls_bare [] = refl
  calls_bare (row ∷ rows) = ap (λ rest. Call row.number args depth ∷ rest) (calls_bare rows)

  -- calls of dead connections may be left out
  dead_out : (test : Connection → Bool) (rows : List Connection) (doing : Execution)
      → AllByRecursion (λ row. test row ≡ false → IsDead (bare doing.state.connections) row.number) rows
      → run settings (calls_to rows) doing ≡ run settings (calls_to (filter test rows)) doing
  dead_out test [] doing dead = refl
  dead_out test (row ∷ rows) doing dead =
      by (test row) refl
      (λ out. dead_out test rows doing dead.1)
      (let new = run settings (Call row.number args depth ∷ []) doing in
      dead_out test rows new (still rows new (run_later settings (Call row.number args depth ∷ []) doing) dead.1))
    where
      still : (rows : List Connection) (new : Execution) → Later doing new
          → AllByRecursion (λ row. test row ≡ false → IsDead (bare doing.state.connections) row.number) rows
          → AllByRecursion (λ row. test row ≡ false → IsDead (bare new.state.connections) row.number) rows
      still [] new later dead = tt
      still (row ∷ rows) new later dead = (
        (λ out. dead_later (bare doing.state.connections) (bare new.state.connections) row.number later (dead.0 out)),
        still rows new later dead.1,
      )

      by : (kept : Bool) → test row ≡ kept
          → (test row ≡ false → run settings (calls_to rows) doing ≡ run settings (calls_to (filter test rows)) doing)
          → run settings (calls_to rows) (run settings (Call row.number args depth ∷ []) doing)
          ≡ run settings (calls_to (filter test rows)) (run settings (Call row.number args depth ∷ []) doing)
          → run settings (Call row.number args depth ∷ calls_to rows) doing
          ≡ run settings (calls_to (cond kept (row ∷ filter test rows) (filter test rows))) doing
      by true is out after =
          after_first settings (Call row.number args depth) (calls_to rows) doing ∙ after
          ∙ sym (after_first settings (Call row.number args depth) (calls_to (filter test rows)) doing)
      by false is out after =
          after_first settings (Call row.number args depth) (calls_to rows) doing
          ∙ ap (run settings (calls_to rows)) (by_change settings (Call row.number args depth) doing doing
          (call_broken settings row.number args depth doing
          (none-found (has_number row.number) doing.state.connections.rows (sym (any_bare row.number doing.state.connections.rows) ∙ (dead.0 is).broken))))
          ∙ out is

first_true : (a b : Bool) → (a && b) ≡ true → a ≡ true
first_true true b e = refl
first_true false b e = e

module _ (settings : Settings) (target signal : ℕ) (args : List Value) (depth : ℕ) where
  -- at first all connections of the signal remain
  pub emission_first : (doing : Execution) → IsSound doing.state.connections
      → calls_of doing target signal args depth ≡ calls_to settings args depth
      (remaining target signal doing.state.connections.last_number 0 doing.state.connections.rows)
  unfolding calls_of
  emission_first doing sound =
      ap (calls_to settings args depth) (filter-alike (calls target signal)
      (is_next target signal 0 doing.state.connections.last_number) doing.state.connections.rows
      (both doing.state.connections.rows (recursion_from_All (λ (row : Connection). 1 ≤ row.number) doing.state.connections.rows sound.from_one)
      (recursion_from_All (λ (row : Connection). row.number ≤ doing.state.connections.last_number) doing.state.connections.rows sound.given)))
    where
      both : (rows : List Connection) → AllByRecursion (λ (row : Connection). 1 ≤ row.number) rows
          → AllByRecursion (λ (row : Connection). row.number ≤ doing.state.connections.last_number) rows
          → AllByRecursion (λ row. calls target signal row ≡ is_next target signal 0 doing.state.connections.last_number row) rows
      both [] from given = tt
      both (row ∷ rows) from given =
          let one : nat_lt 0 row.number ≡ true = grind (arith, nat_tests, from.0) in
          let other : nat_le row.number doing.state.connections.last_number ≡ true = grind (arith, nat_tests, given.0) in
          (rw (one, other), both rows from.1 given.1)

  module _ (up_to after : ℕ) (doing : Execution) where
    -- the same connections remain, whatever their functors keep
    calls_remaining : (up_to after : ℕ) (rows : List Connection)
        → calls_to settings args depth (remaining target signal up_to after rows)
        ≡ calls_to settings args depth (remaining target signal up_to after (map bare_row rows))
    calls_remaining up_to after rows =
        sym (calls_bare settings args depth (remaining target signal up_to after rows))
        ∙ ap (calls_to settings args depth) (sym (filter-changed bare_row (is_next target signal after up_to) (λ row. refl) rows))

    -- the next one is called, and then those that remain after it, of the connections as they stand by then
    pub emission_next : (next : Connection) → IsSound doing.state.connections → up_to ≤ doing.state.connections.last_number
        → find (is_next target signal after up_to) doing.state.connections.rows ≡ Some next
        → run settings (calls_to settings args depth (remaining target signal up_to after doing.state.connections.rows)) doing
        ≡ run settings (calls_to settings args depth
        (remaining target signal up_to next.number (run settings (Call next.number args depth ∷ []) doing).state.connections.rows))
        (run settings (Call next.number args depth ∷ []) doing)
    emission_next next sound most found =
        ap (λ agenda. run settings agenda doing) (calls_remaining up_to after doing.state.connections.rows)
        ∙ ap (λ rows. run settings (calls_to settings args depth rows) doing)
        (next_first target signal up_to after (bare_row next) place.rows sound'.rising below found')
        ∙ after_first settings (Call next.number args depth) (calls_to settings args depth (remaining target signal up_to next.number place.rows)) doing
        ∙ dead_out settings args depth later.left (remaining target signal up_to next.number place.rows) then dead
        ∙ ap (λ rows. run settings (calls_to settings args depth rows) then) (sym left)
        ∙ ap (λ agenda. run settings agenda then) (sym (calls_remaining up_to next.number then.state.connections.rows))
      where
        place : Rows
        place = bare doing.state.connections

        sound' : IsSound place
        sound' = sound_changed bare_row (λ row. refl) doing.state.connections sound

        found' : find (is_next target signal after up_to) place.rows ≡ Some (bare_row next)
        found' = find-changed bare_row (is_next target signal after up_to) (λ row. refl) doing.state.connections.rows ∙ ap (option_map bare_row) found

        then : Execution
        then = run settings (Call next.number args depth ∷ []) doing

        later : Later doing then
        later = run_later settings (Call next.number args depth ∷ []) doing

        below : after < next.number
        below = let passes = find-passes (is_next target signal after up_to) place.rows (bare_row next) found' in
            let above : nat_lt after next.number ≡ true = first_true (nat_lt after next.number) _ passes in grind (arith, nat_tests, above)

        left : remaining target signal up_to next.number (map bare_row then.state.connections.rows)
            ≡ filter later.left (remaining target signal up_to next.number place.rows)
        left =
            ap (remaining target signal up_to next.number) later.rows
            ∙ filter-append (is_next target signal next.number up_to) (filter later.left place.rows) later.added
            ∙ ap (λ rows. remaining target signal up_to next.number (filter later.left place.rows) ++ rows)
            (filter-none (is_next target signal next.number up_to) later.added
            (made_since target signal up_to next.number place.last_number later.added most
            (recursion_from_All (λ row. place.last_number < row.number) later.added later.above)))
            ∙ append-nil (remaining target signal up_to next.number (filter later.left place.rows))
            ∙ filter-swap (is_next target signal next.number up_to) later.left place.rows

        dead : AllByRecursion (λ row. later.left row ≡ false → IsDead (bare then.state.connections) row.number)
            (remaining target signal up_to next.number place.rows)
        dead =
            each_left (λ row. later.left row ≡ false → IsDead (bare then.state.connections) row.number) (is_next target signal next.number up_to) place.rows
            (those place.rows (recursion_from_All (λ (row : Connection). row.number ≤ place.last_number) place.rows sound'.given)
            (out_of later.left place.rows sound'.rising))
          where
            those : (rows : List Connection) → AllByRecursion (λ (row : Connection). row.number ≤ place.last_number) rows
                → AllByRecursion (λ row. later.left row ≡ false → list_any (has_number row.number) (filter later.left place.rows) ≡ false) rows
                → AllByRecursion (λ row. later.left row ≡ false → IsDead (bare then.state.connections) row.number) rows
            those [] given out = tt
            those (row ∷ rows) given out = (
              (λ gone. dead_after place (bare then.state.connections) row.number later given.0 (out.0 gone)),
              those rows given.1 out.1,
            )

    -- where there is none, all is done
    pub emission_end : find (is_next target signal after up_to) doing.state.connections.rows ≡ None
        → run settings (calls_to settings args depth (remaining target signal up_to after doing.state.connections.rows)) doing ≡ doing
    emission_end none = ap (λ rows. run settings (calls_to settings args depth rows) doing)
        (find-none (is_next target signal after up_to) doing.state.connections.rows none) ∙ at_end settings doing
