-- Connections that are changed in what tests do not ask for, as in the state of a functor.
use Rattle.std.proofs.Common.{◌≡◌, ◌<◌, ◌≤◌, ℕ, Bool, true, false, cond, List, [], ◌∷◌, filter, find, get_or, length, map, refl, sym, ap, subst, arith, ⊎_elim}
use Rattle.std.specs.List.{All}
use Rattle.std.specs.Option.{option_map}
use Rattle.std.proofs.lemmas.Bool.{cases_Bool}
use Rattle.std.proofs.lemmas.List.{get_or-map, length-map}
use Rattle.connection_list.specs.declared.connection.Connection.{Connection}
use Rattle.connection_list.specs.Rows.{IsSound, Rows, is_of_functor, with_state}

module _ (change : Connection → Connection) where
  -- a change that this does not see
  abbrev pub IsUnseen : {A : Type 0} → (Connection → A) → Type 0
  IsUnseen f = (row : Connection) → f (change row) ≡ f row

  pub find-changed : (test : Connection → Bool) → IsUnseen test → (rows : List Connection) → find test (map change rows) ≡ option_map change (find test rows)
  find-changed test keeps [] = refl
  find-changed test keeps (row ∷ rows) = rw (keeps row)
      (⊎_elim (λ yes. rw yes refl) (λ no. rw no (find-changed test keeps rows)) (cases_Bool (test row)))

  pub filter-changed : (test : Connection → Bool) → IsUnseen test → (rows : List Connection) → filter test (map change rows) ≡ map change (filter test rows)
  filter-changed test keeps [] = refl
  filter-changed test keeps (row ∷ rows) =
      rw (keeps row) (⊎_elim (λ yes. rw yes (ap (λ rest. change row ∷ rest) (filter-changed test keeps rows)))
      (λ no. rw no (filter-changed test keeps rows)) (cases_Bool (test row)))

  pub all_changed : (P Q : Connection → Type 0) → ((row : Connection) → P row → Q (change row)) → (rows : List Connection) → All P rows
      → All Q (map change rows)
  all_changed P Q each rows all = λ i d within.
      let inside : i < length rows = omega (arith, length-map rows change) in
      subst Q (sym (get_or-map change rows i d d inside)) (each _ (all i d inside))

  pub sound_changed : IsUnseen (λ row. row.number) → (place : Rows) → IsSound place
      → IsSound (record { rows = map change place.rows; last_number = place.last_number })
  sound_changed keeps place sound =
      let many = length-map place.rows change in
      record {
        rising = λ i j d below within.
            let later : j < length place.rows = omega arith in
            let earlier : i < length place.rows = omega arith in
            rw (
              get_or-map change place.rows i d d earlier,
              get_or-map change place.rows j d d later,
              keeps (get_or place.rows i d),
              keeps (get_or place.rows j d),
            ) (sound.rising i j d below later);
        from_one = all_changed (λ row. 1 ≤ row.number) (λ row. 1 ≤ row.number) (λ row h. omega (arith, keeps row)) place.rows sound.from_one;
        given = all_changed (λ row. row.number ≤ place.last_number) (λ row. row.number ≤ place.last_number)
            (λ row h. omega (arith, keeps row)) place.rows sound.given;
        fits = sound.fits;
        few = omega arith;
      }

-- the row with another state, if it is the one
module _ (number state : ℕ) where
  abbrev pub stepped_row : Connection → Connection
  stepped_row row = cond (is_of_functor number row) (record row { state = state }) row

  pub stepped-same : {A : Type 0} (f : Connection → A) → ((row : Connection) → f (record row { state = state }) ≡ f row) → IsUnseen stepped_row f
  stepped-same f stateless row = by (is_of_functor number row)
    where
      by : (b : Bool) → f (cond b (record row { state = state }) row) ≡ f row
      by true = stateless row
      by false = refl

  pub all_stepped : (P : Connection → Type 0) → ((row : Connection) → P row → P (record row { state = state })) → (rows : List Connection) → All P rows
      → All P (map stepped_row rows)
  all_stepped P each rows all = all_changed stepped_row P P (λ row. by row (is_of_functor number row)) rows all
    where
      by : (row : Connection) (b : Bool) → P row → P (cond b (record row { state = state }) row)
      by row true h = each row h
      by row false h = h

  pub sound_stepped : (place : Rows) → IsSound place → IsSound (with_state number state place)
  sound_stepped place sound = sound_changed stepped_row (stepped-same (λ row. row.number) (λ row. refl)) place sound
