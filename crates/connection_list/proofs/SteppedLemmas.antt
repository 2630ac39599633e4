-- A place where the functor of a connection gets another state.
use Rattle.std.proofs.Common.{◌≡◌, ◌∙◌, ℕ, suc, ◌<◌, ◌==◌, ◌&&◌, Bool, true, false, cond, List, [], ◌∷◌, Option, Some, None, find, get_or, length, map, refl}
use Rattle.std.proofs.Common.{sym, ap, subst, arith}
use Rattle.std.specs.List.{All, Contains}
use Rattle.std.specs.Option.{option_map}
use Rattle.std.specs.Prelude.{option_and_then, if◌then◌else◌}
use Rattle.std.proofs.lemmas.Bool.{eqb-true}
use Rattle.std.proofs.lemmas.List.{get_or-map, length-map}
use Rattle.std.proofs.lemmas.List.Elements.{All-cons, All-map, Contains-get_or}
use Rattle.shared_rows.specs.Paired.{paired_tables}
use Rattle.shared_rows.specs.Table.{Table, with_place}
use Rattle.shared_rows.proofs.ForCallers.{with_same}
use Rattle.shared_rows.specs.Rows.{Keyed, row_under, with_row}
use Rattle.shared_rows.specs.Rows as shared
use Rattle.connection_list.specs.declared.connection.Connection.{Connection}
use Rattle.connection_list.specs.declared.routes.Routes.{Routes}
use Rattle.connection_list.specs.Ends.{calls_functor}
use Rattle.connection_list.specs.Rows.{IsSound, Rows, has_number, is_of_functor, no_rows, state_of, with_state}
use Rattle.connection_list.specs.Table.{rows_at, with_rows}
use Rattle.connection_list.specs.Routes.{AreKept, IsPlaceKept, no_routes, place_of, received_of, sent_of}
use Rattle.connection_list.proofs.BucketLemmas.{linked_map}
use Rattle.connection_list.proofs.KeyedLemmas.{IsApart, found_none, found_under, only_under}
use Rattle.connection_list.proofs.SeenLemmas.{IsSeen, kept_changed, numbered_alike, view_changed}
use Rattle.connection_list.proofs.StateLemmas.{sound_stepped, stepped-same, stepped_row}

map_alike : {X Y : Type 0} (f g : X → Y) (xs : List X) → All (λ x. f x ≡ g x) xs → map f xs ≡ map g xs
map_alike f g [] alike = refl
map_alike f g (x ∷ xs) alike = let here : f x ≡ g x = alike 0 x (omega arith) in rw here
    (ap (λ rest. g x ∷ rest) (map_alike f g xs (λ k d within. alike (suc k) d (omega arith))))

module _ (number state : ℕ) where
  abbrev stepped_keyed : Keyed Connection → Keyed Connection
  stepped_keyed keyed = record { key = keyed.key; row = stepped_row number state keyed.row }

  rows_stepped : (rows : List (Keyed Connection)) → map (λ keyed. keyed.row) (map stepped_keyed rows)
      ≡ map (stepped_row number state) (map (λ keyed. keyed.row) rows)
  rows_stepped [] = refl
  rows_stepped (keyed ∷ rows) = ap (λ rest. stepped_row number state keyed.row ∷ rest) (rows_stepped rows)

  place_stepped : (rows : List (Keyed Connection)) (routes : Routes) → place_of (map stepped_keyed rows) routes ≡ with_state number state (place_of rows routes)
  place_stepped rows routes = ap (λ list. record { rows = list; last_number = routes.last_number }) (rows_stepped rows)

  kept_stepped : (rows : List (Keyed Connection)) (routes : Routes) → IsPlaceKept rows routes → IsPlaceKept (map stepped_keyed rows) routes
  kept_stepped rows routes kept =
      let many = length-map rows stepped_keyed in
      record {
        sound = subst IsSound (sym (place_stepped rows routes)) (sound_stepped number state (place_of rows routes) kept.sound);
        apart = λ i j d below within.
            let inside : j < length rows = omega arith in
            rw (get_or-map stepped_keyed rows i d d (omega arith), get_or-map stepped_keyed rows j d d inside) (kept.apart i j d below inside);
        short = λ i d within. let inside : i < length rows = omega arith in rw (get_or-map stepped_keyed rows i d d inside)
            (kept.short i d inside);
        routed = record {
          sent = λ object. linked_map sent_of stepped_keyed sent_same rows object (kept.routed.sent object);
          received = λ object. linked_map received_of stepped_keyed received_same rows object (kept.routed.received object);
        };
      }
    where
      sent_same : (keyed : Keyed Connection) → sent_of (stepped_keyed keyed) ≡ sent_of keyed
      sent_same keyed = stepped-same number state (λ row. sent_of (record { key = keyed.key; row = row })) (λ row. refl) keyed.row

      received_same : (keyed : Keyed Connection) → received_of (stepped_keyed keyed) ≡ received_of keyed
      received_same keyed = stepped-same number state (λ row. received_of (record { key = keyed.key; row = row })) (λ row. refl) keyed.row

  -- the row under a key is the one of the number
  with_row_stepped : (rows : List (Keyed Connection)) (key : ℕ) (row : Connection) → IsApart rows → row_under rows key ≡ Some row
      → calls_functor row.callee ≡ true → All (λ keyed. (keyed.key == key) ≡ has_number number keyed.row) rows
      → with_row rows key (record row { state = state }) ≡ map stepped_keyed rows
  with_row_stepped rows key row apart under calls alike = map_alike _ stepped_keyed rows
      (λ k d within. one (get_or rows k d) (Contains-get_or rows k d within) (alike k d within))
    where
      one : (keyed : Keyed Connection) → Contains rows keyed → (keyed.key == key) ≡ has_number number keyed.row
          → cond (keyed.key == key) (record { key = key; row = record row { state = state } }) keyed ≡ stepped_keyed keyed
      one keyed there same = by (keyed.key == key) refl
        where
          by : (here : Bool) → (keyed.key == key) ≡ here → cond here (record { key = key; row = record row { state = state } }) keyed ≡ stepped_keyed keyed
          by true is =
              let same_key : keyed.key ≡ key = eqb-true keyed.key key is in
              let same_row : keyed.row ≡ row = only_under rows key row apart under keyed there same_key in
              let has : has_number number keyed.row ≡ true = sym same ∙ is in
              let its : calls_functor keyed.row.callee ≡ true = ap (λ (r : Connection). calls_functor r.callee) same_row ∙ calls in
              let it : is_of_functor number keyed.row ≡ true = rw has its in
              ap (λ n. record { key = n; row = record row { state = state } }) (sym same_key)
              ∙ ap (λ (r : Connection). record { key = keyed.key; row = record r { state = state } }) (sym same_row)
              ∙ ap (λ b. record { key = keyed.key; row = cond b (record keyed.row { state = state }) keyed.row }) (sym it)
          by false is =
              let has : has_number number keyed.row ≡ false = sym same ∙ is in
              ap (λ b. record { key = keyed.key; row = cond (b && calls_functor keyed.row.callee) (record keyed.row { state = state }) keyed.row }) (sym has)

  -- nothing is changed where none is the one
  same_stepped : (rows : List Connection) → All (λ row. is_of_functor number row ≡ false) rows → map (stepped_row number state) rows ≡ rows
  same_stepped [] none = refl
  same_stepped (row ∷ rows) none = let here : is_of_functor number row ≡ false = none 0 row (omega arith) in rw here
      (ap (λ rest. row ∷ rest) (same_stepped rows (λ k d within. none (suc k) d (omega arith))))

none_numbered : (number : ℕ) (rows : List Connection) → None ≡ find (has_number number) rows → All (λ row. is_of_functor number row ≡ false) rows
none_numbered number [] none = λ k d within. absurd (omega arith)
none_numbered number (row ∷ rows) none = by (has_number number row) refl none (none_numbered number rows)
  where
    by : (here : Bool) → has_number number row ≡ here → None ≡ cond here (Some row) (find (has_number number) rows)
        → (None ≡ find (has_number number) rows → All (λ row. is_of_functor number row ≡ false) rows)
        → All (λ row. is_of_functor number row ≡ false) (row ∷ rows)
    by true is none rest = absurd (cc)
    by false is none rest = All-cons (λ row. is_of_functor number row ≡ false) row rows (ap (λ b. b && calls_functor row.callee) is) (rest none)

-- the functor of this row had its state, and got the new one
pub record IsStepped (number given : ℕ) (rows : Table (List (Keyed Connection))) (routes : Table Routes) (table : Table Rows) (place : ℕ) (row : Connection) :
    Type 0 where
  pub kept : AreKept rows.places routes.places
  pub view : paired_tables place_of rows routes ≡ with_rows table place (with_state number given (rows_at table place))
  pub state : state_of number (rows_at table place) ≡ Some row.state

module _ {rows : Table (List (Keyed Connection))} {routes : Table Routes} {table : Table Rows} {place : ℕ} {at : Routes}
    (seen : IsSeen rows routes table place at) (number state : ℕ) where
  -- where no connection has the number
  module _ (none : None ≡ option_map (λ keyed. keyed.key) (find (λ keyed. has_number number keyed.row) (shared.rows_at rows place))) where
    not_found : None ≡ find (has_number number) (rows_at table place).rows
    not_found = found_none (has_number number) (shared.rows_at rows place) none ∙ ap (λ (p : Rows). find (has_number number) p.rows) (sym seen.shows)

    pub none_stepped : (state_of number (rows_at table place) ≡ None) × (table ≡ with_rows table place (with_state number state (rows_at table place)))
    none_stepped = (
      ap (λ (found : Option Connection). option_and_then (λ row. if calls_functor row.callee then Some row.state else None) found) (sym not_found),
      sym (ap (λ list. with_rows table place (record { rows = list; last_number = (rows_at table place).last_number }))
          (same_stepped number state (rows_at table place).rows (none_numbered number (rows_at table place).rows not_found)) ∙ with_same no_rows table place),
    )

  -- where one has it
  module _ (key : ℕ) {row : Connection} (found : Some key ≡ option_map (λ keyed. keyed.key)
      (find (λ keyed. has_number number keyed.row) (shared.rows_at rows place))) (under : row_under (shared.rows_at rows place) key ≡ Some row)
      (stands : option_map (λ row. row.number) (row_under (shared.rows_at rows place) key) ≡ Some number) where
    alike : All (λ keyed. (keyed.key == key) ≡ has_number number keyed.row) (shared.rows_at rows place)
    alike = numbered_alike (shared.rows_at rows place) at number key seen.kept stands

    is_found : find (has_number number) (rows_at table place).rows ≡ Some row
    is_found =
        let it = found_under (has_number number) (shared.rows_at rows place) key seen.kept.apart found in
        ap (λ (p : Rows). find (has_number number) p.rows) seen.shows ∙ (it.is ∙ (sym it.stands ∙ under))

    stood_state : state_of number (rows_at table place) ≡ (if calls_functor row.callee then Some row.state else None)
    stood_state = ap (λ (found : Option Connection). option_and_then (λ row. if calls_functor row.callee then Some row.state else None) found) is_found

    module _ (calls : calls_functor row.callee ≡ true) {new : Table (List (Keyed Connection))}
        (changed : new ≡ with_place rows place (with_row (shared.rows_at rows place) key (record row { state = state }))) where
      new_is : new ≡ with_place rows place (map (stepped_keyed number state) (shared.rows_at rows place))
      new_is = changed ∙ ap (with_place rows place) (with_row_stepped number state (shared.rows_at rows place) key row seen.kept.apart under calls alike)

      place_kept : IsPlaceKept (map (stepped_keyed number state) (shared.rows_at rows place)) at
      place_kept = kept_stepped number state (shared.rows_at rows place) at seen.kept

      routes_same : with_place routes place at ≡ routes
      routes_same = ap (with_place routes place) (seen.is no_routes) ∙ with_same no_routes routes place

      kept : AreKept new.places routes.places
      kept =
          subst (λ (t : Table (List (Keyed Connection))). AreKept t.places routes.places) (sym new_is)
          (subst (λ (t : Table Routes). AreKept (with_place rows place (map (stepped_keyed number state) (shared.rows_at rows place))).places t.places)
          routes_same
          (kept_changed seen place_kept))

      view : paired_tables place_of new routes ≡ with_rows table place (with_state number state (rows_at table place))
      view =
          ap (λ (t : Table (List (Keyed Connection))). paired_tables place_of t routes) new_is
          ∙ (ap (λ (t : Table Routes). paired_tables place_of (with_place rows place (map (stepped_keyed number state) (shared.rows_at rows place))) t)
          (sym routes_same)
          ∙ (view_changed seen place_kept
          ∙ (ap (with_rows table place) (place_stepped number state (shared.rows_at rows place) at)
          ∙ ap (λ p. with_rows table place (with_state number state p)) (sym seen.shows))))

      pub functor_stepped : IsStepped number state new routes table place row
      functor_stepped = record { kept = kept; view = view; state = stood_state ∙ ap (λ b. if b then Some row.state else None) calls }

    module _ (calls : calls_functor row.callee ≡ false) where
      none_is : All (λ keyed. is_of_functor number keyed.row ≡ false) (shared.rows_at rows place)
      none_is = λ k d within. one (get_or (shared.rows_at rows place) k d) (Contains-get_or (shared.rows_at rows place) k d within) (alike k d within)
        where
          one : (keyed : Keyed Connection) → Contains (shared.rows_at rows place) keyed → (keyed.key == key) ≡ has_number number keyed.row
              → is_of_functor number keyed.row ≡ false
          one keyed there same = by (has_number number keyed.row) refl
            where
              by : (here : Bool) → has_number number keyed.row ≡ here → (here && calls_functor keyed.row.callee) ≡ false
              by true is = ap (λ (r : Connection). calls_functor r.callee)
                  (only_under (shared.rows_at rows place) key row seen.kept.apart under keyed there (eqb-true keyed.key key (same ∙ is))) ∙ calls
              by false is = refl

      pub method_stepped : (state_of number (rows_at table place) ≡ None) × (table ≡ with_rows table place (with_state number state (rows_at table place)))
      method_stepped = (
        stood_state ∙ ap (λ b. if b then Some row.state else None) calls,
        sym (ap (λ (p : Rows). with_rows table place (with_state number state p)) seen.shows
            ∙ (ap (λ list. with_rows table place (record { rows = list; last_number = at.last_number }))
            (same_stepped number state (map (λ keyed. keyed.row) (shared.rows_at rows place))
            (All-map (λ row. is_of_functor number row ≡ false) (λ keyed. keyed.row) (shared.rows_at rows place) none_is))
            ∙ (ap (with_rows table place) (sym seen.shows) ∙ with_same no_rows table place))),
      )
