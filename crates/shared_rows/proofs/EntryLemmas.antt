-- What the index of a place shows.
use Rattle.std.proofs.Common.{◌≡◌, ◌≢◌, ◌∙◌, ℕ, zero, suc, ◌<◌, Bool, true, false, List, [], ◌∷◌, Option, Some, None, filter, length, get_or, refl, sym, ap}
use Rattle.std.proofs.Common.{arith, ⊎_elim}
use Rattle.std.specs.List.{All, AllPairs, remove, cons_option}
use Rattle.std.specs.Option.{option_map, unwrap_or}
use Rattle.std.proofs.lemmas.Bool.{eq-eqb, ne_eqb, cases_Bool, cases_eq}
use Rattle.std.proofs.lemmas.List.Elements.{All-cons}
use Rattle.shared_rows.specs.declared.index.Entry.{Entry}
use Rattle.shared_rows.specs.declared.index.Slot.{Slot}
use Rattle.shared_rows.specs.Rows.{Keyed, IsSound, key_of, row_under, with_row, without}
use Rattle.shared_rows.specs.Index.{HasNot, IsEntry, IsIndex, keyed_by, rows_of}

abbrev pub Slots : Type 0 → Type 0
Slots R = List (Option (Slot R))

-- what a slab holds under a key
abbrev pub slot_at : {R : Type 0} → Slots R → ℕ → Option (Slot R)
slot_at slots key = get_or slots key None

-- other keys find what they found
abbrev pub SameElsewhere : {R : Type 0} → Slots R → Slots R → ℕ → Type 0
SameElsewhere slots slots' key = (other : ℕ) → other ≢ key → slot_at slots' other ≡ slot_at slots other

-- no entry has this key
abbrev pub Apart : {N : Type 0} → ℕ → List (Entry N) → Type 0
Apart {N} key = All (λ (entry : Entry N). entry.key ≢ key)

pub rows_same : {R N : Type 0} (slots slots' : Slots R) {key : ℕ} → SameElsewhere slots slots' key → (entries : List (Entry N)) → Apart key entries
    → rows_of slots' entries ≡ rows_of slots entries
rows_same slots slots' same [] apart = refl
rows_same slots slots' same (entry ∷ entries) apart = rw (same entry.key (apart 0 entry (omega arith)))
    (ap (cons_option (keyed_by slots entry)) (rows_same slots slots' same entries (λ k d within. apart (suc k) d (omega arith))))

-- without the entry of a key none has it, where no two have one
pub apart_removed : {N : Type 0} (entries : List (Entry N)) → AllPairs (λ earlier later. earlier.key ≢ later.key) entries → (at key : ℕ) (d : Entry N)
    → at < length entries → (get_or entries at d).key ≡ key → Apart key (remove entries at)
apart_removed [] pairs at key d within e = absurd (omega arith)
apart_removed (entry ∷ entries) pairs zero key d within e = λ k other lt same. pairs 0 (suc k) other (omega arith) (omega arith) (e ∙ sym same)
apart_removed {N} (entry ∷ entries) pairs (suc at) key d within e =
    All-cons (λ (other : Entry N). other.key ≢ key) entry (remove entries at) (λ same. pairs 0 (suc at) d (omega arith) within (same ∙ sym e))
    (apart_removed entries (λ i j other lt inner. pairs (suc i) (suc j) other (omega arith) (omega arith)) at key d (omega arith) e)

-- an entry has this key, and its slot holds the row
pub record Stands {R N : Type 0} (slots : Slots R) (place : ℕ) (entries : List (Entry N)) (key : ℕ) (row : R) : Type 0 where
  pub at : ℕ
  pub within : at < length entries
  pub is : (d : Entry N) → (get_or entries at d).key ≡ key
  pub stands : slot_at slots key ≡ Some (record { place = place; row = row })

module _ {R N : Type 0} {number : R → ℕ} {value : N → ℕ} {slots : Slots R} where
  -- a vacant key is that of no entry
  pub apart_vacant : {key place : ℕ} {entry : Entry N} → slot_at slots key ≡ None → IsEntry number value slots place entry → entry.key ≢ key
  apart_vacant vacant is same = let other = sym is.stands ∙ (ap (slot_at slots) same ∙ vacant) in absurd (cc)

  -- nor is one whose slot holds a row of another place or number
  module _ {key place other : ℕ} {row : R} {entry : Entry N} (stands : slot_at slots key ≡ Some (record { place = place; row = row }))
      (is : IsEntry number value slots other entry) where
    of_slot : {X : Type 0} (part : Slot R → X) → entry.key ≡ key → part (record { place = other; row = is.row }) ≡ part (record { place = place; row = row })
    of_slot part same = ap (λ slot. unwrap_or (option_map part slot) (part (record { place = place; row = row })))
        (sym is.stands ∙ (ap (slot_at slots) same ∙ stands))

    pub same_number : entry.key ≡ key → value entry.number ≡ number row
    same_number same = sym is.numbered ∙ of_slot (λ slot. number slot.row) same

    pub apart_place : other ≢ place → entry.key ≢ key
    apart_place differ same = differ (of_slot (λ slot. slot.place) same)

  module _ {place : ℕ} where
    first : (entry : Entry N) (entries : List (Entry N)) → All (IsEntry number value slots place) (entry ∷ entries) → IsEntry number value slots place entry
    first entry entries stand = stand 0 entry (omega arith)

    others : (entry : Entry N) (entries : List (Entry N)) → All (IsEntry number value slots place) (entry ∷ entries)
        → All (IsEntry number value slots place) entries
    others entry entries stand k d within = stand (suc k) d (omega arith)

    tail : {entry : Entry N} {entries : List (Entry N)} → IsIndex number value slots place (entry ∷ entries) → IsIndex number value slots place entries
    tail {entry = entry} {entries = entries} index =
        record { rising = λ i j d lt within. index.rising (suc i) (suc j) d (omega arith) (omega arith); stand = others entry entries index.stand }

    pub length-rows : (entries : List (Entry N)) → All (IsEntry number value slots place) entries → length (rows_of slots entries) ≡ length entries
    length-rows [] stand = refl
    length-rows (entry ∷ entries) stand = rw (first entry entries stand).stands (ap suc (length-rows entries (others entry entries stand)))

    -- each position has the row of its entry
    pub row_at : (entries : List (Entry N)) → All (IsEntry number value slots place) entries → (at : ℕ) (d : Entry N) (default : Keyed R) (row : R)
        → at < length entries
        → slot_at slots (get_or entries at d).key ≡ Some (record { place = place; row = row })
        → get_or (rows_of slots entries) at default ≡ record { key = (get_or entries at d).key; row = row }
    row_at [] stand at d default row within stands = absurd (omega arith)
    row_at (entry ∷ entries) stand zero d default row within stands = rw stands refl
    row_at (entry ∷ entries) stand (suc at) d default row within stands =
        rw (first entry entries stand).stands (row_at entries (others entry entries stand) at d default row (omega arith) stands)

    -- a number finds the key of its entry
    pub key_found : (entries : List (Entry N)) → IsIndex number value slots place entries → (at n : ℕ) (d : Entry N) → at < length entries
        → value (get_or entries at d).number ≡ n → key_of number (rows_of slots entries) n ≡ Some (get_or entries at d).key
    key_found [] index at n d within e = absurd (omega arith)
    key_found (entry ∷ entries) index zero n d within e =
        let head = first entry entries index.stand in
        rw (head.stands, eq-eqb (number head.row) n (head.numbered ∙ e)) refl
    key_found (entry ∷ entries) index (suc at) n d within e =
        let head = first entry entries index.stand in
        let below = index.rising 0 (suc at) d (omega arith) within in
        rw (head.stands, ne_eqb (number head.row) n (λ same. absurd (omega arith)))
        (key_found entries (tail index) at n d (omega arith) e)

    -- and one that no entry has finds none
    pub key_absent : (entries : List (Entry N)) → All (IsEntry number value slots place) entries → (n : ℕ) → HasNot value entries n
        → key_of number (rows_of slots entries) n ≡ None
    key_absent [] stand n absent = refl
    key_absent (entry ∷ entries) stand n absent =
        let head = first entry entries stand in
        rw (head.stands, ne_eqb (number head.row) n (λ same. absent 0 entry (omega arith) (sym head.numbered ∙ same)))
        (key_absent entries (others entry entries stand) n (λ k d within. absent (suc k) d (omega arith)))

    pub row_stands : (entries : List (Entry N)) → All (IsEntry number value slots place) entries → (key : ℕ) (row : R)
        → row_under (rows_of slots entries) key ≡ Some row → Stands slots place entries key row
    row_stands [] stand key row found = absurd (cc)
    row_stands (entry ∷ entries) stand key row found =
        let head = first entry entries stand in
        ⊎_elim
        (λ same.
        let is_row : Some head.row ≡ Some row = rw (head.stands, eq-eqb entry.key key same) at found in
        let same_row : head.row ≡ row = cc in
        record {
          at = 0;
          within = omega arith;
          is = λ d. same;
          stands = ap (slot_at slots) (sym same)
              ∙ (head.stands ∙ ap (λ r. Some (record { place = place; row = r })) same_row);
        })
        (λ differ.
        let rest = row_stands entries (others entry entries stand) key row (rw (head.stands, ne_eqb entry.key key differ) at found) in
        record { at = suc rest.at; within = omega arith; is = λ d. rest.is d; stands = rest.stands })
        (cases_eq entry.key key)

    pub row_none : (entries : List (Entry N)) → All (IsEntry number value slots place) entries → (key : ℕ) → Apart key entries
        → row_under (rows_of slots entries) key ≡ None
    row_none [] stand key apart = refl
    row_none (entry ∷ entries) stand key apart = rw ((first entry entries stand).stands, ne_eqb entry.key key (apart 0 entry (omega arith)))
        (row_none entries (others entry entries stand) key (λ k d within. apart (suc k) d (omega arith)))

    -- a key finds the row of its slot
    pub row_found : (entries : List (Entry N)) → All (IsEntry number value slots place) entries → (at key : ℕ) (d : Entry N) (row : R) → at < length entries
        → (get_or entries at d).key ≡ key
        → slot_at slots key ≡ Some (record { place = place; row = row }) → row_under (rows_of slots entries) key ≡ Some row
    row_found [] stand at key d row within e stands = absurd (omega arith)
    row_found (entry ∷ entries) stand zero key d row within e stands =
        rw ((first entry entries stand).stands, eq-eqb entry.key key e)
        (ap (option_map (λ (s : Slot R). s.row)) (sym (first entry entries stand).stands ∙ (ap (slot_at slots) e ∙ stands)))
    row_found (entry ∷ entries) stand (suc at) key d row within e stands =
        let rest = row_found entries (others entry entries stand) at key d row (omega arith) e stands in
        ⊎_elim
        (λ same. rw ((first entry entries stand).stands, eq-eqb entry.key key same)
        (ap (option_map (λ (s : Slot R). s.row)) (sym (first entry entries stand).stands ∙ (ap (slot_at slots) same ∙ stands))))
        (λ differ. rw ((first entry entries stand).stands, ne_eqb entry.key key differ) rest)
        (cases_eq entry.key key)

    -- two entries of one place have two keys
    pub keys_apart : {entries : List (Entry N)} → IsIndex number value slots place entries → AllPairs (λ earlier later. earlier.key ≢ later.key) entries
    keys_apart index i j d lt within same =
        let later = index.stand j d within in
        absurd (omega (arith, index.rising i j d lt within, same_number later.stands (index.stand i d (omega arith)) same))

    -- what callers know of the rows
    pub sound_rows : (entries : List (Entry N)) → IsIndex number value slots place entries → IsSound number (rows_of slots entries)
    sound_rows [] index = record { rising = λ i j default lt within. absurd (omega arith); apart = λ i j default lt within. absurd (omega arith) }
    sound_rows (entry ∷ entries) index = record {
      rising = λ i j d lt within.
          let inner = inside j within in
          omega (
            arith,
            index.rising i j entry lt inner,
            ap (λ keyed. number keyed.row) (at i d (omega arith)),
            ap (λ keyed. number keyed.row) (at j d inner),
            (index.stand i entry (omega arith)).numbered,
            (index.stand j entry inner).numbered,
          );
      apart = λ i j d lt within same.
          let inner = inside j within in
          keys_apart index i j entry lt inner (sym (ap (λ keyed. keyed.key) (at i d (omega arith))) ∙ (same ∙ ap (λ keyed. keyed.key) (at j d inner)));
    }
      where
        inside : (k : ℕ) → k < length (rows_of slots (entry ∷ entries)) → k < length (entry ∷ entries)
        inside k within = omega (arith, length-rows (entry ∷ entries) index.stand)

        at : (k : ℕ) (default : Keyed R) (within : k < length (entry ∷ entries))
            → get_or (rows_of slots (entry ∷ entries)) k default
            ≡ record { key = (get_or (entry ∷ entries) k entry).key; row = (index.stand k entry within).row }
        at k default within = row_at (entry ∷ entries) index.stand k entry default (index.stand k entry within).row within (index.stand k entry within).stands

    -- the rows whose numbers pass a test are those of the entries whose numbers do
    pub rows_filtered : (test : ℕ → Bool) (entries : List (Entry N)) → All (IsEntry number value slots place) entries
        → filter (λ keyed. test (number keyed.row)) (rows_of slots entries) ≡ rows_of slots (filter (λ entry. test (value entry.number)) entries)
    rows_filtered test [] stand = refl
    rows_filtered test (entry ∷ entries) stand =
        let head = first entry entries stand in
        let rest = rows_filtered test entries (others entry entries stand) in
        ⊎_elim
        (λ (passes : test (value entry.number) ≡ true). rw (passes, head.stands, ap test head.numbered ∙ passes)
        (ap (λ rows. record { key = entry.key; row = head.row } ∷ rows) rest))
        (λ (fails : test (value entry.number) ≡ false). rw (fails, head.stands, ap test head.numbered ∙ fails) rest)
        (cases_Bool (test (value entry.number)))

    without_none : (entries : List (Entry N)) → All (IsEntry number value slots place) entries → (key : ℕ) → Apart key entries
        → without (rows_of slots entries) key ≡ rows_of slots entries
    without_none [] stand key apart = refl
    without_none (entry ∷ entries) stand key apart =
        let head = first entry entries stand in
        rw (head.stands, ne_eqb entry.key key (apart 0 entry (omega arith)))
        (ap (λ rows. record { key = entry.key; row = head.row } ∷ rows)
        (without_none entries (others entry entries stand) key (λ k d within. apart (suc k) d (omega arith))))

    -- without the row under a key the index lacks its entry
    pub rows_without : (entries : List (Entry N)) → IsIndex number value slots place entries → (at key : ℕ) (d : Entry N) → at < length entries
        → (get_or entries at d).key ≡ key → without (rows_of slots entries) key ≡ rows_of slots (remove entries at)
    rows_without [] index at key d within e = absurd (omega arith)
    rows_without (entry ∷ entries) index zero key d within e =
        rw ((first entry entries index.stand).stands, eq-eqb entry.key key e)
        (without_none entries (others entry entries index.stand) key
        (λ k d within same. keys_apart index 0 (suc k) d (omega arith) (omega arith) (e ∙ sym same)))
    rows_without (entry ∷ entries) index (suc at) key d within e =
        let head = first entry entries index.stand in
        rw (head.stands, ne_eqb entry.key key (λ same. keys_apart index 0 (suc at) d (omega arith) within (same ∙ sym e)))
        (ap (λ rows. record { key = entry.key; row = head.row } ∷ rows) (rows_without entries (tail index) at key d (omega arith) e))

  -- with another row under its key the index stays
  pub rows_with : (slots' : Slots R) {place key : ℕ} {row : R} → SameElsewhere slots slots' key
      → slot_at slots' key ≡ Some (record { place = place; row = row })
      → (entries : List (Entry N)) → All (IsEntry number value slots place) entries → with_row (rows_of slots entries) key row ≡ rows_of slots' entries
  rows_with slots' same stands [] stand = refl
  rows_with slots' {place = place} {key = key} {row = row} same stands (entry ∷ entries) stand =
      let head = first entry entries stand in
      let rest = rows_with slots' same stands entries (others entry entries stand) in
      ⊎_elim
      (λ e.
      rw (head.stands, ap (slot_at slots') e ∙ stands, eq-eqb entry.key key e)
      (ap (λ k. record { key = k; row = row } ∷ with_row (rows_of slots entries) key row) (sym e)
      ∙ ap (λ rows. record { key = entry.key; row = row } ∷ rows) rest))
      (λ differ. rw (head.stands, same entry.key differ ∙ head.stands, ne_eqb entry.key key differ)
      (ap (λ rows. record { key = entry.key; row = head.row } ∷ rows) rest))
      (cases_eq entry.key key)
