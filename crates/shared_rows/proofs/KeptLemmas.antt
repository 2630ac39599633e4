-- The rows of all places.
use Rattle.std.proofs.Common.{◌≡◌, ◌≢◌, ◌∙◌, ℕ, suc, ◌+◌, ◌<◌, ◌≤◌, List, [], ◌∷◌, ◌++◌, Option, Some, None, nat_lt, filter, length, map, take, drop, count_by}
use Rattle.std.proofs.Common.{is_some, IfNone, IsSome, OnErr, Result, Ok, Err, cond, get_or, set, refl, sym, ap, subst, arith, ⊎_elim}
use Rattle.shared_rows.specs.Gapped.{Gapped}
use Rattle.std.specs.List.{All, insert, remove}
use Rattle.std.specs.Option.{option_map, unwrap_or}
use Rattle.std.proofs.lemmas.Bool.{cases_eq, cases_lt, le-ltb, lt-ltb}
use Rattle.std.proofs.lemmas.List.{drop_all, get_or-map, get_or-set_same, get_or-set_other, get_or_default, set-get_or, length-map, get_or_append_left}
use Rattle.std.proofs.lemmas.List.{get_or_past, get_or_push, length-set, nil_from_length, length_push, same_lists, take_all}
use Rattle.std.proofs.lemmas.List.Elements.{All-append, All-cons, All-drop, All-take, filter_map-append}
use Rattle.std.proofs.lemmas.List.Edits.{insert_end, length-insert, length-remove}
use Rattle.std.proofs.lemmas.List.Quantifiers.{all_pairs_remove}
use Rattle.std.proofs.lemmas.List.Sums.{sum_by-set, sum_by_push}
use Rattle.std.proofs.lemmas.Option.{same_Some}
use Rattle.shared_rows.specs.Table.{IsPlace, Table, with_place}
use Rattle.shared_rows.proofs.TableLemmas.{with_same}
use Rattle.slab.specs.Slab.{Slab, Updates, slab_len}
use Rattle.shared_rows.specs.declared.index.Entry.{Entry}
use Rattle.shared_rows.specs.declared.index.Slot.{Slot}
use Rattle.shared_rows.specs.Rows.{IsAtPosition, IsSound, Keyed, added, inserted, key_of, row_under, rows_at, with_row, without}
use Rattle.shared_rows.specs.Index.{HasNot, IsAt, IsCountBelow, IsEntry, IsIndex, IsKept, keyed_by, rows_of}
use Rattle.shared_rows.proofs.LinkLemmas.{filter_back, filter_front}
use Rattle.shared_rows.proofs.PositionLemmas.{back_is, front_is, inserted_rises, only_one}
use Rattle.shared_rows.proofs.RowsLemmas.{some_mapped}
use Rattle.shared_rows.proofs.EntryLemmas.{Apart, SameElsewhere, Slots, Stands, apart_place, apart_removed, apart_vacant, key_absent, key_found, keys_apart}
use Rattle.shared_rows.proofs.EntryLemmas.{length-rows, row_at, row_found, row_none, row_stands, rows_filtered, rows_same, rows_with, rows_without, same_number}
use Rattle.shared_rows.proofs.EntryLemmas.{slot_at, sound_rows}

pub some_entry : {X : Type 0} (entries : List X) (at : ℕ) → at < length entries → X
some_entry [] at within = absurd (omega arith)
some_entry (entry ∷ entries) at within = entry

-- a search that does not miss finds
some_from : {P : Type 0} (o : Option ℕ) → IfNone o P → (P → ⊥) → IsSome o
some_from None none never = absurd (never none)
some_from (Some x) none never = refl

pub on_err : {T E : Type 0} {P : Type 0} (r : Result T E) → P → OnErr r P
on_err (Ok value) holds = tt
on_err (Err error) holds = holds

abbrev pub Indexes : Type 0 → Type 0
Indexes N = List (Gapped (Entry N))

-- what contracts see
abbrev pub Shown : Type 0 → Type 0
Shown R = Table (List (Keyed R))

abbrev pub table_of : {R N : Type 0} → Slots R → Indexes N → ℕ → Shown R
table_of slots indexes room = record { places = map (λ index. rows_of slots index.items) indexes; room = room }

-- the index stands at the place, and contracts see the rows that it shows
pub record IsSeen {R N : Type 0} (number : R → ℕ) (value : N → ℕ) (slots : Slots R) (indexes : Indexes N) (table : Shown R) (place : ℕ)
    (index : Gapped (Entry N)) : Type 0 where
  pub is : (d : Gapped (Entry N)) → index ≡ get_or indexes place d
  pub within : place < length indexes
  pub entries : IsIndex number value slots place index.items
  pub rows : rows_at table place ≡ rows_of slots index.items
  pub sound : IsSound number (rows_at table place)
  pub count : length (rows_at table place) ≡ length index.items

module _ {R N : Type 0} {number : R → ℕ} {value : N → ℕ} {slots : Slots R} {indexes : Indexes N} {table : Shown R} where
  module _ {room place : ℕ} (kept : IsKept number value slots indexes) (view_is : table_of slots indexes room ≡ table) (is_place : IsPlace table place) where
    pub seen_by : {index : Gapped (Entry N)} → ((d : Gapped (Entry N)) → index ≡ get_or indexes place d) → IsSeen number value slots indexes table place index
    seen_by {index = index} is =
        let within : place < length indexes = omega (arith, ap (λ (t : Shown R). length t.places) view_is, length-map indexes (λ i. rows_of slots i.items)) in
        let entries : IsIndex number value slots place index.items =
        subst (λ (i : Gapped (Entry N)). IsIndex number value slots place i.items) (sym (is index)) (kept.each place index within) in
        let rows : rows_at table place ≡ rows_of slots index.items =
        ap (λ t. rows_at t place) (sym view_is) ∙
        (get_or-map (λ i. rows_of slots i.items) indexes place index [] within ∙ ap (λ i. rows_of slots i.items) (sym (is index))) in
        record {
          is = is;
          within = within;
          entries = entries;
          rows = rows;
          sound = subst (IsSound number) (sym rows) (sound_rows index.items entries);
          count = ap length rows ∙ length-rows index.items entries.stand;
        }

    index_at : (list : Indexes N) → place < length list → (index : Gapped (Entry N)) × ((d : Gapped (Entry N)) → index ≡ get_or list place d)
    index_at [] within = absurd (omega arith)
    index_at (head ∷ rest) within = (get_or (head ∷ rest) place head, λ d. get_or_default (head ∷ rest) place head d within)

    pub seen_at : (index : Gapped (Entry N)) × IsSeen number value slots indexes table place index
    seen_at =
        let at = index_at indexes (omega (arith, ap (λ (t : Shown R). length t.places) view_is, length-map indexes (λ i. rows_of slots i.items))) in
        (at.0, seen_by at.1)

  module _ {place : ℕ} {index : Gapped (Entry N)} (seen : IsSeen number value slots indexes table place index) where
    -- a row that contracts see under a key stands there in the slab
    under_seen : (key : ℕ) → IsSome (row_under (rows_at table place) key)
        → (row : R) × (row_under (rows_at table place) key ≡ Some row) × Stands slots place index.items key row
    under_seen key some = by (row_under (rows_at table place) key) some refl
      where
        by : (o : Option R) → IsSome o → row_under (rows_at table place) key ≡ o
            → (row : R) × (row_under (rows_at table place) key ≡ Some row) × Stands slots place index.items key row
        by None none found = absurd (cc)
        by (Some row) some found = (row, found, row_stands index.items seen.entries.stand key row (ap (λ rows. row_under rows key) (sym seen.rows) ∙ found))

    pub slot_some : (key : ℕ) → IsSome (row_under (rows_at table place) key) → IsSome (slot_at slots key)
    slot_some key some = rw (under_seen key some).2.stands refl

    pub slot_under : (key : ℕ) {slot : Slot R} → IsSome (row_under (rows_at table place) key) → slot_at slots key ≡ Some slot
        → (slot.place ≡ place) × (row_under (rows_at table place) key ≡ Some slot.row)
    slot_under key some stands =
        let under = under_seen key some in
        let same = sym under.2.stands ∙ stands in
        (sym (ap (λ slot. unwrap_or (option_map (λ (s : Slot R). s.place) slot) place) same), under.1 ∙ ap (option_map (λ (s : Slot R). s.row)) same)

    -- each entry shows the row of its slot
    pub entry_some : (at : ℕ) {entry : Entry N} → at < length (rows_at table place) → entry ≡ get_or index.items at entry → IsSome (slot_at slots entry.key)
    entry_some at {entry} within is = subst (λ (e : Entry N). IsSome (slot_at slots e.key)) (sym is)
        (rw (seen.entries.stand at entry (omega (arith, within))).stands refl)

    pub entry_shown : (at : ℕ) {entry : Entry N} {slot : Slot R} → at < length (rows_at table place) → entry ≡ get_or index.items at entry
        → slot_at slots entry.key ≡ Some slot → IsAtPosition (rows_at table place) at entry.key slot.row
    entry_shown at {entry} {slot} within is stands default =
        let inner : at < length index.items = omega (arith, within) in
        let there = seen.entries.stand at entry inner in
        let same = sym there.stands ∙ (ap (λ (e : Entry N). slot_at slots e.key) (sym is) ∙ stands) in
        ap (λ rows. get_or rows at default) seen.rows
        ∙ (row_at index.items seen.entries.stand at entry default there.row inner there.stands
        ∙ (ap (λ (e : Entry N). record { key = e.key; row = there.row }) (sym is)
        ∙ ap (λ slot. record { key = entry.key; row = unwrap_or (option_map (λ (s : Slot R). s.row) slot) there.row }) same))

    -- what a number finds
    module _ {at n : ℕ} {entry : Entry N} (is : IsAt value index.items n at) (entry_is : entry ≡ get_or index.items at entry) where
      pub number_found : key_of number (rows_at table place) n ≡ Some entry.key
      number_found = ap (λ rows. key_of number rows n) seen.rows
          ∙ (key_found index.items seen.entries at n entry is.in_range (is.is entry) ∙ ap (λ (e : Entry N). Some e.key) (sym entry_is))

      pub number_stands : option_map number (row_under (rows_at table place) entry.key) ≡ Some n
      number_stands =
          let there = seen.entries.stand at entry is.in_range in
          ap (λ rows. option_map number (row_under rows entry.key)) seen.rows
          ∙ (ap (option_map number) (row_found index.items seen.entries.stand at entry.key entry there.row is.in_range
          (ap (λ (e : Entry N). e.key) (sym entry_is)) (ap (λ (e : Entry N). slot_at slots e.key) entry_is ∙ there.stands))
          ∙ ap Some (there.numbered ∙ is.is entry))

      pub number_some : IsSome (row_under (rows_at table place) entry.key)
      number_some = some_mapped number (row_under (rows_at table place) entry.key) n number_stands

      -- the row of a number stands where the entry of the number leads
      pub row_numbered : {slot : Slot R} → slot_at slots entry.key ≡ Some slot
          → (row_under (rows_at table place) entry.key ≡ Some slot.row) × (number slot.row ≡ n)
      row_numbered {slot = slot} stands =
          let row = (slot_under entry.key number_some stands).1 in
          (row, same_Some (number slot.row) n (sym (ap (option_map number) row) ∙ number_stands))

    pub number_absent : (n : ℕ) → HasNot value index.items n → key_of number (rows_at table place) n ≡ None
    number_absent n absent = ap (λ rows. key_of number rows n) seen.rows ∙ key_absent index.items seen.entries.stand n absent

    absent_there : (n : ℕ) → key_of number (rows_at table place) n ≡ None → HasNot value index.items n
    absent_there n none at d within is =
        let found = sym none ∙ (ap (λ rows. key_of number rows n) seen.rows ∙ key_found index.items seen.entries at n d within is) in absurd (cc)

    -- the number of a row that stands has its entry
    pub number_there : (key : ℕ) {slot : Slot R} → IsSome (row_under (rows_at table place) key) → slot_at slots key ≡ Some slot → {n : ℕ} → n ≡ number slot.row
        → (o : Option ℕ) → IfNone o (HasNot value index.items n) → IsSome o
    number_there key {slot} some stands is o none =
        some_from o none (λ absent.
        let there = (under_seen key some).2 in
        let d = some_entry index.items there.at there.within in
        absent there.at d there.within (same_number (stands ∙ ap (λ p. Some (record { place = p; row = slot.row })) (slot_under key some stands).0)
        (seen.entries.stand there.at d there.within) (there.is d) ∙ sym is))

    pub none_there : rows_at table place ≡ [] → index.items ≡ []
    none_there empty = nil_from_length index.items (omega (arith, ap length empty))

    pub vacant_seen : (key : ℕ) → slot_at slots key ≡ None → row_under (rows_at table place) key ≡ None
    vacant_seen key vacant =
        ap (λ rows. row_under rows key) seen.rows ∙ row_none index.items seen.entries.stand key
        (λ k d within. apart_vacant vacant (seen.entries.stand k d within))

-- a slot comes under a vacant key
pub record IsCome {R : Type 0} (slots slots' : Slots R) (key : ℕ) (slot : Slot R) : Type 0 where
  pub same : SameElsewhere slots slots' key
  pub vacant : slot_at slots key ≡ None
  pub stands : slot_at slots' key ≡ Some slot
  pub count : count_by is_some slots' ≡ count_by is_some slots + 1

-- as the calls of a slab say it
pub come : {R : Type 0} {reserved after : Slab (Slot R)} {key used : ℕ} {slot : Slot R} (slots : Slots R) → reserved.slots ≡ slots → key ≡ reserved.vacant_key
    → used ≡ reserved.vacant_key → slot_at reserved.slots key ≡ None
    → Updates reserved after used (Some slot) → slab_len after ≡ slab_len reserved + 1 → IsCome slots after.slots key slot
come {after = after} {key = key} slots before key_is used_is vacant updates len = record {
  same = λ other differ. updates.others other (λ e. differ (e ∙ (used_is ∙ sym key_is))) ∙ ap (λ list. slot_at list other) before;
  vacant = ap (λ list. slot_at list key) (sym before) ∙ vacant;
  stands = ap (slot_at after.slots) (key_is ∙ sym used_is) ∙ updates.changed;
  count = len ∙ ap (λ list. count_by is_some list + 1) before;
}

-- only the slot of one key differs, which is of no entry of another place
record IsChange {R N : Type 0} (number : R → ℕ) (value : N → ℕ) (slots slots' : Slots R) (key place : ℕ) : Type 0 where
  same : SameElsewhere slots slots' key
  mine : (other : ℕ) (entry : Entry N) → other ≢ place → IsEntry number value slots other entry → entry.key ≢ key

-- the rows after a change, kept and seen
pub record IsAfter {R N : Type 0} (number : R → ℕ) (value : N → ℕ) (slots : Slots R) (indexes : Indexes N) (room : ℕ) (table : Shown R) : Type 0 where
  pub kept : IsKept number value slots indexes
  pub view : table_of slots indexes room ≡ table

module _ {R N : Type 0} {number : R → ℕ} {value : N → ℕ} {slots slots' : Slots R} {key place : ℕ} (change : IsChange number value slots slots' key place) where
  index_same : {other : ℕ} {entries : List (Entry N)} → Apart key entries → IsIndex number value slots other entries → IsIndex number value slots' other entries
  index_same {entries = entries} apart index = record {
    rising = index.rising;
    stand = λ k d within. let is = index.stand k d within in record
        { row = is.row; stands = change.same (get_or entries k d).key (apart k d within) ∙ is.stands; numbered = is.numbered };
  }

  module _ {indexes : Indexes N} {table : Shown R} {index : Gapped (Entry N)} {room : ℕ} (kept : IsKept number value slots indexes)
      (seen : IsSeen number value slots indexes table place index) (view_is : table_of slots indexes room ≡ table) where
    -- the other places keep their indexes and rows
    after : (f : List (Keyed R) → List (Keyed R)) (new : Gapped (Entry N)) (items : List (Entry N)) → new.items ≡ items
        → IsIndex number value slots' place items → rows_of slots' items ≡ f (rows_of slots index.items)
        → count_by is_some slots' + length index.items ≡ count_by is_some slots + length items
        → IsAfter number value slots' (set indexes place new) room (with_place table place (f (rows_at table place)))
    after f new items new_is is rows_are count = record {
      kept = record {
        each = λ other d within. ⊎_elim
            (λ (here : other ≡ place). subst (λ i. IsIndex number value slots' other i.items)
            (sym (ap (λ k. get_or (set indexes place new) k d) here ∙ get_or-set_same indexes place new d seen.within)) (rw (here, new_is) is))
            (λ (differ : other ≢ place).
            let inner : other < length indexes = omega (arith, within, length-set indexes place new) in
            subst (λ i. IsIndex number value slots' other i.items) (sym (get_or-set_other indexes place other new d differ))
            (index_same (apart other d inner differ) (kept.each other d inner)))
            (cases_eq other place);
        total = omega (
          arith,
          count,
          kept.total,
          sum_by-set (λ (i : Gapped (Entry N)). length i.items) indexes place new new seen.within,
          ap (λ (i : Gapped (Entry N)). length i.items) (sym (seen.is new)),
          ap length new_is,
        );
      };
      view = ap (λ places. record { places = places; room = room })
          (same_lists (map after_rows (set indexes place new)) (set (map before_rows indexes) place rows)
          (omega (
            arith,
            length-map (set indexes place new) after_rows,
            length-set indexes place new,
            length-set (map before_rows indexes) place rows,
            length-map indexes before_rows,
          )) at)
          ∙ ap (λ (t : Shown R). with_place t place rows) view_is;
    }
      where
        before_rows : Gapped (Entry N) → List (Keyed R)
        before_rows i = rows_of slots i.items

        after_rows : Gapped (Entry N) → List (Keyed R)
        after_rows i = rows_of slots' i.items

        rows : List (Keyed R)
        rows = f (rows_at table place)

        apart : (other : ℕ) (d : Gapped (Entry N)) → other < length indexes → other ≢ place → Apart key (get_or indexes other d).items
        apart other d within differ = λ k e inner. change.mine other (get_or (get_or indexes other d).items k e) differ
            ((kept.each other d within).stand k e inner)

        at : (other : ℕ) (d : List (Keyed R)) → other < length (map after_rows (set indexes place new))
            → get_or (map after_rows (set indexes place new)) other d ≡ get_or (set (map before_rows indexes) place rows) other d
        at other d within =
            let outer : other < length (set indexes place new) = omega (arith, within, length-map (set indexes place new) after_rows) in
            let inner : other < length indexes = omega (arith, length-set indexes place new) in
            get_or-map after_rows (set indexes place new) other index d outer ∙ ⊎_elim
            (λ here.
            ap (λ k. after_rows (get_or (set indexes place new) k index)) here
            ∙ (ap after_rows (get_or-set_same indexes place new index seen.within) ∙ (ap (rows_of slots') new_is ∙ (rows_are ∙ (ap f (sym seen.rows)
            ∙ (sym (get_or-set_same (map before_rows indexes) place rows d (omega (arith, length-map indexes before_rows)))
            ∙ ap (λ k. get_or (set (map before_rows indexes) place rows) k d) (sym here)))))))
            (λ differ.
            ap after_rows (get_or-set_other indexes place other new index differ)
            ∙ (rows_same slots slots' change.same (get_or indexes other index).items (apart other index inner differ)
            ∙ (sym (get_or-map before_rows indexes other index d inner) ∙ sym (get_or-set_other (map before_rows indexes) place other rows d differ))))
            (cases_eq other place)

-- a row comes in its place by number
module _ {R N : Type 0} {number : R → ℕ} {value : N → ℕ} {slots slots' : Slots R} {key place : ℕ} {row : R} {entries : List (Entry N)} {at : ℕ}
    (come : IsCome slots slots' key (record { place = place; row = row })) (index : IsIndex number value slots place entries)
    (count : IsCountBelow value entries (number row) at) (absent : HasNot value entries (number row)) where
  come_change : IsChange number value slots slots' key place
  come_change = record { same = come.same; mine = λ other entry differ is. apart_vacant come.vacant is }

  come_apart : Apart key entries
  come_apart = λ k d within. apart_vacant come.vacant (index.stand k d within)

  come_rows : (n : N) → rows_of slots' (insert entries at (record { number = n; key = key })) ≡ inserted number (rows_of slots entries) key row
  come_rows n = filter_map-append (keyed_by slots') (take at entries) (record { number = n; key = key } ∷ drop at entries) ∙ rw (come.stands, front, back) refl
    where
      front : rows_of slots' (take at entries) ≡ filter (λ keyed. nat_lt (number keyed.row) (number row)) (rows_of slots entries)
      front =
          rows_same slots slots' come.same (take at entries) (All-take (λ (entry : Entry N). entry.key ≢ key) at entries come_apart)
          ∙ sym (rows_filtered (λ n. nat_lt n (number row)) entries index.stand
          ∙ ap (rows_of slots) (front_is value entries index.rising (number row) at count absent))

      back : rows_of slots' (drop at entries) ≡ filter (λ keyed. nat_lt (number row) (number keyed.row)) (rows_of slots entries)
      back =
          rows_same slots slots' come.same (drop at entries) (All-drop (λ (entry : Entry N). entry.key ≢ key) at entries come_apart)
          ∙ sym (rows_filtered (nat_lt (number row)) entries index.stand
          ∙ ap (rows_of slots) (back_is value entries index.rising (number row) at count absent))

  come_index : (n : N) → value n ≡ number row → IsIndex number value slots' place (insert entries at (record { number = n; key = key }))
  come_index n is =
      let old = (index_same come_change come_apart index).stand in
      let Entry' : Entry N → Type 0 = IsEntry number value slots' place in
      let new : Entry N = record { number = n; key = key } in
      record {
        rising = inserted_rises value entries index.rising (number row) at count absent new is;
        stand = All-append Entry' (take at entries) (new ∷ drop at entries) (All-take Entry' at entries old)
            (All-cons Entry' new (drop at entries) (record { row = row; stands = come.stands; numbered = sym is }) (All-drop Entry' at entries old));
      }

module _ {R N : Type 0} {number : R → ℕ} {value : N → ℕ} {slots : Slots R} {indexes : Indexes N} {table : Shown R} {place : ℕ} {index : Gapped (Entry N)}
    {room : ℕ}
    (kept : IsKept number value slots indexes) (seen : IsSeen number value slots indexes table place index)
    (view_is : table_of slots indexes room ≡ table) where
  module _ {slots' : Slots R} {key : ℕ} {row : R} {n : N} (new : Gapped (Entry N)) (come : IsCome slots slots' key (record { place = place; row = row }))
      (is : value n ≡ number row) where
    come_at : {at : ℕ} → IsCountBelow value index.items (number row) at → HasNot value index.items (number row)
        → new.items ≡ insert index.items at (record { number = n; key = key })
        → IsAfter number value slots' (set indexes place new) room (with_place table place (inserted number (rows_at table place) key row))
    come_at {at} count absent items =
        let entry : Entry N = record { number = n; key = key } in
        after (come_change come seen.entries count absent) kept seen view_is (λ rows. inserted number rows key row) new (insert index.items at entry) items
        (come_index come seen.entries count absent n is) (come_rows come seen.entries count absent n)
        (omega (arith, come.count, length-insert index.items at entry count.in_range))

    pub come_between : {at short : ℕ} → short ≡ key → {m : ℕ} → m ≡ value n → IsCountBelow value index.items m at
        → key_of number (rows_at table place) (number row) ≡ None → new.items ≡ insert index.items at (record { number = n; key = short })
        → IsAfter number value slots' (set indexes place new) room (with_place table place (inserted number (rows_at table place) key row))
    come_between {at} short_is m_is count none items =
        come_at (subst (λ k. IsCountBelow value index.items k at) (m_is ∙ is) count) (absent_there seen (number row) none)
        (items ∙ ap (λ k. insert index.items at (record { number = n; key = k })) short_is)

    -- behind all others
    pub come_last : {short : ℕ} → short ≡ key → All (λ keyed. number keyed.row < number row) (rows_at table place)
        → new.items ≡ index.items ++ record { number = n; key = short } ∷ []
        → IsAfter number value slots' (set indexes place new) room (with_place table place (added (rows_at table place) key row))
    come_last short_is below items =
        subst (λ rows. IsAfter number value slots' (set indexes place new) room (with_place table place rows)) last
        (come_at count (λ k d within same. absurd (omega (arith, below_entry k d within, same)))
        (items ∙ (ap (λ k. index.items ++ record { number = n; key = k } ∷ []) short_is ∙ sym (insert_end index.items (record { number = n; key = key })))))
      where
        below_entry : (k : ℕ) (d : Entry N) → k < length index.items → value (get_or index.items k d).number < number row
        below_entry k d within =
            let entry = seen.entries.stand k d within in
            let default : Keyed R = record { key = 0; row = row } in
            let lower = below k default (omega (arith, within)) in
            omega (
              arith,
              ap (λ rows. number (get_or rows k default).row) seen.rows,
              ap (λ (keyed : Keyed R). number keyed.row) (row_at index.items seen.entries.stand k d default entry.row within entry.stands),
            )

        count : IsCountBelow value index.items (number row) (length index.items)
        count = record { in_range = omega arith; below = λ k d from upto. below_entry k d upto; above = λ k d from upto. absurd (omega arith) }

        last : inserted number (rows_at table place) key row ≡ added (rows_at table place) key row
        last =
            let rows = rows_at table place in
            let front : filter (λ keyed. nat_lt (number keyed.row) (number row)) rows ≡ rows =
            filter_front (λ keyed. nat_lt (number keyed.row) (number row)) rows (length rows) (λ k d low high. lt-ltb _ _ (below k d high))
            (λ k d low high. absurd (omega arith)) ∙ take_all (length rows) rows (omega arith) in
            let back : filter (λ keyed. nat_lt (number row) (number keyed.row)) rows ≡ [] =
            filter_back (λ keyed. nat_lt (number row) (number keyed.row)) rows (length rows)
            (λ k d low high. le-ltb _ _ (let lower = below k d high in omega arith)) (λ k d low high. absurd (omega arith))
            ∙ drop_all (length rows) rows (omega arith) in
            rw (front, back) refl

  -- the row under a key goes
  pub removed : {slots' : Slots R} {at n : ℕ} {slot : Slot R} (new : Gapped (Entry N)) (key : ℕ) → IsSome (row_under (rows_at table place) key)
      → slot_at slots key ≡ Some slot → IsAt value index.items n at → number slot.row ≡ n → SameElsewhere slots slots' key
      → count_by is_some slots' + 1 ≡ count_by is_some slots → new.items ≡ remove index.items at
      → IsAfter number value slots' (set indexes place new) room (with_place table place (without (rows_at table place) key))
  removed {slots' = slots'} {at = at} {slot = slot} new key some taken is numbered same count items =
      let stood = taken ∙ ap (λ p. Some (record { place = p; row = slot.row })) (slot_under seen key some taken).0 in
      let stands = (under_seen seen key some).2 in
      let d = some_entry index.items at is.in_range in
      let equal : value (get_or index.items stands.at d).number ≡ value (get_or index.items at d).number =
      same_number stood (seen.entries.stand stands.at d stands.within) (stands.is d) ∙ (numbered ∙ sym (is.is d)) in
      let here : (get_or index.items at d).key ≡ key = ap (λ k. (get_or index.items k d).key)
      (only_one value index.items seen.entries.rising 0 at stands.at d is.in_range stands.within equal) ∙ stands.is d in
      let change : IsChange number value slots slots' key place =
      record { same = same; mine = λ other entry differ of_other. apart_place stood of_other differ } in
      let apart : Apart key (remove index.items at) = apart_removed index.items (keys_apart seen.entries) at key d is.in_range here in
      let Entry' : Entry N → Type 0 = IsEntry number value slots place in
      after change kept seen view_is (λ rows. without rows key) new (remove index.items at) items
      (index_same change apart (record {
        rising = all_pairs_remove (λ (earlier later : Entry N). value earlier.number < value later.number) index.items at is.in_range seen.entries.rising;
        stand = All-append Entry' (take at index.items) (drop (suc at) index.items) (All-take Entry' at index.items seen.entries.stand)
            (All-drop Entry' (suc at) index.items seen.entries.stand);
      }))
      (rows_same slots slots' same (remove index.items at) apart ∙ sym (rows_without index.items seen.entries at key d is.in_range here))
      (omega (arith, count, length-remove index.items at is.in_range))

  pub unchanged : {slots' : Slots R} (new : Gapped (Entry N)) → slots' ≡ slots → new.items ≡ index.items
      → IsAfter number value slots' (set indexes place new) room table
  unchanged {slots' = slots'} new same items =
      let vacant = get_or_past slots (length slots) None (omega arith) in
      let change : IsChange number value slots slots' (length slots) place =
      record { same = λ other differ. ap (λ s. slot_at s other) same; mine = λ other entry differ is. apart_vacant vacant is } in
      subst (IsAfter number value slots' (set indexes place new) room) (with_same [] table place)
      (after change kept seen view_is (λ rows. rows) new index.items items (subst (λ s. IsIndex number value s place index.items) (sym same) seen.entries)
      (ap (λ s. rows_of s index.items) same) (ap (λ s. count_by is_some s + length index.items) same))

  -- a row makes way for another of its number
  pub replaced : (key : ℕ) (row : R) → option_map number (row_under (rows_at table place) key) ≡ Some (number row)
      → IsAfter number value (set slots key (Some (record { place = place; row = row }))) indexes room
      (with_place table place (with_row (rows_at table place) key row))
  replaced key row numbers =
      let new : Option (Slot R) = Some (record { place = place; row = row }) in
      let under = under_seen seen key (some_mapped number (row_under (rows_at table place) key) (number row) numbers) in
      let stood : slot_at slots key ≡ Some (record { place = place; row = under.0 }) = under.2.stands in
      let equal : number under.0 ≡ number row = same_Some (number under.0) (number row) (sym (ap (option_map number) under.1) ∙ numbers) in
      let within : key < length slots = slot_within slots key (record { place = place; row = under.0 }) stood in
      let same : SameElsewhere slots (set slots key new) key = λ other differ. get_or-set_other slots key other new None differ in
      let stands : slot_at (set slots key new) key ≡ new = get_or-set_same slots key new None within in
      let one : Option (Slot R) → ℕ = λ slot. cond (is_some slot) 1 0 in
      let change : IsChange number value slots (set slots key new) key place =
      record { same = same; mine = λ other entry differ is. apart_place stood is differ } in
      subst (λ list. IsAfter number value (set slots key new) list room (with_place table place (with_row (rows_at table place) key row)))
      (ap (set indexes place) (seen.is index) ∙ set-get_or indexes place index)
      (after change kept seen view_is (λ rows. with_row rows key row) index index.items refl
      (record {
        rising = seen.entries.rising;
        stand = λ k d inner.
            let is = seen.entries.stand k d inner in
            ⊎_elim
            (λ here. record
            { row = row; stands = ap (slot_at (set slots key new)) here ∙ stands; numbered = sym (same_number stood is here ∙ equal) })
            (λ differ. record
            { row = is.row; stands = same (get_or index.items k d).key differ ∙ is.stands; numbered = is.numbered })
            (cases_eq (get_or index.items k d).key key);
      })
      (sym (rows_with (set slots key new) same stands index.items seen.entries.stand))
      (omega (arith, sum_by-set one slots key new None within, ap one stood)))
    where
      slot_within : (slots : Slots R) (key : ℕ) (slot : Slot R) → slot_at slots key ≡ Some slot → key < length slots
      slot_within slots key slot stood = grind (arith, get_or_past)

  -- a row is changed where it stands, and keeps its number
  pub updated : (key : ℕ) {slot : Slot R} (row : R) → IsSome (row_under (rows_at table place) key) → slot_at slots key ≡ Some slot
      → number row ≡ number slot.row
      → IsAfter number value (set slots key (Some (record { place = slot.place; row = row }))) indexes room
      (with_place table place (with_row (rows_at table place) key row))
  updated key row some stands same = let under = slot_under seen key some stands in rw under.0
      (replaced key row (ap (option_map number) under.1 ∙ ap Some (sym same)))

pub kept_open : {R N : Type 0} {number : R → ℕ} {value : N → ℕ} {slots : Slots R} {indexes : Indexes N} → IsKept number value slots indexes
    → (index : Gapped (Entry N)) → index.items ≡ [] → IsKept number value slots (indexes ++ index ∷ [])
kept_open {N = N} {number = number} {value = value} {slots = slots} {indexes = indexes} kept index items = record {
  each = λ place d within. ⊎_elim
      (λ below. subst (λ (i : Gapped (Entry N)). IsIndex number value slots place i.items)
      (sym (get_or_append_left indexes (index ∷ []) d place below)) (kept.each place d below))
      (λ above.
      subst (λ (i : Gapped (Entry N)). IsIndex number value slots place i.items)
      (sym (get_or_push indexes index d place (omega (arith, within, length_push indexes index))))
      (rw items (record { rising = λ i j e lt inner. absurd (omega arith); stand = λ k e inner. absurd (omega arith) })))
      (cases_lt place (length indexes));
  total = omega (arith, kept.total, sum_by_push (λ (i : Gapped (Entry N)). length i.items) indexes index, ap length items);
}
