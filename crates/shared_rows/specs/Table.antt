-- What contracts see of a table: the values by place, and how many places can be opened without memory.
use Rattle.std.specs.Prelude.{◌≡◌, ℕ, ◌-◌, ◌<◌, ◌≤◌, List, [], ◌∷◌, ◌++◌, OnErr, OnOk, Result, length, slice_index_or, slice_set, refl}
use Rattle.std.specs.Coded.{Coded, code_by, coded×, coded_list, coded_ℕ}

pub record Table (T : Type 0) : Type 0 where
  pub places : List T
  pub room : ℕ

-- A table is stored as the pair of its fields.
abbrev pub table_code : {T : Type 0} → Coded T → Coded (Table T)
table_code {T} code =
    code_by (List T × ℕ) (coded× (coded_list code) coded_ℕ) (λ t. (t.places, t.room)) (λ p. record { places = p.0; room = p.1 }) (λ _. refl)

-- The place has been opened.
abbrev pub IsPlace : {T : Type 0} → Table T → ℕ → Type 0
IsPlace table place = place < length table.places

-- The table with another place.
abbrev pub opened : {T : Type 0} → Table T → T → Table T
opened table value = record { places = table.places ++ value ∷ []; room = table.room - 1 }

-- Room for another place was made. If that failed, there was none and nothing has changed.
pub record MakesRoom {T A E : Type 0} (old new : Table T) (result : Result A E) : Type 0 where
  pub places : new.places ≡ old.places
  pub room : OnOk result (1 ≤ new.room)
  pub kept : old.room ≤ new.room
  pub full : OnErr result (old.room ≡ 0)
  pub err : OnErr result (new ≡ old)

-- The next place was opened with a value.
pub record Opens {T : Type 0} (old : Table T) (value : T) (new : Table T) (result : ℕ) : Type 0 where
  pub place : result ≡ length old.places
  pub opened : new ≡ opened old value

-- The table with a different value at a place.
abbrev pub with_place : {T : Type 0} → Table T → ℕ → T → Table T
with_place table place value = record { places = slice_set table.places place value; room = table.room }

-- The table has a different value at a place, and nothing else has changed.
abbrev pub ChangesAt : {T : Type 0} → T → ℕ → Table T → Table T → Type 0
ChangesAt default place old new = new ≡ with_place old place (slice_index_or new.places place default)
