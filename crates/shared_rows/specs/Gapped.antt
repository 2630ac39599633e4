-- What contracts see of a gap buffer.
use Rattle.std.specs.Prelude.{ℕ, List, refl}
use Rattle.std.specs.Coded.{Coded, code_by, coded×, coded_list, coded_ℕ}

-- A list, and for how many elements it has room.
pub record Gapped (T : Type 0) : Type 0 where
  pub items : List T
  pub capacity : ℕ

-- It is stored as the pair of these fields.
abbrev pub gapped_code : {T : Type 0} → Coded T → Coded (Gapped T)
gapped_code {T} code =
    code_by (List T × ℕ) (coded× (coded_list code) coded_ℕ) (λ g. (g.items, g.capacity)) (λ p. record { items = p.0; capacity = p.1 }) (λ _. refl)
