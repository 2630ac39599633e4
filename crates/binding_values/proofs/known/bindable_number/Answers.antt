use Rattle.std.proofs.Common.{◌≡◌, ◌≤◌, Bool, true, false, cond, not, List, Some, None, length, nat_lt, position, refl, arith, sym, ◌∙◌}
use Rattle.std.specs.List.{position_or_len}
use Rattle.std.proofs.lemmas.Bool.Decides.{nat_tests}
use Rattle.std.proofs.lemmas.List.Sums.{prefix_len-le-length}
use Rattle.binding_values.proofs.known.bindable_number.Goals as goal

past : {X : Type 0} (p : X → Bool) (xs : List X) → position p xs ≡ None → length xs ≡ position_or_len p xs
past p xs none = by (nat_lt (position_or_len p xs) (length xs)) refl none (prefix_len-le-length (λ x. not (p x)) xs)
  where
    by : (t : Bool) → nat_lt (position_or_len p xs) (length xs) ≡ t → cond t (Some (position_or_len p xs)) None ≡ None → position_or_len p xs ≤ length xs
        → length xs ≡ position_or_len p xs
    by true e none le = absurd (cc)
    by false e none le = grind (arith, nat_tests)

pub returns-in-None : goal.returns-in-None
returns-in-None c = past _ _ (sym c.bindable_at.ensures ∙ c.in-None.is)
