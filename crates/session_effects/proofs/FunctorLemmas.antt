-- Values that are looked at one after another beside the kinds of parameters.
use Rattle.std.proofs.Common.{◌≡◌, ◌≤◌, ◌-◌, ℕ, nat_eq, List, [], ◌∷◌, drop, length, arith}
use Rattle.std.specs.Prelude.{◌↔◌, IsTrue}
use Rattle.std.proofs.lemmas.Bool.Decides.{nat_tests}
use Rattle.std.proofs.lemmas.List.{drop_all, length-drop}
use Rattle.signature_core.specs.declared.kind.Kind.{Kind}
use Rattle.variant_value.specs.declared.value.Value.{Value}
use Rattle.stored_slots.specs.Functors.{AreArguments}

-- with no value left they are arguments exactly where no kind is left
pub none_left : (kinds : List Kind) (values : List Value) (at index : ℕ) → length values ≤ index → at ≤ length kinds
    → (AreArguments (drop at kinds) (drop index values) ↔ AreArguments kinds values) → IsTrue (nat_eq at (length kinds)) ↔ AreArguments kinds values
none_left kinds values at index past within both = by (drop at kinds) (length-drop at kinds) (rw (drop_all index values past) at both)
  where
    by : (rest : List Kind) → length rest ≡ length kinds - at → (AreArguments rest [] ↔ AreArguments kinds values)
        → IsTrue (nat_eq at (length kinds)) ↔ AreArguments kinds values
    by [] none both = ((λ is. both.0 tt), (λ are. grind (arith, nat_tests, none, within)))
    by (kind ∷ rest) some both = ((λ is. absurd (grind (arith, nat_tests, some, is))), (λ are. absurd (both.1 are)))
