-- A slot's kinds that are the first of a signal's.
use Rattle.std.proofs.Common.{◌≡◌, ap, subst, refl, Bool, true, List, ◌++◌, length, drop, Decides, rules}
use Rattle.std.specs.List.{starts_with}
use Rattle.std.proofs.lemmas.Slice.Eq.{bytes_eq-Decides, starts_is}
use Rattle.std.proofs.lemmas.Bool.Decides.{same_from_decides}
use denote.Enum.Bare.{same_true}
use Rattle.signature_core.specs.declared.kind.Kind.{Kind}
use Rattle.signature_core.specs.contracts.kind.Kind.{the_type}
use Rattle.signature_core.specs.contracts.kind.KindPartialEq.TheImpl.{eq-value}
use Rattle.signature_core.specs.Kinds.{kind_name, is_same_kind, fits}
use Rattle.signature_core.proofs.KindLemmas.{by_kind, kind_name_same}

-- `==` of two kinds
Decides-eq : (j k : Kind) → Decides (eq-value.it j k) (j ≡ k)
Decides-eq j k =
    let same : eq-value.it j j ≡ true = by_kind (λ kind. eq-value.it kind kind ≡ true) refl refl refl refl refl refl j in
    (λ e. same_true the_type (search rules) _ _ e, λ e. let P : Kind → Type 0 = λ kind. eq-value.it j kind ≡ true in subst P e same)

-- a test of kinds that tells them apart tells whether the rest of s completes p
Decides-starts_with : {E : Kind → Kind → Bool} → ((j k : Kind) → Decides (E j k) (j ≡ k)) → (s p : List Kind)
    → Decides (starts_with E s p) ((rest : List Kind) × (s ≡ p ++ rest))
Decides-starts_with {E} decides s p =
    let both = starts_is decides s p (starts_with E s p) refl in
    (λ e. (drop (length p) s, both.0 e), λ w. both.1 w.0 w.1)

-- what the code's `starts_with` answers
pub Decides-starts : (s p : List Kind) → Decides (starts_with eq-value.it s p) ((rest : List Kind) × (s ≡ p ++ rest))
Decides-starts = Decides-starts_with Decides-eq

pub Decides-is_same_kind : (j k : Kind) → Decides (is_same_kind j k) (j ≡ k)
Decides-is_same_kind j k =
    let names = bytes_eq-Decides (kind_name j) (kind_name k) in
    (λ e. kind_name_same j k (names.0 e), λ e. names.1 (ap kind_name e))

pub Decides-fits : (signal slot : List Kind) → Decides (fits signal slot) ((rest : List Kind) × (signal ≡ slot ++ rest))
Decides-fits = Decides-starts_with Decides-is_same_kind

pub starts-fits : (s p : List Kind) → starts_with eq-value.it s p ≡ fits s p
starts-fits s p = same_from_decides _ (fits s p) (Decides-starts s p) (Decides-fits s p)
