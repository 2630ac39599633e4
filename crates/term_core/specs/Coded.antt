-- How the logic stores an expression.
use Rattle.std.proofs.Common.{◌≡◌, ◌≢◌, ℕ, ap, refl, arith}
use Rattle.std.specs.Coded.{Coded, coded_ℕ, coded_list}
use base.Stored.{Gv, gnil, gnum, gcons}
use Rattle.variant_value.specs.contracts.value.Value as value
use Rattle.term_core.specs.contracts.target.Target as target
use Rattle.term_core.specs.contracts.operator.Operator as operator
use Rattle.term_core.specs.Term.{Term, const, arg, state, prop, binary, choice}

abbrev pub head : Gv → Gv
head gnil = gnil
head (gnum n) = gnil
head (gcons a b) = a

abbrev pub tail : Gv → Gv
tail gnil = gnil
tail (gnum n) = gnil
tail (gcons a b) = b

pub apart : (m n : ℕ) {a b : Gv} → gcons (gnum m) a ≡ gcons (gnum n) b → m ≢ n → ⊥
apart m n p other = other (cc)

abbrev pub term_code : Term → Gv
term_code (const a0) = gcons (gnum 0) (value.the_row.coded.code a0)
term_code (arg a0) = gcons (gnum 1) (coded_ℕ.code a0)
term_code state = gcons (gnum 2) gnil
term_code (prop a0 a1) = gcons (gnum 3) (gcons (target.the_row.coded.code a0) ((coded_list coded_ℕ).code a1))
term_code (binary a0 a1 a2) = gcons (gnum 4) (gcons (operator.the_row.coded.code a0) (gcons (term_code a1) (term_code a2)))
term_code (choice a0 a1 a2) = gcons (gnum 5) (gcons (term_code a0) (gcons (term_code a1) (term_code a2)))

pub term_inj : (x y : Term) → term_code x ≡ term_code y → x ≡ y
term_inj (const a0) (const b0) p = λ i. const (value.the_row.coded.inj a0 b0 (ap (λ g. tail g) p) i)
term_inj (const a0) (arg b0) p = absurd (apart 0 1 p (omega arith))
term_inj (const a0) state p = absurd (apart 0 2 p (omega arith))
term_inj (const a0) (prop b0 b1) p = absurd (apart 0 3 p (omega arith))
term_inj (const a0) (binary b0 b1 b2) p = absurd (apart 0 4 p (omega arith))
term_inj (const a0) (choice b0 b1 b2) p = absurd (apart 0 5 p (omega arith))
term_inj (arg a0) (const b0) p = absurd (apart 1 0 p (omega arith))
term_inj (arg a0) (arg b0) p = λ i. arg (coded_ℕ.inj a0 b0 (ap (λ g. tail g) p) i)
term_inj (arg a0) state p = absurd (apart 1 2 p (omega arith))
term_inj (arg a0) (prop b0 b1) p = absurd (apart 1 3 p (omega arith))
term_inj (arg a0) (binary b0 b1 b2) p = absurd (apart 1 4 p (omega arith))
term_inj (arg a0) (choice b0 b1 b2) p = absurd (apart 1 5 p (omega arith))
term_inj state (const b0) p = absurd (apart 2 0 p (omega arith))
term_inj state (arg b0) p = absurd (apart 2 1 p (omega arith))
term_inj state state p = refl
term_inj state (prop b0 b1) p = absurd (apart 2 3 p (omega arith))
term_inj state (binary b0 b1 b2) p = absurd (apart 2 4 p (omega arith))
term_inj state (choice b0 b1 b2) p = absurd (apart 2 5 p (omega arith))
term_inj (prop a0 a1) (const b0) p = absurd (apart 3 0 p (omega arith))
term_inj (prop a0 a1) (arg b0) p = absurd (apart 3 1 p (omega arith))
term_inj (prop a0 a1) state p = absurd (apart 3 2 p (omega arith))
term_inj (prop a0 a1) (prop b0 b1) p =
    λ i. prop (target.the_row.coded.inj a0 b0 (ap (λ g. head (tail g)) p) i) ((coded_list coded_ℕ).inj a1 b1 (ap (λ g. tail (tail g)) p) i)
term_inj (prop a0 a1) (binary b0 b1 b2) p = absurd (apart 3 4 p (omega arith))
term_inj (prop a0 a1) (choice b0 b1 b2) p = absurd (apart 3 5 p (omega arith))
term_inj (binary a0 a1 a2) (const b0) p = absurd (apart 4 0 p (omega arith))
term_inj (binary a0 a1 a2) (arg b0) p = absurd (apart 4 1 p (omega arith))
term_inj (binary a0 a1 a2) state p = absurd (apart 4 2 p (omega arith))
term_inj (binary a0 a1 a2) (prop b0 b1) p = absurd (apart 4 3 p (omega arith))
term_inj (binary a0 a1 a2) (binary b0 b1 b2) p = λ i. binary (operator.the_row.coded.inj a0 b0 (ap (λ g. head (tail g)) p) i)
    (term_inj a1 b1 (ap (λ g. head (tail (tail g))) p) i) (term_inj a2 b2 (ap (λ g. tail (tail (tail g))) p) i)
term_inj (binary a0 a1 a2) (choice b0 b1 b2) p = absurd (apart 4 5 p (omega arith))
term_inj (choice a0 a1 a2) (const b0) p = absurd (apart 5 0 p (omega arith))
term_inj (choice a0 a1 a2) (arg b0) p = absurd (apart 5 1 p (omega arith))
term_inj (choice a0 a1 a2) state p = absurd (apart 5 2 p (omega arith))
term_inj (choice a0 a1 a2) (prop b0 b1) p = absurd (apart 5 3 p (omega arith))
term_inj (choice a0 a1 a2) (binary b0 b1 b2) p = absurd (apart 5 4 p (omega arith))
term_inj (choice a0 a1 a2) (choice b0 b1 b2) p = λ i. choice (term_inj a0 b0 (ap (λ g. head (tail g)) p) i)
    (term_inj a1 b1 (ap (λ g. head (tail (tail g))) p) i) (term_inj a2 b2 (ap (λ g. tail (tail (tail g))) p) i)

abbrev pub coded_term : Coded Term
coded_term = record { code = term_code; inj = term_inj }
