-- An expression that is read as a binding's is within the limits.
use Rattle.std.proofs.Common.{◌≡◌, Bool, true, false, cond, Ok, Err, refl, subst}
use Rattle.session_model.proofs.Common.{Limit, Data, is_within_limits, Term}
use Rattle.term_core.specs.Forms.{binding_term_of, term_in, within_limits}
use Rattle.term_core.specs.Json.{Read, ◌>>=◌}

by_scope : (scope : _) (json : Data) (term : Term) → (term_in scope json >>= within_limits) ≡ Ok term → is_within_limits term ≡ true
by_scope scope json term is = by (term_in scope json) is
  where
    within : (read : Term) (short : Bool) → is_within_limits read ≡ short → cond short (Ok read) (Err Limit) ≡ Ok term → is_within_limits term ≡ true
    within read true e f = let same : read ≡ term = cc in subst (λ (term : Term). is_within_limits term ≡ true) same e
    within read false e f = absurd (cc)

    by : (read : Read Term) → (read >>= within_limits) ≡ Ok term → is_within_limits term ≡ true
    by (Err code) e = absurd (cc)
    by (Ok read) e = within read (is_within_limits read) refl e

pub bound_term_short : (json : Data) (term : Term) → binding_term_of json ≡ Ok term → is_within_limits term ≡ true
bound_term_short json term is = by_scope _ json term is
