-- What was found, by the parts of the search.
use Rattle.std.proofs.Common.{◌≡◌, Bool, true, false, cond, Option, Some, None, Ok, Err, refl}
use Rattle.std.specs.Option.{ok_or}
use Rattle.session_model.proofs.Common.{Code, Found, behind, ◌>>=◌}

-- a first thing was found, and then the rest by it
pub then_found : {A B : Type 0} (found : Found A) (rest : A → Found B) {value : B} → (found >>= rest) ≡ Ok value
    → (one : A) × (found ≡ Ok one) × (rest one ≡ Ok value)
then_found (Ok one) rest e = (one, refl, e)
then_found (Err code) rest e = absurd (cc)

-- a test passed
pub if_found : {A : Type 0} (passes : Bool) (found : Found A) (code : Code) {value : A} → cond passes found (Err code) ≡ Ok value
    → (passes ≡ true) × (found ≡ Ok value)
if_found true found code e = (refl, e)
if_found false found code e = absurd (cc)

-- it was there
pub some_found : {A : Type 0} (found : Option A) (code : Code) {value : A} → ok_or found code ≡ Ok value → found ≡ Some value
some_found (Some one) code e = cc
some_found None code e = absurd (cc)

-- what is looked for behind a refusal is found where it is there
pub found_past : {A : Type 0} (refusal : Option Code) (found : Found A) (value : A) → behind refusal found ≡ Ok value → found ≡ Ok value
found_past None found value e = e
found_past (Some code) found value e = absurd (cc)
