use Rattle.std.proofs.Common.{◌≡◌, ◌==◌, Bool, drop, get_or, true, false, ap, ◌∙◌, arith, take_all, length-drop}
use Rattle.std.proofs.lemmas.Bool.{ne_eqb}
use Rattle.fast_float.specs.Text.{Parts, scan}
use Rattle.json_reading.specs.Reals.{numeral_in}
use Rattle.json_reading.proofs.real.numeral.Goals as goal

pub returns-then-byte_at-eq45 : goal.returns-then-byte_at-eq45
unfolding numeral_in
returns-then-byte_at-eq45 c =
    let s = c.as_bytes-bytes.result.now in
    let first : get_or s 0 0 ≡ 45 = cc in
    let signed : (get_or s 0 0 == 45) ≡ true = ap (λ x. x == 45) first in
    let parts : c.scan.result ≡ scan (drop 1 s) = c.scan.ensures.parts ∙ ap scan (take_all _ (drop 1 s) (omega (arith, length-drop 1 s))) in
    let is : ◌≡◌ {A = Bool × Parts} (true, scan (drop 1 s)) (numeral_in s) = rw signed in
    ap (λ (p : Parts). (true, p)) parts ∙ is ∙ ap numeral_in c.as_bytes-bytes.ensures.value

pub returns-else-byte_at-eq45 : goal.returns-else-byte_at-eq45
unfolding numeral_in
returns-else-byte_at-eq45 c =
    let s = c.as_bytes-bytes.result.now in
    let unsigned : (get_or s 0 0 == 45) ≡ false = ne_eqb (get_or s 0 0) 45 (λ (e : get_or s 0 0 ≡ 45). omega (arith, e, c.byte_at.ensures)) in
    let is : ◌≡◌ {A = Bool × Parts} (false, scan s) (numeral_in s) = rw unsigned in
    ap (λ (p : Parts). (false, p)) c.scan-else-byte_at-eq45.ensures.parts ∙ is ∙ ap numeral_in c.as_bytes-bytes.ensures.value
