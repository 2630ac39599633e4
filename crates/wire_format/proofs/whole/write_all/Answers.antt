use Rattle.std.proofs.Common.{ℕ, ◌+◌, ◌-◌, List, ◌++◌, length, take, drop, Option, sym, ap, ◌∙◌, subst, arith}
use Rattle.std.proofs.Math.Seq.{take-add}
use Rattle.std.proofs.lemmas.List.{take_rest}
use Rattle.std.specs.Io.KnownBytes.{Appends}
use Rattle.std.proofs.KnownBytes.{Appends-trans}
use Rattle.std.proofs.lemmas.Grind.{common_steps}
use Rattle.wire_format.proofs.whole.write_all.Goals as goal

-- the first i bytes, and then the next n
Appends-more : (a b c : Option (List ℕ)) (i n : ℕ) (bytes : List ℕ) → Appends a b (take i bytes)
    → Appends b c (take n (take (length bytes - i) (drop i bytes))) → Appends a c (take (i + n) bytes)
Appends-more a b c i n bytes before now =
    let joined = take-add i n bytes ∙ ap (λ rest. take i bytes ++ take n rest) (sym (take_rest bytes i)) in
    subst (Appends a c) (sym joined) (Appends-trans a b c _ _ before now)

pub loop-taken-preserved : goal.loop-taken-preserved
loop-taken-preserved g c = record {
  in_range = grind (arith, common_steps);
  bytes = Appends-more _ _ _ _ _ _ c.loop-taken.invariant.bytes c.in_ok-count.ensures.bytes;
  failures = grind (arith, common_steps);
}

pub returns-clause-bytes : goal.returns-clause-bytes
returns-clause-bytes g c = grind (arith, common_steps)

pub returns-then-count-eq0-clause-bytes : goal.returns-then-count-eq0-clause-bytes
returns-then-count-eq0-clause-bytes g c = grind (arith, common_steps)

pub returns-then-count-eq0-clause-counted : goal.returns-then-count-eq0-clause-counted
returns-then-count-eq0-clause-counted g c = grind (arith, common_steps)
