-- How a run asks its source.
use Rattle.std.proofs.Common.{◌≡◌, ◌+◌, ◌≤◌, ℕ, Result, Ok, Err, IsOk, sym, subst, refl, arith}
use Rattle.std.specs.Prelude.{◌≢◌}
use Rattle.wire_format.specs.Counts.{FailsOnce}
use Rattle.wire_lines.specs.declared.fault.RunFault.{RunFault}
use Rattle.wire_lines.specs.declared.fault.RunFault.TheVariants.{Read, Write, Endless, Memory}
use Rattle.wire_lines.specs.declared.stream.Summary.{Summary}
use Rattle.wire_lines.specs.Run.{AsksSource, HasAsked, ReadFails, Reads, UsesDevices, WriteFails}
use Rattle.wire_lines.proofs.SliceEnds.{WriteFails-other}

-- where a run stops, at most one call gave nothing
pub AsksSource-stopped : {T : Type 0} (most : ℕ) (old new : Reads) (gave others : ℕ) → new.calls ≤ old.calls + most → HasAsked (gave + others) gave old new
    → others ≤ 1
    → (fault : RunFault) (r : Result T RunFault) → r ≡ Err fault → AsksSource most old new r
AsksSource-stopped most old new gave others within counted once fault r is = record {
  within = within;
  gave = gave;
  others = others;
  counted = counted;
  once = once;
  ended = λ ok. absurd (cc (subst IsOk is ok));
}

-- where a run ends, the last call found the end of the input
pub AsksSource-ended : {T : Type 0} (most : ℕ) (old new : Reads) (gave : ℕ) (r : Result T RunFault) → new.calls ≤ old.calls + most
    → HasAsked (gave + 1) gave old new → AsksSource most old new r
AsksSource-ended most old new gave r within counted = record {
  within = within;
  gave = gave;
  others = 1;
  counted = counted;
  once = omega arith;
  ended = λ ok. refl;
}

-- another answer tells of the same calls, which is `Ok` only where the first one is
pub AsksSource-means : {T U : Type 0} (most : ℕ) (old new : Reads) (r : Result T RunFault) (s : Result U RunFault) → (IsOk s → IsOk r)
    → AsksSource most old new r → AsksSource most old new s
AsksSource-means most old new r s means asks = record {
  within = asks.within;
  gave = asks.gave;
  others = asks.others;
  counted = asks.counted;
  once = asks.once;
  ended = λ ok. asks.ended (means ok);
}

pub AsksSource-failed : {T U : Type 0} (most : ℕ) (old new : Reads) (r : Result T RunFault) (fault : RunFault) (s : Result U RunFault) → s ≡ Err fault
    → AsksSource most old new r → AsksSource most old new s
AsksSource-failed most old new r fault s is = AsksSource-means most old new r s (λ ok. absurd (cc (subst IsOk is ok)))

pub ReadFails-other : {T : Type 0} (old new : ℕ) (fault : RunFault) (r : Result T RunFault) → r ≡ Err fault → fault ≢ Read → new ≡ old → ReadFails old new r
ReadFails-other {T = T} old new fault r is other same = subst (ReadFails old new) (sym is) (by fault other)
  where
    by : (fault : RunFault) → fault ≢ Read → ReadFails {T = T} old new (Err fault)
    by Read other = absurd (other refl)
    by Write other = same
    by Endless other = same
    by Memory other = same

-- all was read, and then no device failed
pub UsesDevices-spared : {T : Type 0} (most : ℕ) (calls calls_after : Reads) (source source_after sink : ℕ) (bytes : T) (fault : RunFault)
    (r : Result Summary RunFault)
    → r ≡ Err fault → fault ≢ Read → fault ≢ Write → AsksSource {T = T} most calls calls_after (Ok bytes) → source_after ≡ source
    → UsesDevices most calls calls_after source source_after sink sink r
UsesDevices-spared most calls calls_after source source_after sink bytes fault r is unread unwritten asks same = record {
  asked = AsksSource-means most calls calls_after (Ok bytes) r (λ _. refl) asks;
  read = ReadFails-other source source_after fault r is unread same;
  write = WriteFails-other sink sink fault r is unwritten refl;
}

pub UsesDevices-wanting : {T : Type 0} (most : ℕ) (calls calls_after : Reads) (source source_after sink : ℕ) (bytes : T) (r : Result Summary RunFault)
    → r ≡ Err Memory → AsksSource {T = T} most calls calls_after (Ok bytes) → source_after ≡ source
    → UsesDevices most calls calls_after source source_after sink sink r
UsesDevices-wanting most calls calls_after source source_after sink bytes r is =
    UsesDevices-spared most calls calls_after source source_after sink bytes Memory r is (λ other. absurd (cc other)) (λ other. absurd (cc other))

-- or the sink did
pub UsesDevices-unwritten : {T : Type 0} (most : ℕ) (calls calls_after : Reads) (source source_after sink sink_after : ℕ) (bytes : T)
    (r : Result Summary RunFault)
    → r ≡ Err Write → AsksSource {T = T} most calls calls_after (Ok bytes) → source_after ≡ source → FailsOnce sink sink_after
    → UsesDevices most calls calls_after source source_after sink sink_after r
UsesDevices-unwritten most calls calls_after source source_after sink sink_after bytes r is asks same once = record {
  asked = AsksSource-means most calls calls_after (Ok bytes) r (λ _. refl) asks;
  read = ReadFails-other source source_after Write r is (λ other. absurd (cc other)) same;
  write = subst (WriteFails sink sink_after) (sym is) once;
}
