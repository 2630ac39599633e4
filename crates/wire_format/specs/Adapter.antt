-- What a contract sees of a `Counted`.
use Rattle.std.specs.Prelude.{ℕ}
use Rattle.wire_format.specs.declared.adapter.Counted.{Counted}

-- The device that it reads from or writes to.
abbrev pub counted_device : {D : Type 0} → Counted D → D
counted_device c = c.device

-- How often bytes were read from it.
abbrev pub counted_reads : {D : Type 0} → Counted D → ℕ
counted_reads c = c.reads

-- How often it gave bytes.
abbrev pub counted_gave : {D : Type 0} → Counted D → ℕ
counted_gave c = c.gave

-- How often the device failed.
abbrev pub counted_failures : {D : Type 0} → Counted D → ℕ
counted_failures c = c.failures
