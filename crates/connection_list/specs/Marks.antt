-- Marks of connections. No public clause cites this module.
use Rattle.std.specs.Prelude.{ℕ, ◌+◌, ◌*◌, min, Option, Some, None}
use Rattle.plain_types.specs.declared.callee.Callee.{Callee}
use Rattle.plain_types.specs.declared.callee.Callee.TheVariants.{Method, Functor}
use Rattle.connection_list.specs.declared.mark.Marks.{Marks}

-- What a signal adds to a mark.
abbrev pub signal_mark : ℕ → ℕ
signal_mark signal = 65536 * min signal 65535

-- What a callee adds to a mark.
abbrev pub callee_mark : Callee → ℕ
callee_mark (Method index) = min index 32767
callee_mark (Functor index) = 32768 + min index 32767

-- The mark of connections of a signal to a callee.
abbrev pub mark_of : ℕ → Callee → ℕ
mark_of signal callee = signal_mark signal + callee_mark callee

abbrev pub one_mark : ℕ → Marks
one_mark mark = record { least = mark; greatest = mark }

-- The marks of connections of a signal, and to a method if one is named. Any, if no signal is named.
abbrev pub marks_of : Option ℕ → Option ℕ → Option Marks
marks_of None method = None
marks_of (Some signal) None = Some (record { least = signal_mark signal; greatest = signal_mark signal + 65535 })
marks_of (Some signal) (Some index) = Some (one_mark (mark_of signal (Method index)))
