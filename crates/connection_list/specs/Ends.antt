-- Tests of a connection's two ends.
use Rattle.std.specs.Prelude.{ℕ, Bool, true, false, ◌==◌, ◌&&◌, ◌||◌, Option, Some, None}
use Rattle.plain_types.specs.declared.callee.Callee.{Callee}
use Rattle.plain_types.specs.declared.callee.Callee.TheVariants.{Method, Functor}
use Rattle.plain_types.specs.Callees.{same_callee}
use Rattle.connection_list.specs.declared.connection.Connection.{Connection}
use Rattle.connection_list.specs.declared.connection.NewConnection.{NewConnection}
use Rattle.connection_list.specs.declared.pattern.Pattern.{Pattern}
use Rattle.connection_list.specs.declared.pattern.Receiver.{Receiver}

-- Whether the new connection has the same ends as the other one, whatever their types.
abbrev pub same_ends : NewConnection → Connection → Bool
same_ends new row = new.sender == row.sender && new.signal == row.signal && new.receiver == row.receiver && same_callee new.callee row.callee

-- Whether this is the wanted number. True if none is given.
abbrev pub allows : Option ℕ → ℕ → Bool
allows None number = true
allows (Some wanted) number = wanted == number

-- Whether this is the wanted method. True if none is given. A functor is not a method.
abbrev pub allows_method : Option ℕ → Callee → Bool
allows_method None callee = true
allows_method (Some wanted) (Method index) = wanted == index
allows_method (Some wanted) (Functor index) = false

-- Whether the callee is a functor.
abbrev pub calls_functor : Callee → Bool
calls_functor (Method index) = false
calls_functor (Functor index) = true

-- Whether the connection has the wanted receiver and method. True if none is given.
abbrev pub allows_receiver : Option Receiver → Connection → Bool
allows_receiver None row = true
allows_receiver (Some wanted) row = wanted.object == row.receiver && allows_method wanted.method row.callee

-- Whether the connection matches the pattern.
abbrev pub matches : Pattern → Connection → Bool
matches pattern row = pattern.sender == row.sender && allows pattern.signal row.signal && allows_receiver pattern.receiver row

-- Whether the object is at either end.
abbrev pub touches : ℕ → Connection → Bool
touches object row = row.sender == object || row.receiver == object

-- Whether this signal of this object calls the connection's callee.
abbrev pub calls : ℕ → ℕ → Connection → Bool
calls sender signal row = row.sender == sender && row.signal == signal
