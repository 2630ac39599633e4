-- The settings of a server, which never change.
use Rattle.std.specs.Prelude.{ℕ, List}
use Rattle.class_table.specs.declared.class.Class.{Class}
use Rattle.stored_slots.specs.declared.functor.Functor.{Functor}

pub record Settings : Type 0 where
  -- How many turns each command has for the calls that it causes.
  pub turns : ℕ
  -- The classes that objects may have, by index.
  pub classes : List Class
  -- The functors that signals may be connected to, by index.
  pub functors : List Functor
