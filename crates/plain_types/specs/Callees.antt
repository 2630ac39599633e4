-- When two callees are equal.
use Rattle.std.specs.Prelude.{Bool, false, ◌==◌}
use Rattle.plain_types.specs.declared.callee.Callee.{Callee}
use Rattle.plain_types.specs.declared.callee.Callee.TheVariants.{Method, Functor}

-- Whether both are methods, or both are functors, with the same index.
abbrev pub same_callee : Callee → Callee → Bool
same_callee (Method one) (Method other) = one == other
same_callee (Method one) (Functor other) = false
same_callee (Functor one) (Method other) = false
same_callee (Functor one) (Functor other) = one == other
