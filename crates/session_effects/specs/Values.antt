-- The arguments of an invoked method.
use Rattle.std.specs.Prelude.{Bool, true, false}
use Rattle.plain_types.specs.declared.code.Code.{Code}
use Rattle.plain_types.specs.declared.code.Code.TheVariants.{Limit}

-- Whether this is the code of a limit.
abbrev pub is_limit : Code → Bool
is_limit Limit = true
is_limit _ = false
