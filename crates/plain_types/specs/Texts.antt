-- The bytes of a text.
use Rattle.std.specs.Prelude.{ℕ, List}
use Rattle.std.specs.Rc.{rc_str_bytes}
use Rattle.plain_types.specs.ShortText.{short_bytes}
use Rattle.plain_types.specs.declared.text.Kept.{Kept}
use Rattle.plain_types.specs.declared.text.Kept.TheVariants.{Short, Shared}

abbrev pub bytes_kept : Kept → List ℕ
bytes_kept (Short text) = short_bytes text
bytes_kept (Shared text) = rc_str_bytes text
