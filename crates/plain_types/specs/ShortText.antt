-- The bytes of a short text.
use Rattle.std.specs.Prelude.{ℕ, List, take}
use Rattle.plain_types.specs.declared.short_text.ShortText.{ShortText}

abbrev pub short_bytes : ShortText → List ℕ
short_bytes text = take text.len text.bytes
