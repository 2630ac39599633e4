-- Valid names.
use Rattle.std.specs.Prelude.{ℕ, ◌==◌, ◌&&◌, ◌||◌, Bool, false, List, [], ◌∷◌, length, nat_le}
use Rattle.std.specs.List.{list_all}
use Rattle.plain_types.specs.declared.name.TheConstants.{NAME_BYTES}

-- Whether the byte is between these two, or one of them.
abbrev pub is_between : ℕ → ℕ → ℕ → Bool
is_between least most byte = nat_le least byte && nat_le byte most

-- Whether a byte may begin a name: an ASCII letter or an underscore.
abbrev pub is_name_start : ℕ → Bool
is_name_start byte = is_between 65 90 byte || is_between 97 122 byte || byte == 95

-- Whether a byte may be in a name: an ASCII letter, a digit or an underscore.
abbrev pub is_name_byte : ℕ → Bool
is_name_byte byte = is_name_start byte || is_between 48 57 byte

-- Whether these bytes are a valid name: a letter or underscore, then letters, digits and underscores, and not too many.
abbrev pub is_name : List ℕ → Bool
is_name [] = false
is_name (first ∷ rest) = is_name_start first && list_all is_name_byte rest && nat_le (length (first ∷ rest)) NAME_BYTES
