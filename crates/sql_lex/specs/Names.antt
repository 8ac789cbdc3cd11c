-- Names, plain and between double quotes, as to their bytes.
use Rattle.std.specs.Prelude.{ℕ, List, Bool, ◌||◌, ◌==◌}
use Rattle.std.specs.List.{prefix_len}
use Rattle.std.specs.Char.{is_ascii_alphabetic, is_ascii_alphanumeric}

-- a letter or `_`
abbrev pub is_name_start : ℕ → Bool
is_name_start c = is_ascii_alphabetic c || (c == 95)

-- a letter, a digit or `_`
abbrev pub is_name_byte : ℕ → Bool
is_name_byte c = is_ascii_alphanumeric c || (c == 95)

-- how many bytes the name at the front takes
abbrev pub name_length : List ℕ → ℕ
name_length text = prefix_len is_name_byte text

-- how many bytes a name has at most
abbrev pub name_limit : ℕ
name_limit = 63
