-- What the words of a command line say, before any number is read.
use Rattle.std.specs.Prelude.{ℕ, ◌==◌, Bool, ◌&&◌, ◌||◌, nat_le, nat_lt, nat_eq, if◌then◌else◌, List, [], ◌∷◌, map, length, codes, Option, Some, None, option_map, option_and_then}
use Rattle.std.specs.List.{starts_with, before_first, after_first, position_or_len}
use Rattle.std.specs.Str.{bytes_eq}

infixl 10 ◌>>=◌
abbrev pub ◌>>=◌ : {A B : Type 0} → Option A → (A → Option B) → Option B
o >>= f = option_and_then f o

abbrev pub Word : Type 0
Word = List ℕ

-- One thing that the words say: a value of an option, by the option's name, or the script, under no name.
pub record Saying : Type 0 where
  pub option : Word
  pub text : Word

abbrev pub no_option : Word
no_option = []

abbrev pub value : Word → Word → Saying
value name text = record { option = name; text = text }

abbrev pub script : Word → Saying
script word = value no_option word

-- ---- a word by itself

-- `--`, behind which every word is a script
abbrev pub is_mark : Word → Bool
is_mark word = bytes_eq word (codes "--")

-- the word begins with `-` and is longer than that
abbrev pub is_dashed : Word → Bool
is_dashed word = nat_le 2 (length word) && starts_with nat_eq word (45 ∷ [])

abbrev pub is_option_name : Word → Bool
is_option_name name = bytes_eq name (codes "threads") || (bytes_eq name (codes "limit") || bytes_eq name (codes "page"))

abbrev pub behind_dash : Word → Option Word
behind_dash [] = None
behind_dash (byte ∷ rest) = if byte == 45 then Some rest else None

abbrev pub is_equals : ℕ → Bool
is_equals byte = byte == 61

abbrev pub has_equals : Word → Bool
has_equals text = nat_lt (position_or_len is_equals text) (length text)

-- a name, and the value behind the first `=`, where there is one
abbrev pub name_and_value : Word → Word × Option Word
name_and_value text =
    if has_equals text then (before_first is_equals text, Some (after_first is_equals text)) else (text, None)

abbrev pub known : Word × Option Word → Option (Word × Option Word)
known p = if is_option_name p.0 then Some p else None

-- `--name` or `--name=value`, where the name is an option's
abbrev pub option_in : Word → Option (Word × Option Word)
option_in word = do
  one ← behind_dash word
  two ← behind_dash one
  known (name_and_value two)

-- ---- all words

abbrev pub onto : Saying → Option (List Saying) → Option (List Saying)
onto one = option_map (λ others. one ∷ others)

abbrev pub said_option : Word → Option Word → (Option Word → Option (List Saying)) → Option (List Saying)
said_option name None behind = behind (Some name)
said_option name (Some text) behind = onto (value name text) (behind None)

abbrev pub said_dashed : Option (Word × Option Word) → (Option Word → Option (List Saying)) → Option (List Saying)
said_dashed None behind = None
said_dashed (Some p) behind = said_option p.0 p.1 behind

-- What the words say, one after another, where an option waits for its value or none does; nothing where a word that
-- begins with `-` is no option, and where an option has no value.
abbrev pub said : Option Word → List Word → Option (List Saying)
said None [] = Some []
said (Some name) [] = None
said (Some name) (text ∷ words) = if is_dashed text then None else onto (value name text) (said None words)
said None (word ∷ words) =
    if is_mark word then Some (map script words)
    else if is_dashed word then said_dashed (option_in word) (λ waiting. said waiting words)
    else onto (script word) (said None words)

-- ---- what is asked

-- the values of an option, or the scripts
abbrev pub values_of : Word → List Saying → List Word
values_of name [] = []
values_of name (one ∷ others) = if bytes_eq one.option name then one.text ∷ values_of name others else values_of name others

-- none, or one; several are refused
abbrev pub at_most_one : List Word → Option (Option Word)
at_most_one [] = Some None
at_most_one (word ∷ []) = Some (Some word)
at_most_one (word ∷ other ∷ others) = None

-- the script's name, and the text of each number that is given
pub record Asked : Type 0 where
  pub script : Word
  pub threads : Option Word
  pub limit : Option Word
  pub page : Option Word

-- each option at most once, and exactly one script
abbrev pub asked_by : List Saying → Option Asked
asked_by all = do
  threads ← at_most_one (values_of (codes "threads") all)
  limit ← at_most_one (values_of (codes "limit") all)
  page ← at_most_one (values_of (codes "page") all)
  scripts ← at_most_one (values_of no_option all)
  name ← scripts
  Some (record { script = name; threads = threads; limit = limit; page = page })

unfoldable pub asked : List Word → Option Asked
asked words = said None words >>= asked_by
