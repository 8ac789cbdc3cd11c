-- What the words say, from the front.
use Rattle.std.specs.Prelude.{if◌then◌else◌, List, [], ◌∷◌, ◌++◌, Option, Some, None, option_map}
use Rattle.run_settings.specs.Words.{Word, Saying, value, script, is_dashed, option_in, at_most_one}

-- the value in the next word, and the words behind it
abbrev pub next_value : Word → List Word → Option (Saying × List Word)
next_value name [] = None
next_value name (text ∷ words) = if is_dashed text then None else Some (value name text, words)

abbrev pub first_option : Word → Option Word → List Word → Option (Saying × List Word)
first_option name None words = next_value name words
first_option name (Some text) words = Some (value name text, words)

abbrev pub first_dashed : Option (Word × Option Word) → List Word → Option (Saying × List Word)
first_dashed None words = None
first_dashed (Some p) words = first_option p.0 p.1 words

-- the first thing that a word that is no mark says, and the words behind it
abbrev pub first_said : Word → List Word → Option (Saying × List Word)
first_said word words = if is_dashed word then first_dashed (option_in word) words else Some (script word, words)

-- what was said, and what is said behind it
abbrev pub after : List Saying → Option (List Saying) → Option (List Saying)
after front = option_map (λ others. front ++ others)

-- the value that was found, if any, and more values
abbrev pub with_found : Option Word → List Word → Option (Option Word)
with_found None words = at_most_one words
with_found (Some found) words = at_most_one (found ∷ words)

abbrev pub then_found : Option (Option Word) → List Word → Option (Option Word)
then_found None words = None
then_found (Some found) words = with_found found words
