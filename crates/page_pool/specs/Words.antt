-- The word of a cell: how many read the page, and whether somebody changes it.
use Rattle.std.specs.Prelude.{◌≢◌, ℕ}

-- a page that nobody reads and nobody changes
abbrev pub idle_word : ℕ
idle_word = 1

-- somebody reads the page or changes it
abbrev pub ShowsClaim : ℕ → Type 0
ShowsClaim word = word ≢ idle_word
