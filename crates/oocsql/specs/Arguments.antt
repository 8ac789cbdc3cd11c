-- The words of the command line.
use Rattle.std.specs.Prelude.{ℕ, Bool, false, List, [], ◌∷◌, codes, drop, Result, Ok, Err, String}
use Rattle.std.specs.Str.{bytes_eq}
use Rattle.std.specs.Vec.Iter.{into_iter_items}
use Rattle.std.specs.declared.vec.IntoIter.{IntoIter}
use Rattle.run_settings.specs.Texts.{words_of}

-- The words behind the program's name. None where the arguments can't be had: one of them isn't UTF-8, or memory ran
-- out.
abbrev pub words_behind : {A Z E : Type 0} → Result (IntoIter (String A) Z) E → List (List ℕ)
words_behind (Err error) = []
words_behind (Ok args) = words_of (drop 1 (into_iter_items args))

-- the first word is `--check`
abbrev pub is_check_in : List (List ℕ) → Bool
is_check_in [] = false
is_check_in (word ∷ words) = bytes_eq word (codes "--check")
