-- The numbers of a command line: what stands where an option isn't given, and what is taken.
use Rattle.std.specs.Prelude.{ℕ, ◌^◌, ◌==◌, Bool, ◌&&◌, nat_le, ◌∷◌, []}
use Rattle.std.specs.List.{list_any}
use Rattle.run_settings.specs.declared.limits.TheConstants.{DEFAULT_THREADS, DEFAULT_LIMIT, DEFAULT_PAGE, MOST_THREADS, LEAST_FRAMES, MOST_FRAMES, MOST_DIGITS}

abbrev pub default_threads : ℕ
default_threads = DEFAULT_THREADS

abbrev pub default_limit : ℕ
default_limit = DEFAULT_LIMIT

abbrev pub default_page : ℕ
default_page = DEFAULT_PAGE

-- the frames that a worker needs
abbrev pub least_frames : ℕ
least_frames = LEAST_FRAMES

abbrev pub most_frames : ℕ
most_frames = MOST_FRAMES

-- the digits of the longest number
abbrev pub most_digits : ℕ
most_digits = MOST_DIGITS

-- from 1 to 64
abbrev pub is_thread_count : ℕ → Bool
is_thread_count n = nat_le 1 n && nat_le n MOST_THREADS

-- a power of two from 4,096 to 262,144
abbrev pub is_page : ℕ → Bool
is_page n = list_any (λ k. n == 2 ^ k) (12 ∷ 13 ∷ 14 ∷ 15 ∷ 16 ∷ 17 ∷ 18 ∷ [])
