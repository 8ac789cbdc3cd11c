-- Numbers of which each is drawn once.
use Rattle.std.specs.Prelude.{◌≡◌, ℕ, ◌^◌, ◌<◌, ◌≤◌, Bool, true, false, List}
use Rattle.number_bags.specs.Bags.{times}

-- a count leaves room for the draws past it
abbrev pub count_limit : ℕ
count_limit = 2 ^ 63

-- t is how often the number x stands among those below n: once where it is below, else never
abbrev pub IsOnce : ℕ → ℕ → ℕ → Type 0
IsOnce x n t = (x < n → t ≡ 1) × (n ≤ x → t ≡ 0)

-- each number below n stands in the list once, and no other does
abbrev pub IsEachBelow : ℕ → List ℕ → Type 0
IsEachBelow n draws = (x : ℕ) → IsOnce x n (times draws x)

-- a seat's parts, where it is ended
abbrev pub over_if : Bool → ℕ → ℕ
over_if true parts = parts
over_if false parts = 0
