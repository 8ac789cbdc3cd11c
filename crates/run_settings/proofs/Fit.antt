-- A grant for each worker, each of 24 frames at least, and together no more than there are.
use Rattle.std.proofs.Common.{◌≡◌, ℕ, zero, suc, ◌*◌, ◌≤◌, arith, List, [], ◌∷◌, length, ap, refl, replicate}
use Rattle.std.specs.Prelude.{sum, All}
use Rattle.std.proofs.lemmas.List.Elements.{All-nil, All-cons}
use Rattle.mem_division.specs.Division.{least_of, IsWant, AreWithin}
use Rattle.mem_division.proofs.Fitting.{division_within, division_fits}
use Rattle.run_settings.specs.Limits.{least_frames}
use Rattle.run_settings.specs.Settings.{FitFrames, grants_of}
use Rattle.run_settings.proofs.Sums.{least_sum}

all_want : (count least most : ℕ) → least ≤ most → All IsWant (replicate count (least, most))
all_want zero least most le = All-nil IsWant
all_want (suc count) least most le = All-cons IsWant (least, most) (replicate count (least, most)) le (all_want count least most le)

-- what is within equal wants
within_count : (count least most : ℕ) (grants : List ℕ) → AreWithin (replicate count (least, most)) grants → length grants ≡ count
within_count zero least most [] within = refl
within_count zero least most (grant ∷ grants) within = absurd within
within_count (suc count) least most [] within = absurd within
within_count (suc count) least most (grant ∷ grants) within = ap suc (within_count count least most grants within.1)

within_least : (count least most : ℕ) (grants : List ℕ) → AreWithin (replicate count (least, most)) grants → All (λ grant. least ≤ grant) grants
within_least zero least most [] within = All-nil (λ grant. least ≤ grant)
within_least zero least most (grant ∷ grants) within = absurd within
within_least (suc count) least most [] within = absurd within
within_least (suc count) least most (grant ∷ grants) within =
    All-cons (λ (n : ℕ). least ≤ n) grant grants within.0.0 (within_least count least most grants within.1)

pub grants-fit : (workers frames : ℕ) → least_frames ≤ frames → least_frames * workers ≤ frames → FitFrames workers frames (grants_of workers frames)
grants-fit workers frames least enough =
    let wants = all_want workers 24 frames least in
    let within = division_within frames (replicate workers (24, frames)) wants in
    let all : sum (least_of (replicate workers (24, frames))) ≤ frames = let total = least_sum workers 24 frames in omega arith in
    record {
      count = within_count workers 24 frames (grants_of workers frames) within;
      least = within_least workers 24 frames (grants_of workers frames) within;
      total = division_fits frames (replicate workers (24, frames)) wants all;
    }
