-- What the words of a command line set.
use Rattle.std.specs.Prelude.{ℕ, ◌≡◌, ◌⊎◌, ◌/◌, ◌≤◌, All, length, sum, min, nat_lt, if◌then◌else◌, List, [], ◌∷◌, replicate, codes, Option, Some, None, Result, Ok, Err}
use Rattle.std.specs.Str.{bytes_eq}
use Rattle.mem_division.specs.Division.{division}
use Rattle.run_settings.specs.Limits.{least_frames, most_frames}
use Rattle.run_settings.specs.Words.{Word, Asked, asked}
use Rattle.run_settings.specs.Numbers.{sizes_of}
use Rattle.run_settings.specs.declared.sizes.Sizes.{Sizes}
use Rattle.run_settings.specs.declared.settings.Settings.{Settings}
use Rattle.run_settings.specs.declared.status.Status.{Status}
use Rattle.run_settings.specs.declared.status.Status.TheVariants.{Usage, OutOfMemory}
use Rattle.run_settings.specs.declared.status.UsageFault.{UsageFault}
use Rattle.run_settings.specs.declared.status.UsageFault.TheVariants.{Words, TooFewFrames, TooManyFrames}

-- a worker for every 24 frames, as far as threads are asked for
abbrev pub workers_of : ℕ → ℕ → ℕ
workers_of threads frames = min threads (frames / least_frames)

-- all frames, divided among the workers, each of which wants at least 24
abbrev pub grants_of : ℕ → ℕ → List ℕ
grants_of workers frames = division frames (replicate workers (least_frames, frames))

-- a grant for each worker, each of 24 frames at least, and together no more than there are
pub record FitFrames (workers frames : ℕ) (grants : List ℕ) : Type 0 where
  pub count : length grants ≡ workers
  pub least : All (λ grant. least_frames ≤ grant) grants
  pub total : sum grants ≤ frames

-- with so many frames
abbrev pub settings_with : ℕ → Word → Sizes → Result Settings UsageFault
settings_with frames script sizes =
    if nat_lt frames least_frames then Err (TooFewFrames frames)
    else if nat_lt most_frames frames then Err (TooManyFrames frames)
    else Ok (record {
      script = script;
      threads = sizes.threads;
      page = sizes.page;
      frames = frames;
      workers = workers_of sizes.threads frames;
      grants = grants_of (workers_of sizes.threads frames) frames;
    })

-- the frames are the pages that the limit has room for
unfoldable pub settings_from : Word → Sizes → Result Settings UsageFault
settings_from script sizes = settings_with (sizes.limit / sizes.page) script sizes

abbrev pub settings_at : Word → Option Sizes → Result Settings UsageFault
settings_at script None = Err Words
settings_at script (Some sizes) = settings_from script sizes

abbrev pub settings_asked : Option Asked → Result Settings UsageFault
settings_asked None = Err Words
settings_asked (Some a) = settings_at a.script (sizes_of a)

-- what the words set, or what is wrong with them
unfoldable pub settings : List Word → Result Settings UsageFault
settings words = settings_asked (asked words)

-- the same behind the word `--check`
unfoldable pub check_settings : List Word → Result Settings UsageFault
check_settings [] = Err Words
check_settings (first ∷ words) = if bytes_eq first (codes "--check") then settings words else Err Words

-- What is there, or wrong words where nothing is, unless memory ran out.
abbrev pub Reads : {X : Type 0} → Option X → Result X Status → Type 0
Reads wanted (Ok x) = wanted ≡ Some x
Reads wanted (Err status) = ((wanted ≡ None) × (status ≡ Usage Words)) ⊎ (status ≡ OutOfMemory)

-- The settings, or the fault of the words, unless memory ran out.
abbrev pub IsSettings : Result Settings UsageFault → Result Settings Status → Type 0
IsSettings wanted (Ok s) = wanted ≡ Ok s
IsSettings wanted (Err status) = ((fault : UsageFault) × (wanted ≡ Err fault) × (status ≡ Usage fault)) ⊎ (status ≡ OutOfMemory)
