-- Fields from a place on.
use Rattle.std.specs.Prelude.{ℕ, ◌==◌, List, [], if◌then◌else◌, nat_lt, length, drop}
use Rattle.std.specs.List.{slice_split}

-- the parts of a record from a place on, and none past its end
unfoldable pub rest_fields : ℕ → List ℕ → ℕ → List (List ℕ)
rest_fields d bytes from = if nat_lt (length bytes) from then [] else slice_split (λ byte. byte == d) (drop from bytes)
