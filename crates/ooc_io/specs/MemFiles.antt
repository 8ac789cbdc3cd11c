-- Files in memory. Of two with one name the first counts.
use Rattle.std.specs.Prelude.{ℕ, List, [], map, String, Vec, slice_get}
use Rattle.std.specs.Option.{option_map_or}
use Rattle.std.specs.String.{string_bytes}
use Rattle.std.specs.FinMap.{from_entries}
use Rattle.std.specs.declared.alloc.Global.{Global}
use Rattle.ooc_io.specs.Held.{Held}

abbrev pub NamedFile : Type 0
NamedFile = String Global × Vec ℕ Global

abbrev pub entry_of : NamedFile → List ℕ × List ℕ
entry_of file = (string_bytes file.0, file.1.items)

-- the bytes under each name
abbrev pub held_by : List NamedFile → Held
held_by files = from_entries (map entry_of files)

-- the bytes of the file at a place
abbrev pub bytes_at : List NamedFile → ℕ → List ℕ
bytes_at files i = option_map_or (λ file. file.1.items) (slice_get files i) []
