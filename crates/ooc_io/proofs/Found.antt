-- The first file of a name, by a scan and in the finite map.
use Rattle.std.proofs.Common.{◌≡◌, ℕ, ◌+◌, ◌<◌, true, false, cond, List, [], ◌∷◌, map, length, drop, get_or, suc, refl, sym, ◌∙◌, ap, arith, Option, Some, None}
use Rattle.std.specs.Option.{option_map_or}
use Rattle.std.proofs.lemmas.Option.{slice_get_read}
use Rattle.std.proofs.Math.Seq.{drop-cons}
use Rattle.std.specs.String.{string_bytes}
use Rattle.std.specs.Str.{bytes_eq}
use Rattle.std.specs.Ordering.{nat_cmp}
use Rattle.std.specs.Cmp.Lexicographic.{slice_cmp}
use Rattle.std.proofs.lemmas.Cmp.{nat_list_cmp_total}
use Rattle.std.proofs.lemmas.Map.Text.{is_eq-slice_cmp}
use Rattle.std.specs.FinMap.{get, find, get-from_entries}
use Rattle.ooc_io.specs.MemFiles.{NamedFile, entry_of, held_by, bytes_at}

-- what a scan finds
abbrev pub first : List ℕ → List NamedFile → Option (List ℕ)
first name [] = None
first name (file ∷ files) = cond (bytes_eq name (string_bytes file.0)) (Some file.1.items) (first name files)

find-first : (files : List NamedFile) (name : List ℕ) → find (slice_cmp nat_cmp) name (map entry_of files) ≡ first name files
find-first [] name = refl
find-first (file ∷ files) name =
    ap (λ b. cond b (Some file.1.items) (find (slice_cmp nat_cmp) name (map entry_of files))) (is_eq-slice_cmp name (string_bytes file.0))
    ∙ ap (cond (bytes_eq name (string_bytes file.0)) (Some file.1.items)) (find-first files name)

pub get-named : (files : List NamedFile) (name : List ℕ) → get (held_by files) name ≡ first name files
get-named files name = get-from_entries nat_list_cmp_total (map entry_of files) name ∙ find-first files name

-- the rest of the files, from a place on
at_place : (files : List NamedFile) (name : List ℕ) (i : ℕ) (file : NamedFile) → i < length files → file ≡ get_or files i file
    → first name (drop i files) ≡ cond (bytes_eq name (string_bytes file.0)) (Some file.1.items) (first name (drop (i + 1) files))
at_place files name i file h is =
    let next : suc i ≡ i + 1 = omega arith in
    ap (first name) (drop-cons files i file h)
    ∙ ap (λ (f : NamedFile). cond (bytes_eq name (string_bytes f.0)) (Some f.1.items) (first name (drop (suc i) files))) (sym is)
    ∙ ap (λ k. cond (bytes_eq name (string_bytes file.0)) (Some file.1.items) (first name (drop k files))) next

-- no file up to a place has the name
pub passed : (files : List NamedFile) (name : List ℕ) (i : ℕ) (file : NamedFile) → i < length files → file ≡ get_or files i file
    → bytes_eq name (string_bytes file.0) ≡ false → first name (drop (i + 1) files) ≡ first name (drop i files)
passed files name i file h is apart = sym (at_place files name i file h is ∙ ap (λ b. cond b (Some file.1.items) (first name (drop (i + 1) files))) apart)

-- the file at a place has the name
pub hit : (files : List NamedFile) (name : List ℕ) (i : ℕ) (file : NamedFile) → i < length files → file ≡ get_or files i file
    → bytes_eq name (string_bytes file.0) ≡ true → first name (drop i files) ≡ Some (bytes_at files i)
hit files name i file h is same =
    at_place files name i file h is ∙ ap (λ b. cond b (Some file.1.items) (first name (drop (i + 1) files))) same
    ∙ sym (ap (λ o. Some (option_map_or (λ (f : NamedFile). f.1.items) o [])) (slice_get_read files (length files) i file refl h is))
