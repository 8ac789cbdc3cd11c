-- The hash of a key: FNV-1a over 64 bits of its canonical bytes, and then a mixing of the bits.
use Rattle.std.specs.Prelude.{ℕ, ◌*◌, ◌/◌, ◌%◌, ◌^◌, List, bit_xor, ◌==◌}
use Rattle.std.specs.List.{fold, filter}
use Rattle.ooc_types.specs.declared.value.Value.{Value}
use Rattle.ooc_types.specs.Canonical.{canonical}

-- a product of 64 bits
abbrev pub times_64 : ℕ → ℕ → ℕ
times_64 a b = (a * b) % 2 ^ 64

-- FNV-1a: the byte is exclusive-or'ed first, then multiplied by the prime
unfoldable pub fnv_step : ℕ → ℕ → ℕ
fnv_step hash byte = times_64 (bit_xor hash byte) 1_099_511_628_211

abbrev pub fnv_start : ℕ
fnv_start = 14_695_981_039_346_656_037

abbrev pub fnv_1a : List ℕ → ℕ
fnv_1a bytes = fold fnv_step fnv_start bytes

-- `x ^ (x >> 33)`
abbrev pub fold_high : ℕ → ℕ
fold_high x = bit_xor x (x / 2 ^ 33)

-- x ^= x >> 33; x *= 0xff51afd7ed558ccd; x ^= x >> 33; x *= 0xc4ceb9fe1a85ec53; x ^= x >> 33
unfoldable pub mix : ℕ → ℕ
mix x = fold_high (times_64 (fold_high (times_64 (fold_high x) 18_397_679_294_719_823_053)) 14_181_476_777_654_086_739)

unfoldable pub hash_of : List Value → ℕ
hash_of key = mix (fnv_1a (canonical key))

-- bits 48 to 63
abbrev pub salt_of : ℕ → ℕ
salt_of hash = hash / 2 ^ 48 % 2 ^ 16

-- the lowest bits
abbrev pub radix_of : ℕ → ℕ → ℕ
radix_of hash bits = hash % 2 ^ bits

-- the items whose key's hash has the radix k
abbrev pub part_of : {A : Type 0} → (A → List Value) → ℕ → ℕ → List A → List A
part_of key bits k items = filter (λ item. radix_of (hash_of (key item)) bits == k) items
