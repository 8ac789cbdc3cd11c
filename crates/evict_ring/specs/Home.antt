-- A turn in the place of its frame.
use Rattle.std.specs.Prelude.{◌≡◌, ℕ, ◌^◌}
use Rattle.evict_ring.specs.declared.turn.Turn.{Turn}

-- a frame's number has 32 bits
abbrev pub turn_limit : ℕ
turn_limit = 2 ^ 32

-- the turn of frame i, by the rule of turns
abbrev pub IsHome : {H : Type 0} → (Turn H → Type 0) → ℕ → Turn H → Type 0
IsHome holds i t = (t.frame ≡ i) × holds t
