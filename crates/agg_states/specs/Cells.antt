-- What is asked of single cells.
use Rattle.std.specs.Prelude.{ℤ, ◌+ℤ◌, ⊤, FitsSigned}
use Rattle.std.specs.Int.{w128}
use Rattle.agg_states.specs.declared.kind.AggKind.{AggKind}
use Rattle.agg_states.specs.declared.kind.AggKind.TheVariants.{CountRows, Count, Sum, Min, Max}
use Rattle.ooc_types.specs.declared.value.Value.{Value}
use Rattle.ooc_types.specs.declared.value.Value.TheVariants.{Null, Truth, Number, Day, Text}

-- a text
abbrev pub IsText : Value → Type 0
IsText (Text bytes) = ⊤
IsText Null = ⊥
IsText (Truth truth) = ⊥
IsText (Number digits scale) = ⊥
IsText (Day day) = ⊥

-- only the least and the greatest of texts take memory
abbrev pub TakesMemory : AggKind → Value → Type 0
TakesMemory Min value = IsText value
TakesMemory Max value = IsText value
TakesMemory CountRows value = ⊥
TakesMemory Count value = ⊥
TakesMemory Sum value = ⊥

-- with so much more a number stays within 128 bits
abbrev pub SumFits : Value → ℤ → Type 0
SumFits (Number digits scale) more = FitsSigned w128 (digits +ℤ more)
SumFits Null more = ⊤
SumFits (Truth truth) more = ⊤
SumFits (Day day) more = ⊤
SumFits (Text bytes) more = ⊤

-- where the second is a number, the first has room for it
abbrev pub HasRoomFor : Value → Value → Type 0
HasRoomFor v (Number digits scale) = SumFits v digits
HasRoomFor v Null = ⊤
HasRoomFor v (Truth truth) = ⊤
HasRoomFor v (Day day) = ⊤
HasRoomFor v (Text bytes) = ⊤

-- sums and counts have room for each other
abbrev pub CanJoin : AggKind → Value → Value → Type 0
CanJoin CountRows v w = HasRoomFor v w
CanJoin Count v w = HasRoomFor v w
CanJoin Sum v w = HasRoomFor v w
CanJoin Min v w = ⊤
CanJoin Max v w = ⊤
