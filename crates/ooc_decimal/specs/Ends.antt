-- The ends of the types of numbers.
use Rattle.std.specs.Prelude.{ℕ, ℤ, pos, neg_ℤ, ◌-◌, ◌^◌, if◌then◌else◌, nat_le, int_lt}
use Rattle.ooc_types.specs.declared.schema.SqlType.{SqlType}
use Rattle.ooc_types.specs.declared.schema.SqlType.TheVariants.{Boolean, Integer, BigInt, HugeInt, Decimal, Date, Varchar}

-- the greatest number of a type: of none that is one of numbers, what 128 bits hold
abbrev pub most_of : SqlType → ℕ
most_of Integer = 2_147_483_647
most_of BigInt = 9_223_372_036_854_775_807
most_of (Decimal width places) = if nat_le width 38 then 10 ^ width - 1 else 170_141_183_460_469_231_731_687_303_715_884_105_727
most_of HugeInt = 170_141_183_460_469_231_731_687_303_715_884_105_727
most_of Boolean = 170_141_183_460_469_231_731_687_303_715_884_105_727
most_of Date = 170_141_183_460_469_231_731_687_303_715_884_105_727
most_of Varchar = 170_141_183_460_469_231_731_687_303_715_884_105_727

-- how far the least number of a type is below zero
abbrev pub below_of : SqlType → ℕ
below_of Integer = 2_147_483_648
below_of BigInt = 9_223_372_036_854_775_808
below_of (Decimal width places) = if nat_le width 38 then 10 ^ width - 1 else 170_141_183_460_469_231_731_687_303_715_884_105_728
below_of HugeInt = 170_141_183_460_469_231_731_687_303_715_884_105_728
below_of Boolean = 170_141_183_460_469_231_731_687_303_715_884_105_728
below_of Date = 170_141_183_460_469_231_731_687_303_715_884_105_728
below_of Varchar = 170_141_183_460_469_231_731_687_303_715_884_105_728

-- the number itself, or the end that is nearest to it
abbrev pub between : ℤ → ℤ → ℤ → ℤ
between low high z = if int_lt z low then low else (if int_lt high z then high else z)

-- the number itself, or outside its type's range the nearest number of the type
abbrev pub nearest_of : SqlType → ℤ → ℤ
nearest_of kind digits = between (neg_ℤ (pos (below_of kind))) (pos (most_of kind)) digits
