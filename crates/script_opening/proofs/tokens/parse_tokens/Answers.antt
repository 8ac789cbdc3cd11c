use Rattle.std.proofs.Common.{inl, inr, refl}
use Rattle.ooc_types.specs.declared.refusal.RefusalKind.TheVariants as kind
use Rattle.run_settings.specs.declared.status.Place.TheVariants.{Byte}
use Rattle.script_opening.proofs.tokens.parse_tokens.Goals as goal

pub returns-in-Err-Syntax-clause-parsed : goal.returns-in-Err-Syntax-clause-parsed
returns-in-Err-Syntax-clause-parsed c =
    inl (record { place = Byte c.in-Err-Syntax.place; kind = kind.Syntax }, inl (c.in-Err-Syntax.place, rw (c.in-Err-Syntax.field-0-is) at c.in-Err-Syntax.ensures.refuses, refl), c.refuse_at.ensures)

pub returns-in-Err-TooDeep-clause-parsed : goal.returns-in-Err-TooDeep-clause-parsed
returns-in-Err-TooDeep-clause-parsed c =
    inl (record { place = Byte c.in-Err-TooDeep.place; kind = kind.TooDeep }, inr (c.in-Err-TooDeep.place, rw (c.in-Err-TooDeep.field-0-is) at c.in-Err-TooDeep.ensures.refuses, refl), c.refuse_at-in-Err-TooDeep.ensures)
