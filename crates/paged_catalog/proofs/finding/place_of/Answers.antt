use Rattle.std.proofs.Common.{ap, sym, ◌∙◌}
use Rattle.std.specs.Str.{bytes_eq}
use Rattle.paged_catalog.proofs.Named.{passed, first_found}
use Rattle.paged_catalog.proofs.finding.place_of.Goals as goal

pub loop-place-preserved : goal.loop-place-preserved
loop-place-preserved c =
    passed c.args.tables.now c.args.name.now c.loop-place.place c.index-tables-place.result c.loop-place-test.true c.index-tables-place.is c.loop-place.invariant
    (ap (λ n. bytes_eq n c.args.name.now) (sym c.as_bytes.ensures) ∙ sym c.eq.ensures ∙ c.if-eq.false)

pub returns-then-eq : goal.returns-then-eq
returns-then-eq c =
    first_found c.args.tables.now c.args.name.now c.loop-place.place c.index-tables-place.result c.loop-place-test.true c.index-tables-place.is c.loop-place.invariant
    (ap (λ n. bytes_eq n c.args.name.now) (sym c.as_bytes.ensures) ∙ sym c.eq.ensures ∙ c.if-eq.true)
