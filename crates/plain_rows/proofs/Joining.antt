-- Joined rows meet the types of both sides.
use Rattle.std.proofs.Common.{◌≡◌, ℕ, Bool, true, false, cond, ◌&&◌, List, [], ◌∷◌, ◌++◌, length, map, subst, sym, ap, ◌∙◌, append-nil, append_assoc, All}
use Rattle.std.specs.List.{AllByRecursion}
use Rattle.ooc_types.specs.Meets.{AllMeet, Meets}
use Rattle.ooc_types.specs.declared.schema.SqlType.{SqlType}
use Rattle.ooc_types.specs.declared.value.Value.{Value}
use Rattle.sql_meaning.specs.Found.{Found, Row, and_then, clean}
use Rattle.sql_meaning.specs.From.{Source as MeantSource, from_behind, is_empty, joined, met, nulls, pairs}
use Rattle.sql_meaning.specs.Judged.{kept}
use Rattle.plain_rows.specs.declared.answer.Answer.{Answer}
use Rattle.plain_rows.specs.declared.source.Source.{Source}
use Rattle.plain_rows.specs.Answers.{found_in}
use Rattle.plain_rows.specs.Froms.{AreBehind, AreReadyPairs, IsFrom, IsSourceBehind, source_in}
use Rattle.plain_rows.specs.Tests.{condition_in}
use Rattle.plain_rows.proofs.Fitting.{all-at, both-have, each, kept-has, tests-ready}

meet-both : {K : Type 0} (F : K → Value → Type 0) (ks ls : List K) (vs ws : Row) → AllMeet F ks vs → AllMeet F ls ws → AllMeet F (ks ++ ls) (vs ++ ws)
meet-both F [] ls [] ws front back = back
meet-both F [] ls (v ∷ vs) ws front back = absurd front
meet-both F (k ∷ ks) ls [] ws front back = absurd front
meet-both F (k ∷ ks) ls (v ∷ vs) ws front back = (front.0, meet-both F ks ls vs ws front.1 back)

nulls-meet : (limit : ℕ) (kinds : List SqlType) → Meets limit kinds (nulls (length kinds))
nulls-meet limit [] = tt
nulls-meet limit (kind ∷ kinds) = (tt, nulls-meet limit kinds)

pairs-meet : (limit : ℕ) (columns kinds : List SqlType) (left : Row) (rows : List Row) → Meets limit columns left → AllByRecursion (Meets limit kinds) rows
    → AllByRecursion (Meets limit (columns ++ kinds)) (pairs left rows)
pairs-meet limit columns kinds left [] front all = tt
pairs-meet limit columns kinds left (row ∷ rows) front all = (meet-both _ columns kinds left row front all.0, pairs-meet limit columns kinds left rows front all.1)

pub pairs-ready : (limit : ℕ) (columns : List SqlType) (source : Source) (lefts : List Row) → IsSourceBehind limit columns source → AllByRecursion (Meets limit columns) lefts
    → All (AreReadyPairs source) lefts
pairs-ready limit columns source lefts behind all =
    all-at (AreReadyPairs source) lefts
    (each (Meets limit columns) (AreReadyPairs source)
    (λ left meets. tests-ready limit (columns ++ behind.kinds) source.on.items (pairs left source.found.rows.items) behind.on (pairs-meet limit columns behind.kinds left source.found.rows.items meets behind.are))
    lefts all)

either-has : (P : Row → Type 0) (b : Bool) (row : Row) (found : Found Row) → P row → AllByRecursion P found.rows → AllByRecursion P (cond b (clean (row ∷ [])) found).rows
either-has P true row found one all = (one, tt)
either-has P false row found one all = all

joined-meet : (limit : ℕ) (columns : List SqlType) (source : Source) (behind : IsSourceBehind limit columns source) (lefts : List Row) → AllByRecursion (Meets limit columns) lefts
    → AllByRecursion (Meets limit (columns ++ behind.kinds)) (joined (source_in source) lefts).rows
joined-meet limit columns source behind [] all = tt
joined-meet limit columns source behind (left ∷ lefts) all =
    let P = Meets limit (columns ++ behind.kinds) in
    let rows = pairs left source.found.rows.items in
    let found = kept (map condition_in source.on.items) rows in
    let null_row = subst (λ (width : ℕ). Meets limit behind.kinds (nulls width)) (sym behind.width) (nulls-meet limit behind.kinds) in
    both-have P (met (source_in source) left).rows (joined (source_in source) lefts).rows
    (either-has P (source.pads && (is_empty found.rows && is_empty found.faults)) (left ++ nulls source.width) found
    (meet-both _ columns behind.kinds left (nulls source.width) all.0 null_row)
    (kept-has P (map condition_in source.on.items) rows (pairs-meet limit columns behind.kinds left source.found.rows.items all.0 behind.are)))
    (joined-meet limit columns source behind lefts all.1)

-- ---- the loop over the sources

pub bare-behind : (sources : List Source) (answer : Answer) → found_in answer ≡ clean ([] ∷ []) → IsFrom sources → AreBehind answer.rows.items sources
bare-behind sources answer e from = record {
  limit = from.limit;
  columns = [];
  meet = subst (λ (rows : List Row). AllByRecursion (Meets from.limit []) rows) (sym (ap (λ (f : Found Row). f.rows) e)) (tt, tt);
  rest = from.all;
}

pub first-ready : (rows : List Row) (source : Source) (sources : List Source) → AreBehind rows (source ∷ sources) → All (AreReadyPairs source) rows
first-ready rows source sources behind = pairs-ready behind.limit behind.columns source rows behind.rest.0 behind.meet

pub next-behind : (old new : Answer) (source : Source) (sources : List Source) → found_in new ≡ and_then (found_in old) (joined (source_in source))
    → AreBehind old.rows.items (source ∷ sources) → AreBehind new.rows.items sources
next-behind old new source sources e behind = record {
  limit = behind.limit;
  columns = behind.columns ++ behind.rest.0.kinds;
  meet = subst (λ (rows : List Row). AllByRecursion (Meets behind.limit (behind.columns ++ behind.rest.0.kinds)) rows) (sym (ap (λ (f : Found Row). f.rows) e))
      (joined-meet behind.limit behind.columns source behind.rest.0 old.rows.items behind.meet);
  rest = behind.rest.1;
}

pub next-joined : (old new : Found Row) (source : MeantSource) (sources : List MeantSource) → new ≡ and_then old (joined source)
    → and_then new (from_behind sources) ≡ and_then old (from_behind (source ∷ sources))
next-joined old new source sources e =
    let three = append_assoc old.faults (joined source old.rows).faults (from_behind sources (joined source old.rows).rows).faults in
    ap (λ (f : Found Row). and_then f (from_behind sources)) e ∙ (λ k. record { rows = (from_behind sources (joined source old.rows).rows).rows; faults = three k })

pub no-sources : (f : Found Row) → and_then f (from_behind []) ≡ f
no-sources f = let e = append-nil f.faults in λ k. record { rows = f.rows; faults = e k }
