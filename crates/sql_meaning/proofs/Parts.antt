-- A list, a grouping and a join, part by part.
use Rattle.std.proofs.Common.{◌≡◌, ℕ, Bool, true, false, cond, ◌==◌, List, [], ◌∷◌, ◌++◌, map, refl, sym, ap, ◌∙◌, subst, Ok}
use Rattle.std.specs.Prelude.{flat_map}
use Rattle.std.proofs.lemmas.Bool.Decides.{Decides-eqb}
use Rattle.ooc_bags.specs.Rows.{row_eq}
use Rattle.ooc_bags.proofs.RowTests.{row_eq-Decides}
use Rattle.sql_meaning.specs.Found.{Found, Row, IsSame, collected}
use Rattle.sql_meaning.specs.Judged.{judged, verdict_found, Condition, RowValue}
use Rattle.ooc_bags.specs.Firsts.{firsts}
use Rattle.sql_meaning.specs.Groups.{Keyed, keys_of, rows_of, group_found, groups, Grouping}
use Rattle.sql_meaning.specs.Parts.{side_part, MeetInParts}
use Rattle.ooc_bags.specs.Parts.{part, AreParts}
use Rattle.ooc_bags.proofs.Parts.{bag-part_by_part}
use Rattle.ooc_bags.proofs.Firsts.{firsts-filter}
use Rattle.sql_meaning.specs.Stage.{KeyPair, keys_meet, stage_verdict, Side, side_padded, side_met, side_joined}
use Rattle.ooc_bags.proofs.Bags.{bag-from}
use Rattle.ooc_bags.proofs.Lists.{flat_map-flat_map, filter-map, flat_map-only, filter-of}

-- outcomes part by part, where in its own part an item has the same outcome
pub collected-parts : {A B : Type 0} (f : A → Found B) (g : ℕ → A → Found B) (number : A → ℕ) (ks : List ℕ) → AreParts number ks
    → ((k : ℕ) (x : A) → number x ≡ k → g k x ≡ f x) → (xs : List A) → IsSame (collected (λ k. collected (g k) (part number k xs)) ks) (collected f xs)
collected-parts f g number ks parts own xs = record {
  rows = bag-part_by_part (λ x. (f x).rows) (λ k x. (g k x).rows) number ks parts (λ k x e. ap (λ found. found.rows) (own k x e)) xs;
  faults = bag-part_by_part (λ x. (f x).faults) (λ k x. (g k x).faults) number ks parts (λ k x e. ap (λ found. found.faults) (own k x e)) xs;
}

-- grouping part by part: the rows of a key stand in one part
pub groups-parts : (grouping : Grouping) (key : RowValue) (keys : List RowValue) → grouping.keys ≡ key ∷ keys → (number : Row → ℕ) (ks : List ℕ) → AreParts number ks
    → (rows : List Keyed) → IsSame (collected (λ k. groups grouping (part (λ one. number one.key) k rows)) ks) (groups grouping rows)
groups-parts grouping key keys some number ks parts rows =
    let F : List Keyed → Row → Found Row = λ rows key. group_found grouping.aggregates key (rows_of key rows) in
    let own_rows : ℕ → List Keyed = λ k. part (λ one. number one.key) k rows in
    let seen : List Row = map (λ one. one.key) rows in
    let e : (k : ℕ) → part number k (firsts seen) ≡ firsts (map (λ one. one.key) (own_rows k)) =
    λ k. sym (firsts-filter (λ key. number key == k) seen) ∙ ap firsts (filter-map (λ key. number key == k) (λ (one : Keyed). one.key) rows) in
    subst (λ written. IsSame (collected (λ k. collected (F (own_rows k)) (keys_of written (own_rows k))) ks) (collected (F rows) (keys_of written rows))) (sym some)
    (subst (λ (h : ℕ → List Row). IsSame (collected (λ k. collected (F (own_rows k)) (h k)) ks) (collected (F rows) (firsts seen))) (λ i k. e k i)
    (collected-parts (F rows) (λ k. F (own_rows k)) number ks parts (λ k key own. ap (group_found grouping.aggregates key) (own_group k key own)) (firsts seen)))
  where
    own_group : (k : ℕ) (key : Row) → number key ≡ k → rows_of key (part (λ one. number one.key) k rows) ≡ rows_of key rows
    own_group k key own =
        ap (map (λ one. one.row))
        (filter-of (λ (one : Keyed). row_eq key one.key) (λ one. number one.key == k)
        (λ one h. (Decides-eqb (number one.key) k).1 (ap number (sym ((row_eq-Decides key one.key).0 h)) ∙ own)) rows)

-- a pair of rows of different parts gives nothing
met-part : (left right : Row → ℕ) (side : Side) → MeetInParts left right side → (k : ℕ) (l : Row) → left l ≡ k → side_met (side_part right k side) l ≡ side_met side l
met-part left right side meet k l own =
    ap (side_padded side l) (λ i. record { rows = same (λ found. found.rows) refl i; faults = same (λ found. found.faults) refl i })
  where
    apart : (r : Row) → (right r == k) ≡ false → left l ≡ right r → ⊥
    apart r e equal = let one : (right r == k) ≡ true = (Decides-eqb (right r) k).1 (sym equal ∙ own) in cc

    same : {C : Type 0} (of : Found Row → List C) → of (record { rows = []; faults = [] }) ≡ []
        → flat_map (λ r. of (verdict_found (l ++ r) (side.verdict l r))) (part right k side.rows) ≡ flat_map (λ r. of (verdict_found (l ++ r) (side.verdict l r))) side.rows
    same of none =
        flat_map-only (λ r. right r == k) (λ r. of (verdict_found (l ++ r) (side.verdict l r)))
        (λ r e. ap (λ verdict. of (verdict_found (l ++ r) verdict)) (meet l r (apart r e)) ∙ none) side.rows

-- a join part by part: a left row meets the rows of its part alone, and is padded once
pub joined-parts : (left right : Row → ℕ) (side : Side) → MeetInParts left right side → (ks : List ℕ) → AreParts left ks
    → (rows : List Row) → IsSame (collected (λ k. side_joined (side_part right k side) (part left k rows)) ks) (side_joined side rows)
joined-parts left right side meet ks parts rows =
    collected-parts (side_met side) (λ k. side_met (side_part right k side)) left ks parts (λ k l own. met-part left right side meet k l own) rows

-- Rows meet in parts where equal keys have one number.
pub keys-meet-in-parts : (keys : List KeyPair) (rest : List Condition) (left right : Row → ℕ) (side : Side) → ((l r : Row) → side.verdict l r ≡ stage_verdict keys rest l r)
    → ((l r : Row) → keys_meet keys l r ≡ true → left l ≡ right r) → MeetInParts left right side
keys-meet-in-parts keys rest left right side verdict one l r apart =
    verdict l r ∙ go (keys_meet keys l r) refl
  where
    go : (b : Bool) → keys_meet keys l r ≡ b → cond (keys_meet keys l r) (judged rest (l ++ r)) (Ok false) ≡ Ok false
    go true e = absurd (apart (one l r e))
    go false e = ap (λ b. cond b (judged rest (l ++ r)) (Ok false)) e

-- A join over pieces of the left side, as its pages or blocks.
pub joined-pieces : (side : Side) (pieces : List (List Row)) → IsSame (collected (side_joined side) pieces) (side_joined side (flat_map (λ piece. piece) pieces))
joined-pieces side pieces = record {
  rows = bag-from (collected (side_joined side) pieces).rows (side_joined side (flat_map (λ piece. piece) pieces)).rows (sym (flat_map-flat_map (λ left. (side_met side left).rows) (λ piece. piece) pieces));
  faults = bag-from (collected (side_joined side) pieces).faults (side_joined side (flat_map (λ piece. piece) pieces)).faults (sym (flat_map-flat_map (λ left. (side_met side left).faults) (λ piece. piece) pieces));
}
