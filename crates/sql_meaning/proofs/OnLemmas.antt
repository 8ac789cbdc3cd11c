-- ON as a filter of the source, keys and a rest.
use Rattle.std.proofs.Common.{◌≡◌, Bool, true, false, cond, not, ◌&&◌, List, ◌++◌, refl, sym, ap, ap₂, ◌∙◌, Ok}
use Rattle.std.specs.Prelude.{filter}
use Rattle.std.specs.List.{AllByRecursion}
use Rattle.ooc_bags.specs.Bags.{SameBag}
use Rattle.sql_meaning.specs.Found.{Row}
use Rattle.sql_meaning.specs.Judged.{Verdict, judged, is_plain, Condition, says}
use Rattle.sql_meaning.specs.Stage.{is_true, KeyPair, keys_meet, on_verdict, stage_verdict}
use Rattle.sql_meaning.specs.Pool.{all_true, IsPlainCondition}
use Rattle.sql_meaning.proofs.PoolLemmas.{splits_from_pool, all-over}
use Rattle.sql_meaning.proofs.FreeSources.{all-faultless}

-- Where the plain conjuncts of ON are those of a filter, of keys and of a rest, ON keeps a pair where the filter, the
-- keys and then the rest do.
pub on_splits : (on filters keyed stayed : List Condition) (own : Row → Bool) (keys : List KeyPair) (l r : Row)
    → AllByRecursion IsPlainCondition (filter is_plain on) → AllByRecursion IsPlainCondition stayed
    → SameBag (filter is_plain on) ((filters ++ keyed) ++ stayed)
    → own r ≡ all_true filters (l ++ r) → keys_meet keys l r ≡ all_true keyed (l ++ r)
    → on_verdict on l r ≡ cond (own r) (stage_verdict keys (stayed ++ filter (λ c. not (is_plain c)) on) l r) (Ok false)
on_splits on filters keyed stayed own keys l r plain plain_stayed same owned met =
    let p : Condition → Bool = λ conjunct. is_true (says (l ++ r) conjunct) in
    let rest = judged (stayed ++ filter (λ c. not (is_plain c)) on) (l ++ r) in
    splits_from_pool on (filters ++ keyed) stayed (l ++ r) (all-faultless (filter is_plain on) (l ++ r) plain) (all-faultless stayed (l ++ r) plain_stayed) same
    ∙ ap (λ b. cond b rest (Ok false)) (all-over p filters keyed ∙ ap₂ ◌&&◌ (sym owned) (sym met))
    ∙ two (own r) (keys_meet keys l r) rest
  where
    two : (a b : Bool) (v : Verdict) → cond (a && b) v (Ok false) ≡ cond a (cond b v (Ok false)) (Ok false)
    two true b v = refl
    two false b v = refl
