-- From conjuncts, and where a plan puts them, to the premises of a free plan.
use Rattle.std.proofs.Common.{◌≡◌, ℕ, ◌+◌, Bool, true, false, cond, not, ◌&&◌, List, [], ◌∷◌, ◌++◌, take, drop, refl, sym, ap, ap₂, ◌∙◌, Ok}
use Rattle.std.specs.Prelude.{filter, flat_map}
use Rattle.std.specs.List.{list_all}
use Rattle.ooc_bags.specs.Bags.{SameBag}
use Rattle.sql_meaning.specs.Found.{Row}
use Rattle.sql_meaning.specs.Judged.{Verdict, judged, plain_first, is_plain, Condition, says}
use Rattle.sql_meaning.specs.Free.{Loop, all_pass}
use Rattle.sql_meaning.specs.Stage.{is_true}
use Rattle.sql_meaning.specs.Pool.{AreFaultless, all_true, SayOf}
use Rattle.sql_meaning.proofs.JoinStages.{judged-faultless, all-SameBag}

pub all-over : {A : Type 0} (p : A → Bool) (xs ys : List A) → list_all p (xs ++ ys) ≡ (list_all p xs && list_all p ys)
all-over p [] ys = refl
all-over p (x ∷ xs) ys = ap (λ b. p x && b) (all-over p xs ys) ∙ assoc (p x) (list_all p xs) (list_all p ys)
  where
    assoc : (a b c : Bool) → (a && (b && c)) ≡ ((a && b) && c)
    assoc true b c = refl
    assoc false b c = refl

-- the tests of all loops are the conjuncts of all
pub all_pass-say : (back : Row → Row) (row : Row) (at : ℕ) (loops : List Loop) (conjuncts : List (List Condition)) → SayOf back row at loops conjuncts
    → all_pass at loops row ≡ all_true (flat_map (λ list. list) conjuncts) (back row)
all_pass-say back row at [] [] say = refl
all_pass-say back row at [] (list ∷ more) say = absurd say
all_pass-say back row at (loop ∷ loops) [] say = absurd say
all_pass-say back row at (loop ∷ loops) (list ∷ more) say =
    turn (loop.test (take (at + loop.table.width) row)) (loop.own (take loop.table.width (drop at row))) (all_pass (at + loop.table.width) loops row)
    ∙ ap₂ ◌&&◌ say.0 (all_pass-say back row (at + loop.table.width) loops more say.1)
    ∙ sym (all-over (λ conjunct. is_true (says (back row) conjunct)) list (flat_map (λ list. list) more))
  where
    turn : (a b c : Bool) → (a && (b && c)) ≡ ((a && b) && c)
    turn true b c = refl
    turn false b c = refl

-- Where the conjuncts of the plan's loops are those of the written ones and these of WHERE, a row passes the plan where
-- it passes both.
pub tests_from_pool : (back : Row → Row) (row : Row) (plan written : List Loop) (placed on : List (List Condition)) (where_plain : List Condition)
    → SayOf back row 0 plan placed → SayOf (λ r. r) (back row) 0 written on
    → SameBag (flat_map (λ list. list) placed) (where_plain ++ flat_map (λ list. list) on)
    → all_pass 0 plan row ≡ (all_true where_plain (back row) && all_pass 0 written (back row))
tests_from_pool back row plan written placed on where_plain say said same =
    all_pass-say back row 0 plan placed say
    ∙ all-SameBag (λ conjunct. is_true (says (back row) conjunct)) (flat_map (λ list. list) placed) (where_plain ++ flat_map (λ list. list) on) same
    ∙ all-over (λ conjunct. is_true (says (back row) conjunct)) where_plain (flat_map (λ list. list) on)
    ∙ ap (λ b. all_true where_plain (back row) && b) (sym (all_pass-say (λ r. r) (back row) 0 written on said))

-- WHERE in two: some of its plain conjuncts, and behind them the others
pub splits_from_pool : (conjuncts pushed stayed : List Condition) (row : Row) → AreFaultless row (filter is_plain conjuncts) → AreFaultless row stayed
    → SameBag (filter is_plain conjuncts) (pushed ++ stayed)
    → judged (plain_first conjuncts) row ≡ cond (all_true pushed row) (judged (stayed ++ filter (λ c. not (is_plain c)) conjuncts) row) (Ok false)
splits_from_pool conjuncts pushed stayed row sure sure_stayed same =
    let p : Condition → Bool = λ conjunct. is_true (says row conjunct) in
    let others = filter (λ c. not (is_plain c)) conjuncts in
    judged-faultless (filter is_plain conjuncts) others row sure
    ∙ ap (λ b. cond b (judged others row) (Ok false)) (all-SameBag p (filter is_plain conjuncts) (pushed ++ stayed) same ∙ all-over p pushed stayed)
    ∙ two (list_all p pushed) (list_all p stayed) (judged others row)
    ∙ ap (λ verdict. cond (list_all p pushed) verdict (Ok false)) (sym (judged-faultless stayed others row sure_stayed))
  where
    two : (a b : Bool) (v : Verdict) → cond (a && b) v (Ok false) ≡ cond a (cond b v (Ok false)) (Ok false)
    two true b v = refl
    two false b v = refl
