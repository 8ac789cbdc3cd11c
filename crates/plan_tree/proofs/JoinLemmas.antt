-- The stages of a FROM in written order mean its joins.
use Rattle.std.proofs.Common.{◌≡◌, ℕ, ◌+◌, ◌≤◌, Bool, true, false, cond, not, ◌&&◌, List, [], ◌∷◌, ◌++◌, map, length, refl, sym, ap, ap₂, ◌∙◌, subst, append-nil, Ok}
use Rattle.std.specs.Prelude.{filter, is_some}
use Rattle.std.specs.List.{AllByRecursion, list_all}
use Rattle.ooc_bags.specs.Bags.{SameBag}
use Rattle.ooc_bags.proofs.Bags.{bag-map, bag-trans, bag-from}
use Rattle.ooc_bags.proofs.Lists.{filter-map}
use Rattle.sql_expr.specs.declared.tree.Expr.{Expr}
use Rattle.sql_expr.specs.Meaning.{value_of}
use Rattle.sql_meaning.specs.Found.{Row}
use Rattle.sql_meaning.specs.Judged.{is_plain}
use Rattle.sql_meaning.specs.From.{Source}
use Rattle.sql_meaning.specs.Pool.{all_true, IsPlainCondition}
use Rattle.sql_meaning.specs.Moved.{moved}
use Rattle.sql_meaning.specs.Stage.{keys_meet, on_verdict, stage_verdict, is_true, IsJoinOf}
use Rattle.sql_meaning.specs.Statements.{condition_of}
use Rattle.sql_meaning.proofs.OnLemmas.{on_splits}
use Rattle.sql_meaning.proofs.JoinStages.{all-SameBag}
use Rattle.sql_meaning.proofs.PoolLemmas.{all-over}
use Rattle.plan_tree.specs.Plannable.{IsSure}
use Rattle.plan_tree.specs.Split.{is_plain_expr, top, is_own, key_of, own_conjuncts, key_conjuncts, rest_conjuncts, own_places, split, split_on, passes, join_side}
use Rattle.plan_tree.proofs.SplitLemmas.{bag-of-three, own-says}
use Rattle.plan_tree.proofs.KeyLemmas.{keys-say}

pub map-over : {B C : Type 0} (f : B → C) (xs ys : List B) → map f (xs ++ ys) ≡ map f xs ++ map f ys
map-over f [] ys = refl
map-over f (x ∷ xs) ys = ap (λ l. f x ∷ l) (map-over f xs ys)

-- what a filter keeps passes its test
pub all-pass : {A : Type 0} (p : A → Bool) (xs : List A) → AllByRecursion (λ x. p x ≡ true) (filter p xs)
all-pass p [] = tt
all-pass {A} p (x ∷ xs) = go (p x) refl (all-pass p xs)
  where
    go : (b : Bool) → p x ≡ b → AllByRecursion (λ x. p x ≡ true) (filter p xs) → AllByRecursion (λ x. p x ≡ true) (cond b (x ∷ filter p xs) (filter p xs))
    go true e rest = (e, rest)
    go false e rest = rest

-- what holds of the items of a list holds of those that a filter keeps
pub all-kept : {A : Type 0} (P : A → Type 0) (p : A → Bool) (xs : List A) → AllByRecursion P xs → AllByRecursion P (filter p xs)
all-kept P p [] all = tt
all-kept P p (x ∷ xs) all = go (p x) (all-kept P p xs all.1)
  where
    go : (b : Bool) → AllByRecursion P (filter p xs) → AllByRecursion P (cond b (x ∷ filter p xs) (filter p xs))
    go true rest = (all.0, rest)
    go false rest = rest

pub all-on : {A : Type 0} (P Q : A → Type 0) → ((x : A) → P x → Q x) → (xs : List A) → AllByRecursion P xs → AllByRecursion Q xs
all-on P Q h [] all = tt
all-on P Q h (x ∷ xs) all = (h x all.0, all-on P Q h xs all.1)

pub all-both : {A : Type 0} (P Q : A → Type 0) (xs : List A) → AllByRecursion P xs → AllByRecursion Q xs → AllByRecursion (λ x. P x × Q x) xs
all-both P Q [] p q = tt
all-both P Q (x ∷ xs) p q = ((p.0, q.0), all-both P Q xs p.1 q.1)

all-map : {A B : Type 0} (P : B → Type 0) (f : A → B) (xs : List A) → AllByRecursion (λ x. P (f x)) xs → AllByRecursion P (map f xs)
all-map P f [] all = tt
all-map P f (x ∷ xs) all = (all.0, all-map P f xs all.1)

and-right : (a b : Bool) → (a && b) ≡ true → b ≡ true
and-right true b e = e
and-right false b e = cc

pub plain-sure : (es : List Expr) → AllByRecursion IsSure es → AllByRecursion (λ e. IsPlainCondition (condition_of e)) (filter is_plain_expr es)
plain-sure es sure =
    all-on (λ e. IsSure e × (is_plain_expr e ≡ true)) (λ e. IsPlainCondition (condition_of e)) (λ e both. both.0 both.1) (filter is_plain_expr es)
    (all-both IsSure (λ e. is_plain_expr e ≡ true) (filter is_plain_expr es) (all-kept IsSure is_plain_expr es sure) (all-pass is_plain_expr es))

pub all-mapped : (row : Row) (es : List Expr) → all_true (map condition_of es) row ≡ list_all (λ e. is_true (value_of row e)) es
all-mapped row [] = refl
all-mapped row (e ∷ es) = ap (λ b. is_true (value_of row e) && b) (all-mapped row es)

and-assoc : (a b c : Bool) → (a && (b && c)) ≡ ((a && b) && c)
and-assoc true b c = refl
and-assoc false b c = refl

module _ (l r : Row) (at width : ℕ) (long : length l ≡ at) where
  -- filters by themselves
  own-pass : (es : List Expr) → AllByRecursion (λ e. is_own at e ≡ true) es → AllByRecursion (λ e. top e ≤ at + width) es
      → passes (map (moved (own_places at width)) es) r ≡ all_true (map condition_of es) (l ++ r)
  own-pass [] own within = refl
  own-pass (e ∷ es) own within = ap₂ ◌&&◌ (ap is_true (own-says l r at width long e own.0 within.0)) (own-pass es own.1 within.1)

  -- filters, keys and rest of conjuncts, together, say what these say
  pub split-tests : (es : List Expr) → AllByRecursion (λ e. top e ≤ at + width) es
      → (passes (split at width es []).filters r && (keys_meet (split at width es []).keys l r && all_true (map condition_of (split at width es []).rest) (l ++ r))) ≡ all_true (map condition_of es) (l ++ r)
  split-tests es within =
      let p : Expr → Bool = λ e. is_true (value_of (l ++ r) e) in
      let own = own_conjuncts at es in
      let keyed = key_conjuncts at es in
      let stayed = rest_conjuncts at es in
      let owned : passes (split at width es []).filters r ≡ list_all p own =
      own-pass own (all-pass (is_own at) es) (all-kept (λ e. top e ≤ at + width) (is_own at) es within) ∙ all-mapped (l ++ r) own in
      let met : keys_meet (split at width es []).keys l r ≡ list_all p keyed =
      keys-say l r at long keyed
      (all-on (λ e. (not (is_own at e) && is_some (key_of at e)) ≡ true) (λ e. is_some (key_of at e) ≡ true) (λ e h. and-right (not (is_own at e)) (is_some (key_of at e)) h) keyed
      (all-pass (λ e. not (is_own at e) && is_some (key_of at e)) es)) ∙ all-mapped (l ++ r) keyed in
      let rest : all_true (map condition_of (stayed ++ [])) (l ++ r) ≡ list_all p stayed = ap (λ list. all_true (map condition_of list) (l ++ r)) (append-nil stayed) ∙ all-mapped (l ++ r) stayed in
      ap₂ ◌&&◌ owned (ap₂ ◌&&◌ met rest)
      ∙ and-assoc (list_all p own) (list_all p keyed) (list_all p stayed)
      ∙ sym (all-SameBag p es ((own ++ keyed) ++ stayed) (bag-of-three (is_own at) (λ e. is_some (key_of at e)) es)
      ∙ all-over p (own ++ keyed) stayed ∙ ap (λ b. b && list_all p stayed) (all-over p own keyed))
      ∙ sym (all-mapped (l ++ r) es)

  pub split-says : (on : List Expr) → AllByRecursion (λ e. top e ≤ at + width) on → AllByRecursion IsSure on
      → on_verdict (map condition_of on) l r ≡ cond (passes (split_on at width on).filters r) (stage_verdict (split_on at width on).keys (map condition_of (split_on at width on).rest) l r) (Ok false)
  split-says on within sure =
      let P = filter is_plain_expr on in
      let own = own_conjuncts at P in
      let keyed = key_conjuncts at P in
      let stayed = rest_conjuncts at P in
      let others = filter (λ e. not (is_plain_expr e)) on in
      let plain : filter is_plain (map condition_of on) ≡ map condition_of P = filter-map is_plain condition_of on in
      let others_is : filter (λ c. not (is_plain c)) (map condition_of on) ≡ map condition_of others = filter-map (λ c. not (is_plain c)) condition_of on in
      let sure_plain : AllByRecursion IsPlainCondition (filter is_plain (map condition_of on)) =
      subst (AllByRecursion IsPlainCondition) (sym plain) (all-map IsPlainCondition condition_of P (plain-sure on sure)) in
      let sure_stayed : AllByRecursion IsPlainCondition (map condition_of stayed) =
      all-map IsPlainCondition condition_of stayed (all-kept (λ e. IsPlainCondition (condition_of e)) (λ e. not (is_own at e) && not (is_some (key_of at e))) P (plain-sure on sure)) in
      let three : SameBag (filter is_plain (map condition_of on)) ((map condition_of own ++ map condition_of keyed) ++ map condition_of stayed) =
      bag-trans (filter is_plain (map condition_of on)) (map condition_of ((own ++ keyed) ++ stayed)) ((map condition_of own ++ map condition_of keyed) ++ map condition_of stayed)
      (bag-trans (filter is_plain (map condition_of on)) (map condition_of P) (map condition_of ((own ++ keyed) ++ stayed))
      (bag-from (filter is_plain (map condition_of on)) (map condition_of P) plain)
      (bag-map condition_of P ((own ++ keyed) ++ stayed) (bag-of-three (is_own at) (λ e. is_some (key_of at e)) P)))
      (bag-from (map condition_of ((own ++ keyed) ++ stayed)) ((map condition_of own ++ map condition_of keyed) ++ map condition_of stayed)
      (map-over condition_of (own ++ keyed) stayed ∙ ap (λ x. x ++ map condition_of stayed) (map-over condition_of own keyed))) in
      let owned : passes (split_on at width on).filters r ≡ all_true (map condition_of own) (l ++ r) =
      own-pass own (all-pass (is_own at) P) (all-kept (λ e. top e ≤ at + width) (is_own at) P (all-kept (λ e. top e ≤ at + width) is_plain_expr on within)) in
      let met : keys_meet (split_on at width on).keys l r ≡ all_true (map condition_of keyed) (l ++ r) =
      keys-say l r at long keyed
      (all-on (λ e. (not (is_own at e) && is_some (key_of at e)) ≡ true) (λ e. is_some (key_of at e) ≡ true) (λ e h. and-right (not (is_own at e)) (is_some (key_of at e)) h) keyed
      (all-pass (λ e. not (is_own at e) && is_some (key_of at e)) P)) in
      let rest_is : map condition_of stayed ++ filter (λ c. not (is_plain c)) (map condition_of on) ≡ map condition_of (stayed ++ others) =
      ap (λ x. map condition_of stayed ++ x) others_is ∙ sym (map-over condition_of stayed others) in
      on_splits (map condition_of on) (map condition_of own) (map condition_of keyed) (map condition_of stayed) (passes (split_on at width on).filters) (split_on at width on).keys l r
      sure_plain sure_stayed three owned met
      ∙ ap (λ rest. cond (passes (split_on at width on).filters r) (stage_verdict (split_on at width on).keys rest l r) (Ok false)) rest_is

-- The stage of a source in a FROM that isn't free
pub join-of : (at : ℕ) (source : Source) (on : List Expr) → source.on ≡ map condition_of on → AllByRecursion (λ row. length row ≡ source.width) source.found.rows
    → AllByRecursion (λ e. top e ≤ at + source.width) on → AllByRecursion IsSure on
    → IsJoinOf at source (join_side source.found.rows source.width source.pads (split_on at source.width on))
join-of at source on is wide within sure = record {
  wide = wide;
  own = passes (split_on at source.width on).filters;
  rows = refl;
  width = refl;
  pads = refl;
  same = λ l r long own. sym (whole l r long ∙ ap (λ b. cond b (stage_verdict (split_on at source.width on).keys (map condition_of (split_on at source.width on).rest) l r) (Ok false)) own);
  out = λ l r long own. whole l r long ∙ ap (λ b. cond b (stage_verdict (split_on at source.width on).keys (map condition_of (split_on at source.width on).rest) l r) (Ok false)) own;
}
  where
    whole : (l r : Row) → length l ≡ at → on_verdict source.on l r ≡ cond (passes (split_on at source.width on).filters r) (stage_verdict (split_on at source.width on).keys (map condition_of (split_on at source.width on).rest) l r) (Ok false)
    whole l r long = ap (λ conditions. on_verdict conditions l r) is ∙ split-says l r at source.width long on within sure
