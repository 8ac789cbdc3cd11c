-- Aggregates stand for the values that they took.
use Rattle.std.proofs.Common.{◌≡◌, ℕ, suc, ◌+◌, ◌-◌, ◌^◌, ◌<◌, append-nil, ℤ, pos, negsuc, ◌+ℤ◌, ◌≤ℤ◌, SFits, nat_le, Bool, true, false, cond, List, [], ◌∷◌, ◌++◌, length, Option, Some, None, refl, sym, ap, ap₂, subst, ◌∙◌, arith, length-append, append_assoc}
use Rattle.std.specs.Prelude.{All, neg_ℤ, ⊤}
use Rattle.std.specs.Int.{w32, w64, w128}
use Rattle.std.specs.List.{fold}
use Rattle.std.proofs.lemmas.Int.{ints}
use Rattle.ooc_types.specs.declared.value.Value.{Value}
use Rattle.ooc_types.specs.declared.value.Value.TheVariants.{Null, Truth, Number, Day, Text}
use Rattle.ooc_types.specs.declared.schema.SqlType.{SqlType}
use Rattle.ooc_types.specs.declared.schema.SqlType.TheVariants.{Boolean, Integer, BigInt, HugeInt, Decimal, Date, Varchar}
use Rattle.ooc_types.specs.Meets.{IsInRange, IsDay, IsNumberOf}
use Rattle.ooc_decimal.specs.Numeric.{scale_of}
use Rattle.ooc_decimal.specs.Ends.{between, nearest_of}
use Rattle.ooc_decimal.proofs.Point.{unit_above}
use Rattle.date_values.specs.Calendar.{nearest_day}
use Rattle.agg_states.specs.declared.kind.Best.{Best}
use Rattle.agg_states.specs.declared.kind.Best.TheVariants.{Least, Most}
use Rattle.agg_states.specs.declared.kind.AggKind.{AggKind}
use Rattle.agg_states.specs.declared.kind.AggKind.TheVariants.{CountRows, Count, Sum, Min, Max}
use Rattle.agg_states.specs.Aggregates.{State, either_of, better, is_null, digits_of, present_value, nothing_taken, one_taken, together, state_of, or_null, number_value, finished}
use Rattle.agg_states.specs.Tally.{Tally, nearest_value, number_of, plus, pick, both, cell_of, started, added, merged}
use Rattle.agg_states.specs.Bounds.{IsOfForm, IsOfType}
use Rattle.agg_states.specs.Ways.{Way, Adds, Merges, values_in, outcome, tally_of, IsTaken, AreTaken, side_of}
use Rattle.agg_states.proofs.States.{state_of-append, state_of-one, state_of-sides, length-sides}

-- what the least or the greatest is, is no NULL
abbrev IsSome : Option Value → Type 0
IsSome None = ⊤
IsSome (Some v) = is_null v ≡ false

abbrev NoNull : State → Type 0
NoNull s = IsSome s.least × IsSome s.most

present_some : (v : Value) → IsSome (present_value v)
present_some Null = tt
present_some (Truth b) = refl
present_some (Number d s) = refl
present_some (Day d) = refl
present_some (Text t) = refl

better_some : (best : Best) (a b : Option Value) → IsSome a → IsSome b → IsSome (either_of (better best) a b)
better_some best None b p q = q
better_some best (Some v) None p q = p
better_some best (Some v) (Some w) p q = go _
  where
    go : (c : Bool) → is_null (cond c w v) ≡ false
    go true = q
    go false = p

together_some : (s t : State) → NoNull s → NoNull t → NoNull (together s t)
together_some s t p q = (better_some Least s.least t.least p.0 q.0, better_some Most s.most t.most p.1 q.1)

fold_some : (s : State) (xs : List Value) → NoNull s → NoNull (fold (λ state value. together state (one_taken value)) s xs)
fold_some s [] p = p
fold_some s (x ∷ xs) p = fold_some (together s (one_taken x)) xs (together_some s (one_taken x) p (present_some x, present_some x))

state_some : (xs : List Value) → NoNull (state_of xs)
state_some xs = fold_some nothing_taken xs (tt, tt)

-- the cells of two states, put together
pick_both : (best : Best) (a b : Option Value) → IsSome a → IsSome b → pick best (or_null a) (or_null b) ≡ or_null (either_of (better best) a b)
pick_both best None None p q = refl
pick_both best None (Some w) p q = ap (λ t. cond t Null w) q
pick_both best (Some v) None p q = refl
pick_both best (Some v) (Some w) p q = ap₂ (λ s t. cond s v (cond t w (better best v w))) q p

plus_both : (scale : ℕ) (a b : Option ℤ) → plus (number_value scale a) (number_value scale b) ≡ number_value scale (either_of ◌+ℤ◌ a b)
plus_both scale None None = refl
plus_both scale None (Some b) = refl
plus_both scale (Some a) None = refl
plus_both scale (Some a) (Some b) = refl

cell_both : (kind : AggKind) (scale : ℕ) (s t : State) → NoNull s → NoNull t → both kind (finished kind scale s) (finished kind scale t) ≡ finished kind scale (together s t)
cell_both CountRows scale s t p q = refl
cell_both Count scale s t p q = refl
cell_both Sum scale s t p q = plus_both scale s.total t.total
cell_both Min scale s t p q = pick_both Least s.least t.least p.0 q.0
cell_both Max scale s t p q = pick_both Most s.most t.most p.1 q.1

-- what is in range stays as it is
between_same : (b m : ℕ) (z : ℤ) → neg_ℤ (pos b) ≤ℤ z → z ≤ℤ pos m → between (neg_ℤ (pos b)) (pos m) z ≡ z
between_same b m z low high = grind (arith, ints)

bounds_32 : (d : ℤ) → SFits w32 d → (neg_ℤ (pos 2_147_483_648) ≤ℤ d) × (d ≤ℤ pos 2_147_483_647)
bounds_32 (pos n) h = let small : n < 2 ^ 31 = h.sfits in (omega (arith, ints), omega (arith, ints))
bounds_32 (negsuc n) h = let small : n < 2 ^ 31 = h.sfits in (omega (arith, ints), omega (arith, ints))

bounds_64 : (d : ℤ) → SFits w64 d → (neg_ℤ (pos 9_223_372_036_854_775_808) ≤ℤ d) × (d ≤ℤ pos 9_223_372_036_854_775_807)
bounds_64 (pos n) h = let small : n < 2 ^ 63 = h.sfits in (omega (arith, ints), omega (arith, ints))
bounds_64 (negsuc n) h = let small : n < 2 ^ 63 = h.sfits in (omega (arith, ints), omega (arith, ints))

bounds_128 : (d : ℤ) → SFits w128 d → (neg_ℤ (pos 170_141_183_460_469_231_731_687_303_715_884_105_728) ≤ℤ d) × (d ≤ℤ pos 170_141_183_460_469_231_731_687_303_715_884_105_727)
bounds_128 (pos n) h = let small : n < 2 ^ 127 = h.sfits in (omega (arith, ints), omega (arith, ints))
bounds_128 (negsuc n) h = let small : n < 2 ^ 127 = h.sfits in (omega (arith, ints), omega (arith, ints))

wide : (b : Bool) (d : ℤ) → SFits (cond b w64 w128) d → SFits w128 d
wide true (pos n) h = let small : n < 2 ^ 63 = h.sfits in record { sfits = omega arith }
wide true (negsuc n) h = let small : n < 2 ^ 63 = h.sfits in record { sfits = omega arith }
wide false d h = h

decimal_near : (w : ℕ) (d : ℤ) → SFits w128 d → IsInRange (Decimal w 0) d → nearest_of (Decimal w 0) d ≡ d
decimal_near w d fits h = go (nat_le w 38)
  where
    go : (b : Bool) → between (neg_ℤ (pos (cond b (10 ^ w - 1) 170_141_183_460_469_231_731_687_303_715_884_105_728))) (pos (cond b (10 ^ w - 1) 170_141_183_460_469_231_731_687_303_715_884_105_727)) d ≡ d
    go true = let some = unit_above w in between_same (10 ^ w - 1) (10 ^ w - 1) d (omega (arith, ints, h.1, some)) (omega (arith, ints, h.0, some))
    go false = let bounds = bounds_128 d fits in between_same 170_141_183_460_469_231_731_687_303_715_884_105_728 170_141_183_460_469_231_731_687_303_715_884_105_727 d bounds.0 bounds.1

number_near : (of : SqlType) (d : ℤ) (s : ℕ) → IsNumberOf of d s → IsInRange of d → nearest_of of d ≡ d
number_near Integer d s form h = let bounds = bounds_32 d h in between_same 2_147_483_648 2_147_483_647 d bounds.0 bounds.1
number_near BigInt d s form h = let bounds = bounds_64 d h in between_same 9_223_372_036_854_775_808 9_223_372_036_854_775_807 d bounds.0 bounds.1
number_near HugeInt d s form h = let bounds = bounds_128 d h in between_same 170_141_183_460_469_231_731_687_303_715_884_105_728 170_141_183_460_469_231_731_687_303_715_884_105_727 d bounds.0 bounds.1
number_near (Decimal w p) d s form h = decimal_near w d (wide (nat_le w 18) d form.0) h
number_near Boolean d s form h = absurd h
number_near Date d s form h = absurd h
number_near Varchar d s form h = absurd h

day_near : (d : ℤ) → IsDay d → nearest_day d ≡ d
day_near d h = between_same 719162 2932896 d h.0 h.1

value_near : (of : SqlType) (v : Value) → IsOfForm of v → IsOfType of v → nearest_value of v ≡ v
value_near of (Number d s) form h = ap (λ z. Number z s) (number_near of d s form h.0)
value_near of (Day d) form h = ap Day (day_near d h)
value_near of Null form h = refl
value_near of (Truth b) form h = refl
value_near of (Text t) form h = refl

number_one : (of : SqlType) (v : Value) → IsOfType of v → number_of v ≡ number_value (scale_of of) (digits_of v)
number_one of (Number d s) h = ap (Number d) h.1
number_one of Null h = refl
number_one of (Truth b) h = refl
number_one of (Day d) h = refl
number_one of (Text t) h = refl

value_one : (v : Value) → v ≡ or_null (present_value v)
value_one Null = refl
value_one (Truth b) = refl
value_one (Number d s) = refl
value_one (Day d) = refl
value_one (Text t) = refl

cell_more : (kind : AggKind) (of : SqlType) (s : State) (v : Value) → NoNull s → IsTaken kind of v → both kind (finished kind (scale_of of) s) (cell_of kind of v) ≡ finished kind (scale_of of) (together s (one_taken v))
cell_more CountRows of s v p take = refl
cell_more Count of s v p take = go (is_null v)
  where
    go : (b : Bool) → plus (Number (pos s.present) 0) (cond b Null (Number (pos 1) 0)) ≡ Number (pos (s.present + cond b 0 1)) 0
    go true = ap (λ n. Number (pos n) 0) (omega arith)
    go false = refl
cell_more Sum of s v p take =
    let typed = take (λ e. cc) in
    ap (plus (number_value (scale_of of) s.total)) (ap number_of (value_near of v typed.0 typed.1) ∙ number_one of v typed.1) ∙ plus_both (scale_of of) s.total (digits_of v)
cell_more Min of s v p take =
    let typed = take (λ e. cc) in
    ap (pick Least (or_null s.least)) (value_near of v typed.0 typed.1 ∙ value_one v) ∙ pick_both Least s.least (present_value v) p.0 (present_some v)
cell_more Max of s v p take =
    let typed = take (λ e. cc) in
    ap (pick Most (or_null s.most)) (value_near of v typed.0 typed.1 ∙ value_one v) ∙ pick_both Most s.most (present_value v) p.1 (present_some v)

abbrev tally : AggKind → SqlType → ℕ → Value → Tally
tally kind of rows cell = record { kind = kind; of = of; rows = rows; cell = cell }

tally_is : (kind : AggKind) (of : SqlType) (m n : ℕ) (v w : Value) → m ≡ n → v ≡ w → tally kind of m v ≡ tally kind of n w
tally_is kind of m n v w e f = λ i. record { kind = kind; of = of; rows = e i; cell = f i }

-- with a value more
pub tally_more : (kind : AggKind) (of : SqlType) (xs : List Value) (v : Value) → IsTaken kind of v → added (tally_of kind of xs) v ≡ tally_of kind of (xs ++ v ∷ [])
tally_more kind of xs v take =
    tally_is kind of (length xs + 1) (length (xs ++ v ∷ [])) _ _ (omega (arith, length-append xs (v ∷ [])))
    (cell_more kind of (state_of xs) v (state_some xs) take ∙ ap (finished kind (scale_of of)) (sym (state_of-append xs (v ∷ []) ∙ ap (together (state_of xs)) (state_of-one v))))

-- two merged
pub tally_both : (kind : AggKind) (of : SqlType) (xs ys : List Value) → merged (tally_of kind of xs) (tally_of kind of ys) ≡ tally_of kind of (xs ++ ys)
tally_both kind of xs ys =
    tally_is kind of (length xs + length ys) (length (xs ++ ys)) _ _ (omega (arith, length-append xs ys))
    (cell_both kind (scale_of of) (state_of xs) (state_of ys) (state_some xs) (state_some ys) ∙ ap (finished kind (scale_of of)) (sym (state_of-append xs ys)))

-- two merged that were split in any way
pub tally_sides : (kind : AggKind) (of : SqlType) (choices : List Bool) (values : List Value) → merged (tally_of kind of (side_of true choices values)) (tally_of kind of (side_of false choices values)) ≡ tally_of kind of values
tally_sides kind of choices values =
    let xs = side_of true choices values in
    let ys = side_of false choices values in
    tally_is kind of (length xs + length ys) (length values) _ _ (length-sides choices values)
    (cell_both kind (scale_of of) (state_of xs) (state_of ys) (state_some xs) (state_some ys) ∙ ap (finished kind (scale_of of)) (state_of-sides choices values))

tally_none : (kind : AggKind) (of : SqlType) → started kind of ≡ tally_of kind of []
tally_none CountRows of = refl
tally_none Count of = refl
tally_none Sum of = refl
tally_none Min of = refl
tally_none Max of = refl

adds : (kind : AggKind) (of : SqlType) (xs ys : List Value) → All (IsTaken kind of) ys → fold added (tally_of kind of xs) ys ≡ tally_of kind of (xs ++ ys)
adds kind of xs [] take = ap (tally_of kind of) (sym (append-nil xs))
adds kind of xs (y ∷ ys) take =
    ap (λ t. fold added t ys) (tally_more kind of xs y (take 0 y (omega arith)))
    ∙ adds kind of (xs ++ y ∷ []) ys (λ k d h. take (suc k) d (omega arith))
    ∙ ap (tally_of kind of) (append_assoc xs (y ∷ []) ys)

pub outcome_is : (kind : AggKind) (of : SqlType) (way : Way) → AreTaken kind of way → outcome kind of way ≡ tally_of kind of (values_in way)
outcome_is kind of (Adds values) take = ap (λ t. fold added t values) (tally_none kind of) ∙ adds kind of [] values take
outcome_is kind of (Merges first second) take =
    ap₂ merged (outcome_is kind of first take.0) (outcome_is kind of second take.1) ∙ tally_both kind of (values_in first) (values_in second)
