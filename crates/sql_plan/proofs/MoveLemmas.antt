-- An expression over other places, by its outermost node.
use Rattle.std.proofs.Common.{◌≡◌, ℕ, Bool, List, [], ◌∷◌, map, refl, sym, ap, ◌∙◌, subst}
use Rattle.std.specs.Prelude.{Result, IfOk}
use Rattle.ooc_types.specs.declared.schema.SqlType.{SqlType}
use Rattle.ooc_types.specs.declared.value.Value.{Value}
use Rattle.ooc_types.specs.declared.memory.OutOfMemory.{OutOfMemory}
use Rattle.sql_expr.specs.declared.tree.CompareSign.{CompareSign}
use Rattle.sql_expr.specs.declared.tree.Expr.{Expr}
use Rattle.sql_expr.specs.declared.tree.Expr.TheVariants.{Constant, Not, Minus, Every, Either, Chain, Compare, IsNull, Like, OneOf, Between, rolls-Constant, rolls-Not, rolls-Minus, rolls-Every, rolls-Either, rolls-Chain, rolls-Compare, rolls-IsNull, rolls-Like, rolls-OneOf, rolls-Between}
use Rattle.sql_expr.specs.declared.tree.Link.{Link}
use Rattle.sql_expr.specs.declared.tree.Expr.TheOpen.{Expr-F}
use Rattle.sql_expr.specs.declared.tree.Expr.TheFolds.{fold_out-Expr, fold_out-Link, map-Expr}
use Rattle.sql_expr.specs.declared.tree.Expr.TheViews.{out-Expr, roll-Expr, roll-Link, outs-Constant, outs-Not, outs-Minus, outs-Chain, outs-Every, outs-Either, outs-Compare, outs-IsNull, outs-Like, outs-OneOf, outs-Between}
use Rattle.sql_meaning.specs.Moved.{moved, moved_link, moved_node}
use Rattle.sql_plan.specs.declared.places.Places.{Places}
use Rattle.sql_plan.specs.declared.places.Places.TheVariants.{Kept, Moved}
use Rattle.sql_plan.specs.Places.{moved_by, link_moved_by}
use Rattle.sql_plan.specs.Steps.{GoesOn, GoesOnBoth}
use Rattle.sql_plan.proofs.Going.{goes_on, goes_on_both}

moved_out : (places : List ℕ) (e : Expr) (x : Expr-F Expr Link) → out-Expr e ≡ x → moved places e ≡ roll-Expr (moved_node places (map-Expr Expr Link Expr Link (moved places) (moved_link places) x))
moved_out places e x is =
    fold_out-Expr Expr Link (λ y. roll-Expr (moved_node places y)) roll-Link e
    ∙ ap (λ y. roll-Expr (moved_node places (map-Expr Expr Link Expr Link (moved places) (moved_link places) y))) is

pub keep_list : (list : List Expr) → map (moved_by Kept) list ≡ list
keep_list [] = refl
keep_list (e ∷ list) = ap (λ es. e ∷ es) (keep_list list)

pub keep_links : (list : List Link) → map (link_moved_by Kept) list ≡ list
keep_links [] = refl
keep_links (l ∷ list) = ap (λ ls. l ∷ ls) (keep_links list)

moved_not : (p : Places) (of : Expr) → moved_by p (Not of) ≡ Not (moved_by p of)
moved_not Kept of = refl
moved_not (Moved list) of = moved_out list (Not of) (Expr-F.Not of) (outs-Not of) ∙ rolls-Not (moved list of)

moved_minus : (p : Places) (of : Expr) (kind : SqlType) → moved_by p (Minus of kind) ≡ Minus (moved_by p of) kind
moved_minus Kept of kind = refl
moved_minus (Moved list) of kind = moved_out list (Minus of kind) (Expr-F.Minus of kind) (outs-Minus of kind) ∙ rolls-Minus (moved list of) kind

moved_every : (p : Places) (es : List Expr) → moved_by p (Every es) ≡ Every (map (moved_by p) es)
moved_every Kept es = ap Every (sym (keep_list es))
moved_every (Moved list) es = moved_out list (Every es) (Expr-F.Every es) (outs-Every es) ∙ rolls-Every (map (moved list) es)

moved_either : (p : Places) (es : List Expr) → moved_by p (Either es) ≡ Either (map (moved_by p) es)
moved_either Kept es = ap Either (sym (keep_list es))
moved_either (Moved list) es = moved_out list (Either es) (Expr-F.Either es) (outs-Either es) ∙ rolls-Either (map (moved list) es)

moved_chain : (p : Places) (first : Expr) (links : List Link) → moved_by p (Chain first links) ≡ Chain (moved_by p first) (map (link_moved_by p) links)
moved_chain Kept first links = ap (Chain first) (sym (keep_links links))
moved_chain (Moved list) first links =
    moved_out list (Chain first links) (Expr-F.Chain first links) (outs-Chain first links) ∙ rolls-Chain (moved list first) (map (moved_link list) links)

moved_compare : (p : Places) (sign : CompareSign) (left right : Expr) → moved_by p (Compare sign left right) ≡ Compare sign (moved_by p left) (moved_by p right)
moved_compare Kept sign left right = refl
moved_compare (Moved list) sign left right =
    moved_out list (Compare sign left right) (Expr-F.Compare sign left right) (outs-Compare sign left right) ∙ rolls-Compare sign (moved list left) (moved list right)

moved_null : (p : Places) (of : Expr) (negated : Bool) → moved_by p (IsNull of negated) ≡ IsNull (moved_by p of) negated
moved_null Kept of negated = refl
moved_null (Moved list) of negated = moved_out list (IsNull of negated) (Expr-F.IsNull of negated) (outs-IsNull of negated) ∙ rolls-IsNull (moved list of) negated

moved_like : (p : Places) (of : Expr) (pattern : List ℕ) (negated : Bool) → moved_by p (Like of pattern negated) ≡ Like (moved_by p of) pattern negated
moved_like Kept of pattern negated = refl
moved_like (Moved list) of pattern negated =
    moved_out list (Like of pattern negated) (Expr-F.Like of pattern negated) (outs-Like of pattern negated) ∙ rolls-Like (moved list of) pattern negated

moved_one_of : (p : Places) (of : Expr) (es : List Expr) (negated : Bool) → moved_by p (OneOf of es negated) ≡ OneOf (moved_by p of) (map (moved_by p) es) negated
moved_one_of Kept of es negated = ap (λ xs. OneOf of xs negated) (sym (keep_list es))
moved_one_of (Moved list) of es negated =
    moved_out list (OneOf of es negated) (Expr-F.OneOf of es negated) (outs-OneOf of es negated) ∙ rolls-OneOf (moved list of) (map (moved list) es) negated

moved_between : (p : Places) (of low high : Expr) (negated : Bool) → moved_by p (Between of low high negated) ≡ Between (moved_by p of) (moved_by p low) (moved_by p high) negated
moved_between Kept of low high negated = refl
moved_between (Moved list) of low high negated =
    moved_out list (Between of low high negated) (Expr-F.Between of low high negated) (outs-Between of low high negated)
    ∙ rolls-Between (moved list of) (moved list low) (moved list high) negated

pub moved_constant : (p : Places) (value : Value) (kind : SqlType) → moved_by p (Constant value kind) ≡ Constant value kind
moved_constant Kept value kind = refl
moved_constant (Moved list) value kind = moved_out list (Constant value kind) (Expr-F.Constant value kind) (outs-Constant value kind) ∙ rolls-Constant value kind

pub link_moved : (p : Places) (l : Link) → link_moved_by p l ≡ record l { right = moved_by p l.right }
link_moved Kept l = refl
link_moved (Moved list) l = fold_out-Link Expr Link (λ y. roll-Expr (moved_node list y)) roll-Link l

-- an expression that was made is the one that is meant
named : (e x : Expr) (result : Result Expr OutOfMemory) → e ≡ x → IfOk result (λ b. b ≡ e) → IfOk result (λ b. b ≡ x)
named e x result is = subst (λ y. IfOk result (λ b. b ≡ y)) is

pub every_made : (p : Places) (e : Expr) (list list' : List Expr) (got : Result (List Expr) OutOfMemory) (result : Result Expr OutOfMemory) → e ≡ Every list → list' ≡ list
    → IfOk got (λ es. es ≡ map (moved_by p) list') → GoesOn Every got result → IfOk result (λ b. b ≡ moved_by p e)
every_made p e list list' got result is same made on =
    named (Every (map (moved_by p) list')) (moved_by p e) result (ap (λ l. Every (map (moved_by p) l)) same ∙ sym (moved_every p list) ∙ sym (ap (moved_by p) is))
    (goes_on Every (map (moved_by p) list') got result made on)

pub either_made : (p : Places) (e : Expr) (list list' : List Expr) (got : Result (List Expr) OutOfMemory) (result : Result Expr OutOfMemory) → e ≡ Either list → list' ≡ list
    → IfOk got (λ es. es ≡ map (moved_by p) list') → GoesOn Either got result → IfOk result (λ b. b ≡ moved_by p e)
either_made p e list list' got result is same made on =
    named (Either (map (moved_by p) list')) (moved_by p e) result (ap (λ l. Either (map (moved_by p) l)) same ∙ sym (moved_either p list) ∙ sym (ap (moved_by p) is))
    (goes_on Either (map (moved_by p) list') got result made on)

pub chain_made : (p : Places) (e first first' : Expr) (links links' : List Link) (got : Result Expr OutOfMemory) (more : Result (List Link) OutOfMemory) (result : Result Expr OutOfMemory)
    → e ≡ Chain first links → first' ≡ first → links' ≡ links → IfOk got (λ b. b ≡ moved_by p first') → IfOk more (λ ls. ls ≡ map (link_moved_by p) links') → GoesOnBoth Chain got more result
    → IfOk result (λ b. b ≡ moved_by p e)
chain_made p e first first' links links' got more result is same sames made mades on =
    named (Chain (moved_by p first') (map (link_moved_by p) links')) (moved_by p e) result
    ((λ i. Chain (moved_by p (same i)) (map (link_moved_by p) (sames i))) ∙ sym (moved_chain p first links) ∙ sym (ap (moved_by p) is))
    (goes_on_both Chain (moved_by p first') (map (link_moved_by p) links') got more result made mades on)

pub one_of_made : (p : Places) (e of of' : Expr) (list list' : List Expr) (negated : Bool) (got : Result Expr OutOfMemory) (more : Result (List Expr) OutOfMemory) (result : Result Expr OutOfMemory)
    → e ≡ OneOf of list negated → of' ≡ of → list' ≡ list → IfOk got (λ b. b ≡ moved_by p of') → IfOk more (λ es. es ≡ map (moved_by p) list')
    → GoesOnBoth (λ of list. OneOf of list negated) got more result → IfOk result (λ b. b ≡ moved_by p e)
one_of_made p e of of' list list' negated got more result is same sames made mades on =
    named (OneOf (moved_by p of') (map (moved_by p) list') negated) (moved_by p e) result
    ((λ i. OneOf (moved_by p (same i)) (map (moved_by p) (sames i)) negated) ∙ sym (moved_one_of p of list negated) ∙ sym (ap (moved_by p) is))
    (goes_on_both (λ of list. OneOf of list negated) (moved_by p of') (map (moved_by p) list') got more result made mades on)

pub between_made : (p : Places) (e of of' low low' high high' : Expr) (negated : Bool) (got first second : Result Expr OutOfMemory) (both : Result (Expr × Expr) OutOfMemory) (result : Result Expr OutOfMemory)
    → e ≡ Between of low high negated → of' ≡ of → low' ≡ low → high' ≡ high → IfOk got (λ b. b ≡ moved_by p of') → IfOk first (λ b. b ≡ moved_by p low') → IfOk second (λ b. b ≡ moved_by p high')
    → GoesOnBoth (λ low high. (low, high)) first second both → GoesOnBoth (λ of bounds. Between of bounds.0 bounds.1 negated) got both result → IfOk result (λ b. b ≡ moved_by p e)
between_made p e of of' low low' high high' negated got first second both result is a b c made_of made_low made_high pair on =
    named (Between (moved_by p of') (moved_by p low') (moved_by p high') negated) (moved_by p e) result
    ((λ i. Between (moved_by p (a i)) (moved_by p (b i)) (moved_by p (c i)) negated) ∙ sym (moved_between p of low high negated) ∙ sym (ap (moved_by p) is))
    (goes_on_both (λ of bounds. Between of bounds.0 bounds.1 negated) (moved_by p of') (moved_by p low', moved_by p high') got both result made_of
    (goes_on_both (λ low high. (low, high)) (moved_by p low') (moved_by p high') first second both made_low made_high pair) on)
