-- The columns that an expression names, by their span.
use Rattle.std.proofs.Common.{◌≡◌, ℕ, ◌+◌, ◌<◌, ◌≤◌, Bool, true, false, List, [], ◌∷◌, ◌++◌, map, refl, sym, ap, ◌∙◌, Option, Some, None, arith, get_or, drop, length}
use Rattle.std.proofs.lemmas.List.{drop_all}
use Rattle.std.specs.Prelude.{min, max, nat_le, nat_lt, ◌&&◌}
use Rattle.std.specs.List.{list_all}
use Rattle.std.proofs.lemmas.Bool.Decides.{nat_tests}
use Rattle.sql_expr.specs.declared.tree.CompareSign.{CompareSign}
use Rattle.sql_expr.specs.declared.tree.Expr.{Expr}
use Rattle.sql_expr.specs.declared.tree.Link.{Link}
use Rattle.sql_expr.specs.declared.tree.Expr.TheVariants.{Chain, Compare, OneOf, Between}
use Rattle.sql_expr.specs.declared.tree.Expr.TheOpen.{Expr-F}
use Rattle.sql_expr.specs.declared.tree.Expr.TheFolds.{map-Expr}
use Rattle.sql_expr.specs.declared.tree.Expr.TheViews.{out-Expr, outs-Chain, outs-Compare, outs-OneOf, outs-Between}
use Rattle.plan_tree.specs.Columns.{columns_of, link_columns, together, columns_step}
use Rattle.plan_tree.proofs.ColumnLemmas.{columns_out, link_columns-is}
use Rattle.sql_plan.proofs.Lists.{drop_is}
use Rattle.plan_tree.specs.Split.{top_of, top, is_own}
use Rattle.sql_plan.specs.declared.span.Span.{Span}
use Rattle.sql_plan.specs.Spans.{wider, span_of}

pub wider-none : (a : Option Span) → wider a None ≡ a
wider-none None = refl
wider-none (Some a) = refl

same_span : (a b : Span) → a.first ≡ b.first → a.last ≡ b.last → a ≡ b
same_span a b first last = λ i. record { first = first i; last = last i }

pub wider-assoc : (a b c : Option Span) → wider a (wider b c) ≡ wider (wider a b) c
wider-assoc None b c = refl
wider-assoc (Some a) None c = refl
wider-assoc (Some a) (Some b) None = refl
wider-assoc (Some a) (Some b) (Some c) =
    ap Some (same_span (record { first = min a.first (min b.first c.first); last = max a.last (max b.last c.last) }) (record { first = min (min a.first b.first) c.first; last = max (max a.last b.last) c.last }) (omega arith) (omega arith))

pub span-append : (xs ys : List ℕ) → span_of (xs ++ ys) ≡ wider (span_of xs) (span_of ys)
span-append [] ys = refl
span-append (x ∷ xs) ys =
    ap (wider (Some (record { first = x; last = x }))) (span-append xs ys) ∙ wider-assoc (Some (record { first = x; last = x })) (span_of xs) (span_of ys)

top_in : Option Span → ℕ
top_in None = 0
top_in (Some span) = span.last + 1

top_step : (place : ℕ) (span : Option Span) → max (place + 1) (top_in span) ≡ top_in (wider (Some (record { first = place; last = place })) span)
unfolding top_in
top_step place None = omega arith
top_step place (Some span) = omega arith

top-span : (places : List ℕ) → top_of places ≡ top_in (span_of places)
unfolding top_in
top-span [] = refl
top-span (place ∷ places) = ap (max (place + 1)) (top-span places) ∙ top_step place (span_of places)

from_in : ℕ → Option Span → Bool
from_in at None = true
from_in at (Some span) = nat_le at span.first

from_step : (at place : ℕ) (span : Option Span) → (nat_le at place && from_in at span) ≡ from_in at (wider (Some (record { first = place; last = place })) span)
unfolding from_in
from_step at place None = grind (arith, nat_tests)
from_step at place (Some span) = grind (arith, nat_tests)

from-span : (at : ℕ) (places : List ℕ) → list_all (nat_le at) places ≡ from_in at (span_of places)
unfolding from_in
from-span at [] = refl
from-span at (place ∷ places) = ap (λ b. nat_le at place && b) (from-span at places) ∙ from_step at place (span_of places)

-- what the code reads of a span
pub top_some : (e : Expr) (span : Option Span) (s : Span) → span ≡ span_of (columns_of e) → span ≡ Some s → s.last + 1 ≡ top e
unfolding top_in
top_some e span s is some = sym (top-span (columns_of e) ∙ ap top_in (sym is ∙ some))

pub top_none : (e : Expr) (span : Option Span) → span ≡ span_of (columns_of e) → span ≡ None → 0 ≡ top e
unfolding top_in
top_none e span is none = sym (top-span (columns_of e) ∙ ap top_in (sym is ∙ none))

own_both : ℕ → Option Span → Bool
own_both at span = nat_lt 0 (top_in span) && from_in at span

own-span : (at : ℕ) (e : Expr) → is_own at e ≡ own_both at (span_of (columns_of e))
unfolding own_both
own-span at e = ap (λ n. nat_lt 0 n && list_all (nat_le at) (columns_of e)) (top-span (columns_of e)) ∙ ap (λ b. nat_lt 0 (top_in (span_of (columns_of e))) && b) (from-span at (columns_of e))

pub own_some : (at : ℕ) (e : Expr) (span : Option Span) (s : Span) → span ≡ span_of (columns_of e) → span ≡ Some s → nat_le at s.first ≡ is_own at e
unfolding own_both top_in from_in
own_some at e span s is some =
    let one : nat_lt 0 (s.last + 1) ≡ true = grind (arith, nat_tests) in
    sym (own-span at e ∙ ap (own_both at) (sym is ∙ some) ∙ ap (λ b. b && nat_le at s.first) one)

pub own_none : (at : ℕ) (e : Expr) (span : Option Span) → span ≡ span_of (columns_of e) → span ≡ None → false ≡ is_own at e
unfolding own_both top_in from_in
own_none at e span is none = sym (own-span at e ∙ ap (own_both at) (sym is ∙ none))

-- ---- the span of a node

pub span-node : (e : Expr) (x : Expr-F Expr Link) → out-Expr e ≡ x → span_of (columns_of e) ≡ span_of (columns_step (map-Expr Expr Link (List ℕ) (List ℕ) columns_of link_columns x))
span-node e x is = ap span_of (columns_out e x is)

pub two_spans : (e : Expr) (first second : List ℕ) (a b result : Option Span) → columns_of e ≡ first ++ second → a ≡ span_of first → b ≡ span_of second → result ≡ wider a b → result ≡ span_of (columns_of e)
two_spans e first second a b result is one two made =
    made ∙ (λ i. wider (one i) (two i)) ∙ sym (span-append first second) ∙ ap span_of (sym is)

pub chain_span : (e first first' : Expr) (links links' : List Link) (a b result : Option Span) → e ≡ Chain first links → first' ≡ first → links' ≡ links
    → a ≡ span_of (columns_of first') → b ≡ span_of (together (map link_columns links')) → result ≡ wider a b → result ≡ span_of (columns_of e)
chain_span e first first' links links' a b result is same sames one two =
    two_spans e (columns_of first) (together (map link_columns links)) a b result (columns_out e (Expr-F.Chain first links) (ap out-Expr is ∙ outs-Chain first links))
    (one ∙ ap (λ x. span_of (columns_of x)) same) (two ∙ ap (λ ls. span_of (together (map link_columns ls))) sames)

pub compare_span : (e left left' right right' : Expr) (sign : CompareSign) (a b result : Option Span) → e ≡ Compare sign left right → left' ≡ left → right' ≡ right
    → a ≡ span_of (columns_of left') → b ≡ span_of (columns_of right') → result ≡ wider a b → result ≡ span_of (columns_of e)
compare_span e left left' right right' sign a b result is same sames one two =
    two_spans e (columns_of left) (columns_of right) a b result (columns_out e (Expr-F.Compare sign left right) (ap out-Expr is ∙ outs-Compare sign left right))
    (one ∙ ap (λ x. span_of (columns_of x)) same) (two ∙ ap (λ x. span_of (columns_of x)) sames)

pub one_of_span : (e of of' : Expr) (list list' : List Expr) (negated : Bool) (a b result : Option Span) → e ≡ OneOf of list negated → of' ≡ of → list' ≡ list
    → a ≡ span_of (columns_of of') → b ≡ span_of (together (map columns_of list')) → result ≡ wider a b → result ≡ span_of (columns_of e)
one_of_span e of of' list list' negated a b result is same sames one two =
    two_spans e (columns_of of) (together (map columns_of list)) a b result (columns_out e (Expr-F.OneOf of list negated) (ap out-Expr is ∙ outs-OneOf of list negated))
    (one ∙ ap (λ x. span_of (columns_of x)) same) (two ∙ ap (λ ls. span_of (together (map columns_of ls))) sames)

pub between_span : (e of of' low low' high high' : Expr) (negated : Bool) (a b c bounds result : Option Span) → e ≡ Between of low high negated → of' ≡ of → low' ≡ low → high' ≡ high
    → a ≡ span_of (columns_of of') → b ≡ span_of (columns_of low') → c ≡ span_of (columns_of high') → bounds ≡ wider b c → result ≡ wider a bounds → result ≡ span_of (columns_of e)
between_span e of of' low low' high high' negated a b c bounds result is x y z one two three both =
    two_spans e (columns_of of) (columns_of low ++ columns_of high) a bounds result (columns_out e (Expr-F.Between of low high negated) (ap out-Expr is ∙ outs-Between of low high negated))
    (one ∙ ap (λ x. span_of (columns_of x)) x)
    (both ∙ (λ i. wider (two i) (three i)) ∙ (λ i. wider (span_of (columns_of (y i))) (span_of (columns_of (z i)))) ∙ sym (span-append (columns_of low) (columns_of high)))

-- ---- lists of nodes

pub list_next : {A : Type 0} → (f : A → List ℕ) (list : List A) (i : ℕ) (x : A) (whole span one span' : Option Span) → i < length list → x ≡ get_or list i x
    → wider span (span_of (together (map f (drop i list)))) ≡ whole → one ≡ span_of (f x) → span' ≡ wider span one → wider span' (span_of (together (map f (drop (i + 1) list)))) ≡ whole
list_next {A = A} f list i x whole span one span' h is so_far made wide =
    let rest = together (map f (drop (i + 1) list)) in
    ap (λ s. wider s (span_of rest)) (wide ∙ ap (wider span) made)
    ∙ sym (wider-assoc span (span_of (f x)) (span_of rest))
    ∙ ap (wider span) (sym (span-append (f x) rest))
    ∙ ap (λ (l : List A). wider span (span_of (together (map f l)))) (sym (drop_is list i x h is))
    ∙ so_far

pub list_done : {A : Type 0} → (f : A → List ℕ) (list : List A) (i : ℕ) (whole span : Option Span) → length list ≤ i → wider span (span_of (together (map f (drop i list)))) ≡ whole → span ≡ whole
list_done {A = A} f list i whole span h so_far = sym (wider-none span) ∙ ap (λ (l : List A). wider span (span_of (together (map f l)))) (sym (drop_all i list h)) ∙ so_far

pub link_span : (l : Link) (right : Expr) (one : Option Span) → right ≡ l.right → one ≡ span_of (columns_of right) → one ≡ span_of (link_columns l)
link_span l right one is made = made ∙ ap (λ x. span_of (columns_of x)) is ∙ ap span_of (sym (link_columns-is l))
