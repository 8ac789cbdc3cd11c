-- What operations make of their operands.
use Rattle.std.proofs.Common.{◌≡◌, ℕ, ◌+◌, ◌≤◌, Bool, true, false, List, [], ◌∷◌, ◌++◌, length, sym, ap, ◌∙◌, subst, Option, Some, None, arith, Ok}
use Rattle.std.specs.Prelude.{◌&&◌}
use Rattle.std.specs.List.{AllByRecursion}
use Rattle.ooc_types.specs.declared.schema.SqlType.{SqlType}
use Rattle.ooc_types.specs.declared.schema.SqlType.TheVariants.{Boolean}
use Rattle.ooc_types.specs.declared.refusal.RefusalKind.TheVariants.{TypeMismatch}
use Rattle.sql_expr.specs.declared.tree.Expr.{Expr}
use Rattle.sql_expr.specs.declared.tree.Link.{Link}
use Rattle.sql_expr.specs.declared.tree.Expr.TheOpen.{Expr-F}
use Rattle.sql_expr.specs.declared.tree.Expr.TheVariants as tree
use Rattle.sql_expr.specs.declared.tree.Expr.TheVariants.{rolls-Constant, rolls-Column, rolls-Not, rolls-Minus, rolls-Every, rolls-Either, rolls-Chain, rolls-Compare, rolls-IsNull, rolls-Like, rolls-OneOf, rolls-Between}
use Rattle.sql_expr.specs.declared.tree.Expr.TheViews.{out-Expr, out-roll-Expr}
use Rattle.sql_expr.specs.Kinds.{kind_of}
use Rattle.sql_expr.specs.Values.{HasShortTexts}
use Rattle.sql_expr.proofs.Opened.{AllLinks, AllOf}
use Rattle.sql_grammar.specs.declared.tree.expr.Span.{Span}
use Rattle.sql_grammar.specs.declared.tree.expr.Literal.{Literal}
use Rattle.sql_grammar.specs.declared.tree.expr.Constant.{Constant}
use Rattle.sql_grammar.specs.declared.tree.expr.CompareSign.{CompareSign as WrittenCompare}
use Rattle.sql_grammar.specs.declared.tree.expr.ChainSign.{ChainSign as WrittenSign}
use Rattle.sql_scope.specs.declared.chain.Chain.{Chain}
use Rattle.sql_scope.specs.declared.chain.Conditions.{Conditions}
use Rattle.sql_scope.specs.declared.part.Call.{Call}
use Rattle.sql_scope.specs.declared.part.Part.{Part}
use Rattle.sql_scope.specs.Answer.{Answer, ◌>>=◌, unless}
use Rattle.sql_scope.specs.Literals as rules
use Rattle.sql_scope.specs.Operations.{are_comparable, is_boolean, is_number, is_text, linked_type}
use Rattle.sql_scope.specs.Parts as parts
use Rattle.sql_scope.specs.Scopes.{View, kinds}
use Rattle.sql_scope.specs.Trees as trees
use Rattle.typed_scope.specs.Typed.{IsPartOver, IsTypedOver, seen_of}
use Rattle.typed_scope.proofs.ChainLemmas.{begun-typed, linked-typed, ended-typed, started-typed, joined-typed, every-typed, either-typed}
use Rattle.typed_scope.proofs.LeafLemmas.{first-answer}
use Rattle.typed_scope.proofs.ListLemmas.{like-typed, one_of-typed}
use Rattle.typed_scope.proofs.PartLemmas.{answered, asked, minus-typed, negation-typed, comparison-typed, null_test-typed, between-typed}
use Rattle.formed_binding.specs.Answers.{OfAnswer}
use Rattle.formed_binding.proofs.EachLemmas.{any-answer, asked-for, of-answer, on-answer, whenever}
use Rattle.formed_binding.specs.Parts.{AreListed, IsListed, AreCalls, AreConditions, IsChain, IsPart, calls_at}
use Rattle.formed_binding.proofs.Facts.{calls-both, calls-more, counted-both, made, no-first}
use Rattle.formed_binding.proofs.NodeLemmas.{IsConstant, is-constant, covered-constant, literal-part}
use Rattle.formed_binding.proofs.TableLemmas.{all-behind}
use Rattle.formed_binding.specs.Covered.{Covered}
use Rattle.formed_binding.proofs.TreeLemmas.{covered-node}

-- ---- over one operand

-- what is unfolded of a node that was made
abbrev Out : Expr → Expr-F Expr Link → Type 0
Out e x = out-Expr e ≡ x

pub minus-part : (view : View) (flag : Bool) (n : ℕ → ℕ) (place : ℕ) (of : Part) → IsPart view flag n of → OfAnswer (IsPart view flag n) (parts.minus view place of)
minus-part view flag n place of h = whenever (IsPart view flag n) (parts.minus view place of)
    (λ part is.
    let made_tree = tree.Minus of.tree (kind_of of.tree) in
    let a = asked (is_number (kind_of of.tree)) place TypeMismatch made_tree (parts.over_one view of) part is in
    made view flag n made_tree of.bare of.calls part (λ calls. minus-typed (seen_of (kinds view) calls) (length (kinds view)) view.limit view place of part (h.typed calls) is) h.calls h.counted
    (λ none. covered-node view.keys (length view.columns) made_tree (Expr-F.Minus of.tree (kind_of of.tree)) (ap out-Expr (sym (rolls-Minus of.tree (kind_of of.tree))) ∙ out-roll-Expr (Expr-F.Minus of.tree (kind_of of.tree))) tt (h.covered none)) a.1)

pub negation-part : (view : View) (flag : Bool) (n : ℕ → ℕ) (place : ℕ) (of : Part) → IsPart view flag n of → OfAnswer (IsPart view flag n) (parts.negation view place of)
negation-part view flag n place of h = whenever (IsPart view flag n) (parts.negation view place of)
    (λ part is.
    let a = asked (is_boolean (kind_of of.tree)) place TypeMismatch (tree.Not of.tree) (parts.over_one view of) part is in
    made view flag n (tree.Not of.tree) of.bare of.calls part (λ calls. negation-typed (seen_of (kinds view) calls) (length (kinds view)) view.limit view place of part (h.typed calls) is) h.calls h.counted
    (λ none. covered-node view.keys (length view.columns) (tree.Not of.tree) (Expr-F.Not of.tree) (ap out-Expr (sym (rolls-Not of.tree)) ∙ out-roll-Expr (Expr-F.Not of.tree)) tt (h.covered none)) a.1)

pub null-part : (view : View) (flag : Bool) (n : ℕ → ℕ) (negated : Bool) (of : Part) → IsPart view flag n of → OfAnswer (IsPart view flag n) (parts.null_test view negated of)
null-part view flag n negated of h = whenever (IsPart view flag n) (parts.null_test view negated of)
    (λ part is.
    made view flag n (tree.IsNull of.tree negated) of.bare of.calls part (λ calls. null_test-typed (seen_of (kinds view) calls) (length (kinds view)) view.limit view negated of part (h.typed calls) is) h.calls h.counted
    (λ none. covered-node view.keys (length view.columns) (tree.IsNull of.tree negated) (Expr-F.IsNull of.tree negated) (ap out-Expr (sym (rolls-IsNull of.tree negated)) ∙ out-roll-Expr (Expr-F.IsNull of.tree negated)) tt (h.covered none)) is)

asked-tree : (holds : Bool) (place : ℕ) (e t : Expr) → unless holds place TypeMismatch e ≡ Ok t → e ≡ t
asked-tree true place e t is = cc
asked-tree false place e t is = cc

pub like-part : (view : View) (flag : Bool) (n : ℕ → ℕ) (place : ℕ) (negated : Bool) (pattern : Span) (of : Part) → IsPart view flag n of → OfAnswer (IsPart view flag n) (parts.like view place negated pattern of)
like-part view flag n place negated pattern of h = whenever (IsPart view flag n) (parts.like view place negated pattern of)
    (λ part is.
    let a = first-answer (trees.like view place negated pattern of.tree) (parts.over_one view of) part is in
    let b = first-answer (rules.text_literal view pattern) (λ (text : List ℕ). unless (is_text (kind_of of.tree)) place TypeMismatch (tree.Like of.tree text negated)) a.0 a.1.0 in
    let shape = Expr-F.Like of.tree b.0 negated in
    let is_tree = asked-tree (is_text (kind_of of.tree)) place (tree.Like of.tree b.0 negated) a.0 b.1.1 in
    made view flag n a.0 of.bare of.calls part (λ calls. like-typed (seen_of (kinds view) calls) (length (kinds view)) view.limit view place negated pattern of part (h.typed calls) is) h.calls h.counted
    (λ none. subst (Covered view.keys (length view.columns)) is_tree (covered-node view.keys (length view.columns) (tree.Like of.tree b.0 negated) shape (ap out-Expr (sym (rolls-Like of.tree b.0 negated)) ∙ out-roll-Expr shape) tt (h.covered none))) a.1.1)

-- ---- over constants

plain-part : (view : View) (written : Literal) (t : Expr) → rules.literal view written ≡ Ok t → IsPart view false (λ place. 0) (parts.part_of view t None [])
plain-part view written t is =
    of-answer (IsPart view false (λ place. 0)) (parts.literal view written) (parts.part_of view t None []) (literal-part view written) (ap (λ (m : Answer Expr). m >>= parts.constant_part view) is)

as-listed : (view : View) (t : Expr) (bare : Option ℕ) → Covered view.keys (length view.columns) t → ((calls : List Call) → IsPartOver (kinds view) calls view.limit (parts.part_of view t bare [])) → IsListed view t
as-listed view t bare covered typed = record { typed = λ calls. (typed calls).typed tt; short = (typed []).short; covered = covered }

constant-listed : (view : View) (written : Constant) → OfAnswer (IsListed view) (trees.constant view written)
constant-listed view written =
    on-answer (λ (t : Expr). rules.literal view written.literal ≡ Ok t) (IsListed view) (rules.literal view written.literal) (trees.constant_behind written.minus) (any-answer (rules.literal view written.literal))
    (λ t is. behind written.minus t is)
  where
    behind : (minus : Option ℕ) (t : Expr) → rules.literal view written.literal ≡ Ok t → OfAnswer (IsListed view) (trees.constant_behind minus t)
    behind None t is =
        as-listed view t None (covered-constant view.keys (length view.columns) t (of-answer IsConstant (rules.literal view written.literal) t (is-constant view written.literal) is)) (plain-part view written.literal t is).typed
    behind (Some place) t is = whenever (IsListed view) (trees.minus place t)
        (λ m e.
        let first = plain-part view written.literal t is in
        let made_part = parts.part_of view m (parts.part_of view t None []).bare [] in
        let same = asked-tree (is_number (kind_of t)) place (tree.Minus t (kind_of t)) m e in
        let constant = covered-constant view.keys (length view.columns) t (of-answer IsConstant (rules.literal view written.literal) t (is-constant view written.literal) is) in
        let shape = Expr-F.Minus t (kind_of t) in
        as-listed view m (parts.part_of view t None []).bare
        (subst (Covered view.keys (length view.columns)) same (covered-node view.keys (length view.columns) (tree.Minus t (kind_of t)) shape (ap out-Expr (sym (rolls-Minus t (kind_of t))) ∙ out-roll-Expr shape) tt constant))
        (λ calls. minus-typed (seen_of (kinds view) calls) (length (kinds view)) view.limit view place (parts.part_of view t None []) made_part (first.typed calls) (ap (λ (a : Answer Expr). a >>= parts.over_one view (parts.part_of view t None [])) e)))

pub constants-listed : (view : View) (m : Answer (List Expr)) (list : List Constant) → OfAnswer (AreListed view) m → OfAnswer (AreListed view) (trees.constants_from view m list)
constants-listed view m [] are = are
constants-listed view m (written ∷ list) are =
    constants-listed view (m >>= (λ (before : List Expr). trees.constant view written >>= trees.one_more before)) list
    (on-answer (AreListed view) (AreListed view) m (λ (before : List Expr). trees.constant view written >>= trees.one_more before) are
    (λ before h. on-answer (IsListed view) (AreListed view) (trees.constant view written) (trees.one_more before) (constant-listed view written) (λ t listed. all-behind (IsListed view) before t h listed)))

all-typed : (view : View) (calls : List Call) (list : List Expr) → AreListed view list → AllByRecursion (IsTypedOver (seen_of (kinds view) calls)) list
all-typed view calls [] are = tt
all-typed view calls (e ∷ list) are = (are.0.typed calls, all-typed view calls list are.1)

all-short : (view : View) (list : List Expr) → AreListed view list → AllByRecursion (HasShortTexts view.limit) list
all-short view [] are = tt
all-short view (e ∷ list) are = (are.0.short, all-short view list are.1)

all-covered : (view : View) (list : List Expr) → AreListed view list → AllOf (Covered view.keys (length view.columns)) list
all-covered view [] are = tt
all-covered view (e ∷ list) are = (are.0.covered, all-covered view list are.1)

pub one-of-part : (view : View) (flag : Bool) (n : ℕ → ℕ) (place : ℕ) (negated : Bool) (of : Part) (list : List Expr) → IsPart view flag n of → AreListed view list → OfAnswer (IsPart view flag n) (parts.one_of view place negated of list)
one-of-part view flag n place negated of list h are = whenever (IsPart view flag n) (parts.one_of view place negated of list)
    (λ part is.
    let made_tree = tree.OneOf of.tree list negated in
    let a = asked (trees.all_comparable (kind_of of.tree) list) place TypeMismatch made_tree (parts.over_one view of) part is in
    made view flag n made_tree of.bare of.calls part
    (λ calls. one_of-typed (seen_of (kinds view) calls) (length (kinds view)) view.limit view place negated of list part (h.typed calls) (all-typed view calls list are) (all-short view list are) is) h.calls h.counted
    (λ none. covered-node view.keys (length view.columns) made_tree (Expr-F.OneOf of.tree list negated) (ap out-Expr (sym (rolls-OneOf of.tree list negated)) ∙ out-roll-Expr (Expr-F.OneOf of.tree list negated)) tt (h.covered none, all-covered view list are)) a.1)

-- ---- over two and three

-- calls of two parts, under one flag and one count
pub joined-calls : (view : View) (flag : Bool) (n : ℕ → ℕ) (f g : Bool) (m k : ℕ → ℕ) (xs ys : List Call) → AreCalls view f xs → AreCalls view g ys → (f ≡ true → flag ≡ true) → (g ≡ true → flag ≡ true)
    → ((place : ℕ) → calls_at xs place ≤ m place) → ((place : ℕ) → calls_at ys place ≤ k place) → ((place : ℕ) → m place + k place ≤ n place)
    → AreCalls view flag (xs ++ ys) × ((place : ℕ) → calls_at (xs ++ ys) place ≤ n place)
joined-calls view flag n f g m k xs ys a b to other left right together = (
  calls-both view flag xs ys (calls-more view f flag xs to a) (calls-more view g flag ys other b),
  λ place. let e = counted-both xs ys place in let l = left place in let r = right place in let t = together place in omega arith,
)

pub comparison-part : (view : View) (flag f g : Bool) (n m k : ℕ → ℕ) (place : ℕ) (sign : WrittenCompare) (l r : Part) → IsPart view f m l → IsPart view g k r → (f ≡ true → flag ≡ true) → (g ≡ true → flag ≡ true)
    → ((place : ℕ) → m place + k place ≤ n place) → OfAnswer (IsPart view flag n) (parts.comparison view place sign l r)
comparison-part view flag f g n m k place sign l r h i to other together = whenever (IsPart view flag n) (parts.comparison view place sign l r)
    (λ part is.
    let made_tree = tree.Compare (trees.compare_sign sign) l.tree r.tree in
    let shape = Expr-F.Compare (trees.compare_sign sign) l.tree r.tree in
    let a = asked (are_comparable (kind_of l.tree) (kind_of r.tree)) place TypeMismatch made_tree (parts.over_two view l r) part is in
    let both = joined-calls view flag n f g m k l.calls r.calls h.calls i.calls to other h.counted i.counted together in
    made view flag n made_tree (parts.first_of l.bare r.bare) (l.calls ++ r.calls) part (λ calls. comparison-typed (seen_of (kinds view) calls) (length (kinds view)) view.limit view place sign l r part (h.typed calls) (i.typed calls) is) both.0 both.1
    (λ none. let nones = no-first l.bare r.bare none in
    covered-node view.keys (length view.columns) made_tree shape (ap out-Expr (sym (rolls-Compare (trees.compare_sign sign) l.tree r.tree)) ∙ out-roll-Expr shape) tt (h.covered nones.0, i.covered nones.1)) a.1)

pub between-part : (view : View) (flag f g d : Bool) (n m k j : ℕ → ℕ) (place : ℕ) (negated : Bool) (of low high : Part) → IsPart view f m of → IsPart view g k low → IsPart view d j high
    → (f ≡ true → flag ≡ true) → (g ≡ true → flag ≡ true) → (d ≡ true → flag ≡ true) → ((place : ℕ) → m place + (k place + j place) ≤ n place) → OfAnswer (IsPart view flag n) (parts.between view place negated of low high)
between-part view flag f g d n m k j place negated of low high h i l to other third together = whenever (IsPart view flag n) (parts.between view place negated of low high)
    (λ part is.
    let made_tree = tree.Between of.tree low.tree high.tree negated in
    let shape = Expr-F.Between of.tree low.tree high.tree negated in
    let a = asked (are_comparable (kind_of of.tree) (kind_of low.tree) && are_comparable (kind_of of.tree) (kind_of high.tree)) place TypeMismatch made_tree (parts.over_three view of low high) part is in
    let last = joined-calls view flag (λ place. k place + j place) g d k j low.calls high.calls i.calls l.calls other third i.counted l.counted (λ place. omega arith) in
    let all = joined-calls view flag n f flag m (λ place. k place + j place) of.calls (low.calls ++ high.calls) h.calls last.0 to (λ e. e) h.counted last.1 together in
    made view flag n made_tree (parts.first_of of.bare (parts.first_of low.bare high.bare)) (of.calls ++ (low.calls ++ high.calls)) part
    (λ calls. between-typed (seen_of (kinds view) calls) (length (kinds view)) view.limit view place negated of low high part (h.typed calls) (i.typed calls) (l.typed calls) is) all.0 all.1
    (λ none. let nones = no-first of.bare (parts.first_of low.bare high.bare) none in let more = no-first low.bare high.bare nones.1 in
    covered-node view.keys (length view.columns) made_tree shape (ap out-Expr (sym (rolls-Between of.tree low.tree high.tree negated)) ∙ out-roll-Expr shape) tt (h.covered nones.0, i.covered more.0, l.covered more.1)) a.1)

-- ---- chains

pub begun-chain : (view : View) (flag : Bool) (n : ℕ → ℕ) (first : Part) → IsPart view flag n first → IsChain view flag n (parts.begun first)
begun-chain view flag n first h = record {
  typed = λ calls. begun-typed (seen_of (kinds view) calls) (length (kinds view)) view.limit first (h.typed calls);
  calls = h.calls;
  counted = h.counted;
  covered = λ none. (h.covered none, tt);
}

links-behind : (P : Expr → Type 0) (links : List Link) (l : Link) → AllLinks P links → P l.right → AllLinks P (links ++ l ∷ [])
links-behind P [] l all h = (h, tt)
links-behind P (one ∷ links) l all h = (all.0, links-behind P links l all.1 h)

trees-behind : (P : Expr → Type 0) (list : List Expr) (e : Expr) → AllOf P list → P e → AllOf P (list ++ e ∷ [])
trees-behind P [] e all h = (h, tt)
trees-behind P (one ∷ list) e all h = (all.0, trees-behind P list e all.1 h)

record RestChain (view : View) (flag : Bool) (n : ℕ → ℕ) (chain : Chain) : Type 0 where
  calls : AreCalls view flag chain.calls
  counted : (place : ℕ) → calls_at chain.calls place ≤ n place
  covered : chain.bare ≡ None → Covered view.keys (length view.columns) chain.first × AllLinks (Covered view.keys (length view.columns)) chain.links

pub linked-chain : (view : View) (flag f g : Bool) (n m k : ℕ → ℕ) (place : ℕ) (sign : WrittenSign) (chain : Chain) (right : Part) → IsChain view f m chain → IsPart view g k right → (f ≡ true → flag ≡ true) → (g ≡ true → flag ≡ true)
    → ((place : ℕ) → m place + k place ≤ n place) → OfAnswer (IsChain view flag n) (parts.linked place sign chain right)
linked-chain view flag f g n m k place sign chain right h i to other together = whenever (IsChain view flag n) (parts.linked place sign chain right)
    (λ more is.
    let a = first-answer (linked_type place (trees.chain_sign sign) chain.kind (kind_of right.tree)) (λ (kind : SqlType). Ok (parts.extended chain (trees.chain_sign sign) right kind)) more is in
    let both = joined-calls view flag n f g m k chain.calls right.calls h.calls i.calls to other h.counted i.counted together in
    let link : Link = record { sign = trees.chain_sign sign; right = right.tree; kind = a.0 } in
    let rest = answered (RestChain view flag n) (parts.extended chain (trees.chain_sign sign) right a.0) more a.1.1 (record {
      calls = both.0;
      counted = both.1;
      covered = λ none. let nones = no-first chain.bare right.bare none in let before = h.covered nones.0 in
          (before.0, links-behind (Covered view.keys (length view.columns)) chain.links link before.1 (i.covered nones.1));
    }) in
    record {
      typed = λ calls. linked-typed (seen_of (kinds view) calls) (length (kinds view)) view.limit place sign chain right more (h.typed calls) (i.typed calls) is;
      calls = rest.calls;
      counted = rest.counted;
      covered = rest.covered;
    })

chain-covered : (keys : List Expr) (width : ℕ) (first : Expr) (links : List Link) → Covered keys width first → AllLinks (Covered keys width) links → Covered keys width (parts.chain_tree first links)
chain-covered keys width first [] a b = a
chain-covered keys width first (link ∷ links) a b =
    covered-node keys width (tree.Chain first (link ∷ links)) (Expr-F.Chain first (link ∷ links)) (ap out-Expr (sym (rolls-Chain first (link ∷ links))) ∙ out-roll-Expr (Expr-F.Chain first (link ∷ links))) tt (a, b)

pub ended-part : (view : View) (flag : Bool) (n : ℕ → ℕ) (chain : Chain) → IsChain view flag n chain → OfAnswer (IsPart view flag n) (parts.ended view chain)
ended-part view flag n chain h = whenever (IsPart view flag n) (parts.ended view chain)
    (λ part is. made view flag n (parts.chain_tree chain.first chain.links) chain.bare chain.calls part
    (λ calls. ended-typed (seen_of (kinds view) calls) (length (kinds view)) view.limit view chain part (h.typed calls) is) h.calls h.counted
    (λ none. let all = h.covered none in chain-covered view.keys (length view.columns) chain.first chain.links all.0 all.1) is)

-- ---- AND and OR

pub started-conditions : (view : View) (flag : Bool) (n : ℕ → ℕ) (first : Part) → IsPart view flag n first → AreConditions view flag n (parts.started first)
started-conditions view flag n first h = record {
  typed = λ calls. started-typed (seen_of (kinds view) calls) (length (kinds view)) view.limit first (h.typed calls);
  calls = h.calls;
  counted = h.counted;
  covered = λ none. (h.covered none, tt);
}

record RestConditions (view : View) (flag : Bool) (n : ℕ → ℕ) (conditions : Conditions) : Type 0 where
  calls : AreCalls view flag conditions.calls
  counted : (place : ℕ) → calls_at conditions.calls place ≤ n place
  covered : conditions.bare ≡ None → AllOf (Covered view.keys (length view.columns)) conditions.list

pub joined-conditions : (view : View) (flag f g : Bool) (n m k : ℕ → ℕ) (place : ℕ) (conditions : Conditions) (right : Part) → AreConditions view f m conditions → IsPart view g k right → (f ≡ true → flag ≡ true) → (g ≡ true → flag ≡ true)
    → ((place : ℕ) → m place + k place ≤ n place) → OfAnswer (AreConditions view flag n) (parts.joined place conditions right)
joined-conditions view flag f g n m k place conditions right h i to other together = whenever (AreConditions view flag n) (parts.joined place conditions right)
    (λ more is.
    let both = joined-calls view flag n f g m k conditions.calls right.calls h.calls i.calls to other h.counted i.counted together in
    let rest = of-answer (RestConditions view flag n) (parts.joined place conditions right) more
    (asked-for (RestConditions view flag n) (is_boolean conditions.kind && is_boolean (kind_of right.tree)) place TypeMismatch
    (record { list = conditions.list ++ right.tree ∷ []; kind = Boolean; bare = parts.first_of conditions.bare right.bare; calls = conditions.calls ++ right.calls })
    (λ e. record {
      calls = both.0;
      counted = both.1;
      covered = λ none. let nones = no-first conditions.bare right.bare none in
          trees-behind (Covered view.keys (length view.columns)) conditions.list right.tree (h.covered nones.0) (i.covered nones.1);
    })) is in
    record {
      typed = λ calls. joined-typed (seen_of (kinds view) calls) (length (kinds view)) view.limit place conditions right more (h.typed calls) (i.typed calls) is;
      calls = rest.calls;
      counted = rest.counted;
      covered = rest.covered;
    })

every-covered : (keys : List Expr) (width : ℕ) (list : List Expr) → AllOf (Covered keys width) list → Covered keys width (parts.every_tree list)
every-covered keys width [] all = covered-node keys width (tree.Every []) (Expr-F.Every []) (ap out-Expr (sym (rolls-Every [])) ∙ out-roll-Expr (Expr-F.Every [])) tt tt
every-covered keys width (one ∷ []) all = all.0
every-covered keys width (one ∷ other ∷ more) all =
    let list = one ∷ other ∷ more in covered-node keys width (tree.Every list) (Expr-F.Every list) (ap out-Expr (sym (rolls-Every list)) ∙ out-roll-Expr (Expr-F.Every list)) tt all

either-covered : (keys : List Expr) (width : ℕ) (list : List Expr) → AllOf (Covered keys width) list → Covered keys width (parts.either_tree list)
either-covered keys width [] all = covered-node keys width (tree.Either []) (Expr-F.Either []) (ap out-Expr (sym (rolls-Either [])) ∙ out-roll-Expr (Expr-F.Either [])) tt tt
either-covered keys width (one ∷ []) all = all.0
either-covered keys width (one ∷ other ∷ more) all =
    let list = one ∷ other ∷ more in covered-node keys width (tree.Either list) (Expr-F.Either list) (ap out-Expr (sym (rolls-Either list)) ∙ out-roll-Expr (Expr-F.Either list)) tt all

pub every-part : (view : View) (flag : Bool) (n : ℕ → ℕ) (conditions : Conditions) → AreConditions view flag n conditions → OfAnswer (IsPart view flag n) (parts.every view conditions)
every-part view flag n conditions h = whenever (IsPart view flag n) (parts.every view conditions)
    (λ part is. made view flag n (parts.every_tree conditions.list) conditions.bare conditions.calls part
    (λ calls. every-typed (seen_of (kinds view) calls) (length (kinds view)) view.limit view conditions part (h.typed calls) is) h.calls h.counted
    (λ none. every-covered view.keys (length view.columns) conditions.list (h.covered none)) is)

pub either-part : (view : View) (flag : Bool) (n : ℕ → ℕ) (conditions : Conditions) → AreConditions view flag n conditions → OfAnswer (IsPart view flag n) (parts.either view conditions)
either-part view flag n conditions h = whenever (IsPart view flag n) (parts.either view conditions)
    (λ part is. made view flag n (parts.either_tree conditions.list) conditions.bare conditions.calls part
    (λ calls. either-typed (seen_of (kinds view) calls) (length (kinds view)) view.limit view conditions part (h.typed calls) is) h.calls h.counted
    (λ none. either-covered view.keys (length view.columns) conditions.list (h.covered none)) is)
