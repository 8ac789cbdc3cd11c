-- Chains and conditions of typed operands are typed.
use Rattle.std.proofs.Common.{◌≡◌, ℕ, ◌+◌, Bool, true, false, ◌&&◌, List, [], ◌∷◌, ◌++◌, map, refl, sym, ap, ◌∙◌, subst, Ok, Option}
use Rattle.std.specs.Prelude.{Some, None}
use Rattle.std.specs.List.{AllByRecursion}
use Rattle.std.proofs.lemmas.Bool.{and_parts}
use Rattle.ooc_types.specs.declared.schema.SqlType.{SqlType}
use Rattle.ooc_types.specs.declared.schema.SqlType.TheVariants.{Boolean}
use Rattle.ooc_types.specs.declared.refusal.RefusalKind.TheVariants.{TypeMismatch}
use Rattle.sql_expr.specs.declared.tree.ChainSign.{ChainSign}
use Rattle.sql_expr.specs.declared.tree.Expr.{Expr}
use Rattle.sql_expr.specs.declared.tree.Link.{Link}
use Rattle.sql_expr.specs.declared.tree.Expr.TheOpen.{Expr-F}
use Rattle.sql_expr.specs.declared.tree.Expr.TheVariants as tree
use Rattle.sql_expr.specs.declared.tree.Expr.TheVariants.{rolls-Chain, rolls-Every, rolls-Either}
use Rattle.sql_expr.specs.declared.tree.Expr.TheViews.{out-Expr, out-roll-Expr}
use Rattle.sql_expr.specs.Kinds.{kind_of, last_kind}
use Rattle.sql_expr.specs.Operations.{IsLinked, IsProper, mismatch, result_type}
use Rattle.sql_expr.specs.Typing.{AreLinks}
use Rattle.sql_expr.specs.Values.{HasShortTexts, IsShortNode}
use Rattle.sql_expr.proofs.Every.{every_chain, every_every, every_either}
use Rattle.sql_expr.proofs.Linked.{linked_left, linked_proper}
use Rattle.sql_expr.proofs.Nodes.{chain_kind, kind_out}
use Rattle.sql_expr.proofs.Opened.{AllLinks, AllOf}
use Rattle.sql_grammar.specs.declared.tree.expr.ChainSign.{ChainSign as WrittenSign}
use Rattle.sql_scope.specs.declared.chain.Chain.{Chain}
use Rattle.sql_scope.specs.declared.chain.Conditions.{Conditions}
use Rattle.sql_scope.specs.declared.part.Call.{Call}
use Rattle.sql_scope.specs.declared.part.Part.{Part}
use Rattle.sql_scope.specs.Answer.{or_refuse, unless}
use Rattle.sql_scope.specs.Operations.{is_boolean, linked_type}
use Rattle.sql_scope.specs.Parts as rules
use Rattle.sql_scope.specs.Scopes.{View}
use Rattle.sql_scope.specs.Trees.{chain_sign}
use Rattle.typed_scope.specs.Typed.{IsTypedChain, IsTypedConditions, IsSettled, IsTypedNodeOver, IsTypedOver, IsTypedPart, Seen}
use Rattle.typed_scope.proofs.LeafLemmas.{first-answer}
use Rattle.typed_scope.proofs.PartLemmas.{answered, back, boolean-out, front, truth-kind}

-- ---- one more behind a list

of-behind : (P : Expr → Type 0) (list : List Expr) (e : Expr) → AllOf P list → P e → AllOf P (list ++ e ∷ [])
of-behind P [] e all h = (h, tt)
of-behind P (one ∷ list) e all h = (all.0, of-behind P list e all.1 h)

links-behind : (P : Expr → Type 0) (links : List Link) (l : Link) → AllLinks P links → P l.right → AllLinks P (links ++ l ∷ [])
links-behind P [] l all h = (h, tt)
links-behind P (one ∷ links) l all h = (all.0, links-behind P links l all.1 h)

chain-behind : (kind : SqlType) (links : List Link) (l : Link) → AreLinks kind links → IsLinked l.sign (last_kind kind (map (λ (link : Link). link.kind) links)) (kind_of l.right) l.kind → AreLinks kind (links ++ l ∷ [])
chain-behind kind [] l are h = (h, tt)
chain-behind kind (one ∷ links) l are h = (are.0, chain-behind one.kind links l are.1 h)

last-behind : (kind : SqlType) (links : List Link) (l : Link) → last_kind kind (map (λ (link : Link). link.kind) (links ++ l ∷ [])) ≡ l.kind
last-behind kind [] l = refl
last-behind kind (one ∷ links) l = last-behind one.kind links l

all-behind : {A : Type 0} (P : A → Type 0) (xs : List A) (x : A) → AllByRecursion P xs → P x → AllByRecursion P (xs ++ x ∷ [])
all-behind P [] x all h = (h, tt)
all-behind P (y ∷ xs) x all h = (all.0, all-behind P xs x all.1 h)

linked-out : (place : ℕ) (sign : ChainSign) (k l kind : SqlType) → linked_type place sign k l ≡ Ok kind → result_type sign k l ≡ Some kind
linked-out place sign k l kind is = by (result_type sign k l) is
  where
    by : (found : Option SqlType) → or_refuse found place (mismatch sign k l) ≡ Ok kind → found ≡ Some kind
    by None is = cc
    by (Some gives) is = let e : gives ≡ kind = cc in ap Some e

module _ (seen : Seen) (width limit : ℕ) where
  abbrev Typed : Part → Type 0
  Typed = IsTypedPart seen width limit

  abbrev IsSeenCall : Call → Type 0
  IsSeenCall call = seen (width + call.place) call.aggregate.result

  -- ---- chains

  pub begun-typed : (first : Part) → Typed first → IsTypedChain seen width limit (rules.begun first)
  begun-typed first typed = record {
    first = typed.typed;
    links = λ calls. tt;
    linked = tt;
    last = refl;
    proper = typed.proper;
    short = typed.short;
    short_links = tt;
  }

  pub linked-typed : (place : ℕ) (sign : WrittenSign) (chain : Chain) (right : Part) (more : Chain) → IsTypedChain seen width limit chain → Typed right → rules.linked place sign chain right ≡ Ok more → IsTypedChain seen width limit more
  linked-typed place sign chain right more c r is =
      let a = first-answer (linked_type place (chain_sign sign) chain.kind (kind_of right.tree)) (λ kind. Ok (rules.extended chain (chain_sign sign) right kind)) more is in
      let gives = linked-out place (chain_sign sign) chain.kind (kind_of right.tree) a.0 a.1.0 in
      let link : Link = record { sign = chain_sign sign; right = right.tree; kind = a.0 } in
      let linked : IsLinked (chain_sign sign) chain.kind (kind_of right.tree) a.0 = record { left_proper = c.proper; right_proper = r.proper; gives = gives } in
      answered (IsTypedChain seen width limit) (rules.extended chain (chain_sign sign) right a.0) more a.1.1 (record {
        first = λ calls. c.first (front IsSeenCall chain.calls right.calls calls);
        links = λ calls. links-behind (IsTypedOver seen) chain.links link (c.links (front IsSeenCall chain.calls right.calls calls)) (r.typed (back IsSeenCall chain.calls right.calls calls));
        linked = chain-behind (kind_of chain.first) chain.links link c.linked (subst (λ (k : SqlType). IsLinked (chain_sign sign) k (kind_of right.tree) a.0) c.last linked);
        last = sym (last-behind (kind_of chain.first) chain.links link);
        proper = linked_proper (chain_sign sign) chain.kind (kind_of right.tree) a.0 linked;
        short = c.short;
        short_links = links-behind (HasShortTexts limit) chain.links link c.short_links r.short;
      })

  chain-part : (view : View) (bare : Option ℕ) (calls : List Call) (first : Expr) (links : List Link) (kind : SqlType) → (AllByRecursion IsSeenCall calls → IsTypedOver seen first) → (AllByRecursion IsSeenCall calls → AllLinks (IsTypedOver seen) links)
      → AreLinks (kind_of first) links → kind ≡ last_kind (kind_of first) (map (λ (link : Link). link.kind) links) → IsProper kind → HasShortTexts limit first → AllLinks (HasShortTexts limit) links
      → Typed (rules.part_of view (rules.chain_tree first links) bare calls)
  chain-part view bare calls first [] kind typed all linked last proper short shorts = record { typed = typed; short = short; proper = subst IsProper last proper }
  chain-part view bare calls first (link ∷ links) kind typed all linked last proper short shorts = record {
    typed = λ seen_calls. every_chain (IsTypedNodeOver seen) first (link ∷ links) (typed seen_calls) (all seen_calls) (linked_left link.sign (kind_of first) (kind_of link.right) link.kind linked.0, linked);
    short = every_chain (IsShortNode limit) first (link ∷ links) short shorts tt;
    proper = subst IsProper (last ∙ sym (chain_kind (tree.Chain first (link ∷ links)) first (link ∷ links)
        (ap out-Expr (sym (rolls-Chain first (link ∷ links))) ∙ out-roll-Expr (Expr-F.Chain first (link ∷ links))))) proper;
  }

  pub ended-typed : (view : View) (chain : Chain) (part : Part) → IsTypedChain seen width limit chain → rules.ended view chain ≡ Ok part → Typed part
  ended-typed view chain part c is =
      answered Typed (rules.part_of view (rules.chain_tree chain.first chain.links) chain.bare chain.calls) part is
      (chain-part view chain.bare chain.calls chain.first chain.links chain.kind c.first c.links c.linked c.last c.proper c.short c.short_links)

  -- ---- conditions under AND or OR

  pub started-typed : (first : Part) → Typed first → IsTypedConditions seen width limit (rules.started first)
  started-typed first typed = record { list = λ calls. (typed.typed calls, tt); kinds = (refl, tt); settled = tt; proper = typed.proper; short = (typed.short, tt) }

  settled-behind : (list : List Expr) (e : Expr) → IsSettled (list ++ e ∷ []) Boolean
  settled-behind [] e = tt
  settled-behind (one ∷ []) e = refl
  settled-behind (one ∷ other ∷ more) e = refl

  pub joined-typed : (place : ℕ) (conditions : Conditions) (right : Part) (more : Conditions) → IsTypedConditions seen width limit conditions → Typed right → rules.joined place conditions right ≡ Ok more → IsTypedConditions seen width limit more
  joined-typed place conditions right more c r is =
      let left_is = is_boolean conditions.kind in
      let right_is = is_boolean (kind_of right.tree) in
      by (left_is && right_is) refl is
    where
      by : (b : Bool) → (is_boolean conditions.kind && is_boolean (kind_of right.tree)) ≡ b
          → unless b place TypeMismatch (record { list = conditions.list ++ right.tree ∷ []; kind = Boolean; bare = rules.first_of conditions.bare right.bare; calls = conditions.calls ++ right.calls }) ≡ Ok more → IsTypedConditions seen width limit more
      by false e is = cc
      by true e is =
          let both = and_parts (is_boolean conditions.kind) (is_boolean (kind_of right.tree)) e in
          answered (IsTypedConditions seen width limit) (record { list = conditions.list ++ right.tree ∷ []; kind = Boolean; bare = rules.first_of conditions.bare right.bare; calls = conditions.calls ++ right.calls }) more is (record {
            list = λ calls. of-behind (IsTypedOver seen) conditions.list right.tree (c.list (front IsSeenCall conditions.calls right.calls calls)) (r.typed (back IsSeenCall conditions.calls right.calls calls));
            kinds = all-behind (λ (e : Expr). kind_of e ≡ Boolean) conditions.list right.tree (subst (λ (k : SqlType). AllByRecursion (λ (e : Expr). kind_of e ≡ k) conditions.list) (truth-kind conditions.kind both.0) c.kinds)
                (truth-kind (kind_of right.tree) both.1);
            settled = settled-behind conditions.list right.tree;
            proper = tt;
            short = of-behind (HasShortTexts limit) conditions.list right.tree c.short r.short;
          })

  every-part : (view : View) (bare : Option ℕ) (calls : List Call) (list : List Expr) (kind : SqlType) → (AllByRecursion IsSeenCall calls → AllOf (IsTypedOver seen) list) → AllByRecursion (λ (e : Expr). kind_of e ≡ kind) list
      → IsSettled list kind → IsProper kind → AllOf (HasShortTexts limit) list → Typed (rules.part_of view (rules.every_tree list) bare calls)
  every-part view bare calls [] kind typed kinds settled proper short = record {
    typed = λ all. every_every (IsTypedNodeOver seen) [] tt tt;
    short = every_every (IsShortNode limit) [] tt tt;
    proper = boolean-out (tree.Every []) (kind_out (tree.Every []) (Expr-F.Every []) (ap out-Expr (sym (rolls-Every [])) ∙ out-roll-Expr (Expr-F.Every [])));
  }
  every-part view bare calls (one ∷ []) kind typed kinds settled proper short = record { typed = λ all. (typed all).0; short = short.0; proper = subst IsProper (sym kinds.0) proper }
  every-part view bare calls (one ∷ other ∷ more) kind typed kinds settled proper short =
      let list = one ∷ other ∷ more in
      record {
        typed = λ all. every_every (IsTypedNodeOver seen) list (typed all) (subst (λ (k : SqlType). AllByRecursion (λ (e : Expr). kind_of e ≡ k) list) settled kinds);
        short = every_every (IsShortNode limit) list short tt;
        proper = boolean-out (tree.Every list) (kind_out (tree.Every list) (Expr-F.Every list) (ap out-Expr (sym (rolls-Every list)) ∙ out-roll-Expr (Expr-F.Every list)));
      }

  either-part : (view : View) (bare : Option ℕ) (calls : List Call) (list : List Expr) (kind : SqlType) → (AllByRecursion IsSeenCall calls → AllOf (IsTypedOver seen) list) → AllByRecursion (λ (e : Expr). kind_of e ≡ kind) list
      → IsSettled list kind → IsProper kind → AllOf (HasShortTexts limit) list → Typed (rules.part_of view (rules.either_tree list) bare calls)
  either-part view bare calls [] kind typed kinds settled proper short = record {
    typed = λ all. every_either (IsTypedNodeOver seen) [] tt tt;
    short = every_either (IsShortNode limit) [] tt tt;
    proper = boolean-out (tree.Either []) (kind_out (tree.Either []) (Expr-F.Either []) (ap out-Expr (sym (rolls-Either [])) ∙ out-roll-Expr (Expr-F.Either [])));
  }
  either-part view bare calls (one ∷ []) kind typed kinds settled proper short = record { typed = λ all. (typed all).0; short = short.0; proper = subst IsProper (sym kinds.0) proper }
  either-part view bare calls (one ∷ other ∷ more) kind typed kinds settled proper short =
      let list = one ∷ other ∷ more in
      record {
        typed = λ all. every_either (IsTypedNodeOver seen) list (typed all) (subst (λ (k : SqlType). AllByRecursion (λ (e : Expr). kind_of e ≡ k) list) settled kinds);
        short = every_either (IsShortNode limit) list short tt;
        proper = boolean-out (tree.Either list) (kind_out (tree.Either list) (Expr-F.Either list) (ap out-Expr (sym (rolls-Either list)) ∙ out-roll-Expr (Expr-F.Either list)));
      }

  pub every-typed : (view : View) (c : Conditions) (part : Part) → IsTypedConditions seen width limit c → rules.every view c ≡ Ok part → Typed part
  every-typed view c part typed is =
      answered Typed (rules.part_of view (rules.every_tree c.list) c.bare c.calls) part is (every-part view c.bare c.calls c.list c.kind typed.list typed.kinds typed.settled typed.proper typed.short)

  pub either-typed : (view : View) (c : Conditions) (part : Part) → IsTypedConditions seen width limit c → rules.either view c ≡ Ok part → Typed part
  either-typed view c part typed is =
      answered Typed (rules.part_of view (rules.either_tree c.list) c.bare c.calls) part is (either-part view c.bare c.calls c.list c.kind typed.list typed.kinds typed.settled typed.proper typed.short)
