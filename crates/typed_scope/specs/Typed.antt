-- Bound expressions that are typed over the columns that they see.
use Rattle.std.specs.Prelude.{◌≡◌, ◌⊎◌, ℕ, ◌+◌, List, [], ◌∷◌, length, map, slice_get, Some, ⊤}
use Rattle.std.specs.List.{AllByRecursion}
use Rattle.ooc_types.specs.declared.schema.SqlType.{SqlType}
use Rattle.sql_expr.specs.declared.tree.Expr.{Expr}
use Rattle.sql_expr.specs.declared.tree.Link.{Link}
use Rattle.sql_expr.specs.declared.tree.Expr.TheOpen.{Expr-F}
use Rattle.sql_expr.specs.declared.tree.Expr.TheFolds.{every-Expr}
use Rattle.sql_expr.specs.Kinds.{kind_of, last_kind}
use Rattle.sql_expr.specs.Operations.{IsProper}
use Rattle.sql_expr.specs.Typing.{AnyLink, AreLinks, IsTypedNode}
use Rattle.sql_expr.specs.Values.{HasShortTexts}
use Rattle.ooc_types.specs.declared.schema.SqlType.TheVariants.{Boolean}
use Rattle.sql_scope.specs.declared.chain.Chain.{Chain}
use Rattle.sql_scope.specs.declared.chain.Conditions.{Conditions}
use Rattle.sql_scope.specs.declared.part.Call.{Call}
use Rattle.sql_scope.specs.declared.part.Part.{Part}

-- which columns are seen, and their types
abbrev pub Seen : Type 1
Seen = ℕ → SqlType → Type 0

-- what the table of operations asks of one node; a column is one that is seen
abbrev pub IsTypedNodeOver : Seen → Expr-F Expr Link → Type 0
IsTypedNodeOver seen (Expr-F.Column place kind) = seen place kind
IsTypedNodeOver seen node = IsTypedNode [] node

abbrev pub IsTypedOver : Seen → Expr → Type 0
IsTypedOver seen = every-Expr (IsTypedNodeOver seen) AnyLink

-- The columns of aggregates, behind those of the sources, which are so many, are seen with the types that these give.
abbrev pub AreSeen : Seen → ℕ → List Call → Type 0
AreSeen seen width calls = AllByRecursion (λ call. seen (width + call.place) call.aggregate.result) calls

-- A bound expression: it is typed where its aggregates are seen, its texts are within the limit, and its type is one that
-- may be written.
pub record IsTypedPart (seen : Seen) (width limit : ℕ) (part : Part) : Type 0 where
  pub typed : AreSeen seen width part.calls → IsTypedOver seen part.tree
  pub short : HasShortTexts limit part.tree
  pub proper : IsProper (kind_of part.tree)

-- A chain so far: its operands and their types under its signs, and its type.
pub record IsTypedChain (seen : Seen) (width limit : ℕ) (chain : Chain) : Type 0 where
  pub first : AreSeen seen width chain.calls → IsTypedOver seen chain.first
  pub links : AreSeen seen width chain.calls → AllByRecursion (λ link. IsTypedOver seen link.right) chain.links
  pub linked : AreLinks (kind_of chain.first) chain.links
  pub last : chain.kind ≡ last_kind (kind_of chain.first) (map (λ link. link.kind) chain.links)
  pub proper : IsProper chain.kind
  pub short : HasShortTexts limit chain.first
  pub short_links : AllByRecursion (λ link. HasShortTexts limit link.right) chain.links

-- of several conditions each is BOOLEAN
abbrev pub IsSettled : List Expr → SqlType → Type 0
IsSettled [] kind = ⊤
IsSettled (one ∷ []) kind = ⊤
IsSettled (one ∷ other ∷ more) kind = kind ≡ Boolean

-- the operands of AND or OR so far
pub record IsTypedConditions (seen : Seen) (width limit : ℕ) (conditions : Conditions) : Type 0 where
  pub list : AreSeen seen width conditions.calls → AllByRecursion (IsTypedOver seen) conditions.list
  pub kinds : AllByRecursion (λ operand. kind_of operand ≡ conditions.kind) conditions.list
  pub settled : IsSettled conditions.list conditions.kind
  pub proper : IsProper conditions.kind
  pub short : AllByRecursion (HasShortTexts limit) conditions.list

-- the column of one of these aggregates, behind so many of the sources
abbrev pub IsCalled : ℕ → List Call → Seen
IsCalled width [] place kind = ⊥
IsCalled width (call ∷ calls) place kind = ((place ≡ width + call.place) × (kind ≡ call.aggregate.result)) ⊎ IsCalled width calls place kind

-- what is seen of sources with columns of these types, and of these aggregates
abbrev pub seen_of : List SqlType → List Call → Seen
seen_of columns calls place kind = (slice_get columns place ≡ Some kind) ⊎ IsCalled (length columns) calls place kind

abbrev pub IsPartOver : List SqlType → List Call → ℕ → Part → Type 0
IsPartOver columns calls limit = IsTypedPart (seen_of columns calls) (length columns) limit

abbrev pub IsChainOver : List SqlType → List Call → ℕ → Chain → Type 0
IsChainOver columns calls limit = IsTypedChain (seen_of columns calls) (length columns) limit

abbrev pub AreConditionsOver : List SqlType → List Call → ℕ → Conditions → Type 0
AreConditionsOver columns calls limit = IsTypedConditions (seen_of columns calls) (length columns) limit
