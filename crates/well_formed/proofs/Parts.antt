-- A fact of each part of a SELECT: what it says of the outermost part and of those in it, and how it is put together.
-- Who builds a statement shows by these that it has the fact.
use Rattle.std.proofs.Common.{◌≡◌, List, [], ◌∷◌, map, refl, ap, ◌∙◌, subst}
use Rattle.std.specs.List.{AllByRecursion}
use Rattle.bound_tree.specs.declared.select.BoundCore.{BoundCore}
use Rattle.bound_tree.specs.declared.select.BoundRows.{BoundRows}
use Rattle.bound_tree.specs.declared.select.BoundSelect.{BoundSelect}
use Rattle.bound_tree.specs.declared.select.BoundSource.{BoundSource}
use Rattle.bound_tree.specs.declared.select.Conjunct.{Conjunct}
use Rattle.bound_tree.specs.declared.select.SourceRows.{SourceRows}
use Rattle.bound_tree.specs.declared.select.BoundRows.TheOpen.{BoundCore-F, BoundRows-F, BoundSelect-F, BoundSource-F, Conjunct-F, SourceRows-F}
use Rattle.bound_tree.specs.declared.select.BoundRows.TheFolds.{every-BoundRows, every-Conjunct, every-SourceRows, every-BoundCore, every-BoundSelect, every-BoundSource, every_here-BoundRows, every_here-Conjunct, every_here-SourceRows, every_here-BoundCore, every_here-BoundSelect, every_here-BoundSource, every_held-BoundRows, every_held-Conjunct, every_held-SourceRows, every_held-BoundCore, every_held-BoundSelect, every_held-BoundSource, every_made-BoundRows, every_made-Conjunct, every_made-SourceRows, every_made-BoundCore, every_made-BoundSelect, every_made-BoundSource, map-BoundRows, map-Conjunct, map-SourceRows, map-BoundCore, map-BoundSelect, map-BoundSource, ind-BoundSelect, ind-BoundSource}
use Rattle.bound_tree.specs.declared.select.BoundRows.TheViews.{out-BoundRows, out-Conjunct, out-SourceRows, out-BoundCore, out-BoundSelect, out-BoundSource, roll-BoundRows, roll-Conjunct, roll-SourceRows, roll-BoundCore, roll-BoundSelect, roll-BoundSource, out-roll-BoundRows, out-roll-Conjunct, out-roll-SourceRows, out-roll-BoundCore, out-roll-BoundSelect, out-roll-BoundSource}

-- items beside their facts
abbrev pub beside : {A : Type 0} (P : A → Type 0) (xs : List A) → AllByRecursion P xs → List ((x : A) × P x)
beside P [] all = []
beside P (x ∷ xs) all = (x, all.0) ∷ beside P xs all.1

beside_is : {A : Type 0} (P : A → Type 0) (xs : List A) (all : AllByRecursion P xs) → map (λ e. e.0) (beside P xs all) ≡ xs
beside_is P [] all = refl
beside_is P (x ∷ xs) all = ap (λ rest. x ∷ rest) (beside_is P xs all.1)

facts_of : {A : Type 0} (P : A → Type 0) (ys : List ((x : A) × P x)) → AllByRecursion P (map (λ e. e.0) ys)
facts_of P [] = tt
facts_of P (y ∷ ys) = (y.1, facts_of P ys)

all_applied : {A : Type 0} (P Q : A → Type 0) (xs : List A) → AllByRecursion (λ x. P x → Q x) xs → AllByRecursion P xs → AllByRecursion Q xs
all_applied P Q [] to all = tt
all_applied P Q (x ∷ xs) to all = (to.0 all.0, all_applied P Q xs to.1 all.1)

-- ---- facts of the parts that stand in the outermost one

module _ (Rows : BoundRows → Type 0) (Part : Conjunct → Type 0) (Input : SourceRows → Type 0) (Core : BoundCore → Type 0) (Whole : BoundSelect → Type 0) (From : BoundSource → Type 0) where
  abbrev RowsFact : Type 0
  RowsFact = (x : BoundRows) × Rows x

  abbrev PartFact : Type 0
  PartFact = (x : Conjunct) × Part x

  abbrev InputFact : Type 0
  InputFact = (x : SourceRows) × Input x

  abbrev CoreFact : Type 0
  CoreFact = (x : BoundCore) × Core x

  abbrev WholeFact : Type 0
  WholeFact = (x : BoundSelect) × Whole x

  abbrev FromFact : Type 0
  FromFact = (x : BoundSource) × From x

  -- without the facts
  abbrev rows_alone : BoundRows-F RowsFact PartFact InputFact CoreFact WholeFact FromFact → BoundRows-F BoundRows Conjunct SourceRows BoundCore BoundSelect BoundSource
  rows_alone = map-BoundRows RowsFact PartFact InputFact CoreFact WholeFact FromFact BoundRows Conjunct SourceRows BoundCore BoundSelect BoundSource (λ e. e.0) (λ e. e.0) (λ e. e.0) (λ e. e.0) (λ e. e.0) (λ e. e.0)

  abbrev part_alone : Conjunct-F RowsFact PartFact InputFact CoreFact WholeFact FromFact → Conjunct-F BoundRows Conjunct SourceRows BoundCore BoundSelect BoundSource
  part_alone = map-Conjunct RowsFact PartFact InputFact CoreFact WholeFact FromFact BoundRows Conjunct SourceRows BoundCore BoundSelect BoundSource (λ e. e.0) (λ e. e.0) (λ e. e.0) (λ e. e.0) (λ e. e.0) (λ e. e.0)

  abbrev input_alone : SourceRows-F RowsFact PartFact InputFact CoreFact WholeFact FromFact → SourceRows-F BoundRows Conjunct SourceRows BoundCore BoundSelect BoundSource
  input_alone = map-SourceRows RowsFact PartFact InputFact CoreFact WholeFact FromFact BoundRows Conjunct SourceRows BoundCore BoundSelect BoundSource (λ e. e.0) (λ e. e.0) (λ e. e.0) (λ e. e.0) (λ e. e.0) (λ e. e.0)

  abbrev core_alone : BoundCore-F RowsFact PartFact InputFact CoreFact WholeFact FromFact → BoundCore-F BoundRows Conjunct SourceRows BoundCore BoundSelect BoundSource
  core_alone = map-BoundCore RowsFact PartFact InputFact CoreFact WholeFact FromFact BoundRows Conjunct SourceRows BoundCore BoundSelect BoundSource (λ e. e.0) (λ e. e.0) (λ e. e.0) (λ e. e.0) (λ e. e.0) (λ e. e.0)

  abbrev whole_alone : BoundSelect-F RowsFact PartFact InputFact CoreFact WholeFact FromFact → BoundSelect-F BoundRows Conjunct SourceRows BoundCore BoundSelect BoundSource
  whole_alone = map-BoundSelect RowsFact PartFact InputFact CoreFact WholeFact FromFact BoundRows Conjunct SourceRows BoundCore BoundSelect BoundSource (λ e. e.0) (λ e. e.0) (λ e. e.0) (λ e. e.0) (λ e. e.0) (λ e. e.0)

  abbrev from_alone : BoundSource-F RowsFact PartFact InputFact CoreFact WholeFact FromFact → BoundSource-F BoundRows Conjunct SourceRows BoundCore BoundSelect BoundSource
  from_alone = map-BoundSource RowsFact PartFact InputFact CoreFact WholeFact FromFact BoundRows Conjunct SourceRows BoundCore BoundSelect BoundSource (λ e. e.0) (λ e. e.0) (λ e. e.0) (λ e. e.0) (λ e. e.0) (λ e. e.0)

  abbrev pub InRows : BoundRows-F BoundRows Conjunct SourceRows BoundCore BoundSelect BoundSource → Type 0
  InRows (BoundRows-F.Core core) = Core core
  InRows (BoundRows-F.Set kind all left right kinds) = Rows left × Rows right

  abbrev pub InPart : Conjunct-F BoundRows Conjunct SourceRows BoundCore BoundSelect BoundSource → Type 0
  InPart (Conjunct-F.Condition expr) = Unit {0}
  InPart (Conjunct-F.Member of query negated) = Whole query

  abbrev pub InInput : SourceRows-F BoundRows Conjunct SourceRows BoundCore BoundSelect BoundSource → Type 0
  InInput (SourceRows-F.Table name) = Unit {0}
  InInput (SourceRows-F.Query select) = Whole select

  abbrev pub InCore : BoundCore-F BoundRows Conjunct SourceRows BoundCore BoundSelect BoundSource → Type 0
  InCore core = AllByRecursion From core.sources × AllByRecursion Part core.conjuncts

  abbrev pub InWhole : BoundSelect-F BoundRows Conjunct SourceRows BoundCore BoundSelect BoundSource → Type 0
  InWhole select = Rows select.rows

  abbrev pub InFrom : BoundSource-F BoundRows Conjunct SourceRows BoundCore BoundSelect BoundSource → Type 0
  InFrom source = Input source.rows

  rows_facts : (y : BoundRows-F RowsFact PartFact InputFact CoreFact WholeFact FromFact) → InRows (rows_alone y)
  rows_facts (BoundRows-F.Core core) = core.1
  rows_facts (BoundRows-F.Set kind all left right kinds) = (left.1, right.1)

  part_facts : (y : Conjunct-F RowsFact PartFact InputFact CoreFact WholeFact FromFact) → InPart (part_alone y)
  part_facts (Conjunct-F.Condition expr) = tt
  part_facts (Conjunct-F.Member of query negated) = query.1

  input_facts : (y : SourceRows-F RowsFact PartFact InputFact CoreFact WholeFact FromFact) → InInput (input_alone y)
  input_facts (SourceRows-F.Table name) = tt
  input_facts (SourceRows-F.Query select) = select.1

  core_facts : (y : BoundCore-F RowsFact PartFact InputFact CoreFact WholeFact FromFact) → InCore (core_alone y)
  core_facts y = (facts_of From y.sources, facts_of Part y.conjuncts)

  whole_facts : (y : BoundSelect-F RowsFact PartFact InputFact CoreFact WholeFact FromFact) → InWhole (whole_alone y)
  whole_facts y = y.rows.1

  from_facts : (y : BoundSource-F RowsFact PartFact InputFact CoreFact WholeFact FromFact) → InFrom (from_alone y)
  from_facts y = y.rows.1

  rows_beside : (x : BoundRows-F BoundRows Conjunct SourceRows BoundCore BoundSelect BoundSource) → InRows x → (y : BoundRows-F RowsFact PartFact InputFact CoreFact WholeFact FromFact) × (rows_alone y ≡ x)
  rows_beside (BoundRows-F.Core core) held = (BoundRows-F.Core (core, held), refl)
  rows_beside (BoundRows-F.Set kind all left right kinds) held = (BoundRows-F.Set kind all (left, held.0) (right, held.1) kinds, refl)

  part_beside : (x : Conjunct-F BoundRows Conjunct SourceRows BoundCore BoundSelect BoundSource) → InPart x → (y : Conjunct-F RowsFact PartFact InputFact CoreFact WholeFact FromFact) × (part_alone y ≡ x)
  part_beside (Conjunct-F.Condition expr) held = (Conjunct-F.Condition expr, refl)
  part_beside (Conjunct-F.Member of query negated) held = (Conjunct-F.Member of (query, held) negated, refl)

  input_beside : (x : SourceRows-F BoundRows Conjunct SourceRows BoundCore BoundSelect BoundSource) → InInput x → (y : SourceRows-F RowsFact PartFact InputFact CoreFact WholeFact FromFact) × (input_alone y ≡ x)
  input_beside (SourceRows-F.Table name) held = (SourceRows-F.Table name, refl)
  input_beside (SourceRows-F.Query select) held = (SourceRows-F.Query (select, held), refl)

  core_beside : (x : BoundCore-F BoundRows Conjunct SourceRows BoundCore BoundSelect BoundSource) → InCore x → (y : BoundCore-F RowsFact PartFact InputFact CoreFact WholeFact FromFact) × (core_alone y ≡ x)
  core_beside x held = (
    record { sources = beside From x.sources held.0; conjuncts = beside Part x.conjuncts held.1; grouping = x.grouping; items = x.items; distinct = x.distinct },
    λ i. record { sources = beside_is From x.sources held.0 i; conjuncts = beside_is Part x.conjuncts held.1 i; grouping = x.grouping; items = x.items; distinct = x.distinct },
  )

  whole_beside : (x : BoundSelect-F BoundRows Conjunct SourceRows BoundCore BoundSelect BoundSource) → InWhole x → (y : BoundSelect-F RowsFact PartFact InputFact CoreFact WholeFact FromFact) × (whole_alone y ≡ x)
  whole_beside x held = (record { rows = (x.rows, held); columns = x.columns; cut = x.cut }, refl)

  from_beside : (x : BoundSource-F BoundRows Conjunct SourceRows BoundCore BoundSelect BoundSource) → InFrom x → (y : BoundSource-F RowsFact PartFact InputFact CoreFact WholeFact FromFact) × (from_alone y ≡ x)
  from_beside x held = (record { name = x.name; rows = (x.rows, held); kinds = x.kinds; join = x.join; on = x.on }, refl)

-- ---- facts of all parts

module _ (N1 : BoundRows-F BoundRows Conjunct SourceRows BoundCore BoundSelect BoundSource → Type 0) (N2 : Conjunct-F BoundRows Conjunct SourceRows BoundCore BoundSelect BoundSource → Type 0) (N3 : SourceRows-F BoundRows Conjunct SourceRows BoundCore BoundSelect BoundSource → Type 0) (N4 : BoundCore-F BoundRows Conjunct SourceRows BoundCore BoundSelect BoundSource → Type 0) (N5 : BoundSelect-F BoundRows Conjunct SourceRows BoundCore BoundSelect BoundSource → Type 0) (N6 : BoundSource-F BoundRows Conjunct SourceRows BoundCore BoundSelect BoundSource → Type 0) where
  abbrev Rows : BoundRows → Type 0
  Rows = every-BoundRows N1 N2 N3 N4 N5 N6

  abbrev Part : Conjunct → Type 0
  Part = every-Conjunct N1 N2 N3 N4 N5 N6

  abbrev Input : SourceRows → Type 0
  Input = every-SourceRows N1 N2 N3 N4 N5 N6

  abbrev Core : BoundCore → Type 0
  Core = every-BoundCore N1 N2 N3 N4 N5 N6

  abbrev Whole : BoundSelect → Type 0
  Whole = every-BoundSelect N1 N2 N3 N4 N5 N6

  abbrev From : BoundSource → Type 0
  From = every-BoundSource N1 N2 N3 N4 N5 N6

  pub rows_here : (t : BoundRows) (x : BoundRows-F BoundRows Conjunct SourceRows BoundCore BoundSelect BoundSource) → Rows t → out-BoundRows t ≡ x → N1 x
  rows_here t x every is = subst N1 is (every_here-BoundRows N1 N2 N3 N4 N5 N6 t every)

  pub rows_held : (t : BoundRows) (x : BoundRows-F BoundRows Conjunct SourceRows BoundCore BoundSelect BoundSource) → Rows t → out-BoundRows t ≡ x → InRows Rows Part Input Core Whole From x
  rows_held t x every is = let held = every_held-BoundRows N1 N2 N3 N4 N5 N6 t every in subst (InRows Rows Part Input Core Whole From) (held.1 ∙ is) (rows_facts Rows Part Input Core Whole From held.0)

  pub rows_made : (x : BoundRows-F BoundRows Conjunct SourceRows BoundCore BoundSelect BoundSource) → InRows Rows Part Input Core Whole From x → N1 x → Rows (roll-BoundRows x)
  rows_made x held node = let y = rows_beside Rows Part Input Core Whole From x held in every_made-BoundRows N1 N2 N3 N4 N5 N6 x y.0 y.1 node

  pub part_here : (t : Conjunct) (x : Conjunct-F BoundRows Conjunct SourceRows BoundCore BoundSelect BoundSource) → Part t → out-Conjunct t ≡ x → N2 x
  part_here t x every is = subst N2 is (every_here-Conjunct N1 N2 N3 N4 N5 N6 t every)

  pub part_held : (t : Conjunct) (x : Conjunct-F BoundRows Conjunct SourceRows BoundCore BoundSelect BoundSource) → Part t → out-Conjunct t ≡ x → InPart Rows Part Input Core Whole From x
  part_held t x every is = let held = every_held-Conjunct N1 N2 N3 N4 N5 N6 t every in subst (InPart Rows Part Input Core Whole From) (held.1 ∙ is) (part_facts Rows Part Input Core Whole From held.0)

  pub part_made : (x : Conjunct-F BoundRows Conjunct SourceRows BoundCore BoundSelect BoundSource) → InPart Rows Part Input Core Whole From x → N2 x → Part (roll-Conjunct x)
  part_made x held node = let y = part_beside Rows Part Input Core Whole From x held in every_made-Conjunct N1 N2 N3 N4 N5 N6 x y.0 y.1 node

  pub input_here : (t : SourceRows) (x : SourceRows-F BoundRows Conjunct SourceRows BoundCore BoundSelect BoundSource) → Input t → out-SourceRows t ≡ x → N3 x
  input_here t x every is = subst N3 is (every_here-SourceRows N1 N2 N3 N4 N5 N6 t every)

  pub input_held : (t : SourceRows) (x : SourceRows-F BoundRows Conjunct SourceRows BoundCore BoundSelect BoundSource) → Input t → out-SourceRows t ≡ x → InInput Rows Part Input Core Whole From x
  input_held t x every is = let held = every_held-SourceRows N1 N2 N3 N4 N5 N6 t every in subst (InInput Rows Part Input Core Whole From) (held.1 ∙ is) (input_facts Rows Part Input Core Whole From held.0)

  pub input_made : (x : SourceRows-F BoundRows Conjunct SourceRows BoundCore BoundSelect BoundSource) → InInput Rows Part Input Core Whole From x → N3 x → Input (roll-SourceRows x)
  input_made x held node = let y = input_beside Rows Part Input Core Whole From x held in every_made-SourceRows N1 N2 N3 N4 N5 N6 x y.0 y.1 node

  pub core_here : (t : BoundCore) (x : BoundCore-F BoundRows Conjunct SourceRows BoundCore BoundSelect BoundSource) → Core t → out-BoundCore t ≡ x → N4 x
  core_here t x every is = subst N4 is (every_here-BoundCore N1 N2 N3 N4 N5 N6 t every)

  pub core_held : (t : BoundCore) (x : BoundCore-F BoundRows Conjunct SourceRows BoundCore BoundSelect BoundSource) → Core t → out-BoundCore t ≡ x → InCore Rows Part Input Core Whole From x
  core_held t x every is = let held = every_held-BoundCore N1 N2 N3 N4 N5 N6 t every in subst (InCore Rows Part Input Core Whole From) (held.1 ∙ is) (core_facts Rows Part Input Core Whole From held.0)

  pub core_made : (x : BoundCore-F BoundRows Conjunct SourceRows BoundCore BoundSelect BoundSource) → InCore Rows Part Input Core Whole From x → N4 x → Core (roll-BoundCore x)
  core_made x held node = let y = core_beside Rows Part Input Core Whole From x held in every_made-BoundCore N1 N2 N3 N4 N5 N6 x y.0 y.1 node

  pub whole_here : (t : BoundSelect) (x : BoundSelect-F BoundRows Conjunct SourceRows BoundCore BoundSelect BoundSource) → Whole t → out-BoundSelect t ≡ x → N5 x
  whole_here t x every is = subst N5 is (every_here-BoundSelect N1 N2 N3 N4 N5 N6 t every)

  pub whole_held : (t : BoundSelect) (x : BoundSelect-F BoundRows Conjunct SourceRows BoundCore BoundSelect BoundSource) → Whole t → out-BoundSelect t ≡ x → InWhole Rows Part Input Core Whole From x
  whole_held t x every is = let held = every_held-BoundSelect N1 N2 N3 N4 N5 N6 t every in subst (InWhole Rows Part Input Core Whole From) (held.1 ∙ is) (whole_facts Rows Part Input Core Whole From held.0)

  pub whole_made : (x : BoundSelect-F BoundRows Conjunct SourceRows BoundCore BoundSelect BoundSource) → InWhole Rows Part Input Core Whole From x → N5 x → Whole (roll-BoundSelect x)
  whole_made x held node = let y = whole_beside Rows Part Input Core Whole From x held in every_made-BoundSelect N1 N2 N3 N4 N5 N6 x y.0 y.1 node

  pub from_here : (t : BoundSource) (x : BoundSource-F BoundRows Conjunct SourceRows BoundCore BoundSelect BoundSource) → From t → out-BoundSource t ≡ x → N6 x
  from_here t x every is = subst N6 is (every_here-BoundSource N1 N2 N3 N4 N5 N6 t every)

  pub from_held : (t : BoundSource) (x : BoundSource-F BoundRows Conjunct SourceRows BoundCore BoundSelect BoundSource) → From t → out-BoundSource t ≡ x → InFrom Rows Part Input Core Whole From x
  from_held t x every is = let held = every_held-BoundSource N1 N2 N3 N4 N5 N6 t every in subst (InFrom Rows Part Input Core Whole From) (held.1 ∙ is) (from_facts Rows Part Input Core Whole From held.0)

  pub from_made : (x : BoundSource-F BoundRows Conjunct SourceRows BoundCore BoundSelect BoundSource) → InFrom Rows Part Input Core Whole From x → N6 x → From (roll-BoundSource x)
  from_made x held node = let y = from_beside Rows Part Input Core Whole From x held in every_made-BoundSource N1 N2 N3 N4 N5 N6 x y.0 y.1 node

  -- ---- what the fact of each part brings, part by part

  module _ (OfRows : BoundRows → Type 0) (OfPart : Conjunct → Type 0) (OfInput : SourceRows → Type 0) (OfCore : BoundCore → Type 0) (OfWhole : BoundSelect → Type 0) (OfFrom : BoundSource → Type 0)
      (by_rows : (x : BoundRows-F BoundRows Conjunct SourceRows BoundCore BoundSelect BoundSource) → N1 x → InRows Rows Part Input Core Whole From x → InRows OfRows OfPart OfInput OfCore OfWhole OfFrom x → OfRows (roll-BoundRows x))
      (by_part : (x : Conjunct-F BoundRows Conjunct SourceRows BoundCore BoundSelect BoundSource) → N2 x → InPart Rows Part Input Core Whole From x → InPart OfRows OfPart OfInput OfCore OfWhole OfFrom x → OfPart (roll-Conjunct x))
      (by_input : (x : SourceRows-F BoundRows Conjunct SourceRows BoundCore BoundSelect BoundSource) → N3 x → InInput Rows Part Input Core Whole From x → InInput OfRows OfPart OfInput OfCore OfWhole OfFrom x → OfInput (roll-SourceRows x))
      (by_core : (x : BoundCore-F BoundRows Conjunct SourceRows BoundCore BoundSelect BoundSource) → N4 x → InCore Rows Part Input Core Whole From x → InCore OfRows OfPart OfInput OfCore OfWhole OfFrom x → OfCore (roll-BoundCore x))
      (by_whole : (x : BoundSelect-F BoundRows Conjunct SourceRows BoundCore BoundSelect BoundSource) → N5 x → InWhole Rows Part Input Core Whole From x → InWhole OfRows OfPart OfInput OfCore OfWhole OfFrom x → OfWhole (roll-BoundSelect x))
      (by_from : (x : BoundSource-F BoundRows Conjunct SourceRows BoundCore BoundSelect BoundSource) → N6 x → InFrom Rows Part Input Core Whole From x → InFrom OfRows OfPart OfInput OfCore OfWhole OfFrom x → OfFrom (roll-BoundSource x)) where
    abbrev RowsBrings : BoundRows → Type 0
    RowsBrings x = Rows x → OfRows x

    abbrev PartBrings : Conjunct → Type 0
    PartBrings x = Part x → OfPart x

    abbrev InputBrings : SourceRows → Type 0
    InputBrings x = Input x → OfInput x

    abbrev CoreBrings : BoundCore → Type 0
    CoreBrings x = Core x → OfCore x

    abbrev WholeBrings : BoundSelect → Type 0
    WholeBrings x = Whole x → OfWhole x

    abbrev FromBrings : BoundSource → Type 0
    FromBrings x = From x → OfFrom x

    rows_brought : (x : BoundRows-F BoundRows Conjunct SourceRows BoundCore BoundSelect BoundSource) → InRows RowsBrings PartBrings InputBrings CoreBrings WholeBrings FromBrings x → InRows Rows Part Input Core Whole From x → InRows OfRows OfPart OfInput OfCore OfWhole OfFrom x
    rows_brought (BoundRows-F.Core core) to held = to held
    rows_brought (BoundRows-F.Set kind all left right kinds) to held = (to.0 held.0, to.1 held.1)

    part_brought : (x : Conjunct-F BoundRows Conjunct SourceRows BoundCore BoundSelect BoundSource) → InPart RowsBrings PartBrings InputBrings CoreBrings WholeBrings FromBrings x → InPart Rows Part Input Core Whole From x → InPart OfRows OfPart OfInput OfCore OfWhole OfFrom x
    part_brought (Conjunct-F.Condition expr) to held = tt
    part_brought (Conjunct-F.Member of query negated) to held = to held

    input_brought : (x : SourceRows-F BoundRows Conjunct SourceRows BoundCore BoundSelect BoundSource) → InInput RowsBrings PartBrings InputBrings CoreBrings WholeBrings FromBrings x → InInput Rows Part Input Core Whole From x → InInput OfRows OfPart OfInput OfCore OfWhole OfFrom x
    input_brought (SourceRows-F.Table name) to held = tt
    input_brought (SourceRows-F.Query select) to held = to held

    core_brought : (x : BoundCore-F BoundRows Conjunct SourceRows BoundCore BoundSelect BoundSource) → InCore RowsBrings PartBrings InputBrings CoreBrings WholeBrings FromBrings x → InCore Rows Part Input Core Whole From x → InCore OfRows OfPart OfInput OfCore OfWhole OfFrom x
    core_brought x to held = (all_applied From OfFrom x.sources to.0 held.0, all_applied Part OfPart x.conjuncts to.1 held.1)

    whole_brought : (x : BoundSelect-F BoundRows Conjunct SourceRows BoundCore BoundSelect BoundSource) → InWhole RowsBrings PartBrings InputBrings CoreBrings WholeBrings FromBrings x → InWhole Rows Part Input Core Whole From x → InWhole OfRows OfPart OfInput OfCore OfWhole OfFrom x
    whole_brought x to held = to held

    from_brought : (x : BoundSource-F BoundRows Conjunct SourceRows BoundCore BoundSelect BoundSource) → InFrom RowsBrings PartBrings InputBrings CoreBrings WholeBrings FromBrings x → InFrom Rows Part Input Core Whole From x → InFrom OfRows OfPart OfInput OfCore OfWhole OfFrom x
    from_brought x to held = to held

    rows_step : (x : BoundRows-F BoundRows Conjunct SourceRows BoundCore BoundSelect BoundSource) (y : BoundRows-F (RowsFact RowsBrings PartBrings InputBrings CoreBrings WholeBrings FromBrings) (PartFact RowsBrings PartBrings InputBrings CoreBrings WholeBrings FromBrings) (InputFact RowsBrings PartBrings InputBrings CoreBrings WholeBrings FromBrings) (CoreFact RowsBrings PartBrings InputBrings CoreBrings WholeBrings FromBrings) (WholeFact RowsBrings PartBrings InputBrings CoreBrings WholeBrings FromBrings) (FromFact RowsBrings PartBrings InputBrings CoreBrings WholeBrings FromBrings)) → rows_alone RowsBrings PartBrings InputBrings CoreBrings WholeBrings FromBrings y ≡ x → RowsBrings (roll-BoundRows x)
    rows_step x y is every =
        let held = rows_held (roll-BoundRows x) x every (out-roll-BoundRows x) in
        by_rows x (rows_here (roll-BoundRows x) x every (out-roll-BoundRows x)) held (rows_brought x (subst (InRows RowsBrings PartBrings InputBrings CoreBrings WholeBrings FromBrings) is (rows_facts RowsBrings PartBrings InputBrings CoreBrings WholeBrings FromBrings y)) held)

    part_step : (x : Conjunct-F BoundRows Conjunct SourceRows BoundCore BoundSelect BoundSource) (y : Conjunct-F (RowsFact RowsBrings PartBrings InputBrings CoreBrings WholeBrings FromBrings) (PartFact RowsBrings PartBrings InputBrings CoreBrings WholeBrings FromBrings) (InputFact RowsBrings PartBrings InputBrings CoreBrings WholeBrings FromBrings) (CoreFact RowsBrings PartBrings InputBrings CoreBrings WholeBrings FromBrings) (WholeFact RowsBrings PartBrings InputBrings CoreBrings WholeBrings FromBrings) (FromFact RowsBrings PartBrings InputBrings CoreBrings WholeBrings FromBrings)) → part_alone RowsBrings PartBrings InputBrings CoreBrings WholeBrings FromBrings y ≡ x → PartBrings (roll-Conjunct x)
    part_step x y is every =
        let held = part_held (roll-Conjunct x) x every (out-roll-Conjunct x) in
        by_part x (part_here (roll-Conjunct x) x every (out-roll-Conjunct x)) held (part_brought x (subst (InPart RowsBrings PartBrings InputBrings CoreBrings WholeBrings FromBrings) is (part_facts RowsBrings PartBrings InputBrings CoreBrings WholeBrings FromBrings y)) held)

    input_step : (x : SourceRows-F BoundRows Conjunct SourceRows BoundCore BoundSelect BoundSource) (y : SourceRows-F (RowsFact RowsBrings PartBrings InputBrings CoreBrings WholeBrings FromBrings) (PartFact RowsBrings PartBrings InputBrings CoreBrings WholeBrings FromBrings) (InputFact RowsBrings PartBrings InputBrings CoreBrings WholeBrings FromBrings) (CoreFact RowsBrings PartBrings InputBrings CoreBrings WholeBrings FromBrings) (WholeFact RowsBrings PartBrings InputBrings CoreBrings WholeBrings FromBrings) (FromFact RowsBrings PartBrings InputBrings CoreBrings WholeBrings FromBrings)) → input_alone RowsBrings PartBrings InputBrings CoreBrings WholeBrings FromBrings y ≡ x → InputBrings (roll-SourceRows x)
    input_step x y is every =
        let held = input_held (roll-SourceRows x) x every (out-roll-SourceRows x) in
        by_input x (input_here (roll-SourceRows x) x every (out-roll-SourceRows x)) held (input_brought x (subst (InInput RowsBrings PartBrings InputBrings CoreBrings WholeBrings FromBrings) is (input_facts RowsBrings PartBrings InputBrings CoreBrings WholeBrings FromBrings y)) held)

    core_step : (x : BoundCore-F BoundRows Conjunct SourceRows BoundCore BoundSelect BoundSource) (y : BoundCore-F (RowsFact RowsBrings PartBrings InputBrings CoreBrings WholeBrings FromBrings) (PartFact RowsBrings PartBrings InputBrings CoreBrings WholeBrings FromBrings) (InputFact RowsBrings PartBrings InputBrings CoreBrings WholeBrings FromBrings) (CoreFact RowsBrings PartBrings InputBrings CoreBrings WholeBrings FromBrings) (WholeFact RowsBrings PartBrings InputBrings CoreBrings WholeBrings FromBrings) (FromFact RowsBrings PartBrings InputBrings CoreBrings WholeBrings FromBrings)) → core_alone RowsBrings PartBrings InputBrings CoreBrings WholeBrings FromBrings y ≡ x → CoreBrings (roll-BoundCore x)
    core_step x y is every =
        let held = core_held (roll-BoundCore x) x every (out-roll-BoundCore x) in
        by_core x (core_here (roll-BoundCore x) x every (out-roll-BoundCore x)) held (core_brought x (subst (InCore RowsBrings PartBrings InputBrings CoreBrings WholeBrings FromBrings) is (core_facts RowsBrings PartBrings InputBrings CoreBrings WholeBrings FromBrings y)) held)

    whole_step : (x : BoundSelect-F BoundRows Conjunct SourceRows BoundCore BoundSelect BoundSource) (y : BoundSelect-F (RowsFact RowsBrings PartBrings InputBrings CoreBrings WholeBrings FromBrings) (PartFact RowsBrings PartBrings InputBrings CoreBrings WholeBrings FromBrings) (InputFact RowsBrings PartBrings InputBrings CoreBrings WholeBrings FromBrings) (CoreFact RowsBrings PartBrings InputBrings CoreBrings WholeBrings FromBrings) (WholeFact RowsBrings PartBrings InputBrings CoreBrings WholeBrings FromBrings) (FromFact RowsBrings PartBrings InputBrings CoreBrings WholeBrings FromBrings)) → whole_alone RowsBrings PartBrings InputBrings CoreBrings WholeBrings FromBrings y ≡ x → WholeBrings (roll-BoundSelect x)
    whole_step x y is every =
        let held = whole_held (roll-BoundSelect x) x every (out-roll-BoundSelect x) in
        by_whole x (whole_here (roll-BoundSelect x) x every (out-roll-BoundSelect x)) held (whole_brought x (subst (InWhole RowsBrings PartBrings InputBrings CoreBrings WholeBrings FromBrings) is (whole_facts RowsBrings PartBrings InputBrings CoreBrings WholeBrings FromBrings y)) held)

    from_step : (x : BoundSource-F BoundRows Conjunct SourceRows BoundCore BoundSelect BoundSource) (y : BoundSource-F (RowsFact RowsBrings PartBrings InputBrings CoreBrings WholeBrings FromBrings) (PartFact RowsBrings PartBrings InputBrings CoreBrings WholeBrings FromBrings) (InputFact RowsBrings PartBrings InputBrings CoreBrings WholeBrings FromBrings) (CoreFact RowsBrings PartBrings InputBrings CoreBrings WholeBrings FromBrings) (WholeFact RowsBrings PartBrings InputBrings CoreBrings WholeBrings FromBrings) (FromFact RowsBrings PartBrings InputBrings CoreBrings WholeBrings FromBrings)) → from_alone RowsBrings PartBrings InputBrings CoreBrings WholeBrings FromBrings y ≡ x → FromBrings (roll-BoundSource x)
    from_step x y is every =
        let held = from_held (roll-BoundSource x) x every (out-roll-BoundSource x) in
        by_from x (from_here (roll-BoundSource x) x every (out-roll-BoundSource x)) held (from_brought x (subst (InFrom RowsBrings PartBrings InputBrings CoreBrings WholeBrings FromBrings) is (from_facts RowsBrings PartBrings InputBrings CoreBrings WholeBrings FromBrings y)) held)

    pub whole_brings : (x : BoundSelect) → WholeBrings x
    whole_brings = ind-BoundSelect RowsBrings PartBrings InputBrings CoreBrings WholeBrings FromBrings rows_step part_step input_step core_step whole_step from_step

    pub from_brings : (x : BoundSource) → FromBrings x
    from_brings = ind-BoundSource RowsBrings PartBrings InputBrings CoreBrings WholeBrings FromBrings rows_step part_step input_step core_step whole_step from_step
