-- Rows that were added so far, and the rest.
use Rattle.std.proofs.Common.{◌≡◌, ℕ, Option, Some, None, List, [], ◌∷◌, ◌++◌, map, refl, sym, ap, ◌∙◌, append_assoc}
use Rattle.std.proofs.lemmas.List.{append-nil, map-append}
use Rattle.std.specs.Prelude.{Result, Ok, Err, IfSome}
use Rattle.ooc_types.specs.declared.value.Value.{Value}
use Rattle.ooc_types.specs.declared.schema.Column.{Column}
use Rattle.ooc_types.specs.Meets.{IsOf}
use Rattle.row_image.specs.Texts.{ValueRow}
use Rattle.csv_load.specs.declared.fault.Refusal.{Refusal}
use Rattle.csv_load.specs.declared.fault.RowFault.{RowFault}
use Rattle.csv_load.specs.declared.fault.RowFault.TheVariants as row
use Rattle.csv_load.specs.Rows.{gathered}
use Rattle.csv_load.specs.Ahead.{Given, with_next, GivesNext, GivesRow, GivesEnd, GivesRefusal}
use Rattle.csv_tables.specs.declared.fault.LoadFault.{LoadFault}
use Rattle.csv_tables.specs.declared.fault.LoadFault.TheVariants as load
use Rattle.csv_tables.specs.Faults.{row_fault}
use Rattle.csv_tables.specs.Stored.{kept_row, AreOf}
use Rattle.csv_tables.specs.Adds.{PutsNext, IsRefused, AddsRow, onto_rows, GoesOn, HasAdded, AddsAll}

onto-none : (r : Result (List (List Value)) Refusal) → r ≡ onto_rows [] r
onto-none (Ok rows) = refl
onto-none (Err why) = refl

goes-none : (given : Option Given) → GoesOn given [] given
goes-none None = tt
goes-none (Some known) = onto-none (gathered known)

-- at the start
pub added-none : (limit : ℕ) (columns : List Column) (given : Option Given) (before : List ValueRow) → HasAdded limit columns given given before before
added-none limit columns given before = record { rows = []; added = sym (append-nil before); goes = goes-none given; of = tt }

-- gathering behind a row
gather-row : (row : List Value) (rest : Given) → gathered (Ok row ∷ rest) ≡ onto_rows (row ∷ []) (gathered rest)
gather-row row rest = by (gathered rest)
  where
    by : (r : Result (List (List Value)) Refusal) → ◌≡◌ {A = Result (List (List Value)) Refusal} (elim r [ Err refused ↦ Err refused | Ok rows ↦ Ok (row ∷ rows) ]) (onto_rows (row ∷ []) r)
    by (Ok rows) = refl
    by (Err why) = refl

onto-onto : (first second : List (List Value)) (r : Result (List (List Value)) Refusal) → onto_rows first (onto_rows second r) ≡ onto_rows (first ++ second) r
onto-onto first second (Ok rows) = ap Ok (sym (append_assoc first second rows))
onto-onto first second (Err why) = refl

goes-more : (a b c : Option Given) (rows : List (List Value)) (row : List Value) → GoesOn a rows b → GivesRow b row c → GoesOn a (rows ++ row ∷ []) c
goes-more None b c rows row h g = tt
goes-more (Some known) None c rows row h g = absurd h
goes-more (Some known) (Some rest) None rows row h g = absurd g
goes-more (Some known) (Some rest) (Some later) rows row h g = h ∙ ap (λ x. onto_rows rows (gathered x)) g ∙ ap (onto_rows rows) (gather-row row later) ∙ onto-onto rows (row ∷ []) (gathered later)

of-more : (limit : ℕ) (columns : List Column) (rows : List (List Value)) (row : List Value) → AreOf limit columns rows → IsOf limit columns row → AreOf limit columns (rows ++ row ∷ [])
of-more limit columns [] row h g = (g, tt)
of-more limit columns (first ∷ rows) row h g = (h.0, of-more limit columns rows row h.1 g)

-- one row more
pub added-more : (limit : ℕ) (columns : List Column) (a b c : Option Given) (before now after : List ValueRow) → HasAdded limit columns a b before now → AddsRow limit columns b c now after → HasAdded limit columns a c before after
added-more limit columns a b c before now after h s = record {
  rows = h.rows ++ s.row ∷ [];
  added = s.added ∙ ap (λ l. l ++ kept_row s.row ∷ []) h.added ∙ append_assoc before (map kept_row h.rows) (kept_row s.row ∷ []) ∙ ap (λ l. before ++ l) (sym (map-append kept_row h.rows (s.row ∷ [])));
  goes = goes-more a b c h.rows s.row h.goes s.gives;
  of = of-more limit columns h.rows s.row h.of s.of;
}

goes-end : (a b : Option Given) (rows : List (List Value)) → GoesOn a rows b → GivesEnd b → IfSome a (λ known. gathered known ≡ Ok rows)
goes-end None b rows h g = tt
goes-end (Some known) None rows h g = absurd h
goes-end (Some known) (Some rest) rows h g = h ∙ ap (λ x. onto_rows rows (gathered x)) g ∙ ap Ok (append-nil rows)

-- no row more
pub added-all : (limit : ℕ) (columns : List Column) (a b : Option Given) (before now after : List ValueRow) → HasAdded limit columns a b before now → GivesEnd b → after ≡ now → AddsAll limit columns a before after
added-all limit columns a b before now after h g same = record { rows = h.rows; added = same ∙ h.added; all = goes-end a b h.rows h.goes g; of = h.of }

-- a refusal behind rows
pub added-refused : (limit : ℕ) (columns : List Column) (a b : Option Given) (before now : List ValueRow) (fault : LoadFault) → HasAdded limit columns a b before now → IsRefused b fault → IsRefused a fault
added-refused limit columns None b before now (load.Refused why) h g = tt
added-refused limit columns (Some known) None before now (load.Refused why) h g = absurd h.goes
added-refused limit columns (Some known) (Some rest) before now (load.Refused why) h g = h.goes ∙ ap (onto_rows h.rows) g
added-refused limit columns a b before now load.Read h g = tt
added-refused limit columns a b before now (load.Pool fault) h g = tt
added-refused limit columns a b before now load.OutOfMemory h g = tt

-- the end of the rows with a fault
pub row-refused : (a : Option Given) (fault : RowFault) → GivesRefusal a fault → IsRefused a (row_fault fault)
row-refused None (row.Refused why) h = tt
row-refused (Some known) (row.Refused why) h = ap gathered h
row-refused a row.Read h = tt
row-refused a row.OutOfMemory h = tt

-- a record that gives a refusal
pub next-refused : (a b : Option Given) (next : Result (List Value) Refusal) (before now : List ValueRow) (fault : LoadFault) → GivesNext a next b → PutsNext next before now (Err fault) → IsRefused a fault
next-refused None b next before now (load.Refused why) h p = tt
next-refused (Some known) None next before now (load.Refused why) h p = absurd h
next-refused (Some known) (Some rest) next before now (load.Refused why) h p = ap gathered (h ∙ ap (λ o. with_next o rest) p)
next-refused a b next before now load.Read h p = tt
next-refused a b next before now (load.Pool fault) h p = tt
next-refused a b next before now load.OutOfMemory h p = tt
