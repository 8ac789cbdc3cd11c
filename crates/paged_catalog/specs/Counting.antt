-- How many rows tables have, each in its place.
use Rattle.std.specs.Prelude.{List, [], ◌∷◌, length, min}
use Rattle.sql_scope.specs.declared.scope.TableColumns.{TableColumns}
use Rattle.page_body.specs.View.{PoolTerms}
use Rattle.sql_plan.specs.declared.counts.TableCount.{TableCount}
use Rattle.script_says.specs.Catalog.{most_counted}
use Rattle.paged_catalog.specs.declared.catalog.TableRows.{TableRows}
use Rattle.paged_catalog.specs.Meaning.{sets_rows}

abbrev pub count_of : {Page Pin : Type 0} → PoolTerms Page Pin → TableColumns → TableRows Page → TableCount
count_of t table rows = record { name = table.name; rows = min (length (sets_rows t rows.sets.items)) most_counted }

abbrev pub counts_with : {Page Pin : Type 0} → PoolTerms Page Pin → List TableColumns → List (TableRows Page) → List TableCount
counts_with t [] rows = []
counts_with t (table ∷ tables) [] = []
counts_with t (table ∷ tables) (first ∷ rows) = count_of t table first ∷ counts_with t tables rows
