-- The statements that ran so far, and the tables that they leave.
use Rattle.std.proofs.Common.{◌≡◌, ◌≢◌, ℕ, ◌+◌, ◌≤◌, inl, inr, List, [], ◌∷◌, ◌++◌, Option, Ok, refl, sym, ◌∙◌, append-nil, subst}
use Rattle.std.specs.Prelude.{IfSome}
use Rattle.std.specs.Io.KnownBytes.{Appends}
use Rattle.ooc_io.specs.Held.{Held}
use Rattle.sql_grammar.specs.declared.tree.statement.Statement.{Statement}
use Rattle.run_settings.specs.Lines.{line_of}
use Rattle.run_settings.specs.declared.status.Status.{Status}
use Rattle.run_settings.specs.declared.status.Status.TheVariants.{Done}
use Rattle.script_says.specs.Catalog.{Catalog}
use Rattle.script_says.specs.Ends.{EndsAs, EndsBy}
use Rattle.script_says.proofs.RunLemmas.{ends_as}
use Rattle.script_says.proofs.SoFar.{SoFar, SoFar-none, SoFar-then}
use Rattle.statement_run.specs.Running.{run_statement}
use Rattle.catalog_bound.specs.Bound.{catalog_need}
use Rattle.script_run.specs.Ran.{Ran}
use Rattle.script_run.proofs.Told.{always, if_both, one_more, IsStepNow, step_of_first}

-- a run that was to end with a refusal isn't done
pub ends_undone : (old new : Option (List ℕ)) (status result : Status) → EndsBy old new status result → status ≢ Done → result ≢ Done
ends_undone old new status result line undone done = at (ends_as old new (line_of status) status result line)
  where
    at : EndsAs status result → ⊥
    at (inl is) = undone (sym is ∙ done)
    at (inr (inl is)) = let h = sym is ∙ done in absurd (cc h)
    at (inr (inr is)) = let h = sym is ∙ done in absurd (cc h)

module _ (page : ℕ) (script : List ℕ) (first : Catalog) (all : List Statement) where
  -- Some blocks were appended, and whatever the statements that are left print, all of them print behind these.
  abbrev pub RanSoFar : Option Held → ℕ → Catalog → List Statement → Option (List ℕ) → Option (List ℕ) → Type 0
  RanSoFar holds number catalog left old mid =
      IfSome holds (λ held. (last : Catalog) → SoFar (λ out status. Ran (run_statement held page script) 1 first all out last) (λ out status. Ran (run_statement held page script) number catalog left out last) old mid)

  abbrev pub RanTo : Option Held → Option (List ℕ) → Option (List ℕ) → Catalog → Type 0
  RanTo holds old new last = IfSome holds (λ held. (blocks : List ℕ) × Appends old new blocks × Ran (run_statement held page script) 1 first all blocks last)

  pub ran_none : (holds : Option Held) (old : Option (List ℕ)) → RanSoFar holds 1 first all old old
  ran_none holds old = always holds (λ held last. SoFar-none (λ out status. Ran (run_statement held page script) 1 first all out last) old)

  -- one statement more
  pub ran_more : (holds now : Option Held) (same : now ≡ holds) (bytes : ℕ) (same_bytes : bytes ≡ page) (number : ℕ) (catalog new : Catalog) (s : Statement) (left ss : List Statement) (is : left ≡ s ∷ ss) (old mid later : Option (List ℕ))
      → RanSoFar holds number catalog left old mid → (text : List ℕ) → IsStepNow page script first all now bytes number catalog s new (Ok text) → Appends mid later text → RanSoFar holds (number + 1) new ss old later
  ran_more holds now same bytes same_bytes number catalog new s left ss is old mid later so_far text step appended =
      if_both holds so_far (step_of_first page script first all holds now same bytes same_bytes number catalog new s (Ok text) step)
      (λ held f h last. SoFar-then (λ out status. Ran (run_statement held page script) 1 first all out last) (λ out status. Ran (run_statement held page script) number catalog left out last) (λ out status. Ran (run_statement held page script) (number + 1) new ss out last)
      old mid later text (f last) appended
      (λ more status r. subst (λ (l : List Statement). Ran (run_statement held page script) number catalog l (text ++ more) last) (sym is) (new, h.0, text, more, h.1, h.2, refl, r)))

  -- none is left
  pub ran_all : (holds : Option Held) (number : ℕ) (catalog : Catalog) (left : List Statement) (old mid : Option (List ℕ)) → left ≡ [] → RanSoFar holds number catalog left old mid → RanTo holds old mid catalog
  ran_all holds number catalog left old mid none so_far =
      one_more holds so_far
      (λ held f. (
        (f catalog).done,
        (f catalog).appended,
        subst (λ (out : List ℕ). Ran (run_statement held page script) 1 first all out catalog) (append-nil (f catalog).done)
            ((f catalog).goes_on [] Done (subst (λ (l : List Statement). Ran (run_statement held page script) number catalog l [] catalog) (sym none) (refl, refl))),
      ))

  -- and the pages that the last tables need were written but for so many
  pub ran_within : (holds : Option Held) (old new : Option (List ℕ)) (last : Catalog) (spent : ℕ) → RanTo holds old new last → catalog_need page last ≤ spent
      → IfSome holds (λ held. (last : Catalog) × (blocks : List ℕ) × Appends old new blocks × Ran (run_statement held page script) 1 first all blocks last × (catalog_need page last ≤ spent))
  ran_within holds old new last spent ran within = one_more holds ran (λ held r. (last, r.0, r.1, r.2, within))
