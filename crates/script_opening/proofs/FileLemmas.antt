-- What a file's bytes make of a script.
use Rattle.std.proofs.Common.{◌≡◌, ℕ, ◌+◌, ◌<◌, ◌≤◌, ◌⊎◌, inl, inr, List, ◌++◌, length, true, false, Option, None, Some, Result, Ok, Err, refl, ap, ◌∙◌, sym, subst, arith, length-append, append-nil, lt-ltb, le-ltb}
use Rattle.std.specs.Bool.{nat_lt}
use Rattle.ooc_types.specs.declared.refusal.RefusalKind.TheVariants as kind
use Rattle.run_settings.specs.declared.status.Place.TheVariants.{Whole, Byte}
use Rattle.std.specs.Option.{IfSome}
use Rattle.std.specs.FinMap.{get}
use Rattle.std.proofs.lemmas.Option.{IfSome_then}
use Rattle.ooc_io.specs.Held.{Held}
use Rattle.ooc_io.specs.Opens.{Opens}
use Rattle.ooc_io.specs.declared.fault.OpenFault.TheVariants.{Missing}
use Rattle.sql_lex.specs.declared.token.Token.{Token}
use Rattle.sql_lex.specs.Lexed.{lexed}
use Rattle.sql_grammar.specs.Lexemes.{lexemes}
use Rattle.sql_grammar.specs.declared.tree.statement.Script.{Script}
use Rattle.run_settings.specs.declared.status.Status.{Status}
use Rattle.script_opening.specs.Limits.{most_script}
use Rattle.script_opening.specs.Trees.{ScriptRefusal, Tree, IsTree, IsTreeOf, IsSizedTree, IsTokenTree, IsTreeAs, MayCut, script_refusal}
use Rattle.script_opening.specs.Reading.{IsReadUpTo, IsScriptRead}

-- a script whose front is longer than a script may be is too long
pub long_script : (file : Option (List ℕ)) (whole text : List ℕ) → file ≡ Some whole → IsReadUpTo most_script whole text → most_script < length text → IsScriptRead file (Err (script_refusal (record { place = Whole; kind = kind.ScriptTooLong })))
long_script file whole text is read long =
    let longer : length whole ≡ length text + length read.0 = ap length read.1 ∙ length-append text read.0 in
    let over : nat_lt most_script (length whole) ≡ true = lt-ltb most_script (length whole) (omega (arith, longer, long)) in
    inl (record { place = Whole; kind = kind.ScriptTooLong }, rw (is, over) refl, refl)

-- the file isn't there
pub no_script : (file : Option (List ℕ)) → file ≡ None → IsScriptRead file (Err (script_refusal (record { place = Whole; kind = kind.NoFile })))
no_script file is = inl (record { place = Whole; kind = kind.NoFile }, rw is refl, refl)

-- the whole script was read
pub whole_script : (file : Option (List ℕ)) (whole text : List ℕ) → file ≡ Some whole → IsReadUpTo most_script whole text → length text ≤ most_script → IsScriptRead file (Ok text)
whole_script file whole text is read short = (is ∙ ap (λ (b : List ℕ). Some b) (read.1 ∙ ap (λ (r : List ℕ). text ++ r) (read.2 short) ∙ append-nil text), short)

-- what may be a tree of other bytes, may be one of these
pub tree_then : (may wider : Tree → Type 0) (r : Result Script Status) → ((tree : Tree) → may tree → wider tree) → IsTreeAs may r → IsTreeAs wider r
tree_then may wider (Ok script) f h = f (Ok script) h
tree_then may wider (Err status) f (inl h) = inl (h.0, f (Err h.0) h.1, h.2)
tree_then may wider (Err status) f (inr may_cut) = inr may_cut

module _ (bytes : List ℕ) (short : length bytes ≤ most_script) where
  sized : nat_lt most_script (length bytes) ≡ false
  sized = le-ltb most_script (length bytes) short

  -- its tokens are a script, or aren't
  pub tokens_tree : (tokens : List Token) → lexed bytes ≡ Ok tokens → (tree : Tree) → IsTokenTree (length bytes) (lexemes bytes tokens) tree → IsTreeOf bytes tree
  tokens_tree tokens is tree h = rw (sized, is) h

  -- it has a bad token
  pub bad_token : (place : ℕ) (status : Status) → lexed bytes ≡ Err place → status ≡ script_refusal (record { place = Byte place; kind = kind.BadToken }) → IsTreeAs (IsTreeOf bytes) (Err status)
  bad_token place status is stops = inl (record { place = Byte place; kind = kind.BadToken }, rw (sized, is) refl, stops)

-- what a file's bytes are refused as is what the file is refused as
pub file_refused : (file : Option (List ℕ)) (bytes : List ℕ) (status : Status) → file ≡ Some bytes → IsTreeAs (IsTreeOf bytes) (Err status) → ((refusal : ScriptRefusal) × IsTree file (Err refusal) × (status ≡ script_refusal refusal)) ⊎ MayCut status
file_refused file bytes status is (inl h) = inl (h.0, rw is h.1, h.2)
file_refused file bytes status is (inr may) = inr may

module _ (holds : Option Held) (name : List ℕ) (left : Option (List ℕ)) (text : List ℕ) where
  -- the open file was read to its end
  pub told_whole : Opens {X = Unit {0}} holds name (Ok tt) left → IfSome left (λ bytes. IsReadUpTo most_script bytes text) → length text ≤ most_script → IfSome holds (λ held. IsScriptRead (get held name) (Ok text))
  told_whole opens read short = of_holds holds opens
    where
      of_holds : (o : Option Held) → Opens {X = Unit {0}} o name (Ok tt) left → IfSome o (λ held. IsScriptRead (get held name) (Ok text))
      of_holds None opened = tt
      of_holds (Some held) opened = whole_script (get held name) opened.0 text opened.1 (subst (λ (l : Option (List ℕ)). IfSome l (λ bytes. IsReadUpTo most_script bytes text)) opened.2 read) short

  -- or to where a script is too long
  pub told_long : (status : Status) → Opens {X = Unit {0}} holds name (Ok tt) left → IfSome left (λ bytes. IsReadUpTo most_script bytes text) → most_script < length text → status ≡ script_refusal (record { place = Whole; kind = kind.ScriptTooLong }) → IfSome holds (λ held. IsScriptRead (get held name) (Err status))
  told_long status opens read long is = of_holds holds opens
    where
      of_holds : (o : Option Held) → Opens {X = Unit {0}} o name (Ok tt) left → IfSome o (λ held. IsScriptRead (get held name) (Err status))
      of_holds None opened = tt
      of_holds (Some held) opened = rw is (long_script (get held name) opened.0 text opened.1 (subst (λ (l : Option (List ℕ)). IfSome l (λ bytes. IsReadUpTo most_script bytes text)) opened.2 read) long)

-- no file has the name
pub told_missing : (holds : Option Held) (name : List ℕ) (left : Option (List ℕ)) (status : Status) → Opens {X = Unit {0}} holds name (Err Missing) left → status ≡ script_refusal (record { place = Whole; kind = kind.NoFile }) → IfSome holds (λ held. IsScriptRead (get held name) (Err status))
told_missing None name left status opened is = tt
told_missing (Some held) name left status opened is = rw is (no_script (get held name) opened)

-- its bytes are refused
pub told_refused : (holds : Option Held) (name bytes : List ℕ) (status : Status) → IfSome holds (λ held. IsScriptRead (get held name) (Ok bytes)) → IsTreeAs (IsTreeOf bytes) (Err status) → IfSome holds (λ held. ((refusal : ScriptRefusal) × IsTree (get held name) (Err refusal) × (status ≡ script_refusal refusal)) ⊎ MayCut status)
told_refused holds name bytes status read parsed = IfSome_then holds read (λ held h. file_refused (get held name) bytes status h.0 parsed)
