-- What ends a run stands last.
use Rattle.std.proofs.Common.{◌≡◌, ◌≢◌, ℕ, ◌⊎◌, inl, inr, List, [], ◌++◌, Option, append-nil, refl, subst, sym, ◌∙◌, ap}
use Rattle.std.specs.Io.KnownBytes.{Appends}
use Rattle.run_settings.specs.declared.status.Status.{Status}
use Rattle.run_settings.specs.declared.status.Status.TheVariants.{Done, WriteFault, OutOfMemory}
use Rattle.run_settings.specs.Lines.{line_of}
use Rattle.script_says.specs.Ends.{EndsWith}
use Rattle.script_says.specs.LastLine.{IsBlock, AreBlocks, NoBlock, OneMore, Closes, EndsInLine}
use Rattle.script_says.proofs.Known.{Appends-then}

-- the blocks that were appended before a run's end
abbrev pub Grown : Option (List ℕ) → Option (List ℕ) → Type 0
Grown old mid = (done : List ℕ) × AreBlocks done × Appends old mid done

pub grown_nothing : (old mid : Option (List ℕ)) → Appends old mid [] → Grown old mid
grown_nothing old mid nothing = ([], NoBlock, nothing)

-- one block more
pub grown_more : (old mid new : Option (List ℕ)) (block : List ℕ) → Grown old mid → IsBlock block → Appends mid new block → Grown old new
grown_more old mid new block g is more = (g.0 ++ block, OneMore g.0 block g.1 is, Appends-then old mid new g.0 block g.2 more)

-- want of memory isn't done
pub memory_not_done : OutOfMemory ≢ Done
memory_not_done is = cc is

pub last_text : (closing : List ℕ) (old mid new : Option (List ℕ)) (text : List ℕ) (status result : Status) → Closes closing status text → Grown old mid → EndsWith mid new text status result → EndsInLine closing old new result
last_text closing old mid new text status result closes g e = at e.ends
  where
    which : ((e.whole ≡ status) × (e.all ≡ text)) ⊎ ((e.whole ≡ OutOfMemory) × (e.all ≡ line_of OutOfMemory)) → Closes closing e.whole e.all
    which (inl is) = rw (is.0, is.1) closes
    which (inr is) = inr (rw (is.0) memory_not_done, is.1 ∙ ap line_of (sym is.0))

    at : ((result ≡ e.whole) × (e.lost ≡ [])) ⊎ (result ≡ WriteFault) → EndsInLine closing old new result
    at (inr failed) = inl failed
    at (inl is) =
        let front : e.front ≡ e.all = sym (append-nil e.front) ∙ ap (λ (t : List ℕ). e.front ++ t) (sym is.1) ∙ e.parts in
        inr (g.0, e.front, g.1, subst (λ (t : List ℕ). Closes closing result t) (sym front) (subst (λ (s : Status). Closes closing s e.all) (sym is.0) (which e.which)), Appends-then old mid new g.0 e.front g.2 e.appended)

-- the line of the status, which isn't done
pub last_line : (closing : List ℕ) (old mid new : Option (List ℕ)) (status result : Status) → status ≢ Done → Grown old mid → EndsWith mid new (line_of status) status result → EndsInLine closing old new result
last_line closing old mid new status result undone g e = last_text closing old mid new (line_of status) status result (inr (undone, refl)) g e

-- the closing text of a run that is done
pub last_closing : (closing : List ℕ) (old mid new : Option (List ℕ)) (result : Status) → Grown old mid → EndsWith mid new closing Done result → EndsInLine closing old new result
last_closing closing old mid new result g e = last_text closing old mid new closing Done result (inl (refl, refl)) g e
