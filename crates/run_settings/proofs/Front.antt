-- What is said, from the front.
use Rattle.std.proofs.Common.{◌≡◌, ◌∙◌, Bool, true, false, List, [], ◌∷◌, ◌++◌, map, Option, Some, None, refl, sym, ap}
use Rattle.std.proofs.lemmas.List.{append_assoc, append-nil}
use Rattle.run_settings.specs.First.{first_said, first_dashed, first_option, next_value, after}
use Rattle.run_settings.specs.Words.{Word, Saying, script, is_mark, is_dashed, option_in, onto, said, said_dashed, said_option}

-- the first thing, and then what is said behind it
abbrev pub then_said : Option (Saying × List Word) → Option (List Saying)
then_said None = None
then_said (Some p) = onto p.0 (said None p.1)

next-said : (name : Word) (words : List Word) → said (Some name) words ≡ then_said (next_value name words)
next-said name [] = refl
next-said name (text ∷ words) = go (is_dashed text) refl
  where
    go : (t : Bool) → is_dashed text ≡ t → said (Some name) (text ∷ words) ≡ then_said (next_value name (text ∷ words))
    go true e = rw e refl
    go false e = rw e refl

option-said : (name : Word) (o : Option Word) (words : List Word)
    → said_option name o (λ waiting. said waiting words) ≡ then_said (first_option name o words)
option-said name None words = next-said name words
option-said name (Some text) words = refl

dashed-said : (o : Option (Word × Option Word)) (words : List Word)
    → said_dashed o (λ waiting. said waiting words) ≡ then_said (first_dashed o words)
dashed-said None words = refl
dashed-said (Some p) words = option-said p.0 p.1 words

-- a word that is no mark
pub first-said : (word : Word) (words : List Word) → is_mark word ≡ false → said None (word ∷ words) ≡ then_said (first_said word words)
first-said word words mark = go (is_dashed word) refl
  where
    go : (t : Bool) → is_dashed word ≡ t → said None (word ∷ words) ≡ then_said (first_said word words)
    go true e = rw (mark, e) (dashed-said (option_in word) words)
    go false e = rw (mark, e) refl

-- one more thing is said
after-onto : (front : List Saying) (one : Saying) (o : Option (List Saying)) → after front (onto one o) ≡ after (front ++ one ∷ []) o
after-onto front one None = refl
after-onto front one (Some others) = ap (λ (all : List Saying). Some all) (sym (append_assoc front (one ∷ []) others))

pub goes-on : (all : Option (List Saying)) (front next : List Saying) (word : Word) (words behind : List Word) (one : Saying) → is_mark word ≡ false
    → all ≡ after front (said None (word ∷ words)) → first_said word words ≡ Some (one, behind) → next ≡ front ++ one ∷ [] → all ≡ after next (said None behind)
goes-on all front next word words behind one mark before first more =
    before ∙ ap (after front) (first-said word words mark ∙ ap then_said first) ∙ after-onto front one (said None behind)
    ∙ ap (λ (f : List Saying). after f (said None behind)) (sym more)

-- nothing is said
pub stops : (all : Option (List Saying)) (front : List Saying) (word : Word) (words : List Word) → is_mark word ≡ false
    → all ≡ after front (said None (word ∷ words)) → first_said word words ≡ None → all ≡ None
stops all front word words mark before first =
    before ∙ ap (after front) (first-said word words mark ∙ ap then_said first)

-- a mark, behind which every word is a script
pub ends : (all : Option (List Saying)) (front next : List Saying) (word : Word) (words : List Word) → is_mark word ≡ true
    → all ≡ after front (said None (word ∷ words)) → next ≡ front ++ map script words → all ≡ Some next
ends all front next word words mark before more =
    let marked : said None (word ∷ words) ≡ Some (map script words) = rw mark refl in
    before ∙ ap (after front) marked ∙ ap (λ (f : List Saying). Some f) (sym more)

-- no word is left
pub whole : (all : Option (List Saying)) (front : List Saying) → all ≡ after front (said None []) → all ≡ Some front
whole all front before = before ∙ ap (λ (f : List Saying). Some f) (append-nil front)
