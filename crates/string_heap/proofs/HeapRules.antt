-- What the rules of a heap page say.
use Rattle.std.proofs.Common.{◌≡◌, ℕ, ◌-◌, ◌≤◌, List, [], ◌∷◌, length, refl}
use Rattle.std.proofs.lemmas.Bool.{eqb-true, leb-true, eq-eqb, le-leb}
use Rattle.row_image.specs.Bytes.{number_at}
use Rattle.row_image.specs.Rules.{kind_rule, used_rule, rules_of, IsAccepted}
use Rattle.row_image.specs.declared.image.ImageKind.TheVariants.{Heap}
use Rattle.row_image.proofs.RuleLemmas.{sound_cons, cons_sound}

pub record HeapFacts (image : List ℕ) : Type 0 where
  pub kind : number_at image 0 4 ≡ 2
  pub used : number_at image 4 4 ≤ length image - 64

pub heap_facts : (image : List ℕ) → IsAccepted Heap image → HeapFacts image
unfolding rules_of
heap_facts image accepted =
    let first = sound_cons (kind_rule 2 image) (used_rule image ∷ []) accepted.sound in
    let second = sound_cons (used_rule image) [] first.1 in
    record { kind = eqb-true _ _ first.0; used = leb-true _ _ second.0 }

pub heap_accepted : (image : List ℕ) → HeapFacts image → IsAccepted Heap image
unfolding rules_of
heap_accepted image f = record {
  sound = cons_sound (kind_rule 2 image) (used_rule image ∷ []) (eq-eqb _ _ f.kind) (cons_sound (used_rule image) [] (le-leb _ _ f.used) refl);
}
