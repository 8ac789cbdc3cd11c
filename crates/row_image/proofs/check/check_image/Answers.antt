use Rattle.std.proofs.Common.{refl, subst, sym}
use Rattle.row_image.specs.declared.image.ImageKind.{ImageKind}
use Rattle.row_image.specs.Rules.{rules_of, IsAccepted}
use Rattle.row_image.proofs.check.check_image.Goals as goal

pub returns-in-Plain-clause-accepted : goal.returns-in-Plain-clause-accepted
unfolding rules_of
returns-in-Plain-clause-accepted c = let P : ImageKind → Type 0 = λ kind. IsAccepted kind c.args.image.now in subst P (sym c.in-Plain.is) (record { sound = refl })
