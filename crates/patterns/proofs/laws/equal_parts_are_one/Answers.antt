use Rattle.std.proofs.Common.{ap}
use Rattle.std.proofs.lemmas.Bool.Decides.{Decides-and, Decides-like}
use Rattle.patterns.specs.Shapes.{SuitShape}
use Rattle.patterns.specs.Parts.{suit_shape}
use Rattle.patterns.proofs.EqualityLaws.{lens_equal-Decides, owners_equal-Decides, same_suits}
use Rattle.patterns.proofs.laws.equal_parts_are_one.Goals as goal

pub returns : goal.returns
returns c = λ one other.
    Decides-like _ (λ h. same_suits (suit_shape one) (suit_shape other) h.0 h.1)
    (λ e. (ap (λ (s : SuitShape). s.lens) e, ap (λ (s : SuitShape). s.owners) e))
    (Decides-and _ _ (lens_equal-Decides one.lens other.lens) (owners_equal-Decides one.owners.items other.owners.items))
