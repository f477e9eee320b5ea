use Rattle.std.proofs.Common.{◌≡◌, sym, ap, ◌∙◌}
use Rattle.lease_desk.specs.declared.views.Custody.TheVariants.{Before, Empty}
use Rattle.lease_desk.specs.declared.views.View.{View}
use Rattle.lease_desk.proofs.Moves.{tells, hears}
use Rattle.lease_desk.proofs.closing.compare.Goals as goal

pub another-told-requires-clause-rule : goal.another-told-requires-clause-rule
another-told-requires-clause-rule c = tells _ _ c.requires.holds.0 c.requires.holds.1

pub absorb-requires-clause-rule : goal.absorb-requires-clause-rule
absorb-requires-clause-rule c =
    hears _ _ _ _ (λ e. let both : Before ≡ Empty = sym e ∙ c.requires.sits.custody in cc) (ap (λ (v : View). v.custody) c.another-told.ensures.rule.1)
