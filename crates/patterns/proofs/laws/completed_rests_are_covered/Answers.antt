use Rattle.patterns.proofs.CompletionLaws.{Covers-completed}
use Rattle.patterns.proofs.laws.completed_rests_are_covered.Goals as goal

pub returns : goal.returns
returns c = λ pattern rest covers. Covers-completed pattern rest covers
