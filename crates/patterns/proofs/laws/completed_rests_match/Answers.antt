use Rattle.patterns.proofs.CompletionLaws.{Matches-completed}
use Rattle.patterns.proofs.laws.completed_rests_match.Goals as goal

pub returns : goal.returns
returns c = λ rest deal matches. Matches-completed rest deal matches
