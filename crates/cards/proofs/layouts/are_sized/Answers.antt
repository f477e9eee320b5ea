use Rattle.std.proofs.Common.{rules}
use Rattle.cards.proofs.layouts.are_sized.Goals as goal

pub returns-then-hands-size-2 : goal.returns-then-hands-size-2
returns-then-hands-size-2 c = search rules
