use Rattle.std.proofs.Common.{◌-◌, length}
use Rattle.play_evidence.proofs.play_finding.+push_cards.Given as goal

abbrev pub decreases-push_cards : goal.decreases-push_cards
decreases-push_cards l = 52 - length l.cards.now.items
