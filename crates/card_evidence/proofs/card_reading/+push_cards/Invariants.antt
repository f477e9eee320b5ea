use Rattle.std.proofs.Common.{◌-◌, length}
use Rattle.card_evidence.proofs.card_reading.+push_cards.Given as goal

abbrev pub decreases-push_cards : goal.decreases-push_cards
decreases-push_cards l = 3 - length l.cards.now.items
