-- Both sides have played the same cards, and promise what they did.
use Rattle.std.proofs.Common.{◌≡◌, ◌-◌, length}
use Rattle.play_rules.specs.Legal.{cards_in_play}
use Rattle.certificate_play.proofs.lines.line.Given as goal

abbrev pub invariant-loop-seat : goal.invariant-loop-seat
invariant-loop-seat l = record {
  same : l.other.position ≡ l.one.position;
  opening : l.one.position.opening ≡ l.initial.one.position.opening;
  one_side : l.one.side ≡ l.initial.one.side;
  other_side : l.other.side ≡ l.initial.other.side;
  one_tricks : l.one.tricks ≡ l.initial.one.tricks;
  other_tricks : l.other.tricks ≡ l.initial.other.tricks;
  cards : l.cards.items ≡ l.one.position.history;
}

abbrev pub decreases-loop-seat : goal.decreases-loop-seat
decreases-loop-seat l = cards_in_play l.one.position.opening - length l.one.position.history
