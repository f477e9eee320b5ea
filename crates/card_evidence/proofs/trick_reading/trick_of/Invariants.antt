-- The cards so far were played.
use Rattle.std.proofs.Common.{◌≡◌, take}
use Rattle.card_evidence.proofs.trick_reading.trick_of.Given as goal

abbrev pub invariant-loop-card : goal.invariant-loop-card
invariant-loop-card l = record {
  opening : l.trick.opening ≡ record { deal = l.fn.layout; leader = l.fn.leader; trump = l.fn.trump };
  history : l.trick.history ≡ take l.card-index l.cards;
}
