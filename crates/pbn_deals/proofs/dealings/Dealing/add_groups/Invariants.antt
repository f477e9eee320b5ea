-- The cards of the bytes read so far were put, and the whole word names them and those of the rest.
use Rattle.std.proofs.Common.{◌≡◌, ◌<◌, List, drop, Some}
use Rattle.cards.specs.declared.pack.Card.{Card}
use Rattle.pbn_deals.specs.DealValue.{put_all}
use Rattle.pbn_deals.specs.Words.{AddsCards}
use Rattle.pbn_deals.proofs.GroupLemmas.{cards_from}
use Rattle.pbn_deals.proofs.dealings.Dealing.add_groups.Given as goal

abbrev pub invariant-loop-byte : goal.invariant-loop-byte
invariant-loop-byte l = record {
  cards : List Card;
  suit_in : l.suit < 4;
  so_far : put_all (Some cards) (cards_from l.suit (drop l.byte-index l.word)) ≡ cards_from 0 l.word;
  puts : AddsCards l.initial.self l.self l.seat cards;
  partial : l.self.is_partial ≡ l.initial.self.is_partial;
}
