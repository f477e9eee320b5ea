-- No card so far is another seat's.
use Rattle.std.proofs.Common.{◌≡◌, ◌<◌, Some}
use Rattle.cards.specs.declared.pack.Rank.{Rank}
use Rattle.cards.specs.declared.seats.Seat.{Seat}
use Rattle.cards.specs.Pack.{card_of, rank_number}
use Rattle.cards.specs.Deal.{holder_of}
use Rattle.dds_calls.proofs.lines.is_clear.Given as goal

abbrev pub invariant-loop-number : goal.invariant-loop-number
invariant-loop-number l =
    (rank : Rank) → rank_number l.fn.low < rank_number rank → rank_number rank < l.number
    → (seat : Seat) → holder_of l.fn.layout (card_of l.fn.suit rank) ≡ Some seat → seat ≡ l.fn.player
