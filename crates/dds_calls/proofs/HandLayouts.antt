-- What the layout of four words is to the hands that they came from.
use Rattle.std.proofs.Common.{◌≡◌, ℕ, ◌+◌, ◌^◌, ◌<◌, List, arith, sym, ◌∙◌, inl, inr, Err}
use Rattle.std.specs.Int.{bit_at}
use Rattle.cards.specs.declared.seats.Seat.{Seat}
use Rattle.cards.specs.declared.seats.Seat.TheVariants.{North, East, South, West}
use Rattle.cards.specs.declared.pack.Card.{Card}
use Rattle.cards.specs.declared.layouts.LayoutFault.{LayoutFault}
use Rattle.cards.specs.declared.layouts.LayoutFault.TheVariants.{StrayBit, CardTwice, HandSize}
use Rattle.cards.specs.Pack.{card_number, rank_number}
use Rattle.cards.specs.Deal.{Deal}
use Rattle.cards.specs.FromHands as from
use Rattle.cards.specs.Hands as words
use Rattle.dds_calls.specs.Hands.{AreOfCards, HaveCardTwice, HaveSizes, IsLayoutIn}
use Rattle.dds_calls.specs.Hands.{suits_of, word_in, words_of}
use Rattle.dds_calls.proofs.HandWords.{hand_bit, hand_word-lt}

-- a card's bit of a seat's word
pub seat_bit : (hands : List (List ℕ)) → AreOfCards hands → (seat : Seat) (card : Card)
    → bit_at (words.word_of (words_of hands) seat) (card_number card) ≡ bit_at (word_in (suits_of hands seat) card.suit) (rank_number card.rank + 2)
seat_bit hands of North card = hand_bit (suits_of hands North) (of North) card.suit card.rank
seat_bit hands of East card = hand_bit (suits_of hands East) (of East) card.suit card.rank
seat_bit hands of South card = hand_bit (suits_of hands South) (of South) card.suit card.rank
seat_bit hands of West card = hand_bit (suits_of hands West) (of West) card.suit card.rank

pub seat_word-lt : (hands : List (List ℕ)) → AreOfCards hands → (seat : Seat)
    → words.word_of (words_of hands) seat < 2 ^ 52
seat_word-lt hands of North = hand_word-lt (suits_of hands North) (of North)
seat_word-lt hands of East = hand_word-lt (suits_of hands East) (of East)
seat_word-lt hands of South = hand_word-lt (suits_of hands South) (of South)
seat_word-lt hands of West = hand_word-lt (suits_of hands West) (of West)

pub layout_in : (hands : List (List ℕ)) (deal : Deal) → AreOfCards hands → from.IsLayoutOf (words_of hands) deal
    → IsLayoutIn hands deal
layout_in hands deal of is =
    record {
      of_cards = of;
      holders = λ card seat. (
        λ h. sym (seat_bit hands of seat card) ∙ is.deals.no_others card seat h,
        λ h. is.deals.held card seat (seat_bit hands of seat card ∙ h),
      );
      layout = is.layout;
    }

pub twice_in : (hands : List (List ℕ)) → AreOfCards hands → words.HaveCardTwice (words_of hands) → HaveCardTwice hands
twice_in hands of twice =
    record {
      card = twice.card;
      one = twice.one;
      other = twice.other;
      apart = twice.apart;
      in_one = sym (seat_bit hands of twice.one twice.card) ∙ twice.in_one;
      in_other = sym (seat_bit hands of twice.other twice.card) ∙ twice.in_other;
    }

-- hands of one size are not refused for their sizes
not_missized : (hands : List (List ℕ)) → HaveSizes (words_of hands) → words.AreMissized (words_of hands) → ⊥
not_missized hands sized missized =
    let east = sized.1 East in
    let south = sized.1 South in
    let west = sized.1 West in
    elim missized [
      | inl none ↦ omega (arith, sized.0.0, sized.0.1, none, east, south, west)
      | inr more ↦ elim more [
        | inl many ↦ omega (arith, sized.0.0, sized.0.1, many, east, south, west)
        | inr unequal ↦ unequal.1 (sized.1 unequal.0)
      ]
    ]

-- of the refusals of four words only that for a card twice is left
pub refused_twice : (hands : List (List ℕ)) (fault : LayoutFault) → AreOfCards hands → HaveSizes (words_of hands)
    → from.MeetsHands (words_of hands) (Err fault) → HaveCardTwice hands
refused_twice hands StrayBit of sized stray = absurd (omega (arith, stray.1, seat_word-lt hands of stray.0))
refused_twice hands CardTwice of sized met = twice_in hands of met.1
refused_twice hands HandSize of sized met = absurd (not_missized hands sized met.2)
