-- How a play is written as a Play section.
use Rattle.std.specs.Prelude.{ℕ, List, [], ◌∷◌, ◌++◌, map, slice_get, Option, None, Some, codes}
use Rattle.std.specs.List.{flat_map}
use Rattle.cards.specs.declared.suits.Trump.{Trump}
use Rattle.cards.specs.declared.seats.Seat.{Seat}
use Rattle.cards.specs.declared.pack.Card.{Card}
use Rattle.cards.specs.CardTexts.{card_text}
use Rattle.cards.specs.Seats.{place_of}
use Rattle.pbn_deals.specs.DealValue.{seats_from}
use Rattle.play_rules.specs.History.{Opening, trick_made}
use Rattle.play_rules.specs.Winners.{winner_of}

-- a row: the cards of a trick, by columns
abbrev pub row : Seat → Seat → List Card → List (Option Card)
row first leader trick = map (λ seat. slice_get trick (place_of leader seat)) (seats_from 4 first)

-- a row for each trick
abbrev pub rows : Seat → Trump → Seat → List Card → List (Option Card)
rows first trump leader [] = []
rows first trump leader (a ∷ []) = row first leader (a ∷ [])
rows first trump leader (a ∷ b ∷ []) = row first leader (a ∷ b ∷ [])
rows first trump leader (a ∷ b ∷ c ∷ []) = row first leader (a ∷ b ∷ c ∷ [])
rows first trump leader (a ∷ b ∷ c ∷ d ∷ rest) =
    row first leader (a ∷ b ∷ c ∷ d ∷ []) ++ rows first trump (winner_of trump leader (trick_made a b c d)) rest

-- a card, or `-` for none
abbrev pub word_text : Option Card → List ℕ
word_text None = codes "-"
word_text (Some card) = card_text card

-- each with a blank after it
abbrev pub written : Seat → Opening → List Card → List ℕ
written first opening cards =
    flat_map (λ word. word_text word ++ 32 ∷ []) (rows first opening.trump opening.leader cards)
