-- The text of a play: a line for each trick, and a line of both sides' tricks, as
--     1 S: S3 SK SA S5 N
--     declarer 0, defenders 1
use Rattle.std.specs.Prelude.{ℕ, ◌+◌, ◌*◌, ◌/◌, List, [], ◌∷◌, ◌++◌, length, take, drop, codes}
use Rattle.std.specs.List.{flat_map, range_with_len}
use Rattle.std.specs.Fmt.{decimal}
use Rattle.cards.specs.declared.suits.Trump.{Trump}
use Rattle.cards.specs.declared.seats.Seat.{Seat}
use Rattle.cards.specs.declared.pack.Card.{Card}
use Rattle.cards.specs.Seats.{next_of, seat_letter, side_of, other_side}
use Rattle.play_rules.specs.Winners.{winner_of}
use Rattle.play_rules.specs.History.{trick_made, leader_after, tricks_of}
use Rattle.cards.specs.CardTexts.{cards_text}
use Rattle.cards.specs.Bytes as ascii

-- the seat that wins the four cards of a trick, after a blank; nothing for a trick that is not whole
abbrev pub winner_text : Trump → Seat → List Card → List ℕ
winner_text trump leader (a ∷ b ∷ c ∷ d ∷ []) = ascii.blank ∷ seat_letter (winner_of trump leader (trick_made a b c d))
winner_text trump leader cards = []

-- the line of a trick: its number, its leader, its cards clockwise from the leader, and its winner
unfoldable pub play_trick_line : ℕ → Trump → Seat → List Card → List ℕ
play_trick_line number trump leader cards =
    decimal number
    ++ ((ascii.blank ∷ seat_letter leader) ++ (codes ":" ++ (cards_text cards
    ++ (winner_text trump leader cards ++ (ascii.line_feed ∷ [])))))

-- the line of the trick after so many others
abbrev pub line_after : Trump → Seat → List Card → ℕ → List ℕ
line_after trump first_leader cards tricks =
    play_trick_line (tricks + 1) trump (leader_after trump first_leader (take (4 * tricks) cards))
    (take 4 (drop (4 * tricks) cards))

-- the lines of all tricks, the last perhaps not whole
unfoldable pub tricks_text : Trump → Seat → List Card → List ℕ
tricks_text trump first_leader cards =
    flat_map (line_after trump first_leader cards) (range_with_len 0 ((length cards + 3) / 4))

-- the line of both sides' tricks
unfoldable pub play_score_line : Seat → Trump → List Card → List ℕ
play_score_line declarer trump cards =
    codes "declarer " ++ (decimal (tricks_of (side_of declarer) trump (next_of declarer) cards)
    ++ (codes ", defenders " ++ (decimal (tricks_of (other_side (side_of declarer)) trump (next_of declarer) cards)
    ++ (ascii.line_feed ∷ []))))

-- the whole text; the seat at declarer's left leads first (Law 41A)
unfoldable pub play_text : Seat → Trump → List Card → List ℕ
play_text declarer trump cards = tricks_text trump (next_of declarer) cards ++ play_score_line declarer trump cards
