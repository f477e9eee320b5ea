-- The tricks of a list of cards, one after another.
use Rattle.std.proofs.Common.{◌≡◌, ℕ, ◌+◌, ◌*◌, ◌<◌, ◌≤◌, cond, Bool, List, [], ◌∷◌, ◌++◌, length, take, drop, get_or, refl, sym, ◌∙◌, ap, arith}
use denote.Enum.Bare.{sameb}
use Rattle.std.specs.List.{range_with_len}
use Rattle.std.proofs.lemmas.List.FromFn.{get_or-range_with_len}
use Rattle.std.proofs.lemmas.List.{nil_from_length, length-take-le}
use Rattle.std.proofs.Math.Seq.{take-add}
use Rattle.cards.specs.declared.suits.Trump.{Trump}
use Rattle.cards.specs.declared.seats.Seat.{Seat}
use Rattle.cards.specs.contracts.seats.Side.{the_type}
use Rattle.cards.specs.declared.seats.Side.{Side}
use Rattle.cards.specs.declared.seats.Side.TheVariants.{NorthSouth, EastWest}
use Rattle.cards.specs.declared.pack.Card.{Card}
use Rattle.cards.specs.Seats.{side_of, is_same_side}
use Rattle.play_rules.specs.History.{trick_made, trick_of, leader_after, tricks_of}
use Rattle.play_rules.specs.Winners.{winner_of}
use Rattle.play_rules.proofs.HistoryLaws.{length-trick_of, leader_after-append}
use Rattle.play_dialogues.specs.PlayText.{play_trick_line, line_after}

-- after whole tricks none is in progress
trick_of-whole : (cards : List Card) (tricks : ℕ) → 4 * tricks ≤ length cards → trick_of (take (4 * tricks) cards) ≡ []
trick_of-whole cards tricks h =
    nil_from_length _ (omega (arith, length-trick_of (take (4 * tricks) cards), length-take-le (4 * tricks) cards h))

-- who leads after one trick more
pub leader_after-more : (trump : Trump) (leader : Seat) (cards : List Card) (tricks : ℕ) → 4 * tricks ≤ length cards →
    leader_after trump leader (take (4 * (tricks + 1)) cards)
    ≡ leader_after trump (leader_after trump leader (take (4 * tricks) cards)) (take 4 (drop (4 * tricks) cards))
leader_after-more trump leader cards tricks h =
    let trick = take 4 (drop (4 * tricks) cards) in
    let more : 4 * (tricks + 1) ≡ 4 * tricks + 4 = omega arith in
    ap (leader_after trump leader) (ap (λ n. take n cards) more ∙ take-add (4 * tricks) 4 cards)
    ∙ (leader_after-append trump leader (take (4 * tricks) cards) trick
    ∙ ap (λ (begun : List Card). leader_after trump (leader_after trump leader (take (4 * tricks) cards)) (begun ++ trick))
    (trick_of-whole cards tricks h))

-- who leads after a whole trick
pub leader_after-four : (trump : Trump) (leader : Seat) (cards : List Card) (d : Card) → length cards ≡ 4 →
    leader_after trump leader cards
    ≡ winner_of trump leader (trick_made (get_or cards 0 d) (get_or cards 1 d) (get_or cards 2 d) (get_or cards 3 d))
unfolding leader_after
leader_after-four trump leader [] x h = absurd (omega arith)
leader_after-four trump leader (a ∷ []) x h = absurd (omega arith)
leader_after-four trump leader (a ∷ b ∷ []) x h = absurd (omega arith)
leader_after-four trump leader (a ∷ b ∷ c ∷ []) x h = absurd (omega arith)
leader_after-four trump leader (a ∷ b ∷ c ∷ d ∷ []) x h = refl
leader_after-four trump leader (a ∷ b ∷ c ∷ d ∷ e ∷ rest) x h = absurd (omega arith)

-- the tricks of a side in the first four cards and in the others
tricks_of-more : (side : Side) (trump : Trump) (leader : Seat) (cards : List Card) → 4 ≤ length cards →
    tricks_of side trump leader cards
    ≡ cond (is_same_side (side_of (leader_after trump leader (take 4 cards))) side) 1 0
    + tricks_of side trump (leader_after trump leader (take 4 cards)) (drop 4 cards)
unfolding leader_after tricks_of
tricks_of-more side trump leader [] h = absurd (omega arith)
tricks_of-more side trump leader (a ∷ []) h = absurd (omega arith)
tricks_of-more side trump leader (a ∷ b ∷ []) h = absurd (omega arith)
tricks_of-more side trump leader (a ∷ b ∷ c ∷ []) h = absurd (omega arith)
tricks_of-more side trump leader (a ∷ b ∷ c ∷ d ∷ rest) h = refl

-- fewer than four cards are no trick
pub tricks_of-short : (side : Side) (trump : Trump) (leader : Seat) (cards : List Card) → length cards < 4 →
    tricks_of side trump leader cards ≡ 0
unfolding tricks_of
tricks_of-short side trump leader [] h = refl
tricks_of-short side trump leader (a ∷ []) h = refl
tricks_of-short side trump leader (a ∷ b ∷ []) h = refl
tricks_of-short side trump leader (a ∷ b ∷ c ∷ []) h = refl
tricks_of-short side trump leader (a ∷ b ∷ c ∷ d ∷ rest) h = absurd (omega arith)

-- the line of the trick in this place
pub line-is : (trump : Trump) (first_leader leader : Seat) (cards trick : List Card) (place count : ℕ) → place < count →
    leader ≡ leader_after trump first_leader (take (4 * place) cards) → trick ≡ take 4 (drop (4 * place) cards) →
    play_trick_line (place + 1) trump leader trick ≡ line_after trump first_leader cards (get_or (range_with_len 0 count) place 0)
line-is trump first_leader leader cards trick place count below leads is =
    let there : get_or (range_with_len 0 count) place 0 ≡ place = omega (arith, get_or-range_with_len 0 count place 0 below) in
    ap (λ (seat : Seat). play_trick_line (place + 1) trump seat trick) leads
    ∙ (ap (λ (played : List Card). play_trick_line (place + 1) trump (leader_after trump first_leader (take (4 * place) cards)) played) is
    ∙ ap (line_after trump first_leader cards) (sym there))

-- the comparison that the code makes
same_side_test : (one other : Side) → sameb the_type one other ≡ is_same_side one other
same_side_test NorthSouth NorthSouth = refl
same_side_test EastWest EastWest = refl
same_side_test _ _ = refl

-- the tricks of a side before and after the first four cards, by what the code looks at
pub tricks_of-next : (side : Side) (trump : Trump) (leader next : Seat) (rest trick others : List Card) (test : Bool) →
    4 ≤ length rest → trick ≡ take 4 rest → others ≡ drop 4 rest → next ≡ leader_after trump leader trick →
    test ≡ sameb the_type (side_of next) side →
    tricks_of side trump leader rest ≡ cond test 1 0 + tricks_of side trump next others
tricks_of-next side trump leader next rest trick others test four front back leads tested =
    rw (tested, same_side_test, leads, front, back) (tricks_of-more side trump leader rest four)
