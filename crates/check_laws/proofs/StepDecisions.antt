-- What a step asks of a place holds or fails, one of the two.
use Rattle.std.proofs.Common.{◌≡◌, ℕ, zero, suc, ◌<◌, ◌≤◌, List, [], ◌∷◌, length, take, get_or, Option, None, Some, ◌↔◌, inl, inr, refl, ap, subst, arith, add-one}
use Rattle.std.specs.Prelude.{◌⊎◌, slice_get}
use Rattle.cards.specs.declared.suits.Suit.{Suit}
use Rattle.cards.specs.declared.suits.Suit.TheVariants.{Spades, Hearts, Diamonds, Clubs}
use Rattle.cards.specs.declared.suits.Trump.{Trump}
use Rattle.cards.specs.declared.seats.Seat.{Seat}
use Rattle.cards.specs.declared.seats.Seat.TheVariants.{North, East, South, West}
use Rattle.patterns.specs.Shapes.{SuitShape, Shape, suit_of, len_of, Covers}
use Rattle.patterns.proofs.SeatLaws.{for_each_seat, for_each_suit}
use Rattle.pattern_step.specs.declared.pat_cards.PatCard.{PatCard}
use Rattle.pattern_step.specs.declared.pat_cards.PatCard.TheVariants.{Top, Low}
use Rattle.pattern_step.specs.PatCards.{HasCard}
use Rattle.pattern_step.specs.HighestTops.{IsHighestTop, lesser}
use Rattle.pattern_step.specs.Tricks.{MayWin, winning_suit, played_by, len_left, owners_left, IsLeft, IsLeftOf}
use Rattle.pattern_step.proofs.TrickLemmas.{no_top_met, top_met, all_met, wins_by_top, wins_by_low}
use Rattle.pattern_step.proofs.TrickLaws.{one_left}
use Rattle.certificate_graph.specs.declared.children.Child.{Child}
use Rattle.certificate_graph.specs.declared.nodes.Node.{Node}
use Rattle.certificate_graph.specs.declared.versions.Version.{Version}
use Rattle.certificate_graph.specs.declared.versions.Version.TheVariants.{One, Two}
use Rattle.certificate_graph.specs.Trees.{Branches, NoBranch, Branch}
use Rattle.certificate_graph.specs.Graphs.{GraphShape}
use Rattle.checker.specs.Places.{HasBranchOf}
use Rattle.checker.specs.Steps.{need_after, HasHigher, IsAnswered, IsListed, HasToGoOn, rest_read, CoversRest}
use Rattle.checker.proofs.HigherCards.{HasHere, low_has_none, first_has_none, higher_cases}
use Rattle.check_laws.proofs.Decisions.{Decided, has_card, alike, both, either, is_less, same_seat, same_suit, same_card, same_some, covers}

-- ---- branches
has_branch : (branches : Branches) (card : PatCard) → Decided (HasBranchOf branches card)
has_branch NoBranch card = inr (λ (below, has). has)
has_branch (Branch first tree rest) card =
    alike ((first ≡ card) ⊎ HasBranchOf rest card) (HasBranchOf (Branch first tree rest) card) (
      (λ h. elim h [ inl e ↦ (tree, inl (e, refl)) | inr later ↦ (later.0, inr later.1) ]),
      λ (below, has). elim has [ inl here ↦ inl here.0 | inr later ↦ inr (below, later) ],
    )
    (either (first ≡ card) (HasBranchOf rest card) (same_card first card) (has_branch rest card))

higher_than_top : (shape : Shape) (seat : Seat) (branches : Branches) (suit : Suit) (place : ℕ) → Decided (HasHigher shape seat branches (Top suit place))
higher_than_top shape seat branches suit zero = inr (first_has_none shape seat branches suit)
higher_than_top shape seat branches suit (suc place) =
    let above = Top suit place in
    alike (HasCard shape seat (Top suit (suc place)) × HasHere shape seat branches above) (HasHigher shape seat branches (Top suit (suc place))) (higher_cases shape seat branches suit (suc place) place refl)
    (both (HasCard shape seat (Top suit (suc place))) (HasHere shape seat branches above) (has_card shape seat (Top suit (suc place)))
    (both (HasCard shape seat above) (HasBranchOf branches above ⊎ HasHigher shape seat branches above) (has_card shape seat above)
    (either (HasBranchOf branches above) (HasHigher shape seat branches above) (has_branch branches above) (higher_than_top shape seat branches suit place))))

has_higher : (shape : Shape) (seat : Seat) (branches : Branches) (card : PatCard) → Decided (HasHigher shape seat branches card)
has_higher shape seat branches (Low suit) = inr (low_has_none shape seat branches suit)
has_higher shape seat branches (Top suit place) = higher_than_top shape seat branches suit place

pub is_answered : (version : Version) (shape : Shape) (seat : Seat) (branches : Branches) (card : PatCard) → Decided (IsAnswered version shape seat branches card)
is_answered One shape seat branches card = has_branch branches card
is_answered Two shape seat branches card = either (HasBranchOf branches card) (HasHigher shape seat branches card) (has_branch branches card) (has_higher shape seat branches card)

-- ---- seats listed
listed_cases : (child : Child) (rest : List Child) (seat : Seat) → ((child.winner ≡ seat) ⊎ IsListed rest seat) ↔ IsListed (child ∷ rest) seat
listed_cases child rest seat = (
  (λ h. elim h [
    | inl e ↦ (child.number, (0, omega arith, ap (λ (s : Seat). record { winner = s; number = child.number }) e))
    | inr later ↦ (later.0, (suc later.1.0, omega (arith, later.1.1), later.1.2))
  ]),
  λ (number, (k, less, is)). go number k less is,
)
  where
    go : (number k : ℕ) → k < length (child ∷ rest) → get_or (child ∷ rest) k (record { winner = seat; number = number }) ≡ record { winner = seat; number = number } → (child.winner ≡ seat) ⊎ IsListed rest seat
    go number zero less is = inl (ap (λ (c : Child). c.winner) is)
    go number (suc k) less is = inr (number, (k, omega arith, is))

pub is_listed : (children : List Child) (seat : Seat) → Decided (IsListed children seat)
is_listed [] seat = inr (λ (number, (k, less, is)). absurd (omega arith))
is_listed (child ∷ rest) seat =
    alike ((child.winner ≡ seat) ⊎ IsListed rest seat) (IsListed (child ∷ rest) seat) (listed_cases child rest seat)
    (either (child.winner ≡ seat) (IsListed rest seat) (same_seat child.winner seat) (is_listed rest seat))

-- ---- winners
-- whether a card is a top of the suit
top_or_not : (card : PatCard) (suit : Suit) → ((place : ℕ) × (card ≡ Top suit place)) ⊎ ((place : ℕ) → card ≡ Top suit place → ⊥)
top_or_not (Top of place) suit = elim (same_suit of suit) [ inl e ↦ inl (place, ap (λ (s : Suit). Top s place) e) | inr fails ↦ inr (λ place' is. fails cc) ]
top_or_not (Low of) suit = inr (λ place is. cc)

-- the highest top of some cards, or none
highest_up_to : (cards : List PatCard) (suit : Suit) (n : ℕ) → n ≤ length cards → (least : Option ℕ) × IsHighestTop (take n cards) suit least
highest_up_to cards suit zero within = (None, λ other (k, less, is). absurd (omega arith))
highest_up_to cards suit (suc n) within =
    let before = highest_up_to cards suit n (omega arith) in
    elim (top_or_not (get_or cards n (Low Spades)) suit) [
      | inl top ↦ (Some (lesser before.0 top.0), (rw add-one at (top_met cards n (Low Spades) suit before.0 top.0 (omega arith) top.1 before.1)))
      | inr none ↦ (before.0, (rw add-one at (no_top_met cards n (Low Spades) suit before.0 (omega arith) none before.1)))
    ]

pub may_win : (shape : Shape) (trump : Trump) (leader : Seat) (cards : List PatCard) (seat : Seat) → Decided (MayWin shape trump leader cards seat)
may_win shape trump leader cards seat = go found.0 (all_met cards (length cards) suit found.0 (omega arith) found.1)
  where
    suit : Suit
    suit = winning_suit trump cards

    found : (least : Option ℕ) × IsHighestTop (take (length cards) cards) suit least
    found = highest_up_to cards suit (length cards) (omega arith)

    go : (least : Option ℕ) → IsHighestTop cards suit least → Decided (MayWin shape trump leader cards seat)
    go (Some place) highest =
        alike (slice_get (suit_of shape suit).owners place ≡ Some seat) (MayWin shape trump leader cards seat)
        (wins_by_top shape trump leader cards suit place seat refl highest) (same_some (slice_get (suit_of shape suit).owners place) seat)
    go None highest =
        alike (played_by leader cards seat ≡ Low suit) (MayWin shape trump leader cards seat)
        (wins_by_low shape trump leader cards suit seat refl highest) (same_card (played_by leader cards seat) (Low suit))

pub has_to_go_on : (graph : GraphShape) (node : Node) (cards : List PatCard) (seat : Seat) → Decided (HasToGoOn graph node cards seat)
has_to_go_on graph node cards seat =
    alike (MayWin node.pattern graph.trump node.lead cards seat × (0 < need_after graph.side node.need seat)) (HasToGoOn graph node cards seat)
    ((λ h. record { wins = h.0; needed = h.1 }), λ goes. (goes.wins, goes.needed))
    (both (MayWin node.pattern graph.trump node.lead cards seat) (0 < need_after graph.side node.need seat)
    (may_win node.pattern graph.trump node.lead cards seat) (is_less 0 (need_after graph.side node.need seat)))

-- ---- what is left
-- what four cards leave of a suit, and of a pattern
suit_left : SuitShape → Seat → List PatCard → Suit → SuitShape
suit_left before leader cards suit = record {
  lens = len_left before leader cards suit North ∷ len_left before leader cards suit East ∷ len_left before leader cards suit South ∷ len_left before leader cards suit West ∷ [];
  owners = owners_left cards suit before.owners;
}

shape_left : Shape → Seat → List PatCard → Shape
shape_left shape leader cards = record {
  spades = suit_left shape.spades leader cards Spades;
  hearts = suit_left shape.hearts leader cards Hearts;
  diamonds = suit_left shape.diamonds leader cards Diamonds;
  clubs = suit_left shape.clubs leader cards Clubs;
}

suit_left-is : (before : SuitShape) (leader : Seat) (cards : List PatCard) (suit : Suit) → IsLeftOf before leader cards suit (suit_left before leader cards suit)
unfolding suit_left
suit_left-is before leader cards suit = record {
  four_seats = refl;
  lens = for_each_seat (λ seat. len_of (suit_left before leader cards suit) seat ≡ len_left before leader cards suit seat) refl refl refl refl;
  owners = refl;
}

shape_left-is : (shape : Shape) (leader : Seat) (cards : List PatCard) → IsLeft shape leader cards (shape_left shape leader cards)
unfolding shape_left
shape_left-is shape leader cards =
    for_each_suit (λ suit. IsLeftOf (suit_of shape suit) leader cards suit (suit_of (shape_left shape leader cards) suit))
    (suit_left-is shape.spades leader cards Spades) (suit_left-is shape.hearts leader cards Hearts)
    (suit_left-is shape.diamonds leader cards Diamonds) (suit_left-is shape.clubs leader cards Clubs)

pub covers_rest : (version : Version) (pattern : Shape) (node : Node) (cards : List PatCard) → Decided (CoversRest version pattern node cards)
covers_rest version pattern node cards =
    let left = shape_left node.pattern node.lead cards in
    let is = shape_left-is node.pattern node.lead cards in
    alike (Covers pattern (rest_read version left)) (CoversRest version pattern node cards)
    ((λ covers'. (left, is, covers')), λ (rest, is', covers'). subst (λ (s : Shape). Covers pattern (rest_read version s)) (one_left node.pattern node.lead cards rest left is' is) covers')
    (covers pattern (rest_read version left))
