-- The seat that wins a trick is among those that may win it on the pattern.
use Rattle.std.proofs.Common.{◌≡◌, ℕ, ◌<◌, Bool, true, false, cond, ◌||◌, List, [], ◌∷◌, length, Contains, refl, sym, ◌∙◌, ap, subst, arith, inl, inr}
use Rattle.std.proofs.lemmas.Bool.{cases_lt}
use Rattle.std.proofs.lemmas.List.{get_or_default}
use Rattle.std.proofs.lemmas.List.Elements.{Contains-get_or}
use Rattle.cards.specs.declared.pack.Card.{Card}
use Rattle.cards.specs.declared.suits.Suit.{Suit}
use Rattle.cards.specs.declared.suits.Suit.TheVariants.{Spades}
use Rattle.cards.specs.declared.suits.Trump.{Trump}
use Rattle.cards.specs.declared.suits.Trump.TheVariants as trump
use Rattle.cards.specs.declared.seats.Seat.{Seat}
use Rattle.cards.specs.Seats.{seat_in_place}
use Rattle.cards.specs.Deal.{Deal}
use Rattle.patterns.specs.Shapes.{Shape}
use Rattle.pattern_step.specs.declared.pat_cards.PatCard.{PatCard}
use Rattle.pattern_step.specs.declared.pat_cards.PatCard.TheVariants.{Top, Low}
use Rattle.pattern_step.specs.PatCards.{suit_of_card, is_of_suit, HasCard}
use Rattle.pattern_step.specs.Tricks.{played_in_place, AreLegalInTurn, winning_suit, MayWin}
use Rattle.pattern_step.specs.LayoutCards.{StandsFor, IsBelowTop}
use Rattle.pattern_step.proofs.LayoutLaws.{stands_suit, top_ranks_above}
use Rattle.pattern_step.proofs.TurnLaws.{place_of-seat_in_place}
use Rattle.play_rules.specs.Tricks.{Trick, card_in_place, IsHighest}
use Rattle.play_rules.specs.Winners.{deciding_suit, winning_place, winner_of}
use Rattle.play_rules.specs.History.{trick_made}
use Rattle.play_rules.proofs.TrickLaws.{wins_by_highest_card}

or_nothing : (a b c d : Bool) → a || (b || (c || (d || false))) ≡ a || (b || (c || d))
or_nothing a b c true = refl
or_nothing a b c false = refl

-- four real cards, and the pattern cards that stand for them
abbrev pub StandForTrick : Shape → Deal → List PatCard → Trick → Type 0
StandForTrick shape deal pats trick = (place : ℕ) → place < 4 → StandsFor shape deal (played_in_place pats place) (card_in_place trick place)

-- the suit that decides is the same for both
decides : (shape : Shape) (deal : Deal) (trump : Trump) (pats : List PatCard) (trick : Trick) → length pats ≡ 4 → StandForTrick shape deal pats trick → deciding_suit trump trick ≡ winning_suit trump pats
decides shape deal trump.Nt (a ∷ b ∷ c ∷ d ∷ []) trick four stand = stands_suit shape deal a trick.first (stand 0 (omega arith))
decides shape deal (trump.Suit suit) (a ∷ b ∷ c ∷ d ∷ []) trick four stand =
    rw (
      stands_suit shape deal a trick.first (stand 0 (omega arith)),
      stands_suit shape deal b trick.second (stand 1 (omega arith)),
      stands_suit shape deal c trick.third (stand 2 (omega arith)),
      stands_suit shape deal d trick.fourth (stand 3 (omega arith)),
    )
    (ap (λ any. cond any suit (suit_of_card a)) (sym (or_nothing (is_of_suit suit a) (is_of_suit suit b) (is_of_suit suit c) (is_of_suit suit d))))
decides shape deal trump [] trick four stand = absurd (omega (arith, four))
decides shape deal trump (a ∷ []) trick four stand = absurd (omega (arith, four))
decides shape deal trump (a ∷ b ∷ []) trick four stand = absurd (omega (arith, four))
decides shape deal trump (a ∷ b ∷ c ∷ []) trick four stand = absurd (omega (arith, four))
decides shape deal trump (a ∷ b ∷ c ∷ d ∷ e ∷ rest) trick four stand = absurd (omega (arith, four))

-- no higher top of the suit was played than the winner's card
none_above : (shape : Shape) (deal : Deal) (pats : List PatCard) (trick : Trick) (suit : Suit) (winner other : ℕ) → length pats ≡ 4 → StandForTrick shape deal pats trick → winner < 4 →
    IsHighest trick suit winner → IsBelowTop suit other (played_in_place pats winner) → Contains pats (Top suit other) → ⊥
none_above shape deal pats trick suit winner other four stand within highest below (place, less, is) =
    let here : played_in_place pats place ≡ Top suit other = get_or_default pats place (Top Spades 0) (Top suit other) less ∙ is in
    let stands : StandsFor shape deal (Top suit other) (card_in_place trick place) = subst (λ p. StandsFor shape deal p (card_in_place trick place)) here (stand place (omega arith)) in
    let above = top_ranks_above shape deal suit other (played_in_place pats winner) (card_in_place trick place) (card_in_place trick winner) below stands (stand winner within) in
    omega (arith, above, highest.highest place stands.0)

-- The winner of the real trick may win the trick of pattern cards.
may_win : (shape : Shape) (deal : Deal) (trump : Trump) (leader : Seat) (pats : List PatCard) (trick : Trick) (suit : Suit) (place : ℕ) (pat : PatCard) → suit ≡ winning_suit trump pats → played_in_place pats place ≡ pat →
    length pats ≡ 4 → AreLegalInTurn shape leader pats → StandForTrick shape deal pats trick → place < 4 → IsHighest trick suit place → MayWin shape trump leader pats (seat_in_place leader place)
may_win shape deal trump leader pats trick suit place (Top of top) decided is four legal stand within highest =
    let stands : StandsFor shape deal (Top of top) (card_in_place trick place) = subst (λ p. StandsFor shape deal p (card_in_place trick place)) is (stand place within) in
    let of_suit : of ≡ suit = sym stands.0 ∙ highest.of_suit in
    let played : Contains pats (Top suit top) = subst (Contains pats) (is ∙ ap (λ s. Top s top) of_suit) (Contains-get_or pats place (Top Spades 0) (omega (arith, four, within))) in
    let has : HasCard shape (seat_in_place leader place) (Top suit top) = subst (HasCard shape (seat_in_place leader place)) (is ∙ ap (λ s. Top s top) of_suit) (legal place within).has in
    rw (← decided) (inl (record {
      place = top;
      played = played;
      least = λ other there. elim (cases_lt other top) [
        | inl less ↦ absurd (none_above shape deal pats trick suit place other four stand within highest (subst (IsBelowTop suit other) (sym is) (of_suit, less)) there)
        | inr more ↦ more
      ];
      owner = has;
    }))
may_win shape deal trump leader pats trick suit place (Low of) decided is four legal stand within highest =
    let stands : StandsFor shape deal (Low of) (card_in_place trick place) = subst (λ p. StandsFor shape deal p (card_in_place trick place)) is (stand place within) in
    let of_suit : of ≡ suit = sym stands.0 ∙ highest.of_suit in
    rw (← decided) (inr (record {
      no_top = λ other there. none_above shape deal pats trick suit place other four stand within highest (subst (IsBelowTop suit other) (sym is) of_suit) there;
      low = ap (played_in_place pats) (place_of-seat_in_place leader place within) ∙ (is ∙ ap Low of_suit);
    }))

pub winner_may_win : (shape : Shape) (deal : Deal) (trump : Trump) (leader : Seat) (pats : List PatCard) (a b c d : Card) → length pats ≡ 4 → AreLegalInTurn shape leader pats →
    StandForTrick shape deal pats (trick_made a b c d) → MayWin shape trump leader pats (winner_of trump leader (trick_made a b c d))
unfolding winner_of
winner_may_win shape deal trump leader pats a b c d four legal stand =
    let trick = trick_made a b c d in
    let wins = wins_by_highest_card trump trick in
    let place = winning_place trump trick in
    may_win shape deal trump leader pats trick (deciding_suit trump trick) place (played_in_place pats place) (decides shape deal trump pats trick four stand) refl four legal stand (omega (arith, wins.0)) wins.1
