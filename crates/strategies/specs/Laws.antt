-- Laws of strategies and of "can win", for every layout.
use Rattle.std.specs.Prelude.{◌≡◌, ℕ, ◌+◌, ◌-◌, ◌≤◌, ◌↔◌, List, [], ◌∷◌, ◌++◌}
use Rattle.cards.specs.declared.seats.Side.{Side}
use Rattle.cards.specs.declared.seats.Side.TheVariants.{NorthSouth, EastWest}
use Rattle.cards.specs.declared.pack.Card.{Card}
use Rattle.cards.specs.Deal.{IsLayout, size_of}
use Rattle.play_rules.specs.History.{Opening, trick_of, tricks_of}
use Rattle.play_rules.specs.Legal.{CanPlay, IsLegalHistory, IsPlay, IsUnfinished}
use Rattle.strategies.specs.Strategies.{CanWin, IsTurnOf}
use Rattle.strategies.specs.Values.{opening_after}

-- after some legal card the side can still win this many tricks
abbrev pub CanWinAfterSome : Opening → Side → ℕ → List Card → Type 0
CanWinAfterSome opening side tricks history =
    (card : Card) × CanPlay opening history card × CanWin opening side tricks (history ++ card ∷ [])

-- after each legal card the side can still win this many tricks
abbrev pub CanWinAfterEach : Opening → Side → ℕ → List Card → Type 0
CanWinAfterEach opening side tricks history =
    (card : Card) → CanPlay opening history card → CanWin opening side tricks (history ++ card ∷ [])

-- from the layout that is left the side can win the tricks that it has not won yet
abbrev pub CanWinTheRest : Opening → Side → ℕ → List Card → Type 0
CanWinTheRest opening side tricks history =
    CanWin (opening_after opening history) side (tricks - tricks_of side opening.trump opening.leader history) []

-- at its own turn a side can win exactly the tricks that it can win after some legal card
abbrev pub WinsByOwnCard : Type 0
WinsByOwnCard =
    (opening : Opening) (side : Side) (tricks : ℕ) (history : List Card)
    → IsLayout opening.deal → IsLegalHistory opening history → IsUnfinished opening history
    → IsTurnOf opening side history
    → CanWin opening side tricks history ↔ CanWinAfterSome opening side tricks history

-- at a turn of the opponents a side can win exactly the tricks that it can win after each legal card
abbrev pub WinsAgainstEachCard : Type 0
WinsAgainstEachCard =
    (opening : Opening) (side : Side) (tricks : ℕ) (history : List Card)
    → IsLayout opening.deal → IsLegalHistory opening history → IsUnfinished opening history
    → (IsTurnOf opening side history → ⊥)
    → CanWin opening side tricks history ↔ CanWinAfterEach opening side tricks history

-- after whole tricks, with cards left, the cards left are a layout, and a side can win the tricks that it lacks from
-- there
abbrev pub WinsTheRest : Type 0
WinsTheRest =
    (opening : Opening) (side : Side) (tricks : ℕ) (history : List Card)
    → IsLayout opening.deal → IsLegalHistory opening history → IsUnfinished opening history
    → trick_of history ≡ []
    → IsLayout (opening_after opening history).deal
    × (CanWin opening side tricks history ↔ CanWinTheRest opening side tricks history)

-- from every layout each side can win 0 tricks
abbrev pub WinsNothing : Type 0
WinsNothing = (opening : Opening) (side : Side) → IsLayout opening.deal → CanWin opening side 0 []

-- a side can win the tricks that it has won
abbrev pub WinsWhatIsWon : Type 0
WinsWhatIsWon =
    (opening : Opening) (side : Side) (tricks : ℕ) (history : List Card)
    → IsLayout opening.deal → IsLegalHistory opening history
    → tricks ≤ tricks_of side opening.trump opening.leader history
    → CanWin opening side tricks history

-- a side that can win this many tricks can win fewer
abbrev pub WinsFewer : Type 0
WinsFewer =
    (opening : Opening) (side : Side) (tricks fewer : ℕ) (history : List Card)
    → fewer ≤ tricks → CanWin opening side tricks history → CanWin opening side fewer history

-- in a play the tricks of the two sides are as many as a hand has cards
abbrev pub ShareTheTricks : Type 0
ShareTheTricks =
    (opening : Opening) (history : List Card) → IsPlay opening history
    → tricks_of NorthSouth opening.trump opening.leader history
    + tricks_of EastWest opening.trump opening.leader history
    ≡ size_of opening.deal

-- the two sides together can win no more tricks than there are
abbrev pub WinNoMoreThanAll : Type 0
WinNoMoreThanAll =
    (opening : Opening) (north_south east_west : ℕ) (history : List Card)
    → IsLayout opening.deal → IsLegalHistory opening history
    → CanWin opening NorthSouth north_south history → CanWin opening EastWest east_west history
    → north_south + east_west ≤ size_of opening.deal
