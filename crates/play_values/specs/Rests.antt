-- The rest of a play: what whole tricks leave.
use Rattle.std.specs.Prelude.{◌≡◌, ℕ, ◌-◌, ◌%◌, ◌↔◌, [], ◌++◌, List, length, take}
use Rattle.cards.specs.declared.seats.Side.{Side}
use Rattle.cards.specs.declared.seats.Side.TheVariants.{NorthSouth, EastWest}
use Rattle.cards.specs.declared.pack.Card.{Card}
use Rattle.cards.specs.Deal.{IsLayout}
use Rattle.play_rules.specs.History.{Opening, trick_of, tricks_of}
use Rattle.play_rules.specs.Legal.{IsLegalHistory, IsUnfinished}
use Rattle.strategies.specs.Strategies.{CanWin}
use Rattle.strategies.specs.Values.{opening_after}
use Rattle.play_values.specs.declared.rests.Rest.{Rest}

-- how many tricks of the history a side has won
abbrev pub tricks_won : Opening → Side → List Card → ℕ
tricks_won opening side history = tricks_of side opening.trump opening.leader history

-- After whole tricks and some more cards, a side can win exactly the tricks that it had not won before these cards, in
-- play of the layout that was left then.
abbrev pub WinsTheRestAfter : Type 0
WinsTheRestAfter =
    (opening : Opening) (side : Side) (tricks : ℕ) (history more : List Card)
    → IsLayout opening.deal → IsLegalHistory opening (history ++ more) → trick_of history ≡ []
    → CanWin opening side tricks (history ++ more)
    ↔ CanWin (opening_after opening history) side (tricks - tricks_won opening side history) more

-- the cards of the whole tricks of a history
abbrev pub whole_tricks : List Card → List Card
whole_tricks history = take (length history - length history % 4) history

-- the opening of the rest after the whole tricks of a history
abbrev pub rest_opening : Opening → List Card → Opening
rest_opening opening history = opening_after opening (whole_tricks history)

-- Cards are left after the history. This is the rest after its whole tricks, and how many of them each side has won.
pub record IsRestAfter (opening : Opening) (history : List Card) (rest : Rest) : Type 0 where
  pub cards_left : IsUnfinished opening history
  pub opening_is : record { deal = rest.layout; leader = rest.leader; trump = opening.trump }
      ≡ rest_opening opening history
  pub north_south : rest.north_south ≡ tricks_won opening NorthSouth history
  pub east_west : rest.east_west ≡ tricks_won opening EastWest history
