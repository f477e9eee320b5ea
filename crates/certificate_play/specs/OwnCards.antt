-- The card that the side plays at its turn.
use Rattle.std.specs.Prelude.{◌≡◌, List, ◌∷◌, ◌++◌, Contains, ⊤, Option, None, Some}
use Rattle.cards.specs.declared.pack.Card.{Card}
use Rattle.play_rules.specs.Position.{Position, AreLegalCards}
use Rattle.certificate_play.specs.declared.steps.Step.{Step}
use Rattle.certificate_play.specs.Promises.{Promise}
use Rattle.certificate_play.specs.Steps.{IsChosen, IsKeptIn}

-- the fact holds of this card, and of none that is listed after it
pub record IsLastWith (Fact : Card → Type 0) (cards : List Card) (card : Card) : Type 0 where
  pub before : List Card
  pub after : List Card
  pub parts : cards ≡ before ++ card ∷ after
  pub holds : Fact card
  pub none_after : (other : Card) → Contains after other → Fact other → ⊥

-- the tree's card at this step stands for the card; without a step every card will do
abbrev pub IsChosenIn : Option Step → Card → Type 0
IsChosenIn None card = ⊤
IsChosenIn (Some step) card = IsChosen step card

-- the last of the legal cards for which the tree's card stands, or of all legal cards without a step
abbrev pub IsOwnCard : Position → Option Step → Card → Type 0
IsOwnCard position step card =
    (legal : List Card) × AreLegalCards position legal × IsLastWith (IsChosenIn step) legal card

-- The card is the side's own at a step by which the promise is kept: at a node of a right graph, or without a step once
-- the promised tricks are won.
unfoldable pub IsAnswer : Promise → Card → Type 0
IsAnswer promise card = (step : Option Step) × IsKeptIn promise step × IsOwnCard promise.position step card
