-- The side's own card is the last legal card that is chosen, and may be played.
use Rattle.std.proofs.Common.{◌≡◌, List, ◌∷◌, Contains, Option, refl, sym, subst, arith}
use Rattle.std.proofs.lemmas.List.Elements.{Contains-append_right}
use Rattle.cards.specs.declared.pack.Card.{Card}
use Rattle.play_rules.specs.Legal.{CanPlay}
use Rattle.play_rules.specs.Position.{Position, AreLegalCards}
use Rattle.certificate_play.specs.declared.steps.Step.{Step}
use Rattle.certificate_play.specs.OwnCards.{IsLastWith, IsChosenIn, IsOwnCard}

-- the last of some cards is one of them
last_is_listed : (Fact : Card → Type 0) (cards : List Card) (card : Card) → IsLastWith Fact cards card → Contains cards card
last_is_listed Fact cards card last =
    subst (λ (all : List Card). Contains all card) (sym last.parts) (Contains-append_right last.before (card ∷ last.after) card (0, omega arith, refl))

pub own_of : (position : Position) (step : Option Step) (legal cards : List Card) (card : Card) → AreLegalCards position legal → cards ≡ legal → IsLastWith (IsChosenIn step) cards card → IsOwnCard position step card
own_of position step legal cards card are is last = (legal, are, subst (λ (all : List Card). IsLastWith (IsChosenIn step) all card) is last)

pub own_can : (position : Position) (step : Option Step) (card : Card) → IsOwnCard position step card → CanPlay position.opening position.history card
own_can position step card (legal, are, last) = are.legal card (last_is_listed (IsChosenIn step) legal card last)
