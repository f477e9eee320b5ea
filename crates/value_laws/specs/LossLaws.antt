-- What the page of recorded plays says that a card loses.
use Rattle.std.specs.Prelude.{◌≡◌, ℕ, ◌+◌, ◌<◌, Some, length}
use Rattle.cards.specs.declared.pack.Card.{Card}
use Rattle.cards.specs.Seats.{side_of}
use Rattle.cards.specs.Deal.{IsLayout}
use Rattle.play_values.specs.PlayValues.{first_cards, IsLoss}
use Rattle.recorded_plays.specs.declared.plays.RecordedPlay.{RecordedPlay}
use Rattle.recorded_plays.specs.Follow.{opening_of}
use Rattle.play_pages.specs.Lines.{Numbers, recorded_of, line_of, IsLegalPlay}
use Rattle.play_pages.specs.Answers.{AreTrue}

-- The card in this place loses this many tricks for the side that plays it, by the numbers before it and after it.
pub record LosesAt (play : RecordedPlay) (numbers : Numbers) (place lost : ℕ) : Type 0 where
  pub before : ℕ
  pub after : ℕ
  pub before_is : numbers place ≡ Some before
  pub after_is : numbers (place + 1) ≡ Some after
  pub loss : IsLoss (opening_of play) (side_of play.declarer) (first_cards (recorded_of play) place) before after lost

-- if the numbers of a legal play are true, a line says what its card loses for the side that plays it
abbrev pub LinesSayLosses : Type 0
LinesSayLosses =
    (play : RecordedPlay) (numbers : Numbers) (place lost : ℕ) (card : Card)
    → IsLayout (opening_of play).deal → IsLegalPlay play → AreTrue play numbers → place < length play.cards.items
    → (line_of (recorded_of play) numbers (place, card)).lost ≡ Some lost → LosesAt play numbers place lost
