use Rattle.std.proofs.Common.{◌∙◌, List, ℕ, take, Option, None, Some, subst}
use Rattle.std.specs.Prelude.{MatchOption}
use Rattle.cards.specs.declared.pack.Card.{Card}
use Rattle.play_dialogues.specs.Words.{NamesCard, letters_of}
use Rattle.play_dialogues.proofs.WordLaws.{card_of_all, card_of_six}
use Rattle.play_dialogues.proofs.card_words.read_card.Goals as goal

-- six letters are enough to name a card
named_by_six : (letters : List ℕ) (found : Option Card)
    → MatchOption found ((card : Card) → NamesCard (take 6 letters) card → ⊥) (λ card. NamesCard (take 6 letters) card)
    → MatchOption found ((card : Card) → NamesCard letters card → ⊥) (λ card. NamesCard letters card)
named_by_six letters None none = λ card names. none card (card_of_six letters card names)
named_by_six letters (Some card) names = card_of_all letters card names

pub returns : goal.returns
returns c =
    named_by_six (letters_of c.args.word.now) c.card_named.result
    (subst (λ l. MatchOption c.card_named.result ((card : Card) → NamesCard l card → ⊥) (λ card. NamesCard l card)) (c.as_slice.ensures.value ∙ c.letters_of.ensures) c.card_named.ensures)
