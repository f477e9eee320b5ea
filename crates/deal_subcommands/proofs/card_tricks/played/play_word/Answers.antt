use Rattle.std.proofs.Common.{refl, subst}
use Rattle.cards.specs.declared.pack.Card.{Card}
use Rattle.play_dialogues.specs.Words.{NamesCard, letters_of}
use Rattle.deal_subcommands.proofs.card_tricks.played.play_word.Goals as goal

pub returns-in_default-read_card : goal.returns-in_default-read_card
returns-in_default-read_card c =
    rw c.in-Some.is (refl, subst (λ t. (card : Card) → NamesCard (letters_of t) card → ⊥) c.as_bytes.ensures.value c.in_default-read_card.ensures)
