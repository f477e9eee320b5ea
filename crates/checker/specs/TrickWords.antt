-- The cards of a trick in one word: sixteen bits each, the first card in the lowest. Eight are the place of a top, the
-- next two the suit, and the next says whether it is a low card.
use Rattle.std.specs.Prelude.{ℕ, zero, suc, ◌/◌, ◌%◌, ◌^◌, ◌==◌, List, [], ◌∷◌, if◌then◌else◌}
use Rattle.cards.specs.Pack.{suit_at}
use Rattle.pattern_step.specs.declared.pat_cards.PatCard.{PatCard}
use Rattle.pattern_step.specs.declared.pat_cards.PatCard.TheVariants.{Top, Low}

-- the card in the lowest bits of a word
abbrev pub card_at : ℕ → PatCard
card_at word =
    if word / 2 ^ 10 % 2 == 0 then Top (suit_at (word / 2 ^ 8 % 4)) (word % 2 ^ 8) else Low (suit_at (word / 2 ^ 8 % 4))

-- so many cards of a word
abbrev pub cards_in : ℕ → ℕ → List PatCard
cards_in zero word = []
cards_in (suc count) word = card_at word ∷ cards_in count (word / 2 ^ 16)
