-- The cards that are left of a deal.
use Rattle.std.specs.Prelude.{List, [], ◌∷◌, None, slice_set}
use Rattle.cards.specs.declared.pack.Card.{Card}
use Rattle.cards.specs.Pack.{card_number}
use Rattle.cards.specs.Deal.{Deal}

-- the deal without this card
unfoldable pub without : Deal → Card → Deal
without deal card = slice_set deal (card_number card) None

-- the deal without the cards of a history
unfoldable pub left_of : Deal → List Card → Deal
left_of deal [] = deal
left_of deal (card ∷ cards) = left_of (without deal card) cards
