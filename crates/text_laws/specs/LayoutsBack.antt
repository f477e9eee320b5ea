-- What is written of a layout is read back.
use Rattle.std.specs.Prelude.{Ok}
use Rattle.cards.specs.Deal.{Deal, IsLayout}
use Rattle.pbn_deals.specs.DealText.{deal_text}
use Rattle.pbn_deals.specs.LayoutValue.{SaysLayout}

-- the text of a layout is a value that says this layout
abbrev pub LayoutsAreReadBack : Type 0
LayoutsAreReadBack = (deal : Deal) → IsLayout deal → SaysLayout (deal_text deal) (Ok deal)
