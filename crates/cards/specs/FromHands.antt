-- When four words are a layout, and which refusal they get.
use Rattle.std.specs.Prelude.{List, ℕ, Result, Ok, Err}
use Rattle.cards.specs.declared.layouts.LayoutFault.{LayoutFault}
use Rattle.cards.specs.declared.layouts.LayoutFault.TheVariants.{StrayBit, CardTwice, HandSize}
use Rattle.cards.specs.Deal.{Deal, IsLayout}
use Rattle.cards.specs.Hands.{HaveStrayBit, HaveCardsAlone, HaveCardTwice, AreDisjoint, AreSized, AreMissized, Deals}

-- the words are four disjoint sets of 1 to 13 cards, and the layout is that of them
pub record IsLayoutOf (hands : List ℕ) (deal : Deal) : Type 0 where
  pub cards_alone : HaveCardsAlone hands
  pub disjoint : AreDisjoint hands
  pub sized : AreSized hands
  pub deals : Deals hands deal
  pub layout : IsLayout deal

-- the answer for four words: their layout, or the first fault that applies
abbrev pub MeetsHands : List ℕ → Result Deal LayoutFault → Type 0
MeetsHands hands (Ok deal) = IsLayoutOf hands deal
MeetsHands hands (Err StrayBit) = HaveStrayBit hands
MeetsHands hands (Err CardTwice) = HaveCardsAlone hands × HaveCardTwice hands
MeetsHands hands (Err HandSize) = HaveCardsAlone hands × AreDisjoint hands × AreMissized hands
