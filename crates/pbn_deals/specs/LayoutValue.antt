-- The answer for one Deal value that has to name the cards of all four hands, 1 to 13 a hand.
use Rattle.std.specs.Prelude.{◌≡◌, ℕ, List, Result, Ok, Err}
use Rattle.cards.specs.Deal.{Deal}
use Rattle.pbn_deals.specs.declared.faults.PbnFault.{PbnFault}
use Rattle.pbn_deals.specs.declared.faults.PbnFault.TheVariants.{TagForm, OpenComment, SecondDeal, DealForm, CardTwice}
use Rattle.pbn_deals.specs.declared.faults.PbnFault.TheVariants.{HandSize, Inherited, TooManyBoards, OutOfMemory}
use Rattle.pbn_deals.specs.Dealing.{Holding, NamesOnce, NamesTwice, AreMissized, IsDealOf}
use Rattle.pbn_deals.specs.DealValue.{naming_of, full}

-- the layout that a value says, or its fault
abbrev pub SaysLayout : List ℕ → Result Deal PbnFault → Type 0
SaysLayout value (Ok deal) = (held : List Holding) × (naming_of value ≡ full held) × IsDealOf held deal
SaysLayout value (Err (DealForm line)) = (line ≡ 1) × ((held : List Holding) → naming_of value ≡ full held → ⊥)
SaysLayout value (Err (CardTwice line)) =
    (line ≡ 1) × (held : List Holding) × (naming_of value ≡ full held) × NamesTwice held
SaysLayout value (Err (HandSize line)) =
    (line ≡ 1) × (held : List Holding) × (naming_of value ≡ full held) × NamesOnce held × AreMissized held
SaysLayout value (Err (TagForm line)) = ⊥
SaysLayout value (Err (OpenComment line)) = ⊥
SaysLayout value (Err (SecondDeal line)) = ⊥
SaysLayout value (Err (Inherited line)) = ⊥
SaysLayout value (Err (TooManyBoards line)) = ⊥
SaysLayout value (Err OutOfMemory) = ⊥
