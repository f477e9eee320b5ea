-- A Deal value alone has one answer, its layout or its fault.
use Rattle.std.specs.Prelude.{◌≡◌, ℕ, List, Result}
use Rattle.cards.specs.Deal.{Deal}
use Rattle.pbn_deals.specs.declared.faults.PbnFault.{PbnFault}
use Rattle.pbn_deals.specs.LayoutValue.{SaysLayout}

-- a value says one layout at most, or one fault
abbrev pub HasOneLayout : Type 0
HasOneLayout =
    (value : List ℕ) (one other : Result Deal PbnFault) →
    SaysLayout value one → SaysLayout value other → one ≡ other

-- a value says a layout, or has a fault
abbrev pub HasSomeLayout : Type 0
HasSomeLayout = (value : List ℕ) → (said : Result Deal PbnFault) × SaysLayout value said
