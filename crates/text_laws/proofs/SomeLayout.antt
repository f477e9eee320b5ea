-- A Deal value alone says a layout, or has a fault.
use Rattle.std.proofs.Common.{◌≡◌, ℕ, Bool, true, false, List, Option, Some, None, Result, Ok, Err, refl, sym, ◌∙◌, ap}
use Rattle.cards.specs.Deal.{Deal}
use Rattle.pbn_deals.specs.declared.faults.PbnFault.{PbnFault}
use Rattle.pbn_deals.specs.declared.faults.PbnFault.TheVariants.{DealForm, CardTwice, HandSize}
use Rattle.pbn_deals.specs.Dealing.{Holding}
use Rattle.pbn_deals.specs.DealValue.{Naming, naming_of, full}
use Rattle.pbn_deals.specs.LayoutValue.{SaysLayout}
use Rattle.text_laws.proofs.OneTag.{part_or_full}
use Rattle.text_laws.proofs.SomeDeal.{Judged, judged, judged_twice, judged_missized, judged_deal}

-- a naming that knows all hands
pub full_from : (naming : Naming) → naming.is_partial ≡ false → Some naming ≡ full naming.held
full_from naming e = let name : Bool → Option Naming = λ b. Some (record { held = naming.held; is_partial = b }) in ap name e

full_layout : (value : List ℕ) (held : List Holding) → naming_of value ≡ full held → Judged held → (said : Result Deal PbnFault) × SaysLayout value said
full_layout value held e (judged_twice twice) = (Err (CardTwice 1), (refl, held, e, twice))
full_layout value held e (judged_missized once sizes) = (Err (HandSize 1), (refl, held, e, once, sizes))
full_layout value held e (judged_deal deal is) = (Ok deal, (held, e, is))

pub some_layout : (value : List ℕ) → (said : Result Deal PbnFault) × SaysLayout value said
some_layout value = go (naming_of value) refl where
  named : (naming : Naming) (partial : Bool) → naming.is_partial ≡ partial → naming_of value ≡ Some naming → (said : Result Deal PbnFault) × SaysLayout value said
  named naming true p e = (Err (DealForm 1), (refl, λ held f. part_or_full (naming_of value) naming held e p f))
  named naming false p e = full_layout value naming.held (e ∙ full_from naming p) (judged naming.held)

  go : (said : Option Naming) → naming_of value ≡ said → (said : Result Deal PbnFault) × SaysLayout value said
  go None e = (Err (DealForm 1), (refl, λ held f. (let clash : None ≡ full held = sym e ∙ f in absurd (cc))))
  go (Some naming) e = named naming naming.is_partial refl e
