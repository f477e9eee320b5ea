-- The faults that a call doesn't have, one after the other.
use Rattle.std.proofs.Common.{◌≡◌, ℕ, ◌+◌, ◌==◌, if◌then◌else◌, refl, sym, ap, ◌∙◌, subst, inl, inr, arith}
use Rattle.std.proofs.lemmas.Bool.{cases_eq}
use Rattle.dds_calls.specs.declared.board_shapes.BoardDeal.{BoardDeal}
use Rattle.dds_calls.specs.declared.board_shapes.Ask.{Ask}
use Rattle.dds_calls.specs.declared.board_faults.BoardFault.{BoardFault}
use Rattle.dds_calls.specs.declared.board_faults.BoardFault.TheVariants.{TargetTooLow, TargetTooHigh}
use Rattle.dds_calls.specs.declared.board_faults.BoardFault.TheVariants.{SolutionsTooFew, SolutionsTooMany, ModeTooLow}
use Rattle.dds_calls.specs.declared.board_faults.BoardFault.TheVariants.{ModeTooHigh, NoDenomination, NoSeat, StrayNumber}
use Rattle.dds_calls.specs.declared.board_faults.BoardFault.TheVariants.{NoCards, TooManyCards, TargetTooFar, Unequal}
use Rattle.dds_calls.specs.declared.board_faults.BoardFault.TheVariants.{PlayedAndHeld, CardTwice, NoPosition, Unknown}
use Rattle.dds_calls.specs.Boards.{HasFault, IsClearTo, fault_number}

-- the fault with a number
abbrev fault_at : ℕ → BoardFault
fault_at n =
    if n == 0 then TargetTooLow else
    (if n == 1 then TargetTooHigh else
    (if n == 2 then SolutionsTooFew else
    (if n == 3 then SolutionsTooMany else
    (if n == 4 then ModeTooLow else
    (if n == 5 then ModeTooHigh else
    (if n == 6 then NoDenomination else
    (if n == 7 then NoSeat else
    (if n == 8 then StrayNumber else
    (if n == 9 then NoCards else
    (if n == 10 then TooManyCards else
    (if n == 11 then TargetTooFar else
    (if n == 12 then Unequal else
    (if n == 13 then PlayedAndHeld else
    (if n == 14 then CardTwice else
    (if n == 15 then NoPosition else Unknown)))))))))))))))

fault_at-number : (fault : BoardFault) → fault_at (fault_number fault) ≡ fault
fault_at-number TargetTooLow = refl
fault_at-number TargetTooHigh = refl
fault_at-number SolutionsTooFew = refl
fault_at-number SolutionsTooMany = refl
fault_at-number ModeTooLow = refl
fault_at-number ModeTooHigh = refl
fault_at-number NoDenomination = refl
fault_at-number NoSeat = refl
fault_at-number StrayNumber = refl
fault_at-number NoCards = refl
fault_at-number TooManyCards = refl
fault_at-number TargetTooFar = refl
fault_at-number Unequal = refl
fault_at-number PlayedAndHeld = refl
fault_at-number CardTwice = refl
fault_at-number NoPosition = refl
fault_at-number Unknown = refl

same_fault : (one other : BoardFault) → fault_number one ≡ fault_number other → one ≡ other
same_fault one other e = sym (fault_at-number one) ∙ (ap fault_at e ∙ fault_at-number other)

pub clear_more : (board : BoardDeal) (ask : Ask) (fault : BoardFault) (n : ℕ) → n ≡ fault_number fault + 1 → IsClearTo (fault_number fault) board ask → (HasFault board ask fault → ⊥) → IsClearTo n board ask
clear_more board ask fault n e clear not = λ other less has.
    elim (cases_eq (fault_number other) (fault_number fault)) [
      | inl same ↦ let P : BoardFault → Type 0 = λ f. HasFault board ask f in not (subst P (same_fault other fault same) has)
      | inr apart ↦ clear other (omega (arith, less, e, apart)) has
    ]
