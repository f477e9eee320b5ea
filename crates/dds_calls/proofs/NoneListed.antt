-- The list of the par contracts is empty if par is 0.
use Rattle.std.proofs.Common.{◌≡◌, ℕ, List, [], ◌∷◌, map, pos, refl, ◌∙◌, ap, arith}
use Rattle.std.specs.Prelude.{Contains}
use Rattle.std.proofs.lemmas.List.Elements.{Contains-get_or}
use Rattle.cards.specs.declared.seats.Seat.{Seat}
use Rattle.cards.specs.declared.suits.Trump.{Trump}
use Rattle.par.specs.declared.vulnerable_sides.VulnerableSides.{VulnerableSides}
use Rattle.par.specs.declared.contracts.Contract.{Contract}
use Rattle.par.specs.declared.contracts.ParContract.{ParContract}
use Rattle.par.specs.FinalScores.{final_score}
use Rattle.par.specs.ParContracts.{AreParContracts, IsParContract, as_printed}
use Rattle.par.proofs.Lowest.{none_at_zero}

-- no contract is a par contract if par is 0
no_contracts :
    (tricks : Seat → Trump → ℕ) (vulnerable : VulnerableSides) (contracts : List Contract)
    → ((contract : Contract) → Contains contracts contract
    → IsParContract (final_score tricks vulnerable) (pos 0) contract)
    → contracts ≡ []
no_contracts tricks vulnerable [] are = refl
no_contracts tricks vulnerable (first ∷ others) are =
    absurd (none_at_zero tricks vulnerable first (are first (Contains-get_or (first ∷ others) 0 first (omega arith))))

-- so the list is empty
pub none_listed :
    (tricks : Seat → Trump → ℕ) (vulnerable : VulnerableSides) (list : List ParContract)
    → AreParContracts tricks vulnerable (pos 0) list → list ≡ []
none_listed tricks vulnerable list are =
    are.printed
    ∙ ap (map (as_printed tricks)) (no_contracts tricks vulnerable are.contracts (λ contract. (are.exactly contract).0))
