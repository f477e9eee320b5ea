-- The text of a list of contracts.
use Rattle.std.proofs.Common.{◌≡◌, ◌≤◌, List, [], ◌∷◌, ◌++◌, length, get_or, take, drop, ◌-◌, ap, arith}
use Rattle.std.proofs.lemmas.List.{take_all}
use Rattle.std.specs.List.{flat_map}
use Rattle.cards.specs.declared.seats.Side.TheVariants.{NorthSouth}
use Rattle.cards.specs.declared.suits.Trump.TheVariants as trump
use Rattle.par.specs.declared.bids.Level.TheVariants.{One}
use Rattle.par.specs.declared.scores.Doubling.TheVariants.{Undoubled}
use Rattle.par.specs.declared.scores.ContractResult.TheVariants.{Made}
use Rattle.par.specs.declared.contracts.Declarers.TheVariants.{Either}
use Rattle.par.specs.declared.contracts.ParContract.{ParContract}
use Rattle.par.specs.Texts.{contract_text, next_text, contracts_text}

-- some contract
abbrev pub some : ParContract
some = record {
  declarers = Either NorthSouth;
  bid = record { level = One; denomination = trump.Nt };
  doubling = Undoubled;
  outcome = Made 0;
}

-- the first contract, and the others, as a match on the list names them
pub contracts_text-split : (contracts : List ParContract) → 1 ≤ length contracts
    → contract_text (get_or contracts 0 some) ++ flat_map next_text (take (length contracts - 1) (drop 1 contracts))
    ≡ contracts_text contracts
contracts_text-split [] h = absurd (omega arith)
contracts_text-split (contract ∷ contracts) h =
    ap (λ others. contract_text contract ++ flat_map next_text others)
    (take_all (length (contract ∷ contracts) - 1) contracts (omega arith))
