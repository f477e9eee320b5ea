-- The places of contracts, as they are filled one after another.
use Rattle.std.proofs.Common.{◌≡◌, ℕ, suc, ◌+◌, ◌-◌, ◌<◌, ◌≤◌, List, [], ◌∷◌, ◌++◌, length, map, take, get_or, set}
use Rattle.std.proofs.Common.{sym, ◌∙◌, ap, arith}
use Rattle.std.specs.Prelude.{replicate}
use Rattle.std.proofs.lemmas.List.{append_assoc, length-map, length-take-le, map_more, set_at}
use Rattle.par.specs.declared.contracts.ParContract.{ParContract}
use Rattle.dds_calls.specs.declared.pars.ContractType.{ContractType}
use Rattle.dds_calls.specs.Pars.{contract_of, no_contract}

-- the first contracts of the list, and zeros after them
abbrev pub places_so_far : List ParContract → ℕ → List ContractType
places_so_far list place = map contract_of (take place list) ++ replicate (10 - place) no_contract

-- A write of the next contract fills the next place.
pub next_place :
    (list : List ParContract) (place : ℕ) (contract : ParContract) → place < length list → length list ≤ 10 →
    set (places_so_far list place) place (contract_of (get_or list place contract)) ≡ places_so_far list (place + 1)
next_place list place contract within few =
    let front : List ContractType = map contract_of (take place list) in
    let rest : List ContractType = replicate (10 - (place + 1)) no_contract in
    let next : ContractType = contract_of (get_or list place contract) in
    let size : length front ≡ place =
    length-map (take place list) contract_of ∙ length-take-le place list (omega arith)
    in
    let count : 10 - place ≡ suc (10 - (place + 1)) = omega arith in
    ap (λ (n : ℕ). set (front ++ replicate n no_contract) place next) count
    ∙ (set_at front no_contract rest next place size
    ∙ (sym (append_assoc front (next ∷ []) rest)
    ∙ ap (λ (xs : List ContractType). xs ++ rest) (sym (map_more contract_of list place contract within))))
