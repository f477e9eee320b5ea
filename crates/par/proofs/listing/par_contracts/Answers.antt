use Rattle.std.proofs.Common.{◌≡◌, ◌<◌, ◌+◌, ◌++◌, ◌∷◌, [], length, sym, ◌∙◌, ap, subst, arith, length-append}
use Rattle.std.specs.Prelude.{ℤ}
use Rattle.std.proofs.lemmas.Int.{to_z-of_z}
use Rattle.std.specs.Int.{w32}
use Rattle.std.proofs.lemmas.List.{length-map, map-append}
use Rattle.par.specs.Boards.{tricks_in}
use Rattle.par.specs.FinalScores.{final_score}
use Rattle.par.specs.ParContracts.{as_printed, AreParContracts}
use Rattle.par.proofs.StepLaws.{kept}
use Rattle.par.proofs.ListLaws.{Listed, Listed-none, Listed-more, Listed-skip, Listed-few, AreParContracts-listed}
use Rattle.par.proofs.listing.par_contracts.Goals as goal
use Rattle.par.proofs.listing.par_contracts.Goals.{then-is_par_contract, else-is_par_contract}

pub loop-place-init : goal.loop-place-init
loop-place-init c =
    ([], Listed-none (final_score (tricks_in c.args.tricks.now) c.args.vulnerable) (kept c.args.par), c.new-contracts.ensures)

pub push-requires : goal.push-requires
push-requires c =
    let final = final_score (tricks_in c.args.tricks.now) c.args.vulnerable in
    let place = c.loop-place.place in
    let contract = c.contract_listed-contract.result in
    let before = c.loop-place.invariant in
    let contracts = before.0 in
    let more = Listed-more final (kept c.args.par) place contracts contract c.contract_listed-contract.ensures before.1 c.if-is_par_contract.ensures in
    let few = Listed-few final (kept c.args.par) (place + 1) (contracts ++ contract ∷ []) more in
    let same = ap length before.2 ∙ length-map contracts (as_printed (tricks_in c.args.tricks.now)) in
    let room : length c.loop-place.contracts.items < 10 = omega (arith, few, same, length-append contracts (contract ∷ [])) in
    (omega arith, room)

pub loop-place-preserved : goal.loop-place-preserved
loop-place-preserved c =
    let final = final_score (tricks_in c.args.tricks.now) c.args.vulnerable in
    let print = as_printed (tricks_in c.args.tricks.now) in
    let place = c.loop-place.place in
    let contract = c.contract_listed-contract.result in
    let before = c.loop-place.invariant in
    let contracts = before.0 in
    elim c.if-is_par_contract.branch [
      | then-is_par_contract w ↦ (
        contracts ++ contract ∷ [],
        Listed-more final (kept c.args.par) place contracts contract c.contract_listed-contract.ensures before.1 w.if-is_par_contract.ensures,
        rw (w.contracts-is, w.push.ensures.items, before.2, w.as_printed.ensures) (sym (map-append print contracts (contract ∷ []))),
      )
      | else-is_par_contract w ↦ (
        contracts,
        Listed-skip final (kept c.args.par) place contracts contract c.contract_listed-contract.ensures before.1 w.if-is_par_contract.ensures,
        rw w.contracts-is before.2,
      )
    ]

pub returns : goal.returns
returns c =
    let tricks = tricks_in c.args.tricks.now in
    let end = c.loop-place.invariant in
    let last : c.loop-place.place ≡ 70 = omega arith in
    let listed = subst (λ n. Listed (final_score tricks c.args.vulnerable) (kept c.args.par) n end.0) last end.1 in
    subst (λ (par : ℤ). AreParContracts tricks c.args.vulnerable par c.loop-place.contracts.items) (to_z-of_z w32 c.args.par c.ranges.par)
    (AreParContracts-listed tricks c.args.vulnerable (kept c.args.par) end.0 c.loop-place.contracts.items listed end.2)
