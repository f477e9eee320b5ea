-- Each write fills the next place.
use Rattle.std.proofs.Common.{◌<◌, List, length, set, ◌∙◌, ap, arith}
use Rattle.dds_calls.specs.declared.pars.ContractType.{ContractType}
use Rattle.dds_calls.proofs.Places.{next_place, places_so_far}
use Rattle.dds_calls.proofs.pars.places_of.Goals as goal

pub loop-place-preserved : goal.loop-place-preserved
loop-place-preserved c =
    let list = c.args.list.now in
    let place = c.loop-place.place in
    let within : place < length list = omega arith in
    ap (λ (places : List ContractType). set places place c.contract_of.result) c.loop-place.invariant
    ∙ (ap (λ (contract : ContractType). set (places_so_far list place) place contract) c.contract_of.ensures
    ∙ next_place list place _ within c.requires)
