use Rattle.std.proofs.Common.{◌∙◌, ap, refl, arith}
use Rattle.std.proofs.lemmas.List.Sums.{sum_by_push}
use Rattle.farm_relay.specs.Relays.{taken_by}
use Rattle.farm.specs.Flows.{of_found, all_found}
use Rattle.farm.proofs.Flows.{puts_then}
use Rattle.farm.proofs.Findings.{claims_taken_more}
use Rattle.farm.proofs.checking.check_all.Goals as goal

pub loop-preserved : goal.loop-preserved
loop-preserved g c =
    let i = c.loop.invariant in
    let took = c.in-Some-take.ensures in
    let checked = c.check_found.ensures in (
      record { found = took.same ∙ i.0.found; claims = puts_then _ _ _ i.0.claims checked.same },
      took.marks refl ∙ i.1,
      λ weight.
          let own = i.2 weight in
          let more = checked.leases weight in
          let taken = ap (all_found weight) took.some in
          let one = sum_by_push (of_found weight) (taken_by c.loop.post.found) c.in-Some-take.message in
          omega arith,
      record { each = claims_taken_more _ _ _ _ _ took.some checked.puts i.3.each },
    )
