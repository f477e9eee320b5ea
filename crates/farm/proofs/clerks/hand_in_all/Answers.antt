use Rattle.std.proofs.Common.{◌∷◌, [], ◌++◌, ◌∙◌, ap, refl, arith, append_assoc}
use Rattle.std.proofs.lemmas.List.Sums.{sum_by_push}
use Rattle.lease_desk.specs.Desks.{receipts_in, terms_of}
use Rattle.farm_relay.specs.Relays.{taken_by}
use Rattle.farm.specs.Flows.{of_claim, all_claimed}
use Rattle.farm.proofs.Flows.{handing_in_moves}
use Rattle.farm.proofs.Findings.{handed_in_more}
use Rattle.farm.proofs.clerks.hand_in_all.Goals as goal

pub loop-preserved : goal.loop-preserved
loop-preserved g c =
    let terms = terms_of c.args.crew.now.desk.now in
    let claim = c.in-Some-take.claim in
    let had = receipts_in c.loop.post.chair in
    let has = receipts_in c.hand_in.new.chair in
    let i = c.loop.invariant in
    let took = c.in-Some-take.ensures in
    let handed = c.in_ok-hand_in.ensures in (
      record { chair = record { duty = handed.stays.duty; number = handed.stays.number ∙ i.0.chair.number }; claims = took.same ∙ i.0.claims },
      took.marks refl ∙ i.1,
      λ weight.
          let own_all = (i.2 weight).handed_in_all in
          let own_up = (i.2 weight).given_up_none in
          let own_given = (i.2 weight).given_none in
          let moved = handing_in_moves weight terms claim had has handed.told in
          let more = moved.0 in
          let up = moved.1 in
          let given = moved.2 in
          let taken = ap (all_claimed weight) took.some in
          let one = sum_by_push (of_claim weight) (taken_by c.loop.post.claims) claim in
          record { handed_in_all = omega arith; given_up_none = omega arith; given_none = omega arith },
      record {
        claims = i.3.claims ++ claim ∷ [];
        taken = took.some ∙ ap (λ l. l ++ claim ∷ []) i.3.taken ∙ append_assoc _ i.3.claims (claim ∷ []);
        handed_in = handed_in_more terms i.3.claims claim (receipts_in c.args.post.now.chair) had has i.3.handed_in handed.told;
      },
    )
