use Rattle.std.proofs.Common.{[], ◌++◌, refl, ◌∙◌, ap, append_assoc, ◌+◌, drop, arith}
use Rattle.cards.proofs.DeviceLemmas.{Adds-twice}
use Rattle.cards.proofs.WriteLemmas.{Writes-then}
use Rattle.certificate_graph.proofs.WriteLemmas.{writes_same, stops_within}
use Rattle.evidence.specs.SectionTexts.{claim_lines}
use Rattle.evidence.proofs.WriteParts.{claims-from}
use Rattle.evidence.proofs.section_writing.write_claims.Goals as goal

pub returns-in_err-write_claim : goal.returns-in_err-write_claim
returns-in_err-write_claim g c =
    let end = c.from_residual in
    let inv = c.loop-claim.invariant in
    let left = claim_lines (drop (c.loop-claim.claim-index + 1) c.args.claims.now) [] in
    writes_same _ _ end.result
    (ap (λ t. inv.so_far ++ t) (claims-from c.args.claims.now c.loop-claim.claim-index _ (omega arith)) ∙ inv.rest)
    (Writes-then end.result _ _ inv.wrote (stops_within _ _ end.result _ left end.ensures.1 refl c.in_err-write_claim.ensures))

pub loop-claim-preserved : goal.loop-claim-preserved
loop-claim-preserved g c =
    let inv = c.loop-claim.invariant in
    let left = claim_lines (drop (c.loop-claim.claim-index + 1) c.args.claims.now) [] in
    record {
      so_far = _;
      wrote = Adds-twice inv.wrote c.in_ok-write_claim.ensures;
      rest = append_assoc inv.so_far _ left
          ∙ (ap (λ t. inv.so_far ++ t) (claims-from c.args.claims.now c.loop-claim.claim-index _ (omega arith)) ∙ inv.rest);
    }
