use Rattle.play_evidence.proofs.claim_finding.+push_claims.Given as goal

abbrev pub decreases-push_claims : goal.decreases-push_claims
decreases-push_claims l = l.count
