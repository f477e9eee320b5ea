use Rattle.card_evidence.proofs.claim_reading.+push_claims.Given as goal

abbrev pub decreases-push_claims : goal.decreases-push_claims
decreases-push_claims l = l.count
