-- The claims so far have gone out, and those that are left make the text whole.
use Rattle.std.proofs.Common.{◌≡◌, ℕ, ◌++◌, [], List, drop}
use Rattle.cards.specs.Devices.{Adds}
use Rattle.evidence.specs.SectionTexts.{claim_lines}
use Rattle.evidence.proofs.section_writing.write_claims.Given as goal

abbrev pub invariant-loop-claim : goal.invariant-loop-claim
invariant-loop-claim g l = record {
  so_far : List ℕ;
  wrote : Adds (g.S.Sink.state l.initial.sink) (g.S.Sink.state l.sink) so_far;
  rest : so_far ++ claim_lines (drop l.claim-index l.claims) [] ≡ claim_lines l.claims [];
}
