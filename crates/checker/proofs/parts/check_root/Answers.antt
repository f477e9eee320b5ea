use Rattle.std.proofs.Common.{inl, inr, refl}
use Rattle.patterns.proofs.SeatLaws.{not_told}
use Rattle.checker.proofs.SeatTests.{seats_differ, seats_agree}
use Rattle.checker.proofs.parts.check_root.Goals as goal

pub returns-then-ne : goal.returns-then-ne
returns-then-ne c = inl (seats_differ c.args.root.now.lead c.args.claim.now.leader c.ne.result c.ne.ensures c.if-ne.true, refl)

pub returns-then-root-claim : goal.returns-then-root-claim
returns-then-root-claim c =
    let lead = seats_agree c.args.root.now.lead c.args.claim.now.leader c.ne.result c.ne.ensures c.if-ne.false in
    inr (λ wrong. wrong lead, inl (c.if-root-claim.true, refl))

pub returns-then-not-matches : goal.returns-then-not-matches
returns-then-not-matches c =
    let lead = seats_agree c.args.root.now.lead c.args.claim.now.leader c.ne.result c.ne.ensures c.if-ne.false in
    inr (
      λ wrong. wrong lead,
      inr (
        λ wrong. wrong c.if-root-claim.false,
        inl (not_told c.matches.ensures c.if-not-matches.true, refl),
      ),
    )

pub returns : goal.returns
returns c = record {
  lead = seats_agree c.args.root.now.lead c.args.claim.now.leader c.ne.result c.ne.ensures c.if-ne.false;
  need_is = c.if-root-claim.false;
  pattern = c.matches.ensures.0 c.if-not-matches.false;
}
