use Rattle.std.proofs.Common.{◌≡◌, List, get_or, None, Option, is_some, true, sym, ◌∙◌, ap, subst, arith, rules}
use Rattle.std.proofs.lemmas.List.{take_all}
use Rattle.std.proofs.lemmas.List.Elements.{All-more}
use Rattle.certificate_graph.specs.declared.bundles.Claim.{Claim}
use Rattle.checker.specs.declared.entries.Shown.{Shown}
use Rattle.lease_book.specs.Entries.{place_of}
use Rattle.audits.specs.Firsts.{AllKnown}
use Rattle.audits.proofs.firsts.FirstProofs.are_known.Goals as goal

pub loop-claim-preserved : goal.loop-claim-preserved
loop-claim-preserved c =
    All-more (λ (claim : Claim). is_some (get_or c.args.self.now (place_of (record { board = c.args.board; declarer = claim.declarer; trump = c.args.trump })) None) ≡ true)
    c.args.claims.now c.loop-claim.claim-index _ c.loop-claim-test.true c.loop-claim.invariant
    (ap (λ (o : Option Shown). is_some o) (sym c.of.ensures) ∙ c.if-is_none.ensures)

pub returns : goal.returns
returns c = (
  λ is. subst (λ (claims : List Claim). AllKnown c.args.self.now c.args.board c.args.trump claims) (take_all c.loop-claim.claim-index c.args.claims.now (omega (arith, c.loop-claim-test.false))) c.loop-claim.invariant,
  λ known. search rules,
)
