use Rattle.std.proofs.Common.{◌∙◌, ℕ, sym, ap, subst}
use Rattle.cards.specs.declared.seats.Side.{Side}
use Rattle.cards.specs.Deal.{Deal, size_of}
use Rattle.certificate_graph.specs.Graphs.{IsGraph}
use Rattle.play_rules.specs.History.{tricks_of}
use Rattle.play_rules.specs.Position.{Position}
use Rattle.play_values.specs.PlayValues.{IsPlayValue, first_cards}
use Rattle.play_values.proofs.LegalLaws.{take_is_legal}
use Rattle.certified_plays.specs.Judging.{tricks_of_side}
use Rattle.certified_plays.proofs.ClaimLaws.{value_shown}
use Rattle.certified_plays.proofs.EntryLaws.{over_is_judged, fault_of_claim}
use Rattle.certified_plays.proofs.judging.check_value.Goals as goal

pub returns-in_default : goal.returns-in_default
returns-in_default c =
    over_is_judged c.args.proofs.now c.args.claims.now c.args.play.now c.args.count c.tricks.result c.requires c.invariant-3.ensures c.in_default.ensures
    (c.tricks.ensures
    ∙ (ap (λ (s : Side). tricks_of s c.table.result.now.opening.trump c.table.result.now.opening.leader c.table.result.now.history) c.declarers.ensures
    ∙ ap (λ (p : Position). tricks_of c.args.play.now.declarers p.opening.trump p.opening.leader p.history) c.table.ensures))

pub returns-in_default-claim_after : goal.returns-in_default-claim_after
returns-in_default-claim_after c = (c.in-Some.ensures.cards_left, sym c.claim_after.ensures ∙ c.in_default-claim_after.is)

pub returns-in-Ok : goal.returns-in-Ok
returns-in-Ok c =
    let play = c.args.play.now in
    let claim = c.in-Some-claim_after.claim in
    let there = sym c.claim_after.ensures ∙ c.in-Some-claim_after.is in
    let are = c.tricks_of.ensures
    ∙ (ap (λ (s : Side). tricks_of_side s c.len.result claim.tricks) c.declarers-in-Ok.ensures
    ∙ ap (λ (n : ℕ). tricks_of_side play.declarers n claim.tricks) (c.len.ensures.size ∙ ap (λ (d : Deal). size_of d) c.layout.ensures)) in
    let value = value_shown c.args.proofs.now play.position.opening (first_cards play c.args.count) c.invariant-3.ensures.layout (take_is_legal play.position.opening play.position.history c.args.count c.invariant-3.ensures.legal) c.in-Some.ensures.cards_left play.declarers claim
    (subst IsGraph c.graph.ensures c.invariant.ensures) (subst IsGraph c.graph-2.ensures c.invariant-2.ensures) c.in-Ok.ensures in (
      subst (λ (n : ℕ). IsPlayValue play.position.opening play.declarers (first_cards play c.args.count) n) (sym are) value,
      λ _. record { claim = claim; there = there; shown = c.in-Ok.ensures; tricks_are = are },
    )

pub returns-in-Err : goal.returns-in-Err
returns-in-Err c = (
  c.in-Some.ensures.cards_left,
  fault_of_claim c.args.proofs.now c.args.claims.now c.args.play.now c.args.count c.in-Some-claim_after.claim c.in-Err.fault (sym c.claim_after.ensures ∙ c.in-Some-claim_after.is) c.in-Err.ensures,
)
