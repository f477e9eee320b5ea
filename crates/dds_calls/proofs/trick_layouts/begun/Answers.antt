-- A card that is refused may not be played.
use Rattle.std.proofs.Common.{◌∙◌}
use Rattle.std.proofs.lemmas.List.{take_all}
use Rattle.dds_calls.specs.Readings.{opening_with}
use Rattle.dds_calls.proofs.Positions.{refused}
use Rattle.dds_calls.proofs.trick_layouts.begun.Goals as goal

pub returns-in-Err : goal.returns-in-Err
returns-in-Err c =
    refused c.loop-card.trick (opening_with c.args.layout c.args.start) c.args.cards.now c.loop-card.card-index _ c.in-Err._fault c.invariant.ensures
    c.loop-card.invariant.opening c.loop-card.invariant.history c.loop-card-test.true c.requires c.in-Err.ensures.cases

pub returns : goal.returns
returns c = record {
  opening = c.loop-card.invariant.opening;
  history = c.loop-card.invariant.history ∙ take_all c.loop-card.card-index c.args.cards.now c.loop-card-test.false;
  legal = c.invariant-2.ensures.reached.legal;
}
