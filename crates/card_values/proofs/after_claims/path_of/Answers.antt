use Rattle.std.proofs.Common.{◌∷◌, [], ap, arith, length, length-append}
use Rattle.card_values.proofs.PathLaws.{one_more_stands}
use Rattle.card_values.proofs.after_claims.path_of.Goals as goal

pub push-requires : goal.push-requires
push-requires c = (omega arith, omega (arith, c.loop-card.invariant.1, c.loop-card-test.true, c.requires))

pub loop-card-preserved : goal.loop-card-preserved
loop-card-preserved c = (
  one_more_stands c.args.node.now.pattern c.args.layout.now c.loop-card.path.items c.push.new.self.items c.args.cards.now c.loop-card.card-index c.pat_card_of.result _ c.loop-card-test.true c.loop-card.invariant.0 (rw c.holders-deal.ensures at c.pat_card_of.ensures) c.push.ensures.items,
  omega (arith, c.loop-card.invariant.1, ap length c.push.ensures.items, length-append c.loop-card.path.items (c.pat_card_of.result ∷ [])),
)
