use Rattle.std.proofs.Common.{refl, arith}
use Rattle.cards.specs.declared.pack.Rank.TheVariants.{Two}
use Rattle.cards.proofs.WriteLemmas.{Adds-piece, AddsBeginning-piece, Writes-err, pieces-all}
use Rattle.sheets.specs.HandText.{ranks_falling, card_shown}
use Rattle.sheets.proofs.hands.write_cards.Goals as goal

pub returns-in_err-write_card : goal.returns-in_err-write_card
returns-in_err-write_card g c =
    let text_of = card_shown c.args.layout.now c.args.seat c.args.suit in
    Writes-err c.from_residual.result _ c.from_residual.ensures.1
    (AddsBeginning-piece text_of ranks_falling c.loop-rank.rank-index Two (omega arith) c.loop-rank.invariant.wrote c.in_err-write_card.ensures)

pub loop-rank-preserved : goal.loop-rank-preserved
loop-rank-preserved g c =
    let text_of = card_shown c.args.layout.now c.args.seat c.args.suit in
    record {
      items = refl;
      wrote = Adds-piece text_of ranks_falling c.loop-rank.rank-index Two (omega arith) c.loop-rank.invariant.wrote c.in_ok-write_card.ensures;
    }

pub returns : goal.returns
returns g c =
    let text_of = card_shown c.args.layout.now c.args.seat c.args.suit in
    rw (pieces-all text_of ranks_falling c.loop-rank.rank-index (omega arith)) at c.loop-rank.invariant.wrote
