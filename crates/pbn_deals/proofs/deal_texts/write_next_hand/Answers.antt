use Rattle.cards.proofs.WriteLemmas.{AddsBeginning-stop, Writes-then, Writes-err}
use Rattle.pbn_deals.specs.DealText.{hand_text}
use Rattle.pbn_deals.proofs.deal_texts.write_next_hand.Goals as goal

pub returns : goal.returns
returns g c = Writes-then c.write_hand.result _ _ c.in_ok-write_all.ensures c.write_hand.ensures

pub returns-in_err-write_all : goal.returns-in_err-write_all
returns-in_err-write_all g c =
    Writes-err c.from_residual.result _ c.from_residual.ensures.1 (AddsBeginning-stop (hand_text c.args.layout.now c.args.seat) c.in_err-write_all.ensures)
