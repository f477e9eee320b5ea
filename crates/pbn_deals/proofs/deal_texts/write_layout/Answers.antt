use Rattle.std.proofs.Common.{◌∷◌, ◌++◌}
use Rattle.cards.specs.declared.seats.Seat.TheVariants.{North, East, South, West}
use Rattle.cards.proofs.WriteLemmas.{AddsBeginning-stop, AddsBeginning-then, Writes-then, Writes-err}
use Rattle.pbn_deals.specs.DealText.{hand_text, deal_text}
use Rattle.pbn_deals.proofs.deal_texts.write_layout.Goals as goal

pub returns-in_err-write_all : goal.returns-in_err-write_all
unfolding deal_text
returns-in_err-write_all g c =
    let hand = hand_text c.args.layout.now in
    Writes-err c.from_residual.result _ c.from_residual.ensures.1
    (AddsBeginning-stop (hand North ++ (32 ∷ (hand East ++ (32 ∷ (hand South ++ (32 ∷ hand West)))))) c.in_err-write_all.ensures)

pub returns-in_err-write_hand : goal.returns-in_err-write_hand
unfolding deal_text
returns-in_err-write_hand g c =
    let hand = hand_text c.args.layout.now in
    Writes-err c.from_residual-in_err-write_hand.result _ c.from_residual-in_err-write_hand.ensures.1
    (AddsBeginning-then c.in_ok-write_all.ensures (AddsBeginning-stop (32 ∷ (hand East ++ (32 ∷ (hand South ++ (32 ∷ hand West))))) c.in_err-write_hand.ensures))

pub returns-in_err-write_next_hand : goal.returns-in_err-write_next_hand
unfolding deal_text
returns-in_err-write_next_hand g c =
    let hand = hand_text c.args.layout.now in
    Writes-err c.from_residual-in_err-write_next_hand.result _ c.from_residual-in_err-write_next_hand.ensures.1
    (AddsBeginning-then c.in_ok-write_all.ensures (AddsBeginning-then c.in_ok-write_hand.ensures (AddsBeginning-stop (32 ∷ (hand South ++ (32 ∷ hand West))) c.in_err-write_next_hand.ensures)))

pub returns-in_err-write_next_hand-2 : goal.returns-in_err-write_next_hand-2
unfolding deal_text
returns-in_err-write_next_hand-2 g c =
    let hand = hand_text c.args.layout.now in
    Writes-err c.from_residual-in_err-write_next_hand-2.result _ c.from_residual-in_err-write_next_hand-2.ensures.1
    (AddsBeginning-then c.in_ok-write_all.ensures (AddsBeginning-then c.in_ok-write_hand.ensures (AddsBeginning-then c.in_ok-write_next_hand.ensures (AddsBeginning-stop (32 ∷ hand West) c.in_err-write_next_hand-2.ensures))))

pub returns : goal.returns
unfolding deal_text
returns g c =
    let last = c.write_next_hand-3.result in
    Writes-then last _ _ c.in_ok-write_all.ensures
    (Writes-then last _ _ c.in_ok-write_hand.ensures
    (Writes-then last _ _ c.in_ok-write_next_hand.ensures
    (Writes-then last _ _ c.in_ok-write_next_hand-2.ensures c.write_next_hand-3.ensures)))
