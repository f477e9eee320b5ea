use Rattle.std.proofs.Common.{◌∷◌, ◌++◌}
use Rattle.cards.specs.declared.suits.Suit.TheVariants.{Hearts, Diamonds, Clubs}
use Rattle.cards.proofs.WriteLemmas.{AddsBeginning-stop, AddsBeginning-then, Writes-then, Writes-err}
use Rattle.pbn_deals.specs.DealText.{group_text, hand_text}
use Rattle.pbn_deals.proofs.deal_texts.write_hand.Goals as goal

pub returns-in_err-write_group : goal.returns-in_err-write_group
unfolding hand_text
returns-in_err-write_group g c =
    let group = group_text c.args.layout.now c.args.seat in
    Writes-err c.from_residual.result _ c.from_residual.ensures.1
    (AddsBeginning-stop (46 ∷ (group Hearts ++ (46 ∷ (group Diamonds ++ (46 ∷ group Clubs))))) c.in_err-write_group.ensures)

pub returns-in_err-write_next_group : goal.returns-in_err-write_next_group
unfolding hand_text
returns-in_err-write_next_group g c =
    let group = group_text c.args.layout.now c.args.seat in
    Writes-err c.from_residual-in_err-write_next_group.result _ c.from_residual-in_err-write_next_group.ensures.1
    (AddsBeginning-then c.in_ok-write_group.ensures (AddsBeginning-stop (46 ∷ (group Diamonds ++ (46 ∷ group Clubs))) c.in_err-write_next_group.ensures))

pub returns-in_err-write_next_group-2 : goal.returns-in_err-write_next_group-2
unfolding hand_text
returns-in_err-write_next_group-2 g c =
    let group = group_text c.args.layout.now c.args.seat in
    Writes-err c.from_residual-in_err-write_next_group-2.result _ c.from_residual-in_err-write_next_group-2.ensures.1
    (AddsBeginning-then c.in_ok-write_group.ensures (AddsBeginning-then c.in_ok-write_next_group.ensures (AddsBeginning-stop (46 ∷ group Clubs) c.in_err-write_next_group-2.ensures)))

pub returns : goal.returns
unfolding hand_text
returns g c =
    let last = c.write_next_group-3.result in
    Writes-then last _ _ c.in_ok-write_group.ensures
    (Writes-then last _ _ c.in_ok-write_next_group.ensures
    (Writes-then last _ _ c.in_ok-write_next_group-2.ensures c.write_next_group-3.ensures))
