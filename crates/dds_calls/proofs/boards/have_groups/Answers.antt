-- Two cards that may be played don't touch, or all touch.
use Rattle.std.proofs.Common.{Bool, true, false, not, List, MatchBool, sym, subst}
use Rattle.cards.specs.declared.pack.Card.{Card}
use Rattle.play_rules.specs.Position.{Position, AreLegalCards}
use Rattle.dds_calls.specs.BoardAnswers.{HaveGroups}
use Rattle.dds_calls.specs.Touching.{AllTouch, SomeApart}
use Rattle.dds_calls.proofs.ToldLaws.{have_groups, one_group}
use Rattle.dds_calls.proofs.boards.have_groups.Goals as goal

other_way : (b : Bool) (P Q R S : Type 0) → (P → S) → (Q → R) → MatchBool b P Q → MatchBool (not b) R S
other_way true P Q R S f g h = f h
other_way false P Q R S f g h = g h

pub returns : goal.returns
returns c =
    let position : Position = c.args.trick.now in
    let cards : List Card = c.as_slice.result.now in
    let deal = c.layout.result.now in
    let player = c.turn.result in
    let legal : AreLegalCards position cards = subst (λ (xs : List Card). AreLegalCards position xs) (sym c.as_slice.ensures.value) c.legal-legal.ensures in
    other_way c.all_touch.result (AllTouch deal player cards) (SomeApart deal player cards) (HaveGroups position) (HaveGroups position → ⊥)
    (one_group position cards deal player c.layout.ensures c.turn.ensures legal)
    (have_groups position cards deal player c.layout.ensures c.turn.ensures legal)
    c.all_touch.ensures
