use Rattle.std.proofs.Common.{refl, rules}
use Rattle.patterns.proofs.SeatLaws.{when_true, on_true}
use Rattle.patterns.proofs.shape_words.ShapeWords.checked.Goals as goal

pub returns-then-not-hands_fit : goal.returns-then-not-hands_fit
returns-then-not-hands_fit c = search rules

pub returns : goal.returns
returns c =
    let hands = when_true _ _ _ c.hands_fit.ensures c.if-not-hands_fit.false in (
      refl,
      record {
        four_seats = on_true _ _ c.suits_fit.ensures.seats c.if-not-suits_fit.false;
        suits = when_true _ _ _ c.suits_fit.ensures.cases c.if-not-suits_fit.false;
        hands = hands.equal;
        some_cards = hands.some_cards;
        not_over = hands.not_over;
        owners = when_true _ _ _ c.owners_fit.ensures c.if-not-owners_fit.false;
      },
    )
