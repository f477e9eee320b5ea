use Rattle.std.proofs.Common.{rules}
use Rattle.std.proofs.lemmas.Bool.{MatchBool-at_false, MatchBool-at_true}
use Rattle.cards.specs.Hands.{IsDealt}
use Rattle.cards.proofs.HandLaws.{some_stray, all_cards, some_card_twice, at_most_one, AreDisjoint-from_bits, AreDisjoint-from_dealt, Deals-from_words, IsLayout-from_words}
use Rattle.cards.proofs.layouts.Layout.from_hands.Goals as goal

pub returns-then-north-east-ne0 : goal.returns-then-north-east-ne0
returns-then-north-east-ne0 c = record { cases = some_stray c.args.hands c.if-north-east-ne0.true }

pub returns-then-shared-ne0 : goal.returns-then-shared-ne0
returns-then-shared-ne0 c =
    let alone = all_cards c.args.hands c.if-north-east-ne0.false in
    record { cases = (alone, some_card_twice c.args.hands alone c.if-shared-ne0.true) }

pub returns-then-not-are_sized : goal.returns-then-not-are_sized
returns-then-not-are_sized c =
    let alone = all_cards c.args.hands c.if-north-east-ne0.false in
    record { cases = (alone, AreDisjoint-from_bits c.args.hands (at_most_one c.args.hands c.if-shared-ne0.false), MatchBool-at_false {b = c.are_sized.result} _ _ (search rules) c.are_sized.ensures) }

pub invariant_of-result : goal.invariant_of-result
invariant_of-result c = record {
  four = search rules;
  cards_alone = all_cards c.args.hands c.if-north-east-ne0.false;
  one_holder = at_most_one c.args.hands c.if-shared-ne0.false;
  sized = MatchBool-at_true {b = c.are_sized.result} _ _ (search rules) c.are_sized.ensures;
}

pub returns : goal.returns
returns c =
    let dealt : IsDealt c.args.hands = record {
      four = search rules;
      cards_alone = all_cards c.args.hands c.if-north-east-ne0.false;
      one_holder = at_most_one c.args.hands c.if-shared-ne0.false;
      sized = MatchBool-at_true {b = c.are_sized.result} _ _ (search rules) c.are_sized.ensures;
    } in
    record {
      cases = record {
        cards_alone = dealt.cards_alone;
        disjoint = AreDisjoint-from_dealt c.args.hands dealt;
        sized = dealt.sized;
        deals = Deals-from_words c.args.hands dealt;
        layout = IsLayout-from_words c.args.hands dealt;
      };
    }
