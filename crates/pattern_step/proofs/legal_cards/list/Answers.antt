use Rattle.std.proofs.Common.{rules, length, ap, ◌∙◌, arith}
use Rattle.std.proofs.lemmas.List.{length-append}
use Rattle.cards.specs.declared.suits.Suit.TheVariants.{Spades, Hearts, Diamonds}
use Rattle.pattern_step.specs.LegalCards.{cards_in}
use Rattle.pattern_step.proofs.PatCardLaws.{length-cards_in}
use Rattle.pattern_step.proofs.legal_cards.list.Goals as goal

pub add_suit-requires-2 : goal.add_suit-requires-2
add_suit-requires-2 c =
    let pattern = c.invariant.ensures in
    let new = ap length c.requires in
    let hand = pattern.hands c.args.seat in
    omega (arith, new, hand, pattern.not_over)

pub add_suit-requires-3 : goal.add_suit-requires-3
add_suit-requires-3 c =
    let pattern = c.invariant.ensures in
    let seat = c.args.seat in
    let new = ap length c.requires in
    let one = ap length c.add_suit-2.ensures ∙ length-append c.args.cards.now.items (cards_in c.args.pattern.now seat Spades) in
    let spades = length-cards_in c.args.pattern.now pattern seat Spades in
    omega (arith, new, one, spades, pattern.hands seat, pattern.not_over)

pub add_suit-requires-4 : goal.add_suit-requires-4
add_suit-requires-4 c =
    let pattern = c.invariant.ensures in
    let seat = c.args.seat in
    let new = ap length c.requires in
    let one = ap length c.add_suit-2.ensures ∙ length-append c.args.cards.now.items (cards_in c.args.pattern.now seat Spades) in
    let two = ap length c.add_suit-3.ensures ∙ length-append c.add_suit-2.new.cards.items (cards_in c.args.pattern.now seat Hearts) in
    let spades = length-cards_in c.args.pattern.now pattern seat Spades in
    let hearts = length-cards_in c.args.pattern.now pattern seat Hearts in
    omega (arith, new, one, two, spades, hearts, pattern.hands seat, pattern.not_over)

pub add_suit-requires-5 : goal.add_suit-requires-5
add_suit-requires-5 c =
    let pattern = c.invariant.ensures in
    let seat = c.args.seat in
    let new = ap length c.requires in
    let one = ap length c.add_suit-2.ensures ∙ length-append c.args.cards.now.items (cards_in c.args.pattern.now seat Spades) in
    let two = ap length c.add_suit-3.ensures ∙ length-append c.add_suit-2.new.cards.items (cards_in c.args.pattern.now seat Hearts) in
    let three = ap length c.add_suit-4.ensures ∙ length-append c.add_suit-3.new.cards.items (cards_in c.args.pattern.now seat Diamonds) in
    let spades = length-cards_in c.args.pattern.now pattern seat Spades in
    let hearts = length-cards_in c.args.pattern.now pattern seat Hearts in
    let diamonds = length-cards_in c.args.pattern.now pattern seat Diamonds in
    omega (arith, new, one, two, three, spades, hearts, diamonds, pattern.hands seat, pattern.not_over)

pub returns : goal.returns
returns c = search rules
