-- The faults of the numbers of cards, one after the other.
use Rattle.cards.specs.Seats.{seat_number}
use Rattle.std.proofs.Common.{pos, ◌≡◌, ◌-◌, ◌%◌, sym, ◌∙◌, ap, refl, arith}
use Rattle.std.proofs.lemmas.Int.{ints}
use Rattle.cards.specs.declared.seats.Seat.TheVariants.{North}
use Rattle.dds_calls.specs.declared.board_faults.BoardFault.TheVariants.{NoCards, TooManyCards, TargetTooFar, Unequal}
use Rattle.dds_calls.specs.Hands.{cards_in}
use Rattle.dds_calls.specs.Boards.{IsClearTo, cards_left, size_before}
use Rattle.dds_calls.proofs.CountLaws.{size_before-is}
use Rattle.dds_calls.proofs.FaultOrder.{clear_more}
use Rattle.dds_calls.proofs.trick_counts.trick_size_of.Goals as goal

pub returns-then-not-are_equal : goal.returns-then-not-are_equal
returns-then-not-are_equal c =
    let board = c.args.board.now in
    let n : c.count_of-count.result ≡ cards_left board = c.count_of-count.ensures ∙ ap cards_in c.requires.words in
    let c10 : IsClearTo 10 board c.args.ask = clear_more board c.args.ask NoCards 10 refl c.requires.clear (λ h. c.if-count-eq0.false (n ∙ h)) in
    let c11 : IsClearTo 11 board c.args.ask = clear_more board c.args.ask TooManyCards 11 refl c10 (λ h. omega (arith, h, n, c.if-count-gt-PACK.false)) in
    let c12 : IsClearTo 12 board c.args.ask = clear_more board c.args.ask TargetTooFar 12 refl c11 (λ h. omega (arith, ints, h, n, c.if-count-ask.false)) in
    let is = size_before-is board c.args.words.now (pos (seat_number c.args.leader)) c.count_of-count.result in
    let w = c.if-not-are_equal.ensures in
    ((w.0, λ e. w.1 (is w.0 c.requires.words c.requires.leader n ∙ (e ∙ sym (is North c.requires.words c.requires.leader n)))), c12)

pub returns : goal.returns
returns c =
    let board = c.args.board.now in
    let n : c.count_of-count.result ≡ cards_left board = c.count_of-count.ensures ∙ ap cards_in c.requires.words in
    let is = size_before-is board c.args.words.now (pos (seat_number c.args.leader)) c.count_of-count.result in
    let c10 : IsClearTo 10 board c.args.ask = clear_more board c.args.ask NoCards 10 refl c.requires.clear (λ h. c.if-count-eq0.false (n ∙ h)) in
    let c11 : IsClearTo 11 board c.args.ask = clear_more board c.args.ask TooManyCards 11 refl c10 (λ h. omega (arith, h, n, c.if-count-gt-PACK.false)) in
    let c12 : IsClearTo 12 board c.args.ask = clear_more board c.args.ask TargetTooFar 12 refl c11 (λ h. omega (arith, ints, h, n, c.if-count-ask.false)) in
    let equal : (seat : _) → size_before board seat ≡ size_before board North = λ seat. sym (is seat c.requires.words c.requires.leader n) ∙ (c.if-not-are_equal.ensures seat ∙ is North c.requires.words c.requires.leader n) in
    record {
      size = ap (λ k. (52 - k) % 4) n;
      some = (omega (arith, n, c.if-count-eq0.false), omega (arith, n, c.if-count-gt-PACK.false));
      equal = equal;
      clear = clear_more board c.args.ask Unequal 13 refl c12 (λ h. h.1 (equal h.0));
    }
