use Rattle.std.proofs.Common.{refl, ◌≡◌, ◌+◌, ◌∷◌, ◌++◌, [], drop, get_or, Some, None, sym, ◌∙◌, ap, arith}
use Rattle.std.proofs.lemmas.List.{drop_more, drop_all}
use Rattle.std.proofs.lemmas.Bool.{eq-eqb, ne_eqb}
use Rattle.cards.specs.Pack.{suit_at, card_of}
use Rattle.pbn_deals.specs.DealValue.{put_all}
use Rattle.pbn_deals.proofs.GroupLemmas.{put_all-nil, put_all-twice, cards_from, cards_from-dot, cards_from-past, cards_from-letter, cards_from-stray, reads_none, reads_at_end, puts_none, puts_more}
use Rattle.pbn_deals.proofs.dealings.Dealing.add_groups.Goals as goal
use Rattle.pbn_deals.proofs.dealings.Dealing.add_groups.Goals.{then-byte-eq46+else-suit-eq3, else-byte-eq46+in-Some}

pub loop-byte-init : goal.loop-byte-init
loop-byte-init c = record {
  cards = [];
  suit_in = omega arith;
  so_far = put_all-nil (cards_from 0 c.args.word.now);
  puts = puts_none c.args.self.now c.args.seat;
  partial = refl;
}

pub returns-then-suit-eq3-clause-reads : goal.returns-then-suit-eq3-clause-reads
returns-then-suit-eq3-clause-reads c =
    let word = c.args.word.now in
    let i = c.loop-byte.byte-index in
    let rest = drop (i + 1) word in
    let byte = get_or word i 0 in
    let inv = c.loop-byte.invariant in
    let here : cards_from c.loop-byte.suit (drop i word) ≡ None =
    ap (cards_from c.loop-byte.suit) (drop_more word i 0 (omega arith))
    ∙ (cards_from-dot c.loop-byte.suit byte rest inv.suit_in (eq-eqb byte 46 c.if-byte-eq46.true)
    ∙ (ap (λ n. cards_from (n + 1) rest) c.if-suit-eq3.true ∙ cards_from-past rest)) in
    reads_none (cards_from 0 word) c.args.seat c.args.self.now c.loop-byte.self (sym inv.so_far ∙ ap (put_all (Some inv.cards)) here)

pub returns-in_default-clause-reads : goal.returns-in_default-clause-reads
returns-in_default-clause-reads c =
    let word = c.args.word.now in
    let i = c.loop-byte.byte-index in
    let rest = drop (i + 1) word in
    let byte = get_or word i 0 in
    let inv = c.loop-byte.invariant in
    let here : cards_from c.loop-byte.suit (drop i word) ≡ None =
    ap (cards_from c.loop-byte.suit) (drop_more word i 0 (omega arith))
    ∙ cards_from-stray c.loop-byte.suit byte rest inv.suit_in (ne_eqb byte 46 c.if-byte-eq46.false) (sym c.rank_of_letter.ensures ∙ c.in_default.is) in
    reads_none (cards_from 0 word) c.args.seat c.args.self.now c.loop-byte.self (sym inv.so_far ∙ ap (put_all (Some inv.cards)) here)

pub loop-byte-preserved : goal.loop-byte-preserved
loop-byte-preserved c =
    let word = c.args.word.now in
    let i = c.loop-byte.byte-index in
    let rest = drop (i + 1) word in
    let byte = get_or word i 0 in
    let suit = c.loop-byte.suit in
    let inv = c.loop-byte.invariant in
    let here : cards_from suit (drop i word) ≡ cards_from suit (byte ∷ rest) = ap (cards_from suit) (drop_more word i 0 (omega arith)) in
    elim c.if-byte-eq46.branch [
      | then-byte-eq46+else-suit-eq3 w ↦ record {
        cards = inv.cards;
        suit_in = omega arith;
        so_far = rw w.suit-is (ap (put_all (Some inv.cards)) (sym (here ∙ cards_from-dot suit byte rest inv.suit_in (eq-eqb byte 46 w.if-byte-eq46.true))) ∙ inv.so_far);
        puts = rw w.self-is inv.puts;
        partial = rw w.self-is inv.partial;
      }
      | else-byte-eq46+in-Some w ↦
          let card = card_of (suit_at suit) w.in-Some.rank in
          let step = cards_from-letter suit byte rest w.in-Some.rank inv.suit_in (ne_eqb byte 46 w.if-byte-eq46.false) (sym w.rank_of_letter.ensures ∙ w.in-Some.is) in
          let adds = rw w.at.ensures at w.add_card.ensures.adds in
          record {
            cards = inv.cards ++ card ∷ [];
            suit_in = omega arith;
            so_far = rw w.suit-is (sym (put_all-twice inv.cards (card ∷ []) (cards_from suit rest)) ∙ (ap (put_all (Some inv.cards)) (sym (here ∙ step)) ∙ inv.so_far));
            puts = rw w.self-is (puts_more c.args.self.now c.loop-byte.self w.add_card.new.self c.args.seat inv.cards card inv.puts adds);
            partial = rw w.self-is (w.add_card.ensures.partial ∙ inv.partial);
          }
    ]

pub returns-clause-reads : goal.returns-clause-reads
returns-clause-reads c =
    let inv = c.loop-byte.invariant in
    let word = c.args.word.now in
    let done : drop c.loop-byte.byte-index word ≡ [] = drop_all c.loop-byte.byte-index word (omega arith) in
    reads_at_end c.loop-byte.suit inv.cards (cards_from 0 word) c.args.seat c.args.self.now c.loop-byte.self inv.suit_in (ap (λ x. put_all (Some inv.cards) (cards_from c.loop-byte.suit x)) (sym done) ∙ inv.so_far) inv.puts
