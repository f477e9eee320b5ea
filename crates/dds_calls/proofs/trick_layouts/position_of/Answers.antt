-- There is a position exactly if the cards of the trick may have been played.
use Rattle.std.proofs.Common.{◌≡◌, ◌<◌, ℕ, List, length, refl, sym, ap, subst, arith}
use Rattle.cards.specs.declared.pack.Card.{Card}
use Rattle.cards.specs.Hands.{HaveCardsAlone}
use Rattle.play_rules.specs.Legal.{IsLegalHistory}
use Rattle.dds_calls.specs.declared.board_faults.BoardFault.TheVariants.{NoPosition}
use Rattle.dds_calls.specs.Readings.{ArePutBack, IsBegun, opening_with}
use Rattle.dds_calls.proofs.FaultOrder.{clear_more}
use Rattle.dds_calls.proofs.HandLayouts.{seat_word-lt}
use Rattle.dds_calls.proofs.Positions.{is_position, lacks_card, no_layout, no_play}
use Rattle.dds_calls.proofs.trick_layouts.position_of.Goals as goal

pub returns-then-cards-reading : goal.returns-then-cards-reading
returns-then-cards-reading c =
    let reading = c.in-Ok.reading in
    let less : length reading.trick.items < reading.played = omega (arith, ap length c.as_slice-cards.ensures.value, c.if-cards-reading.true) in
    (lacks_card c.args.board.now c.args.ask reading c.in-Ok.ensures less, c.in-Ok.ensures.clear)

pub returns-in_default : goal.returns-in_default
returns-in_default c =
    let reading = c.in-Ok.reading in
    let read = c.in-Ok.ensures in
    let all : length reading.trick.items ≡ reading.played = omega (arith, ap length c.as_slice-cards.ensures.value, c.if-cards-reading.false, read.few) in
    let P : List Card → Type 0 = λ xs. ArePutBack reading.words reading.start.leader xs c.put_back-words.result in
    let W : List ℕ → Type 0 = λ w. HaveCardsAlone w in
    let alone : HaveCardsAlone reading.words = subst W (sym read.words_are) (λ seat. seat_word-lt c.args.board.now.remain_cards read.of_cards seat) in (
      no_layout c.args.board.now c.args.ask reading c.put_back-words.result c.in_default.field-0 read (subst P c.as_slice-cards.ensures.value c.put_back-words.ensures) all alone c.in_default.ensures.cases,
      read.clear,
    )

pub returns-in-Some : goal.returns-in-Some
returns-in-Some c =
    let reading = c.in-Ok.reading in
    let read = c.in-Ok.ensures in
    let board = c.args.board.now in
    let all : length reading.trick.items ≡ reading.played = omega (arith, ap length c.as_slice-cards.ensures.value, c.if-cards-reading.false, read.few) in
    let P : List Card → Type 0 = λ xs. ArePutBack reading.words reading.start.leader xs c.put_back-words.result in
    let B : List Card → Type 0 = λ xs. IsBegun c.in-Ok-from_hands.layout reading.start xs c.in-Some.trick in
    let is = is_position board c.args.ask reading c.put_back-words.result c.in-Ok-from_hands.layout c.in-Some.trick read (subst P c.as_slice-cards.ensures.value c.put_back-words.ensures) all c.in-Ok-from_hands.ensures.cases
    (subst B c.as_slice-cards.ensures.value c.in-Some.ensures) in
    record { is_position = is; clear = clear_more board c.args.ask NoPosition 16 refl read.clear (λ h. h c.in-Some.trick is) }

pub returns-in-None : goal.returns-in-None
returns-in-None c =
    let reading = c.in-Ok.reading in
    let read = c.in-Ok.ensures in
    let all : length reading.trick.items ≡ reading.played = omega (arith, ap length c.as_slice-cards.ensures.value, c.if-cards-reading.false, read.few) in
    let P : List Card → Type 0 = λ xs. ArePutBack reading.words reading.start.leader xs c.put_back-words.result in
    let N : List Card → Type 0 = λ xs. IsLegalHistory (opening_with c.in-Ok-from_hands.layout reading.start) xs → ⊥ in (
      no_play c.args.board.now c.args.ask reading c.put_back-words.result c.in-Ok-from_hands.layout read (subst P c.as_slice-cards.ensures.value c.put_back-words.ensures) all c.in-Ok-from_hands.ensures.cases
          (subst N c.as_slice-cards.ensures.value c.in-None.ensures),
      read.clear,
    )
