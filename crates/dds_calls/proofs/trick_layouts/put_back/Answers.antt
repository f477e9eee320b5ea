-- One more card goes back to the seat whose turn it was.
use Rattle.std.proofs.Common.{◌≡◌, ◌+◌, ◌<◌, ℕ, List, length, take, set, get_or, bit_or, refl, sym, ap, ◌∙◌, subst, arith}
use Rattle.std.proofs.lemmas.List.{take_more, take_all, length-take-le}
use Rattle.std.proofs.lemmas.List.Elements.{Contains-get_or}
use Rattle.cards.specs.declared.suits.Suit.TheVariants.{Spades}
use Rattle.cards.specs.declared.pack.Rank.TheVariants.{Two}
use Rattle.cards.specs.declared.pack.Card.{Card}
use Rattle.cards.specs.declared.seats.Seat.{Seat}
use Rattle.cards.specs.Seats.{next_of, seat_in_place, seat_number}
use Rattle.dds_calls.specs.Readings.{ArePutBack}
use Rattle.dds_calls.proofs.PutBack.{put_none, put_one_more, bit_of}
use Rattle.dds_calls.proofs.TrickCards.{seat_in_place-more}
use Rattle.dds_calls.proofs.trick_layouts.put_back.Goals as goal

pub loop-card-init : goal.loop-card-init
loop-card-init c = record { put = put_none c.args.words c.args.leader c.requires.four; turn = refl }

pub loop-card-preserved : goal.loop-card-preserved
loop-card-preserved c =
    let cards = c.args.cards.now in
    let i = c.loop-card.card-index in
    let before = c.loop-card.words in
    let within : i < length cards = c.loop-card-test.true in
    let other : Card = record { suit = Spades; rank = Two } in
    let card : Card = get_or cards i other in
    let len : length (take i cards) ≡ i = length-take-le i cards (omega (arith, within)) in
    let seat : Seat = seat_in_place c.args.leader (length (take i cards)) in
    let at : c.number-in-loop-card.result ≡ seat_number seat = c.number-in-loop-card.ensures.place ∙ ap seat_number (c.loop-card.invariant.turn ∙ ap (seat_in_place c.args.leader) (sym len)) in
    record {
      put = put_one_more c.args.words c.args.leader (take i cards) (take (i + 1) cards) before _ card c.loop-card.invariant.put
          (omega (arith, len, within, c.requires.few))
          (λ s h. c.requires.gone card (Contains-get_or cards i other within) s h)
          (take_more cards i other within)
          (ap (λ (n : ℕ). set before n (bit_or (get_or before n 0) (bit_of c.number.result))) at
          ∙ ap (λ (m : ℕ). set before (seat_number seat) (bit_or (get_or before (seat_number seat) 0) (bit_of m))) c.number.ensures.place);
      turn = c.next-seat.ensures ∙ (ap next_of c.loop-card.invariant.turn ∙ sym (seat_in_place-more c.args.leader i));
    }

pub returns : goal.returns
returns c =
    let P : List Card → Type 0 = λ xs. ArePutBack c.args.words c.args.leader xs c.loop-card.words in
    subst P (take_all c.loop-card.card-index c.args.cards.now c.loop-card-test.false) c.loop-card.invariant.put
