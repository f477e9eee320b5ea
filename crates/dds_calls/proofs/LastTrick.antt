-- In the last trick one card may be played.
use Rattle.std.proofs.Common.{◌≡◌, ◌≢◌, ℕ, ◌+◌, ◌*◌, ◌^◌, ◌<◌, ◌≤◌, Bool, cond, List, length, get_or, bit_and, bit_or, Some, ℤ, pos, sym, ap, ◌∙◌, subst, inl, inr, arith, w64}
use Rattle.std.specs.Prelude.{count_ones}
use Rattle.std.specs.Int.{bit_at, bit_not}
use Rattle.std.proofs.lemmas.Bool.{cases_eq, cases_lt, le-ltb}
use Rattle.std.proofs.lemmas.List.Elements.{Contains-get_or}
use Rattle.std.proofs.lemmas.Nat.{zero_from_ones}
use Rattle.std.proofs.lemmas.Nat.Bits.{bit_at-lt, bit_at-zero, bit_at_above, bit_at_or, bit_at_and, bit_at-pow_same, bit_at-pow_other, bit_at_clear_same, bit_at_clear_other, same_from_bits}
use Rattle.std.proofs.lemmas.Option.{slice_get-get_or, slice_get_within}
use Rattle.cards.specs.declared.seats.Seat.{Seat}
use Rattle.cards.specs.declared.seats.Seat.TheVariants.{North, East, South, West}
use Rattle.cards.specs.declared.pack.Card.{Card}
use Rattle.cards.specs.Pack.{card_at, card_number}
use Rattle.cards.specs.Seats.{place_of, seat_in_place, seat_number}
use Rattle.cards.specs.Deal.{holder_of}
use Rattle.cards.specs.Hands as words
use Rattle.cards.proofs.PackLaws.{card_number-lt, same_from_numbers}
use Rattle.play_rules.specs.Legal.{seat_to_play}
use Rattle.play_rules.specs.Position.{Position, listed_place}
use Rattle.play_rules.proofs.HistoryLaws.{seat_to_play-short}
use Rattle.card_values.specs.declared.values.CardValue.{CardValue}
use Rattle.card_values.specs.CardValues.{AreCardValues}
use Rattle.dds_calls.specs.declared.board_shapes.BoardDeal.{BoardDeal}
use Rattle.dds_calls.specs.declared.board_shapes.Ask.{Ask}
use Rattle.dds_calls.specs.declared.board_faults.BoardFault.TheVariants.{NoCards, Unequal}
use Rattle.dds_calls.specs.Hands.{cards_in, words_of}
use Rattle.dds_calls.specs.BoardPositions.{IsPositionOf, size_with, trick_size}
use Rattle.dds_calls.specs.Boards.{IsClearTo, cards_left, size_before}
use Rattle.dds_calls.proofs.BoardLaws.{card_listed, held_card}
use Rattle.dds_calls.proofs.CountLaws.{played_seats}
use Rattle.dds_calls.proofs.HandLayouts.{seat_bit, seat_word-lt}
use Rattle.dds_calls.proofs.LineLaws.{listed_before}
use Rattle.dds_calls.proofs.PutBack.{bit_of, ones-set}
use Rattle.dds_calls.proofs.TrickCards.{place_of-seat, same_place}

-- a word with one bit has no other
one_bit : (word i j : ℕ) → word < 2 ^ 52 → count_ones word ≡ 1 → i < 52 → bit_at word i ≡ 1 → bit_at word j ≡ 1 → i ≡ j
one_bit word i j small ones within at_i at_j =
    let rest = bit_and word (bit_not w64 (bit_of i)) in
    let clear : bit_at rest i ≡ 0 = bit_at_clear_same w64 word i (omega (arith, within)) in
    let whole : bit_or rest (2 ^ i) ≡ word =
    same_from_bits (bit_or rest (2 ^ i)) word
    (λ k. elim (cases_eq k i) [
      | inl e ↦
          let here : bit_at (bit_or rest (2 ^ i)) i ≡ bit_at word i = omega (arith, bit_at_or rest (2 ^ i) i, bit_at-pow_same i, clear, at_i) in
          subst (λ n. bit_at (bit_or rest (2 ^ i)) n ≡ bit_at word n) (sym e) here
      | inr ne ↦ elim (cases_lt k 64) [
        | inl low ↦ omega (arith, bit_at_or rest (2 ^ i) k, bit_at-pow_other i k ne, bit_at_clear_other w64 word i (omega (arith, within)) k low ne, bit_at-lt word k)
        | inr high ↦
            let none : bit_at word k ≡ 0 = bit_at_above word 52 k small (omega (arith, high)) in
            let less : bit_at rest k ≡ 0 = omega (arith, bit_at_and word (bit_not w64 (bit_of i)) k, none) in
            omega (arith, bit_at_or rest (2 ^ i) k, bit_at-pow_other i k ne, none, less)
      ]
    ]) in
    let empty : count_ones rest ≡ 0 = omega (arith, ones-set rest i clear, ap count_ones whole, ones) in
    let nothing : rest ≡ 0 = zero_from_ones rest empty in
    elim (cases_eq i j) [
      | inl e ↦ e
      | inr ne ↦
          let none : bit_at rest j ≡ 0 = ap (λ n. bit_at n j) nothing ∙ bit_at-zero j in
          let apart : j ≢ i = λ e. ne (sym e) in
          absurd (omega (arith, at_j, ap (λ n. bit_at n j) whole, bit_at_or rest (2 ^ i) j, bit_at-pow_other i j apart, none))
    ]

-- hands that had one size had as many cards as are left, and those of the trick
all_before : (held : List ℕ) (leader : Seat)
    → ((seat : Seat) → size_with held (pos (seat_number leader)) (trick_size (cards_in held)) seat ≡ size_with held (pos (seat_number leader)) (trick_size (cards_in held)) North)
    → 4 * size_with held (pos (seat_number leader)) (trick_size (cards_in held)) North ≡ cards_in held + trick_size (cards_in held)
all_before held leader equal =
    let few : trick_size (cards_in held) < 4 = omega arith in
    omega (arith, played_seats leader (trick_size (cards_in held)) few, equal East, equal South, equal West)

module _ (board : BoardDeal) (ask : Ask) (position : Position) (clear : IsClearTo 16 board ask) (is : IsPositionOf board position) (last : cards_left board ≤ 4) where
  abbrev leader : Seat
  leader = position.opening.leader

  abbrev player : Seat
  player = seat_to_play position.opening position.history

  abbrev held : List ℕ
  held = words_of board.remain_cards

  short : length position.history < 4
  short = omega (arith, is.trick_is.size)

  player_is : player ≡ seat_in_place leader (length position.history)
  player_is = seat_to_play-short position.opening position.history short

  one_size : (seat : Seat) → size_before board seat ≡ size_before board North
  one_size seat =
      elim (cases_eq (size_before board seat) (size_before board North)) [
        | inl e ↦ e
        | inr ne ↦ absurd (clear Unequal (omega arith) (seat, ne))
      ]

  sizes_by_leader : (seat : Seat) → size_before board seat ≡ size_with held (pos (seat_number leader)) (trick_size (cards_in held)) seat
  sizes_by_leader seat = ap (λ (z : ℤ). size_with held z (trick_size (cards_in held)) seat) (sym is.leader_is)

  one_before : size_before board North ≡ 1
  one_before =
      let all = all_before held leader (λ seat. sym (sizes_by_leader seat) ∙ (one_size seat ∙ sizes_by_leader North)) in
      let some : cards_left board ≢ 0 = λ e. clear NoCards (omega arith) e in
      omega (arith, all, sizes_by_leader North, some, last)

  player_word : words.word_size held player ≡ 1
  player_word =
      let place : place_of leader player ≡ trick_size (cards_in held) = ap (place_of leader) player_is ∙ (place_of-seat leader (length position.history) short ∙ is.trick_is.size) in
      let none = le-ltb (place_of leader player) (trick_size (cards_in held)) (omega (arith, place)) in
      omega (arith, one_size player, one_before, sizes_by_leader player, ap (λ (b : Bool). cond {A = ℕ} b 1 0) none)

  -- a card that the player may play is still in the player's hand
  in_hand : (card : Card) → holder_of position.opening.deal card ≡ Some player → words.HasBit held player card
  in_hand card h =
      elim ((is.layout_is.holders card player).0 h) [
        | inl has ↦ seat_bit board.remain_cards is.layout_is.of_cards player card ∙ has
        | inr played ↦
            let within : played.0 < length position.history = slice_get_within position.history played.0 card played.1 in
            absurd (omega (arith, within, same_place leader played.0 (length position.history) (omega (arith, within, short)) short (played.2 ∙ player_is)))
      ]

  pub one_value : (values : List CardValue) → AreCardValues position values → 0 < length values → length values ≡ 1
  one_value values are some =
      elim (cases_lt 1 (length values)) [
        | inl more ↦ (
            let blank : CardValue = get_or values 0 (record { card = card_at 0; tricks = 0 }) in
            let first : CardValue = get_or values 0 blank in
            let second : CardValue = get_or values 1 blank in
            let bit_of_first = in_hand first.card (held_card position values are first.card (card_listed values first (Contains-get_or values 0 blank some))) in
            let bit_of_second = in_hand second.card (held_card position values are second.card (card_listed values second (Contains-get_or values 1 blank more))) in
            let same : card_number first.card ≡ card_number second.card =
            one_bit (words.word_of held player) (card_number first.card) (card_number second.card) (seat_word-lt board.remain_cards is.layout_is.of_cards player) player_word (card_number-lt first.card) bit_of_first bit_of_second in
            let cards : first.card ≡ second.card = same_from_numbers first.card second.card same in
            let before = listed_before values 0 1 first second are.cards.in_order (omega arith) (slice_get-get_or values 0 blank some) (slice_get-get_or values 1 blank more) in
            absurd (omega (arith, before, ap (λ (c : Card). listed_place c) cards)))
        | inr few ↦ omega (arith, few, some)
      ]
