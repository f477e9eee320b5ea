-- The position of a board, and why there is none.
use Rattle.std.proofs.Common.{◌≡◌, ◌⊎◌, ◌↔◌, ℕ, zero, suc, ◌+◌, ◌<◌, ◌≤◌, List, [], ◌∷◌, ◌++◌, length, take, get_or}
use Rattle.std.proofs.Common.{Option, None, Some, Err, ℤ, pos, refl, sym, ap, ◌∙◌, subst, inl, inr, arith, slice_get, append_assoc, cond, ltb}
use Rattle.std.proofs.lemmas.Int.{ints}
use Rattle.std.proofs.lemmas.List.{append-nil, ext_get_or, same_lists, length-take}
use Rattle.std.proofs.lemmas.Option.{same_Some, slice_get_cases, slice_get-get_or}
use Rattle.std.specs.Int.{bit_at}
use Rattle.cards.specs.declared.suits.Trump.{Trump}
use Rattle.cards.specs.declared.suits.Trump.TheVariants as trump
use Rattle.cards.specs.declared.seats.Seat.{Seat}
use Rattle.cards.specs.declared.seats.Seat.TheVariants.{North}
use Rattle.cards.specs.declared.pack.Card.{Card}
use Rattle.cards.specs.declared.layouts.LayoutFault.{LayoutFault}
use Rattle.cards.specs.declared.layouts.LayoutFault.TheVariants.{StrayBit, CardTwice, HandSize}
use Rattle.cards.specs.Pack.{card_number, suit_number, rank_number, card_at}
use Rattle.cards.specs.Seats.{seat_number, place_of}
use Rattle.cards.specs.Deal.{Deal, IsLayout, holder_of, size_of}
use Rattle.cards.specs.FromHands as from
use Rattle.cards.specs.Hands as words
use Rattle.cards.proofs.PackLaws.{card_number-card_at, same_from_numbers, same_from_suit_numbers, suit_number-lt}
use Rattle.play_rules.specs.History.{Opening}
use Rattle.play_rules.specs.Legal.{CanPlay, IsLegalAfter, IsLegalHistory}
use Rattle.play_rules.specs.Position.{Position}
use Rattle.card_values.specs.Tricks.{TakesOrRefuses}
use Rattle.card_values.specs.declared.faults.TrickFault.{TrickFault}
use Rattle.card_values.specs.declared.faults.TrickFault.TheVariants.{Whole, Play}
use Rattle.play_rules.specs.declared.faults.PlayFault.TheVariants.{NotHeld, MustFollow, Over}
use Rattle.dds_calls.specs.declared.board_shapes.BoardDeal.{BoardDeal}
use Rattle.dds_calls.specs.declared.board_shapes.Ask.{Ask}
use Rattle.dds_calls.specs.declared.trick_layouts.Reading.{Reading}
use Rattle.dds_calls.specs.Denominations.{denomination_number}
use Rattle.dds_calls.specs.Hands.{AreOfCards, HasCard, HaveStrayBit, cards_in, words_of}
use Rattle.dds_calls.specs.BoardPositions.{HasStrayTrick, IsCurrentTrick, IsGiven, IsLayoutBefore, IsPlayedBy, IsPositionOf, rank_given, size_with, trick_size, trick_size_of}
use Rattle.dds_calls.specs.Boards.{size_before}
use Rattle.dds_calls.specs.Readings.{AreGivenTo, ArePutBack, IsBegun, IsReading, opening_with}
use Rattle.dds_calls.proofs.CountLaws.{sizes_within}
use Rattle.dds_calls.proofs.HandLayouts.{seat_bit}
use Rattle.dds_calls.proofs.PutBack.{same_from_seat_numbers}
use Rattle.dds_calls.proofs.TrickCards.{contains_from_slice_get}

-- ---- one card for the numbers
pub given_same : (board : BoardDeal) (place : ℕ) (one other : Card) → IsGiven board place one → IsGiven board place other → one ≡ other
given_same board place one other a b =
    let suits : suit_number one.suit ≡ suit_number other.suit = omega (arith, ints, a.0, b.0) in
    let ranks : rank_number one.rank ≡ rank_number other.rank = omega (arith, ints, a.1, b.1) in
    same_from_numbers one other (omega (arith, suits, ranks))

pub same_cards : (board : BoardDeal) (one other : List Card) → length one ≡ length other
    → ((place : ℕ) (card : Card) → slice_get one place ≡ Some card → IsGiven board place card)
    → ((place : ℕ) (card : Card) → slice_get other place ≡ Some card → IsGiven board place card)
    → one ≡ other
same_cards board one other e a b =
    same_lists one other e
    (λ k d h. given_same board k (get_or one k d) (get_or other k d)
    (a k (get_or one k d) (slice_get-get_or one k d h))
    (b k (get_or other k d) (slice_get-get_or other k d (omega (arith, h, e)))))

-- the numbers of the current trick are right
pub not_stray : (board : BoardDeal) (cards : List Card) → AreGivenTo board 3 cards → HasStrayTrick board → ⊥
not_stray board cards given stray =
    let place = stray.0 in
    elim (slice_get_cases cards place).1 [
      | inl some ↦
          elim stray.3 [
            | inl none ↦ none some.0 (given.each place some.0 some.2)
            | inr gap ↦
                elim (slice_get_cases cards gap.0).1 [
                  | inl early ↦
                      let at : pos (rank_number early.0.rank + 2) ≡ rank_given board gap.0 = (given.each gap.0 early.0 early.2).1 in
                      absurd (omega (arith, ints, at ∙ gap.2))
                  | inr past ↦ absurd (omega (arith, past.0, gap.1, some.1))
                ]
          ]
      | inr past ↦ stray.2 (given.no_more place past.0 stray.1)
    ]

pub not_stray_bit : (hands : List (List ℕ)) → AreOfCards hands → HaveStrayBit hands → ⊥
not_stray_bit hands of stray = stray.2 (of stray.0 stray.1)

-- ---- the position is the only one
same_trump : (one other : Trump) → denomination_number one ≡ denomination_number other → one ≡ other
same_trump trump.Nt trump.Nt e = refl
same_trump (trump.Suit s) (trump.Suit t) e = ap (λ x. trump.Suit x) (same_from_suit_numbers s t (omega (arith, ints, e)))
same_trump trump.Nt (trump.Suit t) e = absurd (omega (arith, ints, e, suit_number-lt t))
same_trump (trump.Suit s) trump.Nt e = absurd (omega (arith, ints, e, suit_number-lt s))

same_leader : (one other : Seat) → pos (seat_number one) ≡ pos (seat_number other) → one ≡ other
same_leader one other e = same_from_seat_numbers one other (omega (arith, ints, e))

same_option : (one other : Option Seat) → ((seat : Seat) → one ≡ Some seat → other ≡ Some seat) → ((seat : Seat) → other ≡ Some seat → one ≡ Some seat) → one ≡ other
same_option None None f g = refl
same_option (Some s) other f g = sym (f s refl)
same_option None (Some s) f g = g s refl

-- two layouts with the same holders are one
pub same_deal : (one other : Deal) → IsLayout one → IsLayout other → ((card : Card) (seat : Seat) → (holder_of one card ≡ Some seat) ↔ (holder_of other card ≡ Some seat)) → one ≡ other
same_deal one other a b same =
    ext_get_or None one other (a.whole_pack ∙ sym b.whole_pack)
    (λ i h.
    let number : card_number (card_at i) ≡ i = card_number-card_at i (omega (arith, h, a.whole_pack)) in
    let at : holder_of one (card_at i) ≡ holder_of other (card_at i) =
    same_option _ _ (λ seat. (same (card_at i) seat).0) (λ seat. (same (card_at i) seat).1) in
    subst (λ n. get_or one n None ≡ get_or other n None) number at)

-- the parts of a position by those of a reading
pub record IsSamePlay (reading : Reading) (position : Position) : Type 0 where
  pub leader : position.opening.leader ≡ reading.start.leader
  pub trump : position.opening.trump ≡ reading.start.trump
  pub trick : length reading.trick.items ≡ reading.played → position.history ≡ reading.trick.items

pub same_play : (board : BoardDeal) (ask : Ask) (reading : Reading) (position : Position) → IsReading board ask reading → IsPositionOf board position → IsSamePlay reading position
same_play board ask reading position read is = record {
  leader = same_leader _ _ (is.leader_is ∙ sym read.leader_is);
  trump = same_trump _ _ (is.trump_is ∙ sym read.trump_is);
  trick = λ all. same_cards board position.history reading.trick.items (is.trick_is.size ∙ (sym read.size ∙ sym all)) is.trick_is.each read.each;
}

-- a card of the trick has rank 0
pub lacks_card : (board : BoardDeal) (ask : Ask) (reading : Reading) → IsReading board ask reading → length reading.trick.items < reading.played → (position : Position) → IsPositionOf board position → ⊥
lacks_card board ask reading read less position is =
    let place = length reading.trick.items in
    let within : place < length position.history = omega (arith, less, read.size, is.trick_is.size) in
    elim (slice_get_cases position.history place).1 [
      | inl some ↦
          let at : pos (rank_number some.0.rank + 2) ≡ rank_given board place = (is.trick_is.each place some.0 some.2).1 in
          absurd (omega (arith, ints, at ∙ read.no_more place (omega arith) less))
      | inr past ↦ absurd (omega (arith, past.0, within))
    ]

-- ---- the layout
-- a bit of the words with the trick's cards put back
back_bit : (board : BoardDeal) (ask : Ask) (reading : Reading) (back : List ℕ) → IsReading board ask reading → ArePutBack reading.words reading.start.leader reading.trick.items back
    → (card : Card) (seat : Seat) → words.HasBit back seat card ↔ (HasCard board.remain_cards seat card ⊎ IsPlayedBy reading.start.leader reading.trick.items seat card)
back_bit board ask reading back read put card seat =
    let same : bit_at (words.word_of reading.words seat) (card_number card) ≡ bit_at (words.word_of (words_of board.remain_cards) seat) (card_number card) =
    ap (λ (w : List ℕ). bit_at (words.word_of w seat) (card_number card)) read.words_are in
    let bit = seat_bit board.remain_cards read.of_cards seat card in (
      λ h. elim ((put.bits card seat).0 h) [ inl old ↦ inl (sym bit ∙ (sym same ∙ old)) | inr p ↦ inr p ],
      λ h. (put.bits card seat).1 (elim h [ inl old ↦ inl (same ∙ (bit ∙ old)) | inr p ↦ inr p ]),
    )

pub layout_before : (board : BoardDeal) (ask : Ask) (reading : Reading) (back : List ℕ) (deal : Deal) → IsReading board ask reading → ArePutBack reading.words reading.start.leader reading.trick.items back → from.IsLayoutOf back deal
    → IsLayoutBefore board.remain_cards reading.start.leader reading.trick.items deal
layout_before board ask reading back deal read put is = record {
  of_cards = read.of_cards;
  holders = λ card seat. (
    λ h. (back_bit board ask reading back read put card seat).0 (is.deals.no_others card seat h),
    λ h. is.deals.held card seat ((back_bit board ask reading back read put card seat).1 h),
  );
  gone = λ card one other p h.
      let same : bit_at (words.word_of reading.words other) (card_number card) ≡ bit_at (words.word_of (words_of board.remain_cards) other) (card_number card) =
      ap (λ (w : List ℕ). bit_at (words.word_of w other) (card_number card)) read.words_are in
      read.gone card (contains_from_slice_get reading.trick.items card p.0 p.1) other (same ∙ (seat_bit board.remain_cards read.of_cards other card ∙ h));
  layout = is.layout;
}

-- the sizes of the hands with the trick's cards put back
back_size : (board : BoardDeal) (ask : Ask) (reading : Reading) (back : List ℕ) → IsReading board ask reading → ArePutBack reading.words reading.start.leader reading.trick.items back → length reading.trick.items ≡ reading.played
    → (seat : Seat) → words.word_size back seat ≡ words.word_size (words_of board.remain_cards) seat + cond {A = ℕ} (ltb (place_of reading.start.leader seat) (trick_size (cards_in (words_of board.remain_cards)))) 1 0
back_size board ask reading back read put all seat =
    let size : length reading.trick.items ≡ trick_size (cards_in (words_of board.remain_cards)) = all ∙ read.size in
    put.sizes seat
    ∙ (ap (λ (w : List ℕ). words.word_size w seat + cond {A = ℕ} (ltb (place_of reading.start.leader seat) (length reading.trick.items)) 1 0) read.words_are
    ∙ ap (λ (n : ℕ). words.word_size (words_of board.remain_cards) seat + cond {A = ℕ} (ltb (place_of reading.start.leader seat) n) 1 0) size)

back_is_before : (board : BoardDeal) (ask : Ask) (reading : Reading) (back : List ℕ) → IsReading board ask reading → ArePutBack reading.words reading.start.leader reading.trick.items back → length reading.trick.items ≡ reading.played
    → (seat : Seat) → words.word_size back seat ≡ size_before board seat
back_is_before board ask reading back read put all seat =
    back_size board ask reading back read put all seat
    ∙ ap (λ (z : ℤ). size_with (words_of board.remain_cards) z (trick_size_of board) seat) read.leader_is

not_missized : (board : BoardDeal) (ask : Ask) (reading : Reading) (back : List ℕ) → IsReading board ask reading → ArePutBack reading.words reading.start.leader reading.trick.items back → length reading.trick.items ≡ reading.played
    → words.AreMissized back → ⊥
not_missized board ask reading back read put all missized =
    let is = back_is_before board ask reading back read put all in
    let equal : (seat : Seat) → words.word_size back seat ≡ words.word_size back North = λ seat. is seat ∙ (read.equal seat ∙ sym (is North)) in
    let within = sizes_within (words_of board.remain_cards) back reading.start.leader read.some (back_size board ask reading back read put all) equal in
    elim missized [
      | inl none ↦ absurd (omega (arith, none, within.0))
      | inr more ↦ elim more [
        | inl many ↦ absurd (omega (arith, many, within.1))
        | inr unequal ↦ unequal.1 (equal unequal.0)
      ]
    ]

-- the layout of a position has the holders of the words
pub position_holds : (board : BoardDeal) (ask : Ask) (reading : Reading) (back : List ℕ) (position : Position) → IsReading board ask reading → ArePutBack reading.words reading.start.leader reading.trick.items back → length reading.trick.items ≡ reading.played → IsPositionOf board position
    → (card : Card) (seat : Seat) → (holder_of position.opening.deal card ≡ Some seat) ↔ words.HasBit back seat card
position_holds board ask reading back position read put all is card seat =
    let same = same_play board ask reading position read is in
    let P : Seat → Type 0 = λ s. (holder_of position.opening.deal card ≡ Some seat) ↔ (HasCard board.remain_cards seat card ⊎ IsPlayedBy s position.history seat card) in
    let Q : List Card → Type 0 = λ xs. (holder_of position.opening.deal card ≡ Some seat) ↔ (HasCard board.remain_cards seat card ⊎ IsPlayedBy reading.start.leader xs seat card) in
    let holds : Q reading.trick.items = subst Q (same.trick all) (subst P same.leader (is.layout_is.holders card seat)) in
    let bit = back_bit board ask reading back read put card seat in
    (λ h. bit.1 (holds.0 h), λ h. holds.1 (bit.0 h))

-- the words are no layout
pub no_layout : (board : BoardDeal) (ask : Ask) (reading : Reading) (back : List ℕ) (fault : LayoutFault) → IsReading board ask reading → ArePutBack reading.words reading.start.leader reading.trick.items back → length reading.trick.items ≡ reading.played
    → words.HaveCardsAlone reading.words → from.MeetsHands back (Err fault) → (position : Position) → IsPositionOf board position → ⊥
no_layout board ask reading back StrayBit read put all alone stray position is = absurd (omega (arith, stray.1, put.alone alone stray.0))
no_layout board ask reading back CardTwice read put all alone met position is =
    let twice = met.1 in
    let holds = position_holds board ask reading back position read put all is twice.card in
    twice.apart (same_Some twice.one twice.other (sym ((holds twice.one).1 twice.in_one) ∙ (holds twice.other).1 twice.in_other))
no_layout board ask reading back HandSize read put all alone met position is = not_missized board ask reading back read put all met.2

-- ---- the play
-- each card of a legal history may be played
pub legal_at : (opening : Opening) (history cards : List Card) (i : ℕ) (other : Card) → i < length cards → IsLegalAfter opening history cards → CanPlay opening (history ++ take i cards) (get_or cards i other)
legal_at opening history [] i other less legal = absurd (omega (arith, less))
legal_at opening history (card ∷ cards) zero other less legal = rw append-nil legal.0
legal_at opening history (card ∷ cards) (suc i) other less legal =
    rw append_assoc at (legal_at opening (history ++ card ∷ []) cards i other (omega (arith, less)) legal.1)

pub refused : (position : Position) (opening : Opening) (cards : List Card) (i : ℕ) (other : Card) (fault : TrickFault) → IsLayout opening.deal → position.opening ≡ opening → position.history ≡ take i cards → i < length cards → length cards ≤ 3
    → TakesOrRefuses position (get_or cards i other) (Err fault) → IsLegalHistory opening cards → ⊥
refused position opening cards i other fault layout e f less few met legal =
    let can' : CanPlay opening (take i cards) (get_or cards i other) = legal_at opening [] cards i other less legal in
    let P : Opening → Type 0 = λ o. CanPlay o (take i cards) (get_or cards i other) in
    let Q : List Card → Type 0 = λ h. CanPlay position.opening h (get_or cards i other) in
    let can : CanPlay position.opening position.history (get_or cards i other) = subst Q (sym f) (subst P (sym e) can') in
    let short : length position.history < 3 = omega (arith, ap length f, length-take i cards, less, few) in
    let some : 1 ≤ size_of position.opening.deal = subst (λ (o : Opening). 1 ≤ size_of o.deal) (sym e) layout.some_cards in
    elim fault as (λ f. TakesOrRefuses position (get_or cards i other) (Err f) → ⊥) [
      | Whole ↦ λ met. absurd (omega (arith, met, short))
      | Play fault ↦ elim fault as (λ f. TakesOrRefuses position (get_or cards i other) (Err (Play f)) → ⊥) [
        | NotHeld ↦ λ met. met.1.1 can.held
        | MustFollow ↦ λ met. met.1.1.other_suit (can.follows met.1.1.led met.1.1.is_led met.1.1.can_follow)
        | Over ↦ λ met. absurd (omega (arith, met.1, short, some))
      ]
    ]
    met

-- the opening of a position is that of the layout
pub same_opening : (board : BoardDeal) (ask : Ask) (reading : Reading) (back : List ℕ) (deal : Deal) (position : Position) → IsReading board ask reading → ArePutBack reading.words reading.start.leader reading.trick.items back → length reading.trick.items ≡ reading.played → from.IsLayoutOf back deal → IsPositionOf board position
    → position.opening ≡ opening_with deal reading.start
same_opening board ask reading back deal position read put all is at =
    let same = same_play board ask reading position read at in
    let deals : position.opening.deal ≡ deal =
    same_deal position.opening.deal deal at.layout_is.layout is.layout
    (λ card seat.
    let holds = position_holds board ask reading back position read put all at card seat in
    (λ h. is.deals.held card seat (holds.0 h), λ h. holds.1 (is.deals.no_others card seat h))) in
    let O : Deal → Opening = λ d. record { deal = d; leader = position.opening.leader; trump = position.opening.trump } in
    let L : Seat → Opening = λ l. record { deal = deal; leader = l; trump = position.opening.trump } in
    let T : Trump → Opening = λ t. record { deal = deal; leader = reading.start.leader; trump = t } in
    ap O deals ∙ (ap L same.leader ∙ ap T same.trump)

-- the play is refused
pub no_play : (board : BoardDeal) (ask : Ask) (reading : Reading) (back : List ℕ) (deal : Deal) → IsReading board ask reading → ArePutBack reading.words reading.start.leader reading.trick.items back → length reading.trick.items ≡ reading.played → from.IsLayoutOf back deal
    → (IsLegalHistory (opening_with deal reading.start) reading.trick.items → ⊥) → (position : Position) → IsPositionOf board position → ⊥
no_play board ask reading back deal read put all is not position at =
    let same = same_play board ask reading position read at in
    let P : Opening → Type 0 = λ o. IsLegalHistory o position.history in
    let Q : List Card → Type 0 = λ h. IsLegalHistory (opening_with deal reading.start) h in
    not (subst Q (same.trick all) (subst P (same_opening board ask reading back deal position read put all is at) at.legal))

-- the position that is read
pub is_position : (board : BoardDeal) (ask : Ask) (reading : Reading) (back : List ℕ) (deal : Deal) (position : Position) → IsReading board ask reading → ArePutBack reading.words reading.start.leader reading.trick.items back → length reading.trick.items ≡ reading.played → from.IsLayoutOf back deal
    → IsBegun deal reading.start reading.trick.items position → IsPositionOf board position
is_position board ask reading back deal position read put all is begun =
    let layout = layout_before board ask reading back deal read put is in
    let P : Opening → Type 0 = λ o. IsLayoutBefore board.remain_cards o.leader reading.trick.items o.deal in
    let Q : List Card → Type 0 = λ h. IsLayoutBefore board.remain_cards position.opening.leader h position.opening.deal in
    let T : List Card → Type 0 = λ h. IsCurrentTrick board h in
    record {
      leader_is = ap (λ (o : Opening). pos (seat_number o.leader)) begun.opening ∙ read.leader_is;
      trump_is = ap (λ (o : Opening). denomination_number o.trump) begun.opening ∙ read.trump_is;
      trick_is = subst T (sym begun.history) (record { size = all ∙ read.size; each = read.each });
      layout_is = subst Q (sym begun.history) (subst P (sym begun.opening) layout);
      legal = begun.legal;
    }
