-- The cards of the current trick among those that are given.
use Rattle.std.proofs.Common.{◌≡◌, ℕ, zero, suc, ◌+◌, ◌<◌, ◌≤◌, ◌^◌, List, [], ◌∷◌, length, take, Some, pos, sym, ap, ◌∙◌, subst, arith, inl, inr, slice_get, Contains}
use Rattle.std.proofs.lemmas.Int.{ints}
use Rattle.std.proofs.lemmas.List.{length-take}
use Rattle.std.proofs.lemmas.Option.{none-some, slice_get_cases}
use Rattle.std.specs.Int.{bit_at}
use Rattle.cards.specs.declared.seats.Seat.{Seat}
use Rattle.cards.specs.declared.seats.Seat.TheVariants.{North, East, South, West}
use Rattle.cards.specs.declared.pack.Card.{Card}
use Rattle.cards.proofs.HandLaws.{AreDisjoint-from_bits}
use Rattle.cards.specs.Pack.{card_number}
use Rattle.cards.specs.Hands as words
use Rattle.dds_calls.specs.declared.board_shapes.BoardDeal.{BoardDeal}
use Rattle.dds_calls.specs.Hands.{AreOfCards, HasCard, HaveCardTwice, words_of}
use Rattle.dds_calls.specs.BoardPositions.{AreTrickCardsHeld, IsGiven, rank_given, trick_size_of}
use Rattle.dds_calls.specs.Readings.{AreGivenTo}
use Rattle.dds_calls.proofs.HandLayouts.{seat_bit, seat_word-lt, twice_in}
use Rattle.dds_calls.proofs.Positions.{given_same}
use Rattle.dds_calls.proofs.TrickCards.{contains_from_slice_get, slice_get_from_contains, slice_get_take}

slice_get_take_in : {A : Type 0} (n : ℕ) (xs : List A) (x : A) (k : ℕ) → slice_get xs k ≡ Some x → k < n → slice_get (take n xs) k ≡ Some x
slice_get_take_in zero xs x k e h = absurd (omega (arith, h))
slice_get_take_in (suc n) [] x k e h = absurd (none-some x e)
slice_get_take_in (suc n) (a ∷ xs) x zero e h = e
slice_get_take_in (suc n) (a ∷ xs) x (suc k) e h = slice_get_take_in n xs x k e (omega (arith, h))

-- a card with a rank is among those of the trick
is_among : (board : BoardDeal) (given : List Card) (played place : ℕ) (card : Card) → AreGivenTo board 3 given → played ≤ 3 → place < played → IsGiven board place card → Contains (take played given) card
is_among board given played place card are few less is =
    elim (slice_get_cases given place).1 [
      | inl some ↦
          let P : Card → Type 0 = λ x. Contains (take played given) x in
          let same : some.0 ≡ card = given_same board place some.0 card (are.each place some.0 some.2) is in
          subst P same (contains_from_slice_get (take played given) some.0 place (slice_get_take_in played given some.0 place some.2 less))
      | inr past ↦ absurd (omega (arith, ints, is.1 ∙ are.no_more place past.0 (omega (arith, less, few))))
    ]

pub trick_size-few : (board : BoardDeal) (played : ℕ) → played ≡ trick_size_of board → played ≤ 3
trick_size-few board played e = omega (arith, e)

has_card : (hands : List (List ℕ)) (held : List ℕ) (card : Card) (seat : Seat) → AreOfCards hands → held ≡ words_of hands → words.HasBit held seat card → HasCard hands seat card
has_card hands held card seat of e h =
    sym (seat_bit hands of seat card) ∙ (sym (ap (λ (w : List ℕ). bit_at (words.word_of w seat) (card_number card)) e) ∙ h)

has_bit : (hands : List (List ℕ)) (held : List ℕ) (card : Card) (seat : Seat) → AreOfCards hands → held ≡ words_of hands → HasCard hands seat card → words.HasBit held seat card
has_bit hands held card seat of e h =
    ap (λ (w : List ℕ). bit_at (words.word_of w seat) (card_number card)) e ∙ (seat_bit hands of seat card ∙ h)

module _ (board : BoardDeal) (given trick : List Card) (played : ℕ) (held : List ℕ) (of : AreOfCards board.remain_cards) (are : AreGivenTo board 3 given) (size : played ≡ trick_size_of board) (is : trick ≡ take played given) (same : held ≡ words_of board.remain_cards) where
  pub held_now : (card : Card) × Contains trick card × (seat : Seat) × words.HasBit held seat card → AreTrickCardsHeld board
  held_now h =
      let P : List Card → Type 0 = λ xs. Contains xs h.0 in
      let at = slice_get_from_contains (take played given) h.0 (subst P is h.1) in
      let early = slice_get_take played given h.0 at.0 at.1 in
      (at.0, omega (arith, early.1, size), h.0, are.each at.0 h.0 early.0, h.2, has_card board.remain_cards held h.0 h.2 of same h.3)

  pub not_held_now : ((card : Card) → Contains trick card → (seat : Seat) → words.HasBit held seat card → ⊥) → AreTrickCardsHeld board → ⊥
  not_held_now none h =
      let P : List Card → Type 0 = λ xs. Contains xs h.2 in
      let among = is_among board given played h.0 h.2 are (trick_size-few board played size) (omega (arith, h.1, size)) h.3 in
      none h.2 (subst P (sym is) among) h.4 (has_bit board.remain_cards held h.2 h.4 of same h.5)

  pub trick_few : length trick ≤ played
  trick_few = omega (arith, ap length is, length-take played given)

  pub trick_each : (place : ℕ) (card : Card) → slice_get trick place ≡ Some card → IsGiven board place card
  trick_each place card e =
      let P : List Card → Type 0 = λ xs. slice_get xs place ≡ Some card in
      are.each place card (slice_get_take played given card place (subst P is e)).0

  pub trick_no_more : (place : ℕ) → length trick ≤ place → place < played → rank_given board place ≡ pos 0
  trick_no_more place past less =
      are.no_more place (omega (arith, ap length is, length-take played given, past, less)) (omega (arith, less, trick_size-few board played size))

  pub words_alone : words.HaveCardsAlone held
  words_alone seat =
      let P : List ℕ → Type 0 = λ w. words.word_of w seat < 2 ^ 52 in
      subst P (sym same) (seat_word-lt board.remain_cards of seat)

  pub card_twice : words.HaveCardTwice held → HaveCardTwice board.remain_cards
  card_twice twice =
      let P : List ℕ → Type 0 = λ w. words.HaveCardTwice w in
      twice_in board.remain_cards of (subst P same twice)

  pub no_card_twice : ((i : ℕ) → bit_at (words.word_of held North) i + bit_at (words.word_of held East) i + bit_at (words.word_of held South) i + bit_at (words.word_of held West) i ≤ 1) → HaveCardTwice board.remain_cards → ⊥
  no_card_twice apart twice =
      let disjoint = AreDisjoint-from_bits held apart in
      twice.apart (disjoint twice.card twice.one twice.other (has_bit board.remain_cards held twice.card twice.one of same twice.in_one) (has_bit board.remain_cards held twice.card twice.other of same twice.in_other))
