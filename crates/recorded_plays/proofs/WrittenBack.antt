-- A written play is read back.
use Rattle.std.proofs.Common.{◌≡◌, ℕ, zero, suc, cond, ◌+◌, ◌-◌, ◌*◌, ◌/◌, ◌<◌, ◌≤◌, false, List, [], ◌∷◌, ◌++◌, length, take, map, Option, None, Some, refl, sym, ◌∙◌, ap, append_assoc, arith}
use Rattle.std.specs.List.{slice_get, flat_map}
use Rattle.std.specs.Option.{option_map}
use Rattle.std.proofs.lemmas.List.{length-take-le, take_all}
use Rattle.std.proofs.lemmas.Option.{slice_get-map, slice_get_past, slice_get_within}
use Rattle.cards.specs.declared.suits.Suit.{Suit}
use Rattle.cards.specs.declared.suits.Suit.TheVariants.{Spades, Hearts, Diamonds, Clubs}
use Rattle.cards.specs.declared.suits.Trump.{Trump}
use Rattle.cards.specs.declared.seats.Seat.{Seat}
use Rattle.cards.specs.declared.seats.Seat.TheVariants.{North, East, South, West}
use Rattle.cards.specs.declared.pack.Rank.{Rank}
use Rattle.cards.specs.declared.pack.Card.{Card}
use Rattle.cards.specs.Pack.{card_of}
use Rattle.cards.specs.Seats.{seat_in_place, place_of}
use Rattle.pbn_deals.specs.DealValue.{seats_from}
use Rattle.pbn_deals.proofs.DealWords.{for_each_rank}
use Rattle.play_rules.specs.History.{Opening, trick_made, trick_of, leader_after, turn_after}
use Rattle.play_rules.specs.Winners.{winner_of}
use Rattle.play_rules.specs.Legal.{seat_to_play}
use Rattle.play_rules.proofs.HistoryLaws.{seat_to_play-short}
use Rattle.recorded_plays.specs.declared.plays.Slot.{Slot}
use Rattle.recorded_plays.specs.declared.plays.Slot.TheVariants.{Played, Unknown}
use Rattle.recorded_plays.specs.Slots.{before_end, words_slots, slots_of, is_irregular, is_caret}
use Rattle.recorded_plays.specs.Follow.{slot_to_play, AreGiven, opening_of}
use Rattle.recorded_plays.specs.Written.{row, rows, word_text, written}
use Rattle.recorded_plays.specs.Laws.{WrittenIsRead}
use Rattle.recorded_plays.proofs.Walks.{get_front}
use Rattle.recorded_plays.proofs.OneReading.{Stops, same_cards, read_within, read_stops}

-- ---- words
-- what a word of a row says
abbrev slot_said : Option Card → Slot
slot_said None = Unknown
slot_said (Some card) = Played card

abbrev text_of : List (Option Card) → List ℕ
text_of words = flat_map (λ word. word_text word ++ 32 ∷ []) words

abbrev Takes : Option Card → Type 0
Takes word =
    (rest : List ℕ) → (words_slots (word_text word ++ 32 ∷ rest) ≡ slot_said word ∷ words_slots rest)
    × (before_end (word_text word ++ 32 ∷ rest) ≡ word_text word ++ 32 ∷ before_end rest)

takes_card : (suit : Suit) (rank : Rank) → Takes (Some (card_of suit rank))
takes_card Spades = for_each_rank (λ rank. Takes (Some (card_of Spades rank)))
    (λ rest. (refl, refl)) (λ rest. (refl, refl)) (λ rest. (refl, refl)) (λ rest. (refl, refl)) (λ rest. (refl, refl)) (λ rest. (refl, refl)) (λ rest. (refl, refl)) (λ rest. (refl, refl)) (λ rest. (refl, refl)) (λ rest. (refl, refl)) (λ rest. (refl, refl)) (λ rest. (refl, refl)) (λ rest. (refl, refl))
takes_card Hearts = for_each_rank (λ rank. Takes (Some (card_of Hearts rank)))
    (λ rest. (refl, refl)) (λ rest. (refl, refl)) (λ rest. (refl, refl)) (λ rest. (refl, refl)) (λ rest. (refl, refl)) (λ rest. (refl, refl)) (λ rest. (refl, refl)) (λ rest. (refl, refl)) (λ rest. (refl, refl)) (λ rest. (refl, refl)) (λ rest. (refl, refl)) (λ rest. (refl, refl)) (λ rest. (refl, refl))
takes_card Diamonds = for_each_rank (λ rank. Takes (Some (card_of Diamonds rank)))
    (λ rest. (refl, refl)) (λ rest. (refl, refl)) (λ rest. (refl, refl)) (λ rest. (refl, refl)) (λ rest. (refl, refl)) (λ rest. (refl, refl)) (λ rest. (refl, refl)) (λ rest. (refl, refl)) (λ rest. (refl, refl)) (λ rest. (refl, refl)) (λ rest. (refl, refl)) (λ rest. (refl, refl)) (λ rest. (refl, refl))
takes_card Clubs = for_each_rank (λ rank. Takes (Some (card_of Clubs rank)))
    (λ rest. (refl, refl)) (λ rest. (refl, refl)) (λ rest. (refl, refl)) (λ rest. (refl, refl)) (λ rest. (refl, refl)) (λ rest. (refl, refl)) (λ rest. (refl, refl)) (λ rest. (refl, refl)) (λ rest. (refl, refl)) (λ rest. (refl, refl)) (λ rest. (refl, refl)) (λ rest. (refl, refl)) (λ rest. (refl, refl))

takes : (word : Option Card) → Takes word
takes None rest = (refl, refl)
takes (Some card) rest = takes_card card.suit card.rank rest

slots_back : (words : List (Option Card)) → words_slots (text_of words) ≡ map slot_said words
slots_back [] = refl
slots_back (word ∷ words) =
    ap words_slots (append_assoc (word_text word) (32 ∷ []) (text_of words))
    ∙ ((takes word (text_of words)).0 ∙ ap (λ l. slot_said word ∷ l) (slots_back words))

no_sign : (words : List (Option Card)) → before_end (text_of words) ≡ text_of words
no_sign [] = refl
no_sign (word ∷ words) =
    ap before_end (append_assoc (word_text word) (32 ∷ []) (text_of words))
    ∙ ((takes word (text_of words)).1 ∙ (ap (λ l. word_text word ++ 32 ∷ l) (no_sign words)
    ∙ sym (append_assoc (word_text word) (32 ∷ []) (text_of words))))

regular : (words : List (Option Card)) → is_irregular (text_of words) ≡ false
regular words =
    ap (λ l. is_caret (slice_get (text_of words) (length l))) (no_sign words)
    ∙ ap is_caret (slice_get_past (text_of words) (length (text_of words)) (omega arith))

all_slots : (words : List (Option Card)) → slots_of (text_of words) ≡ map slot_said words
all_slots words =
    ap (λ b. cond b (take (length (words_slots (text_of words)) - 1) (words_slots (text_of words))) (words_slots (text_of words))) (regular words)
    ∙ slots_back words

-- ---- columns
column : (first seat : Seat) → slice_get (seats_from 4 first) (place_of first seat) ≡ Some seat
column North North = refl
column North East = refl
column North South = refl
column North West = refl
column East North = refl
column East East = refl
column East South = refl
column East West = refl
column South North = refl
column South East = refl
column South South = refl
column South West = refl
column West North = refl
column West East = refl
column West South = refl
column West West = refl

place : (leader : Seat) (n : ℕ) → n < 4 → place_of leader (seat_in_place leader n) ≡ n
place North zero h = refl
place North (suc zero) h = refl
place North (suc (suc zero)) h = refl
place North (suc (suc (suc zero))) h = refl
place East zero h = refl
place East (suc zero) h = refl
place East (suc (suc zero)) h = refl
place East (suc (suc (suc zero))) h = refl
place South zero h = refl
place South (suc zero) h = refl
place South (suc (suc zero)) h = refl
place South (suc (suc (suc zero))) h = refl
place West zero h = refl
place West (suc zero) h = refl
place West (suc (suc zero)) h = refl
place West (suc (suc (suc zero))) h = refl
place leader (suc (suc (suc (suc n)))) h = absurd (omega (arith, h))

in_row : (first leader : Seat) (trick : List Card) (n : ℕ) → n < 4 → slice_get (row first leader trick) (place_of first (seat_in_place leader n)) ≡ Some (slice_get trick n)
in_row first leader trick n h =
    slice_get-map (λ (seat : Seat). slice_get trick (place_of leader seat)) (seats_from 4 first) (place_of first (seat_in_place leader n))
    ∙ (ap (option_map (λ (seat : Seat). slice_get trick (place_of leader seat))) (column first (seat_in_place leader n))
    ∙ ap (λ k. Some (slice_get trick k)) (place leader n h))

abbrev flat : Option (Option Card) → Option Card
flat None = None
flat (Some word) = word

abbrev turn_place : Seat → Trump → Seat → List Card → ℕ → ℕ
turn_place first trump leader cards n = 4 * (n / 4) + place_of first (turn_after trump leader (take n cards))

abbrev Finds : Seat → Trump → Seat → List Card → ℕ → Type 0
Finds first trump leader cards n = flat (slice_get (rows first trump leader cards) (turn_place first trump leader cards n)) ≡ slice_get cards n

-- the place of a card of the first trick
short_place : (opening : Opening) (first : Seat) (cards : List Card) (n : ℕ) → n < 4 → n ≤ length cards → turn_place first opening.trump opening.leader cards n ≡ place_of first (seat_in_place opening.leader n)
short_place opening first cards n small within =
    let len : length (take n cards) ≡ n = length-take-le n cards within in
    let none : 4 * (n / 4) ≡ 0 = omega (arith, small) in
    let turn = seat_to_play-short opening (take n cards) (omega (arith, len, small)) ∙ ap (seat_in_place opening.leader) len in
    let zero_more : (k : ℕ) → 0 + k ≡ k = λ k. omega arith in
    ap (λ k. k + place_of first (turn_after opening.trump opening.leader (take n cards))) none
    ∙ (zero_more (place_of first (turn_after opening.trump opening.leader (take n cards))) ∙ ap (place_of first) turn)

some_deal : List (Option Seat)
some_deal = []

finds_short : (first : Seat) (trump : Trump) (leader : Seat) (trick : List Card) (n : ℕ) → n < 4 → n ≤ length trick → flat (slice_get (row first leader trick) (turn_place first trump leader trick n)) ≡ slice_get trick n
finds_short first trump leader trick n small within =
    ap (λ k. flat (slice_get (row first leader trick) k)) (short_place (record { deal = some_deal; leader = leader; trump = trump }) first trick n small within)
    ∙ ap flat (in_row first leader trick n small)

place_small : (first seat : Seat) → place_of first seat < 4
place_small first seat = omega arith

first_four : (first : Seat) (trump : Trump) (leader : Seat) (a b c d : Card) (rest : List Card) (n : ℕ) → n < 4 → Finds first trump leader (a ∷ b ∷ c ∷ d ∷ rest) n
first_four first trump leader a b c d rest n small =
    let trick : List Card = a ∷ b ∷ c ∷ d ∷ [] in
    let others = rows first trump (winner_of trump leader (trick_made a b c d)) rest in
    let at = place_of first (seat_in_place leader n) in
    ap (λ k. flat (slice_get (row first leader trick ++ others) k)) (short_place (record { deal = some_deal; leader = leader; trump = trump }) first (a ∷ b ∷ c ∷ d ∷ rest) n small (omega (arith, small)))
    ∙ (ap flat (get_front (row first leader trick) others at (omega (arith, place_small first (seat_in_place leader n))))
    ∙ (ap flat (in_row first leader trick n small) ∙ sym (get_front trick rest n (omega (arith, small)))))

finds : (first : Seat) (trump : Trump) (leader : Seat) (cards : List Card) (n : ℕ) → n ≤ length cards → Finds first trump leader cards n
unfolding leader_after trick_of
finds first trump leader [] n h = refl
finds first trump leader (a ∷ []) n h = finds_short first trump leader (a ∷ []) n (omega (arith, h)) h
finds first trump leader (a ∷ b ∷ []) n h = finds_short first trump leader (a ∷ b ∷ []) n (omega (arith, h)) h
finds first trump leader (a ∷ b ∷ c ∷ []) n h = finds_short first trump leader (a ∷ b ∷ c ∷ []) n (omega (arith, h)) h
finds first trump leader (a ∷ b ∷ c ∷ d ∷ rest) zero h = first_four first trump leader a b c d rest zero (omega arith)
finds first trump leader (a ∷ b ∷ c ∷ d ∷ rest) (suc zero) h = first_four first trump leader a b c d rest (suc zero) (omega arith)
finds first trump leader (a ∷ b ∷ c ∷ d ∷ rest) (suc (suc zero)) h = first_four first trump leader a b c d rest (suc (suc zero)) (omega arith)
finds first trump leader (a ∷ b ∷ c ∷ d ∷ rest) (suc (suc (suc zero))) h = first_four first trump leader a b c d rest (suc (suc (suc zero))) (omega arith)
finds first trump leader (a ∷ b ∷ c ∷ d ∷ rest) (suc (suc (suc (suc n)))) h =
    let winner = winner_of trump leader (trick_made a b c d) in
    let others = rows first trump winner rest in
    let later = place_of first (turn_after trump winner (take n rest)) in
    let more : 4 * (suc (suc (suc (suc n))) / 4) + later ≡ suc (suc (suc (suc (4 * (n / 4) + later)))) = omega arith in
    ap (λ k. flat (slice_get (row first leader (a ∷ b ∷ c ∷ d ∷ []) ++ others) k)) more
    ∙ finds first trump winner rest n (omega (arith, h))

-- ---- a written play
said_at : (word : Option (Option Card)) (card : Card) → flat word ≡ Some card → option_map slot_said word ≡ Some (Played card)
said_at None card is = absurd (cc)
said_at (Some None) card is = absurd (cc)
said_at (Some (Some one)) card is = ap (λ c. Some (Played c)) (let e : one ≡ card = cc in e)

not_said : (word : Option (Option Card)) (card : Card) → flat word ≡ None → option_map slot_said word ≡ Some (Played card) → ⊥
not_said None card none is = cc
not_said (Some None) card none is = cc
not_said (Some (Some one)) card none is = cc

module _ (first : Seat) (opening : Opening) (cards : List Card) where
  abbrev words : List (Option Card)
  words = rows first opening.trump opening.leader cards

  abbrev slots : List Slot
  slots = slots_of (written first opening cards)

  slot_at : (n : ℕ) → n ≤ length cards → slot_to_play opening first slots (take n cards) ≡ option_map slot_said (slice_get words (turn_place first opening.trump opening.leader cards n))
  slot_at n within =
      ap (λ s. slot_to_play opening first s (take n cards)) (all_slots words)
      ∙ (ap (λ k. slice_get (map slot_said words) (4 * (k / 4) + place_of first (seat_to_play opening (take n cards)))) (length-take-le n cards within)
      ∙ slice_get-map slot_said words (turn_place first opening.trump opening.leader cards n))

  written_given : AreGiven opening first slots cards
  written_given count card is =
      let within : count ≤ length cards = omega (arith, slice_get_within cards count card is) in
      slot_at count within
      ∙ said_at (slice_get words (turn_place first opening.trump opening.leader cards count)) card (finds first opening.trump opening.leader cards count within ∙ is)

  written_stops : Stops opening first slots cards
  written_stops card is can less =
      let n = length cards in
      let whole = take_all n cards (omega arith) in
      not_said (slice_get words (turn_place first opening.trump opening.leader cards n)) card
      (finds first opening.trump opening.leader cards n (omega arith) ∙ slice_get_past cards n (omega arith))
      (sym (slot_at n (omega arith)) ∙ (ap (slot_to_play opening first slots) whole ∙ is))

pub written_is_read : WrittenIsRead
written_is_read first cards play legal within h =
    let opening = opening_of play in
    let text = written first opening cards in
    same_cards opening first (slots_of text) play.cards.items cards h.given (written_given first opening cards) h.legal legal (read_within first text play h) within (read_stops first text play h) (written_stops first opening cards)
