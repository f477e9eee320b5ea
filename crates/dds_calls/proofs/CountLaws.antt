-- The numbers of cards of a board.
use Rattle.std.proofs.Common.{◌≡◌, ℕ, zero, suc, ◌+◌, ◌-◌, ◌*◌, ◌%◌, ◌<◌, ◌≤◌, Bool, false, cond, eqb, ltb, List}
use Rattle.std.proofs.Common.{None, Some, ℤ, refl, sym, ◌∙◌, ap, subst, arith, slice_index}
use Rattle.std.proofs.lemmas.Bool.{eq-eqb, ne_eqb}
use Rattle.std.proofs.lemmas.Option.{none-some}
use Rattle.std.specs.Int.{bit_at}
use Rattle.cards.specs.declared.seats.Seat.{Seat}
use Rattle.cards.specs.declared.seats.Seat.TheVariants.{North, East, South, West}
use Rattle.cards.specs.declared.pack.Card.{Card}
use Rattle.cards.specs.Pack.{card_number}
use Rattle.cards.specs.Seats.{place_of}
use Rattle.cards.specs.Hands.{HasBit, holder_by_bits, holder_by_words, word_size}
use Rattle.dds_calls.specs.declared.board_shapes.BoardDeal.{BoardDeal}
use Rattle.dds_calls.specs.Hands.{AreSomeCards, cards_in, words_of}
use Rattle.dds_calls.specs.BoardPositions.{size_with, trick_size}
use Rattle.dds_calls.specs.Boards.{cards_left, size_before}

-- the sizes by the words of the board
pub size_before-is : (board : BoardDeal) (words : List ℕ) (first : ℤ) (count : ℕ) (seat : Seat) → words ≡ words_of board.remain_cards → first ≡ board.first → count ≡ cards_left board → size_with words first ((52 - count) % 4) seat ≡ size_before board seat
size_before-is board words first count seat e f g =
    ap (λ (w : List ℕ). size_with w first ((52 - count) % 4) seat) e
    ∙ (ap (λ (z : ℤ). size_with (words_of board.remain_cards) z ((52 - count) % 4) seat) f
    ∙ ap (λ (n : ℕ). size_with (words_of board.remain_cards) board.first ((52 - n) % 4) seat) g)

-- a card that no hand has
no_holder : (a b c d : ℕ) → holder_by_bits a b c d ≡ None → (a ≡ 1 → ⊥) × (b ≡ 1 → ⊥) × (c ≡ 1 → ⊥) × (d ≡ 1 → ⊥)
no_holder a b c d h =
    let P : Bool → Bool → Bool → Bool → Type 0 = λ p q r s. cond p (Some North) (cond q (Some East) (cond r (Some South) (cond s (Some West) None))) ≡ None in
    let in_a : a ≡ 1 → ⊥ = λ e. none-some North (sym (subst (λ p. P p (eqb b 1) (eqb c 1) (eqb d 1)) (eq-eqb a 1 e) h)) in
    let h1 : P false (eqb b 1) (eqb c 1) (eqb d 1) = subst (λ p. P p (eqb b 1) (eqb c 1) (eqb d 1)) (ne_eqb a 1 in_a) h in
    let in_b : b ≡ 1 → ⊥ = λ e. none-some East (sym (subst (λ p. P false p (eqb c 1) (eqb d 1)) (eq-eqb b 1 e) h1)) in
    let h2 : P false false (eqb c 1) (eqb d 1) = subst (λ p. P false p (eqb c 1) (eqb d 1)) (ne_eqb b 1 in_b) h1 in
    let in_c : c ≡ 1 → ⊥ = λ e. none-some South (sym (subst (λ p. P false false p (eqb d 1)) (eq-eqb c 1 e) h2)) in
    let h3 : P false false false (eqb d 1) = subst (λ p. P false false p (eqb d 1)) (ne_eqb c 1 in_c) h2 in
    let in_d : d ≡ 1 → ⊥ = λ e. none-some West (sym (subst (λ p. P false false false p) (eq-eqb d 1 e) h3)) in
    (in_a, in_b, in_c, in_d)

not_held : (words : List ℕ) (n : ℕ) → holder_by_words words n ≡ None → (card : Card) → n ≡ card_number card → (seat : Seat) → HasBit words seat card → ⊥
not_held words n none card e North h = (no_holder (bit_at (slice_index words 0) n) (bit_at (slice_index words 1) n) (bit_at (slice_index words 2) n) (bit_at (slice_index words 3) n) none).0 (ap (bit_at (slice_index words 0)) e ∙ h)
not_held words n none card e East h = (no_holder (bit_at (slice_index words 0) n) (bit_at (slice_index words 1) n) (bit_at (slice_index words 2) n) (bit_at (slice_index words 3) n) none).1 (ap (bit_at (slice_index words 1)) e ∙ h)
not_held words n none card e South h = (no_holder (bit_at (slice_index words 0) n) (bit_at (slice_index words 1) n) (bit_at (slice_index words 2) n) (bit_at (slice_index words 3) n) none).2 (ap (bit_at (slice_index words 2)) e ∙ h)
not_held words n none card e West h = (no_holder (bit_at (slice_index words 0) n) (bit_at (slice_index words 1) n) (bit_at (slice_index words 2) n) (bit_at (slice_index words 3) n) none).3 (ap (bit_at (slice_index words 3)) e ∙ h)

pub none_held : (words : List ℕ) (n : ℕ) (one other : Card) → n ≡ card_number one → one ≡ other → holder_by_words words n ≡ None → (seat : Seat) → HasBit words seat other → ⊥
none_held words n one other e same none seat h = not_held words n none other (e ∙ ap (λ (x : Card). card_number x) same) seat h

-- the seats that have played to a trick are as many as its cards
pub played_seats : (leader : Seat) (k : ℕ) → k < 4 →
    cond {A = ℕ} (ltb (place_of leader North) k) 1 0 + cond {A = ℕ} (ltb (place_of leader East) k) 1 0
    + cond {A = ℕ} (ltb (place_of leader South) k) 1 0 + cond {A = ℕ} (ltb (place_of leader West) k) 1 0 ≡ k
played_seats North zero h = refl
played_seats North (suc zero) h = refl
played_seats North (suc (suc zero)) h = refl
played_seats North (suc (suc (suc zero))) h = refl
played_seats East zero h = refl
played_seats East (suc zero) h = refl
played_seats East (suc (suc zero)) h = refl
played_seats East (suc (suc (suc zero))) h = refl
played_seats South zero h = refl
played_seats South (suc zero) h = refl
played_seats South (suc (suc zero)) h = refl
played_seats South (suc (suc (suc zero))) h = refl
played_seats West zero h = refl
played_seats West (suc zero) h = refl
played_seats West (suc (suc zero)) h = refl
played_seats West (suc (suc (suc zero))) h = refl
played_seats _ _ h = absurd (omega arith)

-- hands that had one size had 1 to 13 cards
pub sizes_within : (words back : List ℕ) (leader : Seat) → AreSomeCards words
    → ((seat : Seat) → word_size back seat ≡ word_size words seat + cond (ltb (place_of leader seat) (trick_size (cards_in words))) 1 0)
    → ((seat : Seat) → word_size back seat ≡ word_size back North)
    → (1 ≤ word_size back North) × (word_size back North ≤ 13)
sizes_within words back leader some sizes equal =
    let k = trick_size (cards_in words) in
    let few : k < 4 = omega arith in
    let all : 4 * word_size back North ≡ cards_in words + k =
    omega (arith, played_seats leader k few, sizes North, sizes East, sizes South, sizes West, equal East, equal South, equal West) in
    (omega (arith, all, some.0, some.1), omega (arith, all, some.0, some.1))
