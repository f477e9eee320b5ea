-- The winner of a trick is the seat of its highest trump, or else of the highest card of the suit led, and no other.
use Rattle.std.proofs.Common.{◌≡◌, ℕ, zero, suc, ◌+◌, ◌<◌, ◌≤◌, max, Bool, true, false, cond, eqb, refl, sym, ◌∙◌, ap, arith, inl, inr, ◌||◌}
use Rattle.std.proofs.lemmas.Bool.{false≢true, eqb-true, eqb-false, eq-eqb, cases_Bool, or_cases}
use Rattle.cards.specs.declared.suits.Suit.{Suit}
use Rattle.cards.specs.declared.suits.Trump.{Trump}
use Rattle.cards.specs.declared.suits.Trump.TheVariants as trump
use Rattle.cards.specs.declared.pack.Card.{Card}
use Rattle.cards.specs.Pack.{suit_number, rank_number, card_of}
use Rattle.cards.proofs.PackLaws.{same_from_suit_numbers, same_from_rank_numbers}
use Rattle.play_rules.specs.Tricks.{Trick, card_in_place, IsHighest, HasSuit, WinsAt, AreFourCards}
use Rattle.play_rules.specs.Winners.{is_of, deciding_suit, height, highest_place, winning_place}
use Rattle.play_rules.specs.Laws.{WinsByHighestCard}

-- the height in a place
abbrev height_at : ℕ → ℕ → ℕ → ℕ → ℕ → ℕ
height_at zero a b c d = a
height_at (suc zero) a b c d = b
height_at (suc (suc zero)) a b c d = c
height_at (suc (suc (suc n))) a b c d = d

height_at-le : (place a b c d : ℕ) → height_at place a b c d ≤ max (max (max a b) c) d
height_at-le zero a b c d = omega arith
height_at-le (suc zero) a b c d = omega arith
height_at-le (suc (suc zero)) a b c d = omega arith
height_at-le (suc (suc (suc n))) a b c d = omega arith

greatest_in_place : (a b c d g : ℕ) → g ≡ max (max (max a b) c) d → height_at (cond (eqb a g) 0 (cond (eqb b g) 1 (cond (eqb c g) 2 3))) a b c d ≡ g
greatest_in_place a b c d g e =
    elim (cases_Bool (eqb a g)) [
      | inl h ↦ rw h (eqb-true a g h)
      | inr h ↦ rw h (elim (cases_Bool (eqb b g)) [
        | inl i ↦ rw i (eqb-true b g i)
        | inr i ↦ rw i (elim (cases_Bool (eqb c g)) [
          | inl j ↦ rw j (eqb-true c g j)
          | inr j ↦ rw j (let na = eqb-false a g h in let nb = eqb-false b g i in let nc = eqb-false c g j in omega arith)
        ])
      ])
    ]

highest_place-is : (a b c d : ℕ) → height_at (highest_place a b c d) a b c d ≡ max (max (max a b) c) d
highest_place-is a b c d = greatest_in_place a b c d (max (max (max a b) c) d) refl

highest_place-le : (a b c d g : ℕ) → cond (eqb a g) 0 (cond (eqb b g) 1 (cond (eqb c g) 2 3)) ≤ 3
highest_place-le a b c d g =
    elim (cases_Bool (eqb a g)) [
      | inl h ↦ rw h (omega arith)
      | inr h ↦ rw h (elim (cases_Bool (eqb b g)) [
        | inl i ↦ rw i (omega arith)
        | inr i ↦ rw i (elim (cases_Bool (eqb c g)) [ inl j ↦ rw j (omega arith) | inr j ↦ rw j (omega arith) ])
      ])
    ]

pub winning_place-le : (trump : Trump) (trick : Trick) → winning_place trump trick ≤ 3
winning_place-le trump trick =
    let s = deciding_suit trump trick in
    highest_place-le (height s trick.first) (height s trick.second) (height s trick.third) (height s trick.fourth) _

height_of_place : (suit : Suit) (trick : Trick) (place : ℕ) → height_at place (height suit trick.first) (height suit trick.second) (height suit trick.third) (height suit trick.fourth) ≡ height suit (card_in_place trick place)
height_of_place suit trick zero = refl
height_of_place suit trick (suc zero) = refl
height_of_place suit trick (suc (suc zero)) = refl
height_of_place suit trick (suc (suc (suc n))) = refl

is_of-true : (suit : Suit) (card : Card) → card.suit ≡ suit → is_of suit card ≡ true
is_of-true suit card h = eq-eqb _ _ (ap suit_number h)

suit-from_is_of : (suit : Suit) (card : Card) → is_of suit card ≡ true → card.suit ≡ suit
suit-from_is_of suit card h = same_from_suit_numbers card.suit suit (eqb-true _ _ h)

height-of_suit : (suit : Suit) (card : Card) → card.suit ≡ suit → height suit card ≡ rank_number card.rank + 1
height-of_suit suit card h = rw (is_of-true suit card h) refl

suit-from_height : (suit : Suit) (card : Card) → 0 < height suit card → card.suit ≡ suit
suit-from_height suit card h = elim (cases_Bool (is_of suit card)) [ inl t ↦ suit-from_is_of suit card t | inr f ↦ absurd (let h' : 0 < 0 = rw f at h in omega arith) ]

-- in a suit that was played to the trick the place of the greatest height has the highest card
IsHighest-from_place : (trick : Trick) (suit : Suit) → HasSuit trick suit → IsHighest trick suit (highest_place (height suit trick.first) (height suit trick.second) (height suit trick.third) (height suit trick.fourth))
IsHighest-from_place trick suit has =
    let a = height suit trick.first in
    let b = height suit trick.second in
    let c = height suit trick.third in
    let d = height suit trick.fourth in
    let place = highest_place a b c d in
    let greatest : (other : ℕ) → height suit (card_in_place trick other) ≤ height suit (card_in_place trick place) =
    λ other. omega (arith, height_of_place suit trick other, height_of_place suit trick place, height_at-le other a b c d, highest_place-is a b c d) in
    let some : 0 < height suit (card_in_place trick place) =
    omega (arith, greatest has.0, height-of_suit suit (card_in_place trick has.0) has.1) in
    let of_suit = suit-from_height suit (card_in_place trick place) some in
    record {
      of_suit = of_suit;
      highest = λ other h. omega (arith, greatest other, height-of_suit suit (card_in_place trick other) h, height-of_suit suit (card_in_place trick place) of_suit);
    }

no_card : (suit : Suit) (trick : Trick) → is_of suit trick.first ≡ false → is_of suit trick.second ≡ false → is_of suit trick.third ≡ false → is_of suit trick.fourth ≡ false → HasSuit trick suit → ⊥
no_card suit trick a b c d (place, h) = go place h
  where
    go : (place : ℕ) → (card_in_place trick place).suit ≡ suit → ⊥
    go zero h = false≢true (sym a ∙ is_of-true suit trick.first h)
    go (suc zero) h = false≢true (sym b ∙ is_of-true suit trick.second h)
    go (suc (suc zero)) h = false≢true (sym c ∙ is_of-true suit trick.third h)
    go (suc (suc (suc n))) h = false≢true (sym d ∙ is_of-true suit trick.fourth h)

or_none : (x y : Bool) → (x || y) ≡ false → (x ≡ false) × (y ≡ false)
or_none false y h = (refl, h)
or_none true y h = absurd (false≢true (sym h))

some_card : (suit : Suit) (trick : Trick) → (is_of suit trick.first || (is_of suit trick.second || (is_of suit trick.third || is_of suit trick.fourth))) ≡ true → HasSuit trick suit
some_card suit trick h =
    elim (or_cases _ _ h) [
      | inl a ↦ (0, suit-from_is_of suit trick.first a)
      | inr r ↦ elim (or_cases _ _ r) [
        | inl b ↦ (1, suit-from_is_of suit trick.second b)
        | inr r' ↦ elim (or_cases _ _ r') [
          | inl c ↦ (2, suit-from_is_of suit trick.third c)
          | inr d ↦ (3, suit-from_is_of suit trick.fourth d)
        ]
      ]
    ]

-- the suit that decides a trick was played to it
deciding_suit-played : (trump : Trump) (trick : Trick) → HasSuit trick (deciding_suit trump trick)
deciding_suit-played trump.Nt trick = (0, refl)
deciding_suit-played (trump.Suit suit) trick =
    elim (cases_Bool (is_of suit trick.first || (is_of suit trick.second || (is_of suit trick.third || is_of suit trick.fourth)))) [
      | inl e ↦ rw e (some_card suit trick e)
      | inr e ↦ rw e (0, refl)
    ]

pub wins_by_highest_card : WinsByHighestCard
wins_by_highest_card trump trick = (winning_place-le trump trick, IsHighest-from_place trick (deciding_suit trump trick) (deciding_suit-played trump trick))

-- two highest cards of one suit are one card
same_highest : (trick : Trick) (suit : Suit) (one other : ℕ) → IsHighest trick suit one → IsHighest trick suit other → card_in_place trick one ≡ card_in_place trick other
same_highest trick suit one other a b =
    let c = card_in_place trick one in
    let e = card_in_place trick other in
    let suits : c.suit ≡ e.suit = a.of_suit ∙ sym b.of_suit in
    let ranks : c.rank ≡ e.rank = same_from_rank_numbers c.rank e.rank (omega (arith, a.highest other b.of_suit, b.highest one a.of_suit)) in
    ap (λ s. card_of s c.rank) suits ∙ ap (card_of e.suit) ranks

-- the winning place wins
pub winning_place-wins : (trump : Trump) (trick : Trick) → WinsAt trump trick (winning_place trump trick)
winning_place-wins trump.Nt trick = IsHighest-from_place trick trick.first.suit (0, refl)
winning_place-wins (trump.Suit suit) trick =
    let Goal : Suit → Type 0 = λ s. WinsAt (trump.Suit suit) trick (highest_place (height s trick.first) (height s trick.second) (height s trick.third) (height s trick.fourth)) in
    let any = is_of suit trick.first || (is_of suit trick.second || (is_of suit trick.third || is_of suit trick.fourth)) in
    let at : (b : Bool) → any ≡ b → Goal (cond b suit trick.first.suit) = λ b e. elim b as (λ b. any ≡ b → Goal (cond b suit trick.first.suit)) [
      | true ↦ λ e. let h = some_card suit trick e in (λ _. IsHighest-from_place trick suit h, λ n. absurd (n h))
      | false ↦ λ e.
          let parts = or_none _ _ e in
          let parts' = or_none _ _ parts.1 in
          let parts'' = or_none _ _ parts'.1 in
          (λ h. absurd (no_card suit trick parts.0 parts'.0 parts''.0 parts''.1 h), λ _. IsHighest-from_place trick trick.first.suit (0, refl))
    ] e in
    at any refl

-- the winning place is the only one that wins, where the four cards differ
pub one_winning_place : (trump : Trump) (trick : Trick) (one other : ℕ) → AreFourCards trick → one ≤ 3 → other ≤ 3 → WinsAt trump trick one → WinsAt trump trick other → one ≡ other
one_winning_place trump.Nt trick one other apart h i a b = apart one other h i (same_highest trick trick.first.suit one other a b)
one_winning_place (trump.Suit suit) trick one other apart h i a b =
    elim (cases_Bool (is_of suit trick.first || (is_of suit trick.second || (is_of suit trick.third || is_of suit trick.fourth)))) [
      | inl e ↦ let has = some_card suit trick e in apart one other h i (same_highest trick suit one other (a.0 has) (b.0 has))
      | inr e ↦
          let parts = or_none _ _ e in
          let parts' = or_none _ _ parts.1 in
          let parts'' = or_none _ _ parts'.1 in
          let none = no_card suit trick parts.0 parts'.0 parts''.0 parts''.1 in
          apart one other h i (same_highest trick trick.first.suit one other (a.1 none) (b.1 none))
    ]
