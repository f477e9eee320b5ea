-- Whether a card may be played can be decided.
use Rattle.std.proofs.Common.{◌≡◌, ℕ, zero, suc, ◌<◌, List, Option, None, Some, refl, sym, ◌∙◌, ap, arith, inl, inr, ◌⊎◌}
use Rattle.std.proofs.lemmas.Bool.{cases_Bool, cases_eq, false≢true}
use Rattle.cards.specs.declared.suits.Suit.{Suit}
use Rattle.cards.specs.declared.seats.Seat.{Seat}
use Rattle.cards.specs.declared.seats.Side.{Side}
use Rattle.cards.specs.declared.seats.Side.TheVariants.{NorthSouth, EastWest}
use Rattle.cards.specs.declared.pack.Card.{Card}
use Rattle.cards.specs.Pack.{card_of, suit_number, rank_at}
use Rattle.cards.proofs.PackLaws.{same_from_suit_numbers}
use Rattle.cards.specs.SameDeal.{is_same_seat-refl}
use Rattle.cards.proofs.HandLaws.{held-is}
use Rattle.cards.specs.Deal.{Deal, holder_of, is_held_by}
use Rattle.play_rules.specs.History.{Opening, trick_of, suit_of_first}
use Rattle.play_rules.specs.Left.{left_of}
use Rattle.play_rules.specs.Legal.{CanPlay, seat_to_play}
use Rattle.play_rules.specs.Holdings.{HoldsSuit, MayBePlayed}
use Rattle.play_rules.proofs.HoldingLaws.{no_suit_held}
use Rattle.play_rules.proofs.PositionLaws.{CanPlay-from_left, MayBePlayed-from_CanPlay}

pub decide_side : (one other : Side) → (one ≡ other) ⊎ (one ≡ other → ⊥)
decide_side NorthSouth NorthSouth = inl refl
decide_side NorthSouth EastWest = inr (λ e. cc)
decide_side EastWest NorthSouth = inr (λ e. cc)
decide_side EastWest EastWest = inl refl

decide_held : (left : Deal) (player : Seat) (card : Card) → (holder_of left card ≡ Some player) ⊎ (holder_of left card ≡ Some player → ⊥)
decide_held left player card =
    elim (cases_Bool (is_held_by player (holder_of left card))) [
      | inl t ↦ inl (held-is player (holder_of left card) t)
      | inr f ↦ inr (λ h. false≢true (sym f ∙ (ap (is_held_by player) h ∙ is_same_seat-refl player)))
    ]

-- a search among the first ranks of a suit
decide_ranks : (left : Deal) (player : Seat) (suit : Suit) (n : ℕ) → ((k : ℕ) × (holder_of left (card_of suit (rank_at k)) ≡ Some player)) ⊎ ((k : ℕ) → k < n → holder_of left (card_of suit (rank_at k)) ≡ Some player → ⊥)
decide_ranks left player suit zero = inr (λ k h. absurd (omega arith))
decide_ranks left player suit (suc n) =
    elim (decide_ranks left player suit n) [
      | inl found ↦ inl found
      | inr none ↦ elim (decide_held left player (card_of suit (rank_at n))) [
        | inl held ↦ inl (n, held)
        | inr not ↦ inr (λ k h held. elim (cases_eq k n) [
          | inl e ↦ not (ap (λ (i : ℕ). holder_of left (card_of suit (rank_at i))) (sym e) ∙ held)
          | inr apart ↦ none k (omega arith) held
        ])
      ]
    ]

decide_suit : (left : Deal) (player : Seat) (suit : Suit) → HoldsSuit left player suit ⊎ (HoldsSuit left player suit → ⊥)
decide_suit left player suit =
    elim (decide_ranks left player suit 13) [
      | inl found ↦ inl (card_of suit (rank_at found.0), found.1, refl)
      | inr none ↦ inr (no_suit_held left player suit none)
    ]

Some-suit : (one other : Suit) → Some one ≡ Some other → one ≡ other
Some-suit one other h = cc

None-suit : (suit : Suit) → None ≡ Some suit → ⊥
None-suit suit h = cc

decide_follows : (left : Deal) (player : Seat) (first : Option Suit) (card : Card) → ((led : Suit) → first ≡ Some led → HoldsSuit left player led → card.suit ≡ led) ⊎ (((led : Suit) → first ≡ Some led → HoldsSuit left player led → card.suit ≡ led) → ⊥)
decide_follows left player None card = inl (λ led is. absurd (None-suit led is))
decide_follows left player (Some suit) card =
    elim (cases_eq (suit_number card.suit) (suit_number suit)) [
      | inl e ↦ inl (λ led is has. same_from_suit_numbers card.suit suit e ∙ Some-suit suit led is)
      | inr apart ↦ elim (decide_suit left player suit) [
        | inl has ↦ inr (λ follows. apart (ap suit_number (follows suit refl has)))
        | inr none ↦ inl (λ led is has. absurd (none (rw (← Some-suit suit led is) at has)))
      ]
    ]

decide_may : (left : Deal) (player : Seat) (trick : List Card) (card : Card) → MayBePlayed left player trick card ⊎ (MayBePlayed left player trick card → ⊥)
decide_may left player trick card =
    elim (decide_held left player card) [
      | inr not ↦ inr (λ may. not may.held)
      | inl held ↦ elim (decide_follows left player (suit_of_first trick) card) [
        | inl follows ↦ inl (record { held = held; follows = follows })
        | inr not ↦ inr (λ may. not may.follows)
      ]
    ]

pub decide_play : (opening : Opening) (history : List Card) (card : Card) → CanPlay opening history card ⊎ (CanPlay opening history card → ⊥)
decide_play opening history card =
    elim (decide_may (left_of opening.deal history) (seat_to_play opening history) (trick_of history) card) [
      | inl may ↦ inl (CanPlay-from_left opening history card may)
      | inr not ↦ inr (λ can. not (MayBePlayed-from_CanPlay opening history card can))
    ]

-- a seat with a card left has one that it may play
pub some_legal_card : (opening : Opening) (history : List Card) (card : Card) → holder_of (left_of opening.deal history) card ≡ Some (seat_to_play opening history) → (other : Card) × CanPlay opening history other
some_legal_card opening history card held = go (suit_of_first (trick_of history)) refl
  where
    left : Deal
    left = left_of opening.deal history

    player : Seat
    player = seat_to_play opening history

    go : (first : Option Suit) → suit_of_first (trick_of history) ≡ first → (other : Card) × CanPlay opening history other
    go None e = (card, CanPlay-from_left opening history card (record { held = held; follows = λ led is. absurd (None-suit led (sym e ∙ is)) }))
    go (Some suit) e =
        elim (decide_suit (left_of opening.deal history) (seat_to_play opening history) suit) [
          | inl has ↦ (has.0, CanPlay-from_left opening history has.0 (record { held = has.1; follows = λ led is can. has.2 ∙ Some-suit suit led (sym e ∙ is) }))
          | inr none ↦ (card, CanPlay-from_left opening history card (record { held = held; follows = λ led is can. absurd (none (rw (← Some-suit suit led (sym e ∙ is)) at can)) }))
        ]
