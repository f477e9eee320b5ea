-- Lists of cards that a player holds.
use Rattle.std.proofs.Common.{◌≡◌, ℕ, ◌+◌, ◌-◌, ◌/◌, ◌%◌, ◌<◌, ◌≤◌, List, [], ◌∷◌, ◌++◌, length, Contains, Option, None, Some, refl, sym, ◌∙◌, ap, arith, inl, inr, ◌⊎◌, cond, get_or, set, get_or-set_same, get_or-set_other}
use Rattle.std.proofs.lemmas.Bool.{cases_eq}
use Rattle.cards.specs.declared.suits.Suit.{Suit}
use Rattle.cards.specs.declared.seats.Seat.{Seat}
use Rattle.cards.specs.declared.pack.Card.{Card}
use Rattle.cards.specs.Pack.{card_of, suit_number, suit_at, rank_number, rank_at}
use Rattle.cards.proofs.PackLaws.{same_from_numbers, suit_number-lt, rank_number-lt, rank_at-rank_number, rank_number-rank_at, suit_number-suit_at}
use Rattle.cards.specs.SameDeal.{is_same_seat-refl}
use Rattle.cards.specs.Seats.{is_same_seat}
use Rattle.cards.specs.Deal.{Deal, holder_of, count_of}
use Rattle.std.proofs.lemmas.List.Elements.{Contains-push, Contains-push_cases, Contains-append_left, Contains-append_right}
use Rattle.play_rules.specs.Left.{without}
use Rattle.play_rules.proofs.LeftLaws.{holder_of-without_other, count_of-without}
use Rattle.play_rules.specs.Position.{AreInOrder, listed_place}
use Rattle.play_rules.specs.Holdings.{HoldsSuit, MayBePlayed, IsSuitToFollow, Follows, AreListedTo}

pub AreInOrder-push : (cards : List Card) (card : Card) → AreInOrder cards → ((other : Card) → Contains cards other → listed_place other < listed_place card) → AreInOrder (cards ++ card ∷ [])
AreInOrder-push [] card order below = (λ other h. absurd (omega (arith, h.1)), tt)
AreInOrder-push (first ∷ rest) card order below = (
  λ other h. elim (Contains-push_cases rest card other h) [
    | inl a ↦ order.0 other a
    | inr e ↦ let lt : listed_place first < listed_place card = below first (0, omega arith, refl) in omega (arith, ap listed_place e)
  ],
  AreInOrder-push rest card order.1 (λ other h. below other (Contains-append_right (first ∷ []) rest other h)),
)

-- a player's cards are no fewer than those of a list of them
pub length-le-count_of : (left : Deal) (player : Seat) (cards : List Card) → AreInOrder cards → ((card : Card) → Contains cards card → holder_of left card ≡ Some player) → length cards ≤ count_of left player
length-le-count_of left player [] order held = omega arith
length-le-count_of left player (first ∷ rest) order held =
    let fewer = length-le-count_of (without left first) player rest order.1
    (λ card h. holder_of-without_other left first card (λ e. let lt : listed_place first < listed_place card = order.0 card h in absurd (omega (arith, ap listed_place e))) ∙ held card (Contains-append_right (first ∷ []) rest card h)) in
    let one : count_of (without left first) player + cond (is_same_seat player player) 1 0 ≡ count_of left player = count_of-without left first player player (held first (0, omega arith, refl)) in
    let one' : count_of (without left first) player + 1 ≡ count_of left player = rw (is_same_seat-refl player) at one in
    omega arith

pub listed_place-lt : (card : Card) → listed_place card < 52
listed_place-lt card = omega (arith, suit_number-lt card.suit, rank_number-lt card.rank)

pub same_from_places : (one other : Card) → listed_place one ≡ listed_place other → one ≡ other
same_from_places one other h =
    same_from_numbers one other (omega (arith, rank_number-lt one.rank, rank_number-lt other.rank))

-- the card in a place of the list
pub listed_place-at : (place : ℕ) → place < 52 → listed_place (card_of (suit_at (place / 13)) (rank_at (12 - place % 13))) ≡ place
listed_place-at place h =
    let s : suit_number (suit_at (place / 13)) ≡ place / 13 = suit_number-suit_at (place / 13) (omega arith) in
    let r : rank_number (rank_at (12 - place % 13)) ≡ 12 - place % 13 = rank_number-rank_at (12 - place % 13) (omega arith) in
    omega arith

-- no card of the suit, where none of the thirteen ranks is held
pub no_suit_held : (left : Deal) (player : Seat) (suit : Suit) → ((k : ℕ) → k < 13 → holder_of left (card_of suit (rank_at k)) ≡ Some player → ⊥) → HoldsSuit left player suit → ⊥
no_suit_held left player suit none (card, held, of_suit) =
    let same : card_of suit (rank_at (rank_number card.rank)) ≡ card =
    ap (card_of suit) (rank_at-rank_number card.rank) ∙ ap (λ s. card_of s card.rank) (sym of_suit) in
    none (rank_number card.rank) (rank_number-lt card.rank) (ap (holder_of left) same ∙ held)

-- a card of the suit to follow may be played
pub MayBePlayed-from_suit : (left : Deal) (player : Seat) (trick : List Card) (suit : Option Suit) (card : Card) → IsSuitToFollow left player trick suit → holder_of left card ≡ Some player → Follows suit card → MayBePlayed left player trick card
MayBePlayed-from_suit left player trick None card free held of = record { held = held; follows = λ led is has. absurd (free led is has) }
MayBePlayed-from_suit left player trick (Some suit) card must held of = record { held = held; follows = λ led is has. of ∙ Some-same suit led (sym must.led ∙ is) }
  where
    Some-same : (a b : Suit) → Some a ≡ Some b → a ≡ b
    Some-same a b h = cc

pub Follows-from_MayBePlayed : (left : Deal) (player : Seat) (trick : List Card) (suit : Option Suit) (card : Card) → IsSuitToFollow left player trick suit → MayBePlayed left player trick card → Follows suit card
Follows-from_MayBePlayed left player trick None card free may = tt
Follows-from_MayBePlayed left player trick (Some suit) card must may = may.follows suit must.led must.held

-- one more place of the list
pub AreListedTo-more : (left : Deal) (player : Seat) (trick : List Card) (place : ℕ) (cards : List Card) (card : Card) → listed_place card ≡ place → AreListedTo left player trick place cards → MayBePlayed left player trick card → AreListedTo left player trick (place + 1) (cards ++ card ∷ [])
AreListedTo-more left player trick place cards card at listed may = record {
  legal = λ other h. elim (Contains-push_cases cards card other h) [ inl a ↦ listed.legal other a | inr e ↦ rw e at may ];
  before = λ other h. elim (Contains-push_cases cards card other h) [
    | inl a ↦ let lt : listed_place other < place = listed.before other a in omega arith
    | inr e ↦ omega (arith, ap listed_place e)
  ];
  all = λ other lt m. elim (cases_place other place lt) [
    | inl l ↦ Contains-append_left cards (card ∷ []) other (listed.all other l m)
    | inr e ↦ let same : card ≡ other = same_from_places card other (at ∙ sym e) in rw same (rw same at (Contains-push cards card))
  ];
  in_order = AreInOrder-push cards card listed.in_order (λ other h. let lt : listed_place other < place = listed.before other h in omega arith);
}
  where
    cases_place : (other : Card) (place : ℕ) → listed_place other < place + 1 → (listed_place other < place) ⊎ (listed_place other ≡ place)
    cases_place other place h = grind arith

pub AreListedTo-skip : (left : Deal) (player : Seat) (trick : List Card) (place : ℕ) (cards : List Card) (card : Card) → listed_place card ≡ place → AreListedTo left player trick place cards → (MayBePlayed left player trick card → ⊥) → AreListedTo left player trick (place + 1) cards
AreListedTo-skip left player trick place cards card at listed not = record {
  legal = listed.legal;
  before = λ other h. let lt : listed_place other < place = listed.before other h in omega arith;
  all = λ other lt m. elim (cases_place other place lt) [
    | inl l ↦ listed.all other l m
    | inr e ↦ let same : other ≡ card = same_from_places other card (e ∙ sym at) in absurd (not (rw same at m))
  ];
  in_order = listed.in_order;
}
  where
    cases_place : (other : Card) (place : ℕ) → listed_place other < place + 1 → (listed_place other < place) ⊎ (listed_place other ≡ place)
    cases_place other place h = grind arith

-- one more holder, written in its place
pub holders_more : (holders deal : List (Option Seat)) (i : ℕ) (holder : Option Seat) → length holders ≡ 52 → i < 52 → holder ≡ get_or deal i None → ((k : ℕ) → k < i → get_or holders k None ≡ get_or deal k None) → (k : ℕ) → k < i + 1 → get_or (set holders i holder) k None ≡ get_or deal k None
holders_more holders deal i holder whole lt is same k h =
    elim (cases_eq k i) [
      | inl e ↦ let lt' : i < length holders = omega arith in rw e (get_or-set_same holders i holder None lt' ∙ is)
      | inr n ↦ get_or-set_other holders i k holder None n ∙ same k (omega arith)
    ]
