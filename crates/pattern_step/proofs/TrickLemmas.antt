-- The highest top among the cards of a trick, card by card.
use Rattle.std.proofs.Common.{◌≡◌, ℕ, ◌+◌, ◌<◌, ◌≤◌, min, List, [], ◌∷◌, ◌++◌, length, get_or, take, Option, None, Some, inl, inr, sym, ◌∙◌, ap, arith, zero, suc}
use Rattle.std.specs.Prelude.{Contains, slice_get, ◌↔◌}
use Rattle.std.proofs.lemmas.Bool.{cases_lt}
use Rattle.std.proofs.lemmas.List.Elements.{Contains-append_left, Contains-append_right, Contains-append_cases}
use Rattle.std.proofs.lemmas.List.{take_more, take_all}
use Rattle.cards.specs.declared.suits.Suit.{Suit}
use Rattle.pattern_step.specs.declared.pat_cards.PatCard.{PatCard}
use Rattle.pattern_step.specs.declared.pat_cards.PatCard.TheVariants.{Top, Low}
use Rattle.cards.specs.declared.suits.Trump.{Trump}
use Rattle.cards.specs.declared.seats.Seat.{Seat}
use Rattle.patterns.specs.Shapes.{Shape, suit_of}
use Rattle.pattern_step.specs.Tricks.{MayWin, winning_suit, played_by}
use Rattle.pattern_step.specs.HighestTops.{IsHighestTop, lesser}

-- a list of one
one_is : (x y : PatCard) → Contains (x ∷ []) y → x ≡ y
one_is x y h = go h.0 h.1 h.2
  where
    go : (k : ℕ) → k < 1 → get_or (x ∷ []) k y ≡ y → x ≡ y
    go zero less e = e
    go (suc k) less e = absurd (omega arith)

is_one : (x y : PatCard) → x ≡ y → Contains (x ∷ []) y
is_one x y e = (0, omega arith, e)

-- a card that is no top of the suit
pub no_top_added : (cards : List PatCard) (card : PatCard) (suit : Suit) (least : Option ℕ) → ((place : ℕ) → card ≡ Top suit place → ⊥) → IsHighestTop cards suit least → IsHighestTop (cards ++ card ∷ []) suit least
no_top_added cards card suit None none h = λ other within.
    elim (Contains-append_cases cards (card ∷ []) (Top suit other) within) [ inl a ↦ h other a | inr b ↦ none other (one_is card (Top suit other) b) ]
no_top_added cards card suit (Some place) none h = (
  Contains-append_left cards (card ∷ []) (Top suit place) h.0,
  λ other within. elim (Contains-append_cases cards (card ∷ []) (Top suit other) within) [ inl a ↦ h.1 other a | inr b ↦ absurd (none other (one_is card (Top suit other) b)) ],
)

-- a top of the suit
pub top_added : (cards : List PatCard) (card : PatCard) (suit : Suit) (least : Option ℕ) (place : ℕ) → card ≡ Top suit place → IsHighestTop cards suit least → IsHighestTop (cards ++ card ∷ []) suit (Some (lesser least place))
top_added cards card suit None place is h = (
  Contains-append_right cards (card ∷ []) (Top suit place) (is_one card (Top suit place) is),
  λ other within. elim (Contains-append_cases cards (card ∷ []) (Top suit other) within) [
    | inl a ↦ absurd (h other a)
    | inr b ↦ (let e : Top suit place ≡ Top suit other = sym is ∙ one_is card (Top suit other) b in let f : place ≡ other = cc in omega arith)
  ],
)
top_added cards card suit (Some before) place is h =
    elim (cases_lt before place) [
      | inl less ↦ (let e : min before place ≡ before = omega arith in rw e (
        Contains-append_left cards (card ∷ []) (Top suit before) h.0,
        λ other within. elim (Contains-append_cases cards (card ∷ []) (Top suit other) within) [
          | inl a ↦ h.1 other a
          | inr b ↦ (let same : Top suit place ≡ Top suit other = sym is ∙ one_is card (Top suit other) b in let f : place ≡ other = cc in omega arith)
        ],
      ))
      | inr more ↦ (let e : min before place ≡ place = omega arith in rw e (
        Contains-append_right cards (card ∷ []) (Top suit place) (is_one card (Top suit place) is),
        λ other within. elim (Contains-append_cases cards (card ∷ []) (Top suit other) within) [
          | inl a ↦ (let least = h.1 other a in omega arith)
          | inr b ↦ (let same : Top suit place ≡ Top suit other = sym is ∙ one_is card (Top suit other) b in let f : place ≡ other = cc in omega arith)
        ],
      ))
    ]

-- the cards so far, and one more
pub no_top_met : (cards : List PatCard) (n : ℕ) (d : PatCard) (suit : Suit) (least : Option ℕ) → n < length cards → ((place : ℕ) → get_or cards n d ≡ Top suit place → ⊥) → IsHighestTop (take n cards) suit least → IsHighestTop (take (n + 1) cards) suit least
no_top_met cards n d suit least within none h = rw (take_more cards n d within) (no_top_added (take n cards) (get_or cards n d) suit least none h)

pub top_met : (cards : List PatCard) (n : ℕ) (d : PatCard) (suit : Suit) (least : Option ℕ) (place : ℕ) → n < length cards → get_or cards n d ≡ Top suit place → IsHighestTop (take n cards) suit least → IsHighestTop (take (n + 1) cards) suit (Some (lesser least place))
top_met cards n d suit least place within is h = rw (take_more cards n d within) (top_added (take n cards) (get_or cards n d) suit least place is h)

pub all_met : (cards : List PatCard) (n : ℕ) (suit : Suit) (least : Option ℕ) → length cards ≤ n → IsHighestTop (take n cards) suit least → IsHighestTop cards suit least
all_met cards n suit least end h = rw (take_all n cards end) at h

-- who may win, where a top of the winning suit was played
pub wins_by_top : (shape : Shape) (trump : Trump) (leader : Seat) (cards : List PatCard) (suit : Suit) (place : ℕ) (seat : Seat) → suit ≡ winning_suit trump cards → IsHighestTop cards suit (Some place) →
    (slice_get (suit_of shape suit).owners place ≡ Some seat) ↔ MayWin shape trump leader cards seat
wins_by_top shape trump leader cards suit place seat decides h =
    rw (← decides) (
      (λ owner. inl (record { place = place; played = h.0; least = h.1; owner = owner })),
      λ wins. elim wins [
        | inl w ↦ (let e : w.place ≡ place = omega (arith, h.1 w.place w.played, w.least place h.0) in ap (slice_get (suit_of shape suit).owners) (sym e) ∙ w.owner)
        | inr w ↦ absurd (w.no_top place h.0)
      ],
    )

-- who may win, where none was
pub wins_by_low : (shape : Shape) (trump : Trump) (leader : Seat) (cards : List PatCard) (suit : Suit) (seat : Seat) → suit ≡ winning_suit trump cards → IsHighestTop cards suit None →
    (played_by leader cards seat ≡ Low suit) ↔ MayWin shape trump leader cards seat
wins_by_low shape trump leader cards suit seat decides h =
    rw (← decides) (
      (λ low. inr (record { no_top = h; low = low })),
      λ wins. elim wins [
        | inl w ↦ absurd (h w.place w.played)
        | inr w ↦ w.low
      ],
    )
