-- Facts that hold or fail, one of the two.
use Rattle.std.proofs.Common.{◌≡◌, ℕ, ◌<◌, Bool, true, false, List, [], ◌∷◌, Option, None, Some, ◌↔◌, inl, inr, refl, sym, ◌∙◌, ap, arith}
use Rattle.std.specs.Prelude.{◌⊎◌, slice_get}
use Rattle.std.proofs.lemmas.Bool.{cases_lt, cases_eq, false≢true}
use Rattle.cards.specs.declared.suits.Suit.{Suit}
use Rattle.cards.specs.declared.suits.Suit.TheVariants.{Spades, Hearts, Diamonds, Clubs}
use Rattle.cards.specs.declared.seats.Seat.{Seat}
use Rattle.cards.specs.declared.seats.Side.{Side}
use Rattle.cards.specs.declared.seats.Side.TheVariants.{NorthSouth, EastWest}
use Rattle.cards.specs.Pack.{suit_number}
use Rattle.cards.specs.Seats.{is_same_seat}
use Rattle.cards.proofs.PackLaws.{same_from_suit_numbers}
use Rattle.patterns.specs.Shapes.{SuitShape, Shape, suit_of, len_of, tops_of, BeginsWith, CoversSuit, Covers}
use Rattle.patterns.proofs.SeatLaws.{is_same_seat_self, same_from_is_same, all_suits}
use Rattle.pattern_step.specs.declared.pat_cards.PatCard.{PatCard}
use Rattle.pattern_step.specs.declared.pat_cards.PatCard.TheVariants.{Top, Low}
use Rattle.pattern_step.specs.PatCards.{suit_of_card, HasCard, FollowsSuit, IsLegal}

abbrev pub Decided : Type 0 → Type 0
Decided P = P ⊎ (P → ⊥)

pub not_not : (P : Type 0) → Decided P → ((P → ⊥) → ⊥) → P
not_not P (inl holds) unlikely = holds
not_not P (inr fails) unlikely = absurd (unlikely fails)

pub alike : (P Q : Type 0) → P ↔ Q → Decided P → Decided Q
alike P Q same (inl holds) = inl (same.0 holds)
alike P Q same (inr fails) = inr (λ q. fails (same.1 q))

pub both : (P Q : Type 0) → Decided P → Decided Q → Decided (P × Q)
both P Q (inl p) (inl q) = inl (p, q)
both P Q (inl p) (inr fails) = inr (λ h. fails h.1)
both P Q (inr fails) q = inr (λ h. fails h.0)

pub either : (P Q : Type 0) → Decided P → Decided Q → Decided (P ⊎ Q)
either P Q (inl p) q = inl (inl p)
either P Q (inr fails) (inl q) = inl (inr q)
either P Q (inr fails) (inr fails') = inr (λ h. elim h [ inl p ↦ fails p | inr q ↦ fails' q ])

pub is_less : (m n : ℕ) → Decided (m < n)
is_less m n = elim (cases_lt m n) [ inl less ↦ inl less | inr more ↦ inr (λ less. absurd (omega arith)) ]

pub same_seat : (one other : Seat) → Decided (one ≡ other)
same_seat one other = go (is_same_seat one other) refl
  where
    go : (b : Bool) → is_same_seat one other ≡ b → Decided (one ≡ other)
    go true e = inl (same_from_is_same one other e)
    go false e = inr (λ (same : one ≡ other). false≢true (sym e ∙ (ap (λ (s : Seat). is_same_seat one s) (sym same) ∙ is_same_seat_self one)))

pub same_side : (one other : Side) → Decided (one ≡ other)
same_side NorthSouth NorthSouth = inl refl
same_side NorthSouth EastWest = inr (λ same. cc)
same_side EastWest NorthSouth = inr (λ same. cc)
same_side EastWest EastWest = inl refl

pub same_suit : (one other : Suit) → Decided (one ≡ other)
same_suit one other =
    elim (cases_eq (suit_number one) (suit_number other)) [
      | inl e ↦ inl (same_from_suit_numbers one other e)
      | inr fails ↦ inr (λ same. fails (ap suit_number same))
    ]

pub same_card : (one other : PatCard) → Decided (one ≡ other)
same_card (Top suit place) (Top suit' place') =
    elim (both (suit ≡ suit') (place ≡ place') (same_suit suit suit') (cases_eq place place')) [
      | inl same ↦ inl (let s = same.0 in let p = same.1 in cc)
      | inr fails ↦ inr (λ same. fails (cc, cc))
    ]
same_card (Top suit place) (Low suit') = inr (λ same. cc)
same_card (Low suit) (Top suit' place') = inr (λ same. cc)
same_card (Low suit) (Low suit') = alike (suit ≡ suit') (Low suit ≡ Low suit') ((λ e. ap Low e), λ e. cc) (same_suit suit suit')

pub same_some : (found : Option Seat) (seat : Seat) → Decided (found ≡ Some seat)
same_some None seat = inr (λ e. cc)
same_some (Some other) seat = alike (other ≡ seat) (Some other ≡ Some seat) ((λ e. ap Some e), λ e. cc) (same_seat other seat)

pub has_card : (shape : Shape) (seat : Seat) (card : PatCard) → Decided (HasCard shape seat card)
has_card shape seat (Top suit place) = same_some (slice_get (suit_of shape suit).owners place) seat
has_card shape seat (Low suit) = is_less (tops_of (suit_of shape suit) seat) (len_of (suit_of shape suit) seat)

follows_suit : (shape : Shape) (seat : Seat) (led : Option Suit) (card : PatCard) → Decided (FollowsSuit shape seat led card)
follows_suit shape seat None card = inl tt
follows_suit shape seat (Some led) card =
    elim (is_less 0 (len_of (suit_of shape led) seat)) [
      | inl able ↦ elim (same_suit (suit_of_card card) led) [ inl same ↦ inl (λ _. same) | inr fails ↦ inr (λ follows. fails (follows able)) ]
      | inr unable ↦ inl (λ able. absurd (unable able))
    ]

pub is_legal : (shape : Shape) (seat : Seat) (led : Option Suit) (card : PatCard) → Decided (IsLegal shape seat led card)
is_legal shape seat led card =
    alike (HasCard shape seat card × FollowsSuit shape seat led card) (IsLegal shape seat led card)
    ((λ h. record { has = h.0; follows = h.1 }), λ legal. (legal.has, legal.follows))
    (both (HasCard shape seat card) (FollowsSuit shape seat led card) (has_card shape seat card) (follows_suit shape seat led card))

begins_with : (whole start : List Seat) → Decided (BeginsWith whole start)
begins_with whole [] = inl (whole, refl)
begins_with [] (first ∷ rest) = inr (λ (more, is). cc)
begins_with (seat ∷ whole) (first ∷ rest) =
    elim (both (seat ≡ first) (BeginsWith whole rest) (same_seat seat first) (begins_with whole rest)) [
      | inl same ↦ inl (same.1.0, (let s = same.0 in let r = same.1.1 in cc))
      | inr fails ↦ inr (λ (more, is). fails (cc, (more, cc)))
    ]

same_lens : (one other : List ℕ) → Decided (one ≡ other)
same_lens [] [] = inl refl
same_lens [] (len ∷ more) = inr (λ same. cc)
same_lens (len ∷ more) [] = inr (λ same. cc)
same_lens (len ∷ more) (len' ∷ more') =
    elim (both (len ≡ len') (more ≡ more') (cases_eq len len') (same_lens more more')) [
      | inl same ↦ inl (let l = same.0 in let m = same.1 in cc)
      | inr fails ↦ inr (λ same. fails (cc, cc))
    ]

covers_suit : (suit rest : SuitShape) → Decided (CoversSuit suit rest)
covers_suit suit rest =
    alike ((suit.lens ≡ rest.lens) × BeginsWith rest.owners suit.owners) (CoversSuit suit rest)
    ((λ h. record { lens = h.0; owners = h.1 }), λ covers. (covers.lens, covers.owners))
    (both (suit.lens ≡ rest.lens) (BeginsWith rest.owners suit.owners) (same_lens suit.lens rest.lens) (begins_with rest.owners suit.owners))

pub covers : (pattern rest : Shape) → Decided (Covers pattern rest)
covers pattern rest = alike (((P Spades × P Hearts) × P Diamonds) × P Clubs) (Covers pattern rest) ((all_suits P).1, (all_suits P).0)
    (both _ (P Clubs) (both _ (P Diamonds) (both (P Spades) (P Hearts) (one Spades) (one Hearts)) (one Diamonds)) (one Clubs))
  where
    P : Suit → Type 0
    P suit = CoversSuit (suit_of pattern suit) (suit_of rest suit)

    one : (suit : Suit) → Decided (P suit)
    one suit = covers_suit (suit_of pattern suit) (suit_of rest suit)
