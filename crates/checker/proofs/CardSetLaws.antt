-- Sets of cards in words, bit by bit.
use Rattle.std.proofs.Common.{◌≡◌, ℕ, zero, suc, ◌+◌, ◌*◌, ◌/◌, ◌%◌, ◌^◌, ◌<◌, min, Option, ◌↔◌, inl, inr, refl, sym, ◌∙◌, ap, subst, arith}
use Rattle.std.specs.Prelude.{◌⊎◌, bit_and, bit_or}
use Rattle.std.specs.Int.{bit_at, bit_not, w64}
use Rattle.std.proofs.lemmas.Bool.{cases_eq}
use Rattle.std.proofs.lemmas.Nat.Bits.{bit_at_and, bit_at_or, bit_at_not, bit_at-lt, bit_at-zero, bit_at-suc, bit_at_lowest, bit_at-pow_same, bit_at-pow_other, bit_at_cat_low}
use Rattle.cards.specs.declared.suits.Suit.{Suit}
use Rattle.cards.specs.declared.suits.Suit.TheVariants.{Spades, Hearts, Diamonds, Clubs}
use Rattle.cards.specs.declared.seats.Seat.{Seat}
use Rattle.cards.specs.Pack.{suit_number}
use Rattle.cards.proofs.PackLaws.{same_from_suit_numbers}
use Rattle.patterns.specs.Shapes.{Shape, suit_of, IsPattern}
use Rattle.pattern_step.specs.declared.pat_cards.PatCard.{PatCard}
use Rattle.pattern_step.specs.declared.pat_cards.PatCard.TheVariants.{Top, Low}
use Rattle.pattern_step.specs.PatCards.{HasCard, IsLegal}
use Rattle.pattern_step.proofs.PatCardLaws.{slice_get-within, owners-le-13}
use Rattle.certificate_graph.specs.declared.versions.Version.TheVariants.{Two}
use Rattle.certificate_graph.specs.Trees.{Branches}
use Rattle.checker.specs.Places.{HasBranchOf}
use Rattle.checker.specs.Steps.{IsAnswered}
use Rattle.checker.specs.CardSets.{place_in_set, HasBranchIn}
use Rattle.checker.proofs.HigherCards.{higher_cases}

-- ---- bits
pub or_bit : (a b i : ℕ) → (bit_at (bit_or a b) i ≡ 1) ↔ ((bit_at a i ≡ 1) ⊎ (bit_at b i ≡ 1))
or_bit a b i = (
  λ h. elim (cases_eq (bit_at a i) 1) [
    | inl one ↦ inl one
    | inr other ↦ inr (omega (arith, sym (bit_at_or a b i) ∙ h, bit_at-lt a i, bit_at-lt b i, other))
  ],
  λ h. elim h [
    | inl one ↦ omega (arith, bit_at_or a b i, bit_at-lt b i, one)
    | inr other ↦ omega (arith, bit_at_or a b i, bit_at-lt a i, other)
  ],
)

pub one_bit : (k i : ℕ) → (bit_at (2 ^ k) i ≡ 1) ↔ (k ≡ i)
one_bit k i = (
  λ h. elim (cases_eq k i) [
    | inl same ↦ same
    | inr apart ↦ absurd (omega (arith, h, bit_at-pow_other k i (λ e. apart (sym e))))
  ],
  λ e. subst (λ n. bit_at (2 ^ k) n ≡ 1) e (bit_at-pow_same k),
)

-- all bits of a number are bits of another
pub within : (a b i : ℕ) → b < 2 ^ 64 → i < 64 → bit_and a (bit_not w64 b) ≡ 0 → bit_at a i ≡ 1 → bit_at b i ≡ 1
within a b i small inside none one =
    let both : bit_at (bit_and a (bit_not w64 b)) i ≡ 0 = ap (λ n. bit_at n i) none ∙ bit_at-zero i in
    omega (arith, both, bit_at_and a (bit_not w64 b) i, bit_at_not w64 b i small inside, one, bit_at-lt b i)

-- a bit of one number that another lacks
pub without : (a b i : ℕ) → b < 2 ^ 64 → i < 64 → bit_at a i ≡ 1 → bit_at b i ≡ 0 → bit_at (bit_and a (bit_not w64 b)) i ≡ 1
without a b i small inside one none = omega (arith, bit_at_and a (bit_not w64 b) i, bit_at_not w64 b i small inside, one, none)

bit_at-mod : (n w i : ℕ) → i < w → bit_at (n % 2 ^ w) i ≡ bit_at n i
bit_at-mod n w i inside =
    let split : n ≡ n / 2 ^ w * 2 ^ w + n % 2 ^ w = omega arith in
    sym (bit_at_cat_low (n / 2 ^ w) w (n % 2 ^ w) i inside) ∙ ap (λ m. bit_at m i) (sym split)

-- a word moved up by a bit
moved_up : (n i : ℕ) → suc i < 64 → bit_at (n * 2 ^ 1 % 2 ^ 64) (suc i) ≡ bit_at n i
moved_up n i inside =
    let half : n * 2 ^ 1 / 2 ≡ n = omega arith in
    bit_at-mod (n * 2 ^ 1) 64 (suc i) inside ∙ (bit_at-suc (n * 2 ^ 1) i ∙ ap (λ m. bit_at m i) half)

none_below : (n : ℕ) → bit_at (n * 2 ^ 1 % 2 ^ 64) 0 ≡ 0
none_below n = bit_at-mod (n * 2 ^ 1) 64 0 (omega arith) ∙ (bit_at_lowest (n * 2 ^ 1) ∙ omega arith)

-- ---- places
four_suits : (suit : Suit) → suit_number suit < 4
four_suits Spades = omega arith
four_suits Hearts = omega arith
four_suits Diamonds = omega arith
four_suits Clubs = omega arith

pub place_inside : (card : PatCard) → place_in_set card < 64
place_inside (Top suit place) = omega (arith, four_suits suit)
place_inside (Low suit) = omega (arith, four_suits suit)

top_inside : (shape : Shape) → IsPattern shape → (seat : Seat) (suit : Suit) (place : ℕ) → HasCard shape seat (Top suit place) → place < 13
top_inside shape pattern seat suit place has = omega (arith, slice_get-within (suit_of shape suit).owners place seat has, owners-le-13 shape pattern suit)

-- cards that a seat has are the same where they have the same bit
same_card : (shape : Shape) → IsPattern shape → (seat : Seat) (one other : PatCard) → HasCard shape seat one → HasCard shape seat other → place_in_set one ≡ place_in_set other → one ≡ other
same_card shape pattern seat (Top suit place) (Top suit' place') has has' same =
    let less = top_inside shape pattern seat suit place has in
    let less' = top_inside shape pattern seat suit' place' has' in
    let of_suit : suit ≡ suit' = same_from_suit_numbers suit suit' (omega (arith, same, less, less')) in
    let at : place ≡ place' = omega (arith, same, less, less') in
    cc
same_card shape pattern seat (Top suit place) (Low suit') has has' same =
    absurd (omega (arith, same, top_inside shape pattern seat suit place has))
same_card shape pattern seat (Low suit) (Top suit' place') has has' same =
    absurd (omega (arith, same, top_inside shape pattern seat suit' place' has'))
same_card shape pattern seat (Low suit) (Low suit') has has' same =
    let of_suit : suit ≡ suit' = same_from_suit_numbers suit suit' (omega (arith, same)) in
    cc

-- ---- answers
-- what two sets tell: the first has the bits of the legal cards, the second those of the branches
pub record AreSets (shape : Shape) (seat : Seat) (led : Option Suit) (branches : Branches) (legal with_branch : ℕ) : Type 0 where
  pub pattern : IsPattern shape
  pub small : legal < 2 ^ 64
  pub small' : with_branch < 2 ^ 64
  pub legal_are : (card : PatCard) → (bit_at legal (place_in_set card) ≡ 1) ↔ IsLegal shape seat led card
  pub branches_are : (bit : ℕ) → (bit_at with_branch bit ≡ 1) ↔ HasBranchIn branches bit

pub no_others : (shape : Shape) (seat : Seat) (led : Option Suit) (branches : Branches) (legal with_branch : ℕ) → AreSets shape seat led branches legal with_branch →
    bit_and with_branch (bit_not w64 legal) ≡ 0 → (card : PatCard) → HasBranchOf branches card → IsLegal shape seat led card
no_others shape seat led branches legal with_branch sets none card has =
    (sets.legal_are card).0 (within with_branch legal (place_in_set card) sets.small (place_inside card) none ((sets.branches_are (place_in_set card)).1 (card, refl, has)))

-- a legal card whose bit a branch has is that of the branch
has_it : (shape : Shape) (seat : Seat) (led : Option Suit) (branches : Branches) (legal with_branch : ℕ) → AreSets shape seat led branches legal with_branch →
    bit_and with_branch (bit_not w64 legal) ≡ 0 → (card : PatCard) → IsLegal shape seat led card → bit_at with_branch (place_in_set card) ≡ 1 → HasBranchOf branches card
has_it shape seat led branches legal with_branch sets none card may one =
    let other = (sets.branches_are (place_in_set card)).0 one in
    let may' = no_others shape seat led branches legal with_branch sets none other.0 other.2 in
    subst (HasBranchOf branches) (same_card shape sets.pattern seat other.0 card may'.has may.has other.1) other.2

pub each_has : (shape : Shape) (seat : Seat) (led : Option Suit) (branches : Branches) (legal with_branch : ℕ) → AreSets shape seat led branches legal with_branch →
    bit_and with_branch (bit_not w64 legal) ≡ 0 → bit_and legal (bit_not w64 with_branch) ≡ 0 → (card : PatCard) → IsLegal shape seat led card → HasBranchOf branches card
each_has shape seat led branches legal with_branch sets none missing card may =
    has_it shape seat led branches legal with_branch sets none card may
    (within legal with_branch (place_in_set card) sets.small' (place_inside card) missing ((sets.legal_are card).1 may))

-- the tops of all suits
abbrev pub all_tops : ℕ
all_tops = 2305596714850918399

-- no low card is among them, nor what would be the next top after the last
low_is_none : (suit : Suit) (n : ℕ) → bit_at (bit_and n all_tops) (16 * suit_number suit + 15) ≡ 0
low_is_none Spades n = omega (arith, bit_at_and n all_tops 15)
low_is_none Hearts n = omega (arith, bit_at_and n all_tops 31)
low_is_none Diamonds n = omega (arith, bit_at_and n all_tops 47)
low_is_none Clubs n = omega (arith, bit_at_and n all_tops 63)

next_is_none : (suit : Suit) (n : ℕ) → bit_at (bit_and n all_tops) (16 * suit_number suit + 14) ≡ 0
next_is_none Spades n = omega (arith, bit_at_and n all_tops 14)
next_is_none Hearts n = omega (arith, bit_at_and n all_tops 30)
next_is_none Diamonds n = omega (arith, bit_at_and n all_tops 46)
next_is_none Clubs n = omega (arith, bit_at_and n all_tops 62)

-- the word of what follows a top
abbrev pub following : ℕ → ℕ
following legal = bit_and legal all_tops * 2 ^ 1 % 2 ^ 64

first_follows_none : (suit : Suit) (legal : ℕ) → bit_at (following legal) (16 * suit_number suit) ≡ 0
first_follows_none Spades legal = none_below (bit_and legal all_tops)
first_follows_none Hearts legal = moved_up (bit_and legal all_tops) 15 (omega arith) ∙ low_is_none Spades legal
first_follows_none Diamonds legal = moved_up (bit_and legal all_tops) 31 (omega arith) ∙ low_is_none Hearts legal
first_follows_none Clubs legal = moved_up (bit_and legal all_tops) 47 (omega arith) ∙ low_is_none Diamonds legal

low_follows_none : (suit : Suit) (legal : ℕ) → bit_at (following legal) (16 * suit_number suit + 15) ≡ 0
low_follows_none suit legal =
    let next : 16 * suit_number suit + 15 ≡ suc (16 * suit_number suit + 14) = omega arith in
    ap (bit_at (following legal)) next ∙ (moved_up (bit_and legal all_tops) (16 * suit_number suit + 14) (omega (arith, four_suits suit)) ∙ next_is_none suit legal)

-- a legal card that follows one is answered, or has a branch
pub each_is_answered : (shape : Shape) (seat : Seat) (led : Option Suit) (branches : Branches) (legal with_branch : ℕ) → AreSets shape seat led branches legal with_branch →
    bit_and with_branch (bit_not w64 legal) ≡ 0 → bit_and (bit_and legal (bit_not w64 with_branch)) (bit_not w64 (following legal)) ≡ 0 →
    (card : PatCard) → IsLegal shape seat led card → IsAnswered Two shape seat branches card
each_is_answered shape seat led branches legal with_branch sets none missing = answered
  where
    small : following legal < 2 ^ 64
    small = omega arith

    -- it has a branch, or its bit follows a top's
    has_or_follows : (card : PatCard) → IsLegal shape seat led card → HasBranchOf branches card ⊎ (bit_at (following legal) (place_in_set card) ≡ 1)
    has_or_follows card may = elim (cases_eq (bit_at with_branch (place_in_set card)) 1) [
      | inl one ↦ inl (has_it shape seat led branches legal with_branch sets none card may one)
      | inr other ↦ inr (
          within (bit_and legal (bit_not w64 with_branch)) (following legal) (place_in_set card) small (place_inside card) missing
          (without legal with_branch (place_in_set card) sets.small' (place_inside card) ((sets.legal_are card).1 may) (omega (arith, other, bit_at-lt with_branch (place_in_set card))))
          )
    ]

    top : (suit : Suit) (place : ℕ) → IsLegal shape seat led (Top suit place) → IsAnswered Two shape seat branches (Top suit place)
    top suit zero may = elim (has_or_follows (Top suit zero) may) [
      | inl has ↦ inl has
      | inr follows ↦ (
          let at : 16 * suit_number suit + min 0 14 ≡ 16 * suit_number suit = omega arith in
          absurd (omega (arith, sym (ap (bit_at (following legal)) at) ∙ follows, first_follows_none suit legal))
          )
    ]
    top suit (suc place) may = elim (has_or_follows (Top suit (suc place)) may) [
      | inl has ↦ inl has
      | inr follows ↦ (
          let less = top_inside shape sets.pattern seat suit (suc place) may.has in
          let at : 16 * suit_number suit + min (suc place) 14 ≡ suc (16 * suit_number suit + min place 14) = omega (arith, less) in
          let is : bit_at (bit_and legal all_tops) (place_in_set (Top suit place)) ≡ 1 =
          sym (moved_up (bit_and legal all_tops) (place_in_set (Top suit place)) (omega (arith, less, four_suits suit))) ∙ (sym (ap (bit_at (following legal)) at) ∙ follows) in
          let may' = (sets.legal_are (Top suit place)).0 (omega (arith, is, bit_at_and legal all_tops (place_in_set (Top suit place)), bit_at-lt legal (place_in_set (Top suit place)), bit_at-lt all_tops (place_in_set (Top suit place)))) in
          inr ((higher_cases shape seat branches suit (suc place) place refl).0 (may.has, (may'.has, top suit place may')))
          )
    ]

    answered : (card : PatCard) → IsLegal shape seat led card → IsAnswered Two shape seat branches card
    answered (Top suit place) may = top suit place may
    answered (Low suit) may = elim (has_or_follows (Low suit) may) [
      | inl has ↦ inl has
      | inr follows ↦ absurd (omega (arith, follows, low_follows_none suit legal))
    ]
