-- The cards of a suit in sixteen bits, and the four suits in a word.
use Rattle.std.proofs.Common.{◌≡◌, ◌≢◌, ℕ, zero, suc, ◌+◌, ◌-◌, ◌*◌, ◌/◌, ◌%◌, ◌^◌, ◌<◌, ◌≤◌, min, Bool, true, false, cond, List, [], ◌∷◌, length, Option, Some, ◌↔◌, inl, inr, refl, sym, ◌∙◌, ap, subst, arith}
use Rattle.std.specs.Prelude.{◌⊎◌, bit_and, bit_or, slice_get}
use Rattle.std.specs.Int.{bit_at, trailing_zeros, w64}
use Rattle.std.proofs.lemmas.Bool.{cases_lt, cases_eq, eq-eqb, false≢true}
use Rattle.std.proofs.lemmas.Nat.Bits.{bit_at-lt, bit_at_lowest, bit_at-suc, bit_at-zero, bit_at-trailing_zeros, bit_at_cat_low, bit_at_cat_high}
use Rattle.cards.specs.declared.suits.Suit.{Suit}
use Rattle.cards.specs.declared.suits.Suit.TheVariants.{Spades, Hearts, Diamonds, Clubs}
use Rattle.cards.specs.declared.seats.Seat.{Seat}
use Rattle.cards.specs.Seats.{is_same_seat}
use Rattle.cards.specs.Pack.{suit_number}
use Rattle.patterns.specs.Shapes.{Shape, SuitShape, suit_of, len_of, tops_of, IsPattern}
use Rattle.patterns.specs.Words.{places_of}
use Rattle.patterns.proofs.SeatLaws.{is_same_seat_self, same_from_is_same}
use Rattle.patterns.proofs.Removals.{bit_more, lowest_cleared}
use Rattle.pattern_step.specs.declared.pat_cards.PatCard.{PatCard}
use Rattle.pattern_step.specs.declared.pat_cards.PatCard.TheVariants.{Top, Low}
use Rattle.pattern_step.specs.PatCards.{suit_of_card, HasCard, IsLegal}
use Rattle.pattern_step.proofs.TrickLaws.{held_suit}
use Rattle.pattern_step.proofs.PatCardLaws.{slice_get-within, owners-le-13}
use Rattle.checker.specs.CardSets.{place_in_set, SuitSetOf}
use Rattle.checker.proofs.CardSetLaws.{or_bit, one_bit}

-- ---- one suit
-- the bits of the places that the seat owns, and no others
abbrev HasTops : List Seat → Seat → ℕ → Type 0
HasTops owners seat set = (place : ℕ) → (bit_at set place ≡ 1) ↔ (slice_get owners place ≡ Some seat)

-- Some of the tops have their bits, and the others are left: the one in place i has bit 2 i there.
pub record HasTopsBut (owners : List Seat) (seat : Seat) (left set : ℕ) : Type 0 where
  pub even : (place : ℕ) → bit_at left (2 * place + 1) ≡ 0
  pub tops : (place : ℕ) → ((bit_at set place ≡ 1) ⊎ (bit_at left (2 * place) ≡ 1)) ↔ (slice_get owners place ≡ Some seat)

two_up : (n place : ℕ) → bit_at n (suc (suc place)) ≡ bit_at (n / 4) place
two_up n place =
    let quarter : n / 2 / 2 ≡ n / 4 = omega arith in
    bit_at-suc n (suc place) ∙ (bit_at-suc (n / 2) place ∙ ap (λ m. bit_at m place) quarter)

-- the places of an owner, from the front
one_owner : (here : Bool) (rest k : ℕ) → bit_at (cond here 1 0 + 4 * rest) (suc (suc k)) ≡ bit_at rest k
one_owner true rest k = let up : (1 + 4 * rest) / 4 ≡ rest = omega arith in two_up (1 + 4 * rest) k ∙ ap (λ m. bit_at m k) up
one_owner false rest k = let up : (0 + 4 * rest) / 4 ≡ rest = omega arith in two_up (0 + 4 * rest) k ∙ ap (λ m. bit_at m k) up

no_odd_place : (seat : Seat) (owners : List Seat) (place : ℕ) → bit_at (places_of seat owners) (2 * place + 1) ≡ 0
no_odd_place seat [] place = bit_at-zero (2 * place + 1)
no_odd_place seat (owner ∷ owners) zero = first (is_same_seat seat owner)
  where
    first : (here : Bool) → bit_at (cond here 1 0 + 4 * places_of seat owners) (2 * 0 + 1) ≡ 0
    first true = bit_at-suc (1 + 4 * places_of seat owners) 0 ∙ (bit_at_lowest ((1 + 4 * places_of seat owners) / 2) ∙ omega arith)
    first false = bit_at-suc (0 + 4 * places_of seat owners) 0 ∙ (bit_at_lowest ((0 + 4 * places_of seat owners) / 2) ∙ omega arith)
no_odd_place seat (owner ∷ owners) (suc place) =
    let at : 2 * suc place + 1 ≡ suc (suc (2 * place + 1)) = omega arith in
    ap (bit_at (places_of seat (owner ∷ owners))) at ∙ (one_owner (is_same_seat seat owner) (places_of seat owners) (2 * place + 1) ∙ no_odd_place seat owners place)

even_places : (seat : Seat) (owners : List Seat) (place : ℕ) → (bit_at (places_of seat owners) (2 * place) ≡ 1) ↔ (slice_get owners place ≡ Some seat)
even_places seat [] place = (λ h. absurd (omega (arith, h, bit_at-zero (2 * place))), λ h. cc)
even_places seat (owner ∷ owners) zero = first (is_same_seat seat owner) refl
  where
    first : (here : Bool) → is_same_seat seat owner ≡ here → (bit_at (cond here 1 0 + 4 * places_of seat owners) (2 * 0) ≡ 1) ↔ (Some owner ≡ Some seat)
    first true is = (λ h. ap Some (sym (same_from_is_same seat owner is)), λ h. bit_at_lowest (1 + 4 * places_of seat owners) ∙ omega arith)
    first false is = (
      λ h. absurd (omega (arith, h, bit_at_lowest (0 + 4 * places_of seat owners))),
      λ h. absurd (false≢true (sym is ∙ (let same : owner ≡ seat = cc in subst (λ (s : Seat). is_same_seat seat s ≡ true) (sym same) (is_same_seat_self seat)))),
    )
even_places seat (owner ∷ owners) (suc place) =
    let at : 2 * suc place ≡ suc (suc (2 * place)) = omega arith in
    let here = ap (bit_at (places_of seat (owner ∷ owners))) at ∙ one_owner (is_same_seat seat owner) (places_of seat owners) (2 * place) in
    let rest = even_places seat owners place in
    (λ h. rest.0 (sym here ∙ h), λ h. here ∙ rest.1 h)

-- at first all are left
pub all_left : (owners : List Seat) (seat : Seat) → HasTopsBut owners seat (places_of seat owners) 0
all_left owners seat = record {
  even = no_odd_place seat owners;
  tops = λ place. let told = even_places seat owners place in (
    (λ h. elim h [
      | inl none ↦ absurd (omega (arith, none, bit_at-zero place))
      | inr one ↦ told.0 one
    ]),
    λ h. inr (told.1 h),
  );
}

-- the lowest bit is taken out
taken : (n p i : ℕ) → ((j : ℕ) → j < p → bit_at n j ≡ 0) → bit_at n p ≡ 1 → (bit_at (n - 2 ^ p) i ≡ 1) ↔ ((bit_at n i ≡ 1) × (i ≢ p))
taken n zero zero none one = (
  λ h. absurd (omega (arith, h, one, bit_at_lowest n, bit_at_lowest (n - 2 ^ 0))),
  λ h. absurd (h.1 refl),
)
taken n zero (suc i) none one =
    let odd : n % 2 ≡ 1 = sym (bit_at_lowest n) ∙ one in
    let half : (n - 2 ^ 0) / 2 ≡ n / 2 = omega (arith, odd) in
    let same : bit_at (n - 2 ^ 0) (suc i) ≡ bit_at n (suc i) = bit_at-suc (n - 2 ^ 0) i ∙ (ap (λ m. bit_at m i) half ∙ sym (bit_at-suc n i)) in
    (λ h. (sym same ∙ h, λ e. absurd (omega (arith, e))), λ h. same ∙ h.0)
taken n (suc p) zero none one =
    let even : n % 2 ≡ 0 = sym (bit_at_lowest n) ∙ none 0 (omega arith) in
    let more = bit_more p in (
      λ h. absurd (omega (arith, h, even, more, bit_at_lowest (n - 2 ^ suc p))),
      λ h. absurd (omega (arith, h.0, even, bit_at_lowest n)),
    )
taken n (suc p) (suc i) none one =
    let more = bit_more p in
    let half : (n - 2 ^ suc p) / 2 ≡ n / 2 - 2 ^ p = omega (arith, more) in
    let rest = taken (n / 2) p i (λ j less. sym (bit_at-suc n j) ∙ none (suc j) (omega arith)) (sym (bit_at-suc n p) ∙ one) in
    let here : bit_at (n - 2 ^ suc p) (suc i) ≡ bit_at (n / 2 - 2 ^ p) i = bit_at-suc (n - 2 ^ suc p) i ∙ ap (λ m. bit_at m i) half in (
      (λ h. let is = rest.0 (sym here ∙ h) in (bit_at-suc n i ∙ is.0, λ e. is.1 (omega (arith, e)))),
      λ h. here ∙ rest.1 (sym (bit_at-suc n i) ∙ h.0, λ e. h.1 (ap suc e)),
    )

-- the lowest that is left: its place, and what is left after it
pub record LowestLeft (owners : List Seat) (seat : Seat) (left place : ℕ) : Type 0 where
  pub bit : bit_at left (2 * place) ≡ 1
  pub owned : slice_get owners place ≡ Some seat
  pub others : (i : ℕ) → (bit_at (bit_and left (left - 1)) i ≡ 1) ↔ ((bit_at left i ≡ 1) × (i ≢ 2 * place))

pub lowest_left : (owners : List Seat) (seat : Seat) (left set : ℕ) → HasTopsBut owners seat left set → 0 < left → left < 2 ^ 64 → LowestLeft owners seat left (trailing_zeros w64 left / 2)
lowest_left owners seat left set told some wide =
    let t = trailing_zeros w64 left in
    let tz = bit_at-trailing_zeros w64 left some wide in
    let at : t ≡ 2 * (t / 2) = elim (cases_eq (t % 2) 0) [
      | inl even ↦ omega (arith, even)
      | inr odd ↦ (
          let up : t ≡ 2 * (t / 2) + 1 = omega (arith, odd) in
          absurd (omega (arith, sym tz.1 ∙ ap (bit_at left) up ∙ told.even (t / 2)))
          )
    ] in
    let bit : bit_at left (2 * (t / 2)) ≡ 1 = ap (bit_at left) (sym at) ∙ tz.1 in
    record {
      bit = bit;
      owned = (told.tops (t / 2)).0 (inr bit);
      others = λ i. let out = taken left t i tz.2 tz.1 in let cleared = ap (λ n. bit_at n i) (lowest_cleared left some wide) in (
        (λ h. let is = out.0 (sym cleared ∙ h) in (is.0, λ e. is.1 (e ∙ sym at))),
        λ h. cleared ∙ out.1 (h.0, λ e. h.1 (e ∙ at)),
      );
    }

-- its bit is put in the set
pub one_put : (owners : List Seat) (seat : Seat) (left set one : ℕ) → HasTopsBut owners seat left set → 0 < left → left < 2 ^ 64 → one ≡ 2 ^ (trailing_zeros w64 left / 2) →
    HasTopsBut owners seat (bit_and left (left - 1)) (bit_or set one)
one_put owners seat left set one told some wide bit_is =
    let p = trailing_zeros w64 left / 2 in
    let lowest = lowest_left owners seat left set told some wide in
    record {
      even = λ place. elim (cases_eq (bit_at (bit_and left (left - 1)) (2 * place + 1)) 1) [
        | inl set' ↦ absurd (omega (arith, ((lowest.others (2 * place + 1)).0 set').0, told.even place))
        | inr none ↦ omega (arith, none, bit_at-lt (bit_and left (left - 1)) (2 * place + 1))
      ];
      tops = λ place. (
        (λ h. elim h [
          | inl put ↦ elim ((or_bit set one place).0 put) [
            | inl before ↦ (told.tops place).0 (inl before)
            | inr last ↦ subst (λ n. slice_get owners n ≡ Some seat) ((one_bit p place).0 (ap (λ n. bit_at n place) (sym bit_is) ∙ last)) lowest.owned
          ]
          | inr there ↦ (told.tops place).0 (inr ((lowest.others (2 * place)).0 there).0)
        ]),
        λ h. elim ((told.tops place).1 h) [
          | inl before ↦ inl ((or_bit set one place).1 (inl before))
          | inr there ↦ elim (cases_eq p place) [
            | inl same ↦ inl ((or_bit set one place).1 (inr (ap (λ n. bit_at n place) bit_is ∙ (one_bit p place).1 same)))
            | inr apart ↦ inr ((lowest.others (2 * place)).1 (there, λ e. apart (omega (arith, e))))
          ]
        ],
      );
    }

-- in the end none is left
all_put : (owners : List Seat) (seat : Seat) (left set : ℕ) → left ≡ 0 → HasTopsBut owners seat left set → HasTops owners seat set
all_put owners seat left set none told place = (
  (λ h. (told.tops place).0 (inl h)),
  λ h. elim ((told.tops place).1 h) [
    | inl one ↦ one
    | inr there ↦ absurd (omega (arith, there, ap (λ n. bit_at n (2 * place)) none, bit_at-zero (2 * place)))
  ],
)

-- all its tops, and the bit of the low cards
pub suit_told : (held : SuitShape) (seat : Seat) (left set one : ℕ) → left ≡ 0 → HasTopsBut held.owners seat left set → one ≡ 2 ^ 15 → tops_of held seat < len_of held seat →
    SuitSetOf held seat (bit_or set one)
suit_told held seat left set one none told bit_is low =
    let tops = all_put held.owners seat left set none told in
    record {
      tops = λ place inside. (
        (λ h. elim ((or_bit set one place).0 h) [
          | inl top ↦ (tops place).0 top
          | inr last ↦ absurd (omega (arith, inside, (one_bit 15 place).0 (ap (λ n. bit_at n place) (sym bit_is) ∙ last)))
        ]),
        λ h. (or_bit set one place).1 (inl ((tops place).1 h)),
      );
      low = (λ h. low, λ h. (or_bit set one 15).1 (inr (ap (λ n. bit_at n 15) bit_is ∙ (one_bit 15 15).1 refl)));
    }

pub tops_told : (held : SuitShape) (seat : Seat) (left set : ℕ) → left ≡ 0 → HasTopsBut held.owners seat left set → length held.owners ≤ 13 → len_of held seat ≤ tops_of held seat →
    SuitSetOf held seat set
tops_told held seat left set empty told few none =
    let tops = all_put held.owners seat left set empty told in
    record {
      tops = λ place inside. tops place;
      low = (λ h. absurd (omega (arith, slice_get-within held.owners 15 seat ((tops 15).0 h), few)), λ h. absurd (omega (arith, h, none)));
    }

-- a seat that has no card of a suit
pub void_told : (shape : Shape) → IsPattern shape → (suit : Suit) (seat : Seat) → len_of (suit_of shape suit) seat ≡ 0 → SuitSetOf (suit_of shape suit) seat 0
void_told shape pattern suit seat void = record {
  tops = λ place inside. (
    (λ h. absurd (omega (arith, h, bit_at-zero place))),
    λ owned. absurd (omega (arith, void, held_suit shape pattern seat (Top suit place) suit owned (eq-eqb (suit_number suit) (suit_number suit) refl))),
  );
  low = (λ h. absurd (omega (arith, h, bit_at-zero 15)), λ some. absurd (omega (arith, void, some)));
}

-- ---- the four suits
-- the sixteen bits from a place on
part_at : (above part below k i p : ℕ) → below < 2 ^ k → p < 16 → i ≡ k + p → bit_at (above * 2 ^ (k + 16) + (part * 2 ^ k + below)) i ≡ bit_at part p
part_at above part below k i p small inside at =
    let here : i - k ≡ p = omega (arith, at) in
    bit_at_cat_low above (k + 16) (part * 2 ^ k + below) i (omega (arith, at, inside))
    ∙ (bit_at_cat_high part k below i small (omega (arith, at)) ∙ ap (bit_at part) here)

abbrev pub of_four : ℕ → ℕ → ℕ → ℕ → Suit → ℕ
of_four spades hearts diamonds clubs Spades = spades
of_four spades hearts diamonds clubs Hearts = hearts
of_four spades hearts diamonds clubs Diamonds = diamonds
of_four spades hearts diamonds clubs Clubs = clubs

suit_at : (s h d c word : ℕ) → s < 2 ^ 16 → h < 2 ^ 16 → d < 2 ^ 16 → c < 2 ^ 16 → word ≡ s + h * 2 ^ 16 + d * 2 ^ 32 + c * 2 ^ 48 → (suit : Suit) (p : ℕ) → p < 16 →
    bit_at word (16 * suit_number suit + p) ≡ bit_at (of_four s h d c suit) p
suit_at s h d c word s16 h16 d16 c16 is Spades p inside =
    let parts : word ≡ (h + d * 2 ^ 16 + c * 2 ^ 32) * 2 ^ 16 + (s * 2 ^ 0 + 0) = omega (arith, is) in
    let at : 16 * suit_number Spades + p ≡ p = omega arith in
    ap (bit_at word) at ∙ (ap (λ n. bit_at n p) parts ∙ part_at (h + d * 2 ^ 16 + c * 2 ^ 32) s 0 0 p p (omega arith) inside (omega arith))
suit_at s h d c word s16 h16 d16 c16 is Hearts p inside =
    let parts : word ≡ (d + c * 2 ^ 16) * 2 ^ 32 + (h * 2 ^ 16 + s) = omega (arith, is) in
    ap (λ n. bit_at n (16 + p)) parts ∙ part_at (d + c * 2 ^ 16) h s 16 (16 + p) p s16 inside refl
suit_at s h d c word s16 h16 d16 c16 is Diamonds p inside =
    let parts : word ≡ c * 2 ^ 48 + (d * 2 ^ 32 + (h * 2 ^ 16 + s)) = omega (arith, is) in
    ap (λ n. bit_at n (32 + p)) parts ∙ part_at c d (h * 2 ^ 16 + s) 32 (32 + p) p (omega (arith, s16, h16)) inside refl
suit_at s h d c word s16 h16 d16 c16 is Clubs p inside =
    let parts : word ≡ 0 * 2 ^ 64 + (c * 2 ^ 48 + (d * 2 ^ 32 + (h * 2 ^ 16 + s))) = omega (arith, is) in
    ap (λ n. bit_at n (48 + p)) parts ∙ part_at 0 c (d * 2 ^ 32 + (h * 2 ^ 16 + s)) 48 (48 + p) p (omega (arith, s16, h16, d16)) inside refl

-- what sixteen bits tell of the cards of a suit
pub record SuitTold (P : PatCard → Type 0) (suit : Suit) (set : ℕ) : Type 0 where
  pub tops : (place : ℕ) → place < 15 → (bit_at set place ≡ 1) ↔ P (Top suit place)
  pub low : (bit_at set 15 ≡ 1) ↔ P (Low suit)

-- what four suits tell of each card, where no tops after the thirteenth place are so
cards_told : (P : PatCard → Type 0) → ((suit : Suit) (place : ℕ) → P (Top suit place) → place < 13) → (sets : Suit → ℕ) (word : ℕ) →
    ((suit : Suit) (p : ℕ) → p < 16 → bit_at word (16 * suit_number suit + p) ≡ bit_at (sets suit) p) → ((suit : Suit) → SuitTold P suit (sets suit)) →
    (card : PatCard) → (bit_at word (place_in_set card) ≡ 1) ↔ P card
cards_told P early sets word at each (Low suit) =
    let here = at suit 15 (omega arith) in
    ((λ one. (each suit).low.0 (sym here ∙ one)), λ is. here ∙ (each suit).low.1 is)
cards_told P early sets word at each (Top suit place) =
    let here = at suit (min place 14) (omega arith) in
    let told = (each suit).tops (min place 14) (omega arith) in
    elim (cases_lt place 14) [
      | inl less ↦ (
          let same : min place 14 ≡ place = omega (arith, less) in
          ((λ one. subst (λ n. P (Top suit n)) same (told.0 (sym here ∙ one))), λ is. here ∙ told.1 (subst (λ n. P (Top suit n)) (sym same) is))
          )
      | inr late ↦ (
        (λ one. absurd (omega (arith, late, early suit (min place 14) (told.0 (sym here ∙ one))))),
        λ is. absurd (omega (arith, late, early suit place is)),
      )
    ]

early_top : (shape : Shape) → IsPattern shape → (seat : Seat) (suit : Suit) (place : ℕ) → HasCard shape seat (Top suit place) → place < 13
early_top shape pattern seat suit place has = omega (arith, slice_get-within (suit_of shape suit).owners place seat has, owners-le-13 shape pattern suit)

-- all cards of a seat
pub held_told : (shape : Shape) → IsPattern shape → (seat : Seat) (s h d c word : ℕ) → s < 2 ^ 16 → h < 2 ^ 16 → d < 2 ^ 16 → c < 2 ^ 16 → word ≡ s + h * 2 ^ 16 + d * 2 ^ 32 + c * 2 ^ 48 →
    SuitSetOf shape.spades seat s → SuitSetOf shape.hearts seat h → SuitSetOf shape.diamonds seat d → SuitSetOf shape.clubs seat c →
    (card : PatCard) → (bit_at word (place_in_set card) ≡ 1) ↔ HasCard shape seat card
held_told shape pattern seat s h d c word s16 h16 d16 c16 is of_s of_h of_d of_c =
    cards_told (HasCard shape seat) (early_top shape pattern seat) (of_four s h d c) word (suit_at s h d c word s16 h16 d16 c16 is) each
  where
    each : (suit : Suit) → SuitTold (HasCard shape seat) suit (of_four s h d c suit)
    each Spades = record { tops = of_s.tops; low = of_s.low }
    each Hearts = record { tops = of_h.tops; low = of_h.low }
    each Diamonds = record { tops = of_d.tops; low = of_d.low }
    each Clubs = record { tops = of_c.tops; low = of_c.low }

-- ---- the suit led
abbrev only : Suit → ℕ → Suit → ℕ
only Spades set = of_four set 0 0 0
only Hearts set = of_four 0 set 0 0
only Diamonds set = of_four 0 0 set 0
only Clubs set = of_four 0 0 0 set

only_at : (suit : Suit) (set word : ℕ) → set < 2 ^ 16 → word ≡ set * 2 ^ (16 * suit_number suit) % 2 ^ 64 → (other : Suit) (p : ℕ) → p < 16 →
    bit_at word (16 * suit_number other + p) ≡ bit_at (only suit set other) p
only_at Spades set word small is other p inside = suit_at set 0 0 0 word small (omega arith) (omega arith) (omega arith) (omega (arith, is, small)) other p inside
only_at Hearts set word small is other p inside = suit_at 0 set 0 0 word (omega arith) small (omega arith) (omega arith) (omega (arith, is, small)) other p inside
only_at Diamonds set word small is other p inside = suit_at 0 0 set 0 word (omega arith) (omega arith) small (omega arith) (omega (arith, is, small)) other p inside
only_at Clubs set word small is other p inside = suit_at 0 0 0 set word (omega arith) (omega arith) (omega arith) small (omega (arith, is, small)) other p inside

-- the cards of one suit
abbrev HasOf : Shape → Seat → Suit → PatCard → Type 0
HasOf shape seat suit card = HasCard shape seat card × (suit_of_card card ≡ suit)

none_of : (shape : Shape) (seat : Seat) (suit other : Suit) → (other ≡ suit → ⊥) → SuitTold (HasOf shape seat suit) other 0
none_of shape seat suit other apart = record {
  tops = λ place inside. ((λ h. absurd (omega (arith, h, bit_at-zero place))), λ is. absurd (apart is.1));
  low = ((λ h. absurd (omega (arith, h, bit_at-zero 15))), λ is. absurd (apart is.1));
}

those_of : (shape : Shape) (seat : Seat) (suit : Suit) (set : ℕ) → SuitSetOf (suit_of shape suit) seat set → SuitTold (HasOf shape seat suit) suit set
those_of shape seat suit set told = record {
  tops = λ place inside. ((λ h. ((told.tops place inside).0 h, refl)), λ is. (told.tops place inside).1 is.0);
  low = ((λ h. (told.low.0 h, refl)), λ is. told.low.1 is.0);
}

each_of : (shape : Shape) (seat : Seat) (suit : Suit) (set : ℕ) → SuitSetOf (suit_of shape suit) seat set → (other : Suit) → SuitTold (HasOf shape seat suit) other (only suit set other)
each_of shape seat Spades set told Spades = those_of shape seat Spades set told
each_of shape seat Hearts set told Hearts = those_of shape seat Hearts set told
each_of shape seat Diamonds set told Diamonds = those_of shape seat Diamonds set told
each_of shape seat Clubs set told Clubs = those_of shape seat Clubs set told
each_of shape seat Spades set told Hearts = none_of shape seat Spades Hearts (λ e. cc)
each_of shape seat Spades set told Diamonds = none_of shape seat Spades Diamonds (λ e. cc)
each_of shape seat Spades set told Clubs = none_of shape seat Spades Clubs (λ e. cc)
each_of shape seat Hearts set told Spades = none_of shape seat Hearts Spades (λ e. cc)
each_of shape seat Hearts set told Diamonds = none_of shape seat Hearts Diamonds (λ e. cc)
each_of shape seat Hearts set told Clubs = none_of shape seat Hearts Clubs (λ e. cc)
each_of shape seat Diamonds set told Spades = none_of shape seat Diamonds Spades (λ e. cc)
each_of shape seat Diamonds set told Hearts = none_of shape seat Diamonds Hearts (λ e. cc)
each_of shape seat Diamonds set told Clubs = none_of shape seat Diamonds Clubs (λ e. cc)
each_of shape seat Clubs set told Spades = none_of shape seat Clubs Spades (λ e. cc)
each_of shape seat Clubs set told Hearts = none_of shape seat Clubs Hearts (λ e. cc)
each_of shape seat Clubs set told Diamonds = none_of shape seat Clubs Diamonds (λ e. cc)

-- a seat that has cards of the suit led
pub led_told : (shape : Shape) → IsPattern shape → (seat : Seat) (led : Option Suit) (suit : Suit) (held : SuitShape) (n set word : ℕ) → led ≡ Some suit → 0 < len_of (suit_of shape suit) seat →
    held ≡ suit_of shape suit → n ≡ suit_number suit → set < 2 ^ 16 → word ≡ set * 2 ^ (16 * n) % 2 ^ 64 → SuitSetOf held seat set →
    (card : PatCard) → (bit_at word (place_in_set card) ≡ 1) ↔ IsLegal shape seat led card
led_told shape pattern seat led suit held n set word was some is at small word_is told card =
    let told' : SuitSetOf (suit_of shape suit) seat set = subst (λ (s : SuitShape). SuitSetOf s seat set) is told in
    let word' : word ≡ set * 2 ^ (16 * suit_number suit) % 2 ^ 64 = word_is ∙ ap (λ m. set * 2 ^ (16 * m) % 2 ^ 64) at in
    let here = cards_told (HasOf shape seat suit) (λ s place has. early_top shape pattern seat s place has.0) (only suit set) word
    (only_at suit set word small word') (each_of shape seat suit set told') card in
    subst (λ (l : Option Suit). (bit_at word (place_in_set card) ≡ 1) ↔ IsLegal shape seat l card) (sym was) (
      (λ one. let has = here.0 one in record { has = has.0; follows = λ _. has.1 }),
      λ legal. here.1 (legal.has, legal.follows some),
    )
