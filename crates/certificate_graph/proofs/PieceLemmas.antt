-- What goes out in one piece: a child with the digits of its number, the lengths of a suit, an owner.
use Rattle.std.proofs.Common.{◌≡◌, ℕ, suc, ◌+◌, ◌<◌, ◌^◌, ◌/◌, ◌%◌, List, [], ◌∷◌, ◌++◌, drop, Some, None, sym, ◌∙◌, ap, ap₂, append-nil, append_assoc, add-one, drop-cons, arith, inl, inr}
use Rattle.std.specs.Fmt.{decimal}
use Rattle.std.specs.Prelude.{slice_get}
use Rattle.std.proofs.lemmas.Fmt.{decimal_digit, decimal_step}
use Rattle.std.proofs.lemmas.List.{drop_all}
use Rattle.std.proofs.lemmas.Option.{slice_get_cases, slice_get_within, get_or_from_slice_get}
use Rattle.cards.specs.declared.seats.Seat.{Seat}
use Rattle.cards.specs.declared.seats.Seat.TheVariants.{North, East, South, West}
use Rattle.cards.specs.Seats.{seat_letter}
use Rattle.patterns.specs.Shapes.{SuitShape, len_of}
use Rattle.certificate_graph.specs.declared.children.Child.{Child}
use Rattle.certificate_graph.specs.Texts.{child_text, owners_text, suit_text}

-- the last digit of a number that has others before it
pub digit_more : (n last : ℕ) (digits : List ℕ) → last ≡ 48 + n % 10 → (n / 10 ≡ 0 → ⊥) → n < 2 ^ 64 → decimal (n / 10) ≡ digits → decimal n ≡ digits ++ (last ∷ [])
digit_more n last digits digit some fits others =
    decimal_step n (omega (arith, some)) fits ∙ ap₂ (λ ds d. ds ++ (d ∷ [])) others (sym digit)

-- and of one that has none
pub digit_alone : (n last : ℕ) → last ≡ 48 + n % 10 → n / 10 ≡ 0 → decimal n ≡ last ∷ []
digit_alone n last digit none = decimal_digit n (omega (arith, none)) ∙ ap (λ d. d ∷ []) (omega (arith, digit, none))

-- a byte, the letter of a seat and the digits of a number
pub child_is : (before seat : ℕ) (child : Child) (digits : List ℕ) → seat_letter child.winner ≡ seat ∷ [] → decimal child.number ≡ digits → before ∷ seat ∷ digits ≡ before ∷ child_text child []
child_is before seat child digits letter is =
    ap₂ (λ l ds. before ∷ (l ++ ds)) (sym letter) (sym is ∙ sym (append-nil (decimal child.number)))

-- four lengths of a digit each
pub short_lens : (n e s w : ℕ) → n < 10 → e < 10 → s < 10 → w < 10 →
    (48 + n) ∷ 46 ∷ (48 + e) ∷ 46 ∷ (48 + s) ∷ 46 ∷ (48 + w) ∷ 47 ∷ [] ≡ suit_text (record { lens = n ∷ e ∷ s ∷ w ∷ []; owners = [] }) []
short_lens n e s w a b c d =
    ap₂ (λ x y. x ++ (46 ∷ (y ++ (46 ∷ (48 + s) ∷ 46 ∷ (48 + w) ∷ 47 ∷ [])))) (sym (decimal_digit n a)) (sym (decimal_digit e b))
    ∙ ap₂ (λ x y. decimal n ++ (46 ∷ (decimal e ++ (46 ∷ (x ++ (46 ∷ (y ++ (47 ∷ [])))))))) (sym (decimal_digit s c)) (sym (decimal_digit w d))

-- four lengths, and the owners after them
pub suit_is : (suit : SuitShape) (n e s w : ℕ) → n ≡ len_of suit North → e ≡ len_of suit East → s ≡ len_of suit South → w ≡ len_of suit West →
    suit_text (record { lens = n ∷ e ∷ s ∷ w ∷ []; owners = [] }) [] ++ owners_text suit.owners [] ≡ suit_text suit []
suit_is suit n e s w a b c d = rw (a, b, c, d) (simp append_assoc)

-- ---- owners from some place on
pub no_owner : (owners : List Seat) (place : ℕ) → slice_get owners place ≡ None → drop place owners ≡ []
no_owner owners place none = elim (slice_get_cases owners place).1 [
  | inl there ↦ let apart : Some there.0 ≡ None = sym there.2 ∙ none in cc
  | inr past ↦ drop_all place owners past.0
]

-- one of them, and those after it
pub owner_is : (owners : List Seat) (place : ℕ) (owner : Seat) (letter : ℕ) → slice_get owners place ≡ Some owner → seat_letter owner ≡ letter ∷ [] →
    (letter ∷ []) ++ owners_text (drop (place + 1) owners) [] ≡ owners_text (drop place owners) []
owner_is owners place owner letter here is =
    let next : drop place owners ≡ owner ∷ drop (place + 1) owners =
    rw add-one (drop-cons owners place owner (slice_get_within owners place owner here)
    ∙ ap (λ o. o ∷ drop (suc place) owners) (get_or_from_slice_get owners place owner owner here)) in
    ap (λ l. l ++ owners_text (drop (place + 1) owners) []) (sym is) ∙ ap (λ os. owners_text os []) (sym next)
