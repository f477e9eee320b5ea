-- A text begins with a form, or with none: which of them is decided for bytes, letters, numbers and patterns.
use Rattle.std.proofs.Common.{◌≡◌, ◌≢◌, ℕ, zero, suc, ◌+◌, ◌-◌, ◌≤◌, List, [], ◌∷◌, ◌++◌, length, refl, sym, ◌∙◌, ap, arith, inl, inr, ◌⊎◌, lit≤, sub-one}
use Rattle.std.specs.Char.{digit_value}
use Rattle.std.specs.Fmt.{decimal}
use Rattle.std.specs.Str.Parse.{AllDigits, digits_value}
use Rattle.std.proofs.lemmas.Bool.{cases_lt}
use Rattle.cards.specs.declared.seats.Seat.{Seat}
use Rattle.cards.specs.declared.seats.Seat.TheVariants.{North, East, South, West}
use Rattle.cards.specs.declared.suits.Suit.{Suit}
use Rattle.cards.specs.declared.suits.Suit.TheVariants.{Spades, Hearts, Diamonds, Clubs}
use Rattle.cards.specs.Pack.{suit_letter}
use Rattle.patterns.specs.Shapes.{SuitShape, Shape}
use Rattle.pattern_step.specs.declared.pat_cards.PatCard.{PatCard}
use Rattle.pattern_step.specs.declared.pat_cards.PatCard.TheVariants.{Top, Low}
use Rattle.certificate_graph.specs.Graphs.{IsCard}
use Rattle.certificate_graph.specs.TextFaults.{IsNumber}
use Rattle.certificate_graph.specs.Texts.{card_text, owners_text}
use Rattle.certificate_graph.specs.Readings.{Always, seat_text, len_text, Lacks, IsLen, Begins, StopsDigits, BeginsNumber, LacksNumber, LacksOwners, BeginsTwo, LacksTwo, BeginsSuit, LacksSuit, BeginsTwoSuits, LacksTwoSuits, BeginsPattern, LacksPattern, BeginsClaim, LacksClaim}
use Rattle.certificate_graph.proofs.OneSpelling.{heads, tails, one_seat, one_suit}
use Rattle.certificate_graph.proofs.NumberLemmas.{number_read, digits_are, len_is}
use Rattle.certificate_graph.proofs.LeafLemmas.{LacksByte}
use Rattle.certificate_graph.proofs.LineLemmas.{claim_zero}
use Rattle.certificate_graph.proofs.PatternLemmas.{owners_by_seat, owners_by_more, two_by_second, lens_by_first, lens_by_second, suit_by_owners, suit_read, two_suits_by_second, pattern_by_first, pattern_by_second}
use Rattle.check_laws.proofs.PatternLemmas.{owners_by_room, two_read, lens_read, suit_by_lens, two_suits_by_first, two_suits_read, pattern_read}

pub same_or_not : (m n : ℕ) → (m ≡ n) ⊎ (m ≢ n)
same_or_not m n = elim (cases_lt m n) [
  | inl low ↦ inr (λ e. omega arith)
  | inr high ↦ elim (cases_lt n m) [ inl low ↦ inr (λ e. omega arith) | inr also ↦ inl (omega arith) ]
]

pub some_byte : (byte : ℕ) (text : List ℕ) → LacksByte byte text ⊎ ((rest : List ℕ) × (text ≡ byte ∷ rest))
some_byte byte [] = inl (λ rest e. cc)
some_byte byte (x ∷ xs) = elim (same_or_not x byte) [
  | inl e ↦ inr (xs, ap (λ n. n ∷ xs) e)
  | inr apart ↦ inl (λ rest e. apart (heads x byte xs rest e))
]

no_seat : (text : List ℕ) → LacksByte 78 text → LacksByte 69 text → LacksByte 83 text → LacksByte 87 text → Lacks Always seat_text text
no_seat text n e s w North rest good is = n rest is
no_seat text n e s w East rest good is = e rest is
no_seat text n e s w South rest good is = s rest is
no_seat text n e s w West rest good is = w rest is

pub some_seat : (text : List ℕ) → Lacks Always seat_text text ⊎ ((seat : Seat) × (rest : List ℕ) × (text ≡ seat_text seat rest))
some_seat text = elim (some_byte 78 text) [
  | inr n ↦ inr (North, n.0, n.1)
  | inl n ↦ elim (some_byte 69 text) [
    | inr e ↦ inr (East, e.0, e.1)
    | inl e ↦ elim (some_byte 83 text) [
      | inr s ↦ inr (South, s.0, s.1)
      | inl s ↦ elim (some_byte 87 text) [ inr w ↦ inr (West, w.0, w.1) | inl w ↦ inl (no_seat text n e s w) ]
    ]
  ]
]

no_suit : (text : List ℕ) → LacksByte 83 text → LacksByte 72 text → LacksByte 68 text → LacksByte 67 text → (suit : Suit) (rest : List ℕ) → text ≡ suit_letter suit ++ rest → ⊥
no_suit text s h d c Spades rest is = s rest is
no_suit text s h d c Hearts rest is = h rest is
no_suit text s h d c Diamonds rest is = d rest is
no_suit text s h d c Clubs rest is = c rest is

some_suit : (text : List ℕ) → ((suit : Suit) (rest : List ℕ) → text ≡ suit_letter suit ++ rest → ⊥) ⊎ ((suit : Suit) × (rest : List ℕ) × (text ≡ suit_letter suit ++ rest))
some_suit text = elim (some_byte 83 text) [
  | inr s ↦ inr (Spades, s.0, s.1)
  | inl s ↦ elim (some_byte 72 text) [
    | inr h ↦ inr (Hearts, h.0, h.1)
    | inl h ↦ elim (some_byte 68 text) [
      | inr d ↦ inr (Diamonds, d.0, d.1)
      | inl d ↦ elim (some_byte 67 text) [ inr c ↦ inr (Clubs, c.0, c.1) | inl c ↦ inl (no_suit text s h d c) ]
    ]
  ]
]

no_card_of_suit : (text : List ℕ) → ((suit : Suit) (rest : List ℕ) → text ≡ suit_letter suit ++ rest → ⊥) → Lacks IsCard card_text text
no_card_of_suit text lacks (Top suit place) rest good is = lacks suit _ is
no_card_of_suit text lacks (Low suit) rest good is = lacks suit _ is

no_card_at_all : (text : List ℕ) (suit : Suit) → text ≡ suit_letter suit ++ [] → Lacks IsCard card_text text
no_card_at_all text suit e (Top other place) rest good is = let same = (one_suit suit other [] _ (sym e ∙ is)).1 in cc
no_card_at_all text suit e (Low other) rest good is = let same = (one_suit suit other [] _ (sym e ∙ is)).1 in cc

no_card_here : (text : List ℕ) (suit : Suit) (byte : ℕ) (after : List ℕ) → text ≡ suit_letter suit ++ (byte ∷ after) → byte ≢ 120 → (97 ≤ byte → 110 ≤ byte) → Lacks IsCard card_text text
no_card_here text suit byte after e apart out (Top other place) rest good is =
    let same = heads _ _ _ _ (one_suit suit other _ _ (sym e ∙ is)).1 in
    let high : 110 ≤ byte = out (omega arith) in
    omega arith
no_card_here text suit byte after e apart out (Low other) rest good is = apart (heads _ _ _ _ (one_suit suit other _ _ (sym e ∙ is)).1)

pub some_card : (text : List ℕ) → Lacks IsCard card_text text ⊎ ((card : PatCard) × (rest : List ℕ) × Begins IsCard card_text text card rest)
some_card text = elim (some_suit text) [
  | inl lacks ↦ inl (no_card_of_suit text lacks)
  | inr found ↦ of_suit found.0 found.1 found.2
]
  where
    top : (suit : Suit) (byte : ℕ) (after : List ℕ) → text ≡ suit_letter suit ++ (byte ∷ after) → byte ≢ 120 → Lacks IsCard card_text text ⊎ ((card : PatCard) × (rest : List ℕ) × Begins IsCard card_text text card rest)
    top suit byte after e apart = elim (cases_lt byte 97) [
      | inl low ↦ inl (no_card_here text suit byte after e apart (λ h. omega arith))
      | inr high ↦ elim (cases_lt byte 110) [
        | inl below ↦
            let place : byte ≡ 97 + (byte - 97) = omega arith in
            inr (Top suit (byte - 97), after, record { good = omega arith; is = e ∙ ap (λ n. suit_letter suit ++ (n ∷ after)) place })
        | inr above ↦ inl (no_card_here text suit byte after e apart (λ h. above))
      ]
    ]

    of_suit : (suit : Suit) (rest : List ℕ) → text ≡ suit_letter suit ++ rest → Lacks IsCard card_text text ⊎ ((card : PatCard) × (rest : List ℕ) × Begins IsCard card_text text card rest)
    of_suit suit [] e = inl (no_card_at_all text suit e)
    of_suit suit (byte ∷ after) e = elim (same_or_not byte 120) [
      | inl low ↦ inr (Low suit, after, record { good = tt; is = e ∙ ap (λ n. suit_letter suit ++ (n ∷ after)) low })
      | inr apart ↦ top suit byte after e apart
    ]

-- ---- numbers
pub record Split (text : List ℕ) : Type 0 where
  pub digits : List ℕ
  pub rest : List ℕ
  pub is : text ≡ digits ++ rest
  pub all : AllDigits 10 digits
  pub stops : StopsDigits rest

pub split : (text : List ℕ) → Split text
split [] = record { digits = []; rest = []; is = refl; all = tt; stops = tt }
split (x ∷ xs) = elim (cases_lt (digit_value x) 10) [
  | inl digit ↦
      let more = split xs in
      record { digits = x ∷ more.digits; rest = more.rest; is = ap (λ t. x ∷ t) more.is; all = (digit, more.all); stops = more.stops }
  | inr other ↦ record { digits = []; rest = x ∷ xs; is = refl; all = tt; stops = other }
]

pub number_or_not : (digits : List ℕ) → AllDigits 10 digits → (IsNumber digits → ⊥) ⊎ IsNumber digits
number_or_not [] all = inl (λ number. let some = number.numeral.0 in omega arith)
number_or_not (d ∷ []) all = inr (record { numeral = (omega arith, all); plain = λ e. refl })
number_or_not (d ∷ e ∷ more) all = elim (same_or_not d 48) [
  | inl nought ↦ inl (λ number. let one : length (d ∷ e ∷ more) ≡ 1 = number.plain nought in omega arith)
  | inr apart ↦ inr (record { numeral = (omega arith, all); plain = λ nought. absurd (apart nought) })
]

pub some_number : (text : List ℕ) → LacksNumber text ⊎ ((n : ℕ) × (rest : List ℕ) × BeginsNumber text n rest)
some_number text =
    let parts = split text in
    elim (number_or_not parts.digits parts.all) [
      | inl not ↦ inl (λ n rest begins. not (digits_are text parts.digits parts.rest n rest parts.is parts.all parts.stops begins).0)
      | inr number ↦ elim (cases_lt 7 (length parts.digits)) [
        | inl long ↦ inl (λ n rest begins. let few = (digits_are text parts.digits parts.rest n rest parts.is parts.all parts.stops begins).1 in omega arith)
        | inr few ↦ inr (digits_value 10 parts.digits, parts.rest, number_read text parts.digits parts.rest parts.is parts.stops number few)
      ]
    ]

pub some_len : (byte : ℕ) (text : List ℕ) → 10 ≤ digit_value byte → Lacks IsLen (len_text byte) text ⊎ ((len : ℕ) × (rest : List ℕ) × Begins IsLen (len_text byte) text len rest)
some_len byte text stops = elim (some_number text) [
  | inl lacks ↦ inl (λ len rest few e. lacks len (byte ∷ rest) (record { short = omega arith; stops = stops; is = e }))
  | inr found ↦ elim (cases_lt 13 found.0) [
    | inl large ↦ inl (λ len rest few e. let same = (len_is text found.0 byte found.1 len rest found.2 stops few e).0 in omega arith)
    | inr few ↦ elim (some_byte byte found.1) [
      | inl lacks ↦ inl (λ len rest low e. lacks rest (len_is text found.0 byte found.1 len rest found.2 stops low e).1)
      | inr end ↦ inr (found.0, end.0, record { good = few; is = found.2.is ∙ ap (λ t. decimal found.0 ++ t) end.1 })
    ]
  ]
]

-- ---- patterns
pub some_owners : (room : ℕ) (text : List ℕ) → LacksOwners room text ⊎ ((owners : List Seat) × (rest : List ℕ) × (length owners ≤ room) × (text ≡ owners_text owners (32 ∷ rest)))
some_owners zero text = elim (some_byte 32 text) [
  | inr end ↦ inr ([], end.0, omega arith, end.1)
  | inl blank ↦ inl (owners_by_room 0 text blank refl)
]
some_owners (suc room) text = elim (some_byte 32 text) [
  | inr end ↦ inr ([], end.0, omega arith, end.1)
  | inl blank ↦ elim (some_seat text) [
    | inl lacks ↦ inl (owners_by_seat (suc room) text blank lacks)
    | inr first ↦ elim (some_owners room first.1) [
      | inl lacks ↦ inl (owners_by_more (suc room) text first.0 first.1 blank first.2 (rw sub-one lacks))
      | inr more ↦ inr (first.0 ∷ more.0, more.1, (let few = more.2 in omega arith), first.2 ∙ ap (seat_text first.0) more.3)
    ]
  ]
]

some_two : (first second : ℕ) (text : List ℕ) → 10 ≤ digit_value first → 10 ≤ digit_value second → LacksTwo first second text ⊎ ((one : ℕ) × (other : ℕ) × (rest : List ℕ) × BeginsTwo first second text one other rest)
some_two first second text x y = elim (some_len first text x) [
  | inl lacks ↦ inl (λ one other rest two. lacks one _ two.low two.is)
  | inr one ↦ elim (some_len second one.1 y) [
    | inl lacks ↦ inl (two_by_second first second text one.0 one.1 x one.2 lacks)
    | inr other ↦ inr (one.0, other.0, other.1, two_read first second text one.0 other.0 one.1 other.1 one.2 other.2)
  ]
]

pub some_suit_form : (text : List ℕ) → LacksSuit text ⊎ ((suit : SuitShape) × (rest : List ℕ) × BeginsSuit text suit rest)
some_suit_form text = elim (some_two 46 46 text (lit≤ tt) (lit≤ tt)) [
  | inl lacks ↦ inl (suit_by_lens text (lens_by_first text lacks))
  | inr p ↦ elim (some_two 46 47 p.2 (lit≤ tt) (lit≤ tt)) [
    | inl lacks ↦ inl (suit_by_lens text (lens_by_second text p.0 p.1 p.2 p.3 lacks))
    | inr q ↦
        let lens = lens_read text p.0 p.1 q.0 q.1 p.2 q.2 p.3 q.3 in
        elim (some_owners 13 q.2) [
          | inl lacks ↦ inl (suit_by_owners text _ q.2 lens lacks)
          | inr o ↦ inr (_, o.1, suit_read text _ q.2 o.0 o.1 lens o.2 o.3)
        ]
  ]
]

some_two_suits : (text : List ℕ) → LacksTwoSuits text ⊎ ((first : SuitShape) × (second : SuitShape) × (rest : List ℕ) × BeginsTwoSuits text first second rest)
some_two_suits text = elim (some_suit_form text) [
  | inl lacks ↦ inl (two_suits_by_first text lacks)
  | inr one ↦ elim (some_suit_form one.1) [
    | inl lacks ↦ inl (two_suits_by_second text one.0 one.1 one.2 lacks)
    | inr other ↦ inr (one.0, other.0, other.1, two_suits_read text one.0 other.0 one.1 other.1 one.2 other.2)
  ]
]

pub some_pattern : (text : List ℕ) → LacksPattern text ⊎ ((pattern : Shape) × (rest : List ℕ) × BeginsPattern text pattern rest)
some_pattern text = elim (some_two_suits text) [
  | inl lacks ↦ inl (pattern_by_first text lacks)
  | inr p ↦ elim (some_two_suits p.2) [
    | inl lacks ↦ inl (pattern_by_second text p.0 p.1 p.2 p.3 lacks)
    | inr q ↦
        let shape : Shape = record { spades = p.0; hearts = p.1; diamonds = q.0; clubs = q.1 } in
        inr (shape, q.2, pattern_read text shape p.2 q.2 p.3 q.3)
  ]
]

pub some_claim : (text : List ℕ) → LacksClaim text ⊎ ((lead : Seat) × (need : ℕ) × (rest : List ℕ) × BeginsClaim text lead need rest)
some_claim text = elim (some_seat text) [
  | inl lacks ↦ inl (λ lead need rest begins. lacks lead _ tt begins.is)
  | inr lead ↦ elim (some_byte 32 lead.1) [
    | inl lacks ↦ inl (λ other need rest begins. lacks _ (one_seat lead.0 other lead.1 _ (sym lead.2 ∙ begins.is)).1)
    | inr blank ↦ elim (some_len 32 blank.0 (lit≤ tt)) [
      | inl lacks ↦ inl (λ other need rest begins.
          lacks need rest begins.is_need.1 (tails _ _ _ _ (sym blank.1 ∙ (one_seat lead.0 other lead.1 _ (sym lead.2 ∙ begins.is)).1)))
      | inr need ↦ elim (same_or_not need.0 0) [
        | inl nothing ↦ inl (claim_zero text lead.0 lead.1 blank.0 need.0 need.1 lead.2 blank.1 need.2 nothing)
        | inr some ↦ inr (
          lead.0,
          need.0,
          need.1,
          record {
            is_need = (omega (arith, some), need.2.good);
            is = lead.2 ∙ ap (seat_text lead.0) (blank.1 ∙ ap (λ t. 32 ∷ t) need.2.is);
          },
        )
      ]
    ]
  ]
]
