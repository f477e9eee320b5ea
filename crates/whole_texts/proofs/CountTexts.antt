-- The comments that tell how many results were known, by their digits.
use Rattle.std.proofs.Common.{◌≡◌, ◌≢◌, ℕ, ◌+◌, ◌-◌, ◌/◌, ◌%◌, ◌<◌, ◌≤◌, ◌&&◌, Bool, true, false, eqb, nat_le, List, [], ◌∷◌, ◌++◌, length, get_or, codes, refl, sym, ◌∙◌, ap, subst, arith, inl, inr, ◌⊎◌}
use Rattle.std.specs.Char.{is_ascii_digit}
use Rattle.std.specs.Fmt.{decimal}
use Rattle.std.specs.List.{range_with_len}
use Rattle.std.specs.Str.{bytes_eq}
use Rattle.std.proofs.lemmas.Bool.{cases_lt, and_parts, leb-true, le-leb, eqb-true}
use Rattle.std.proofs.lemmas.Fmt.{decimal_digit, decimal_step}
use Rattle.std.proofs.lemmas.List.{append_cancel_left, append_cancel_right}
use Rattle.std.proofs.lemmas.List.Folds.{Any-from_list_any, list_any_at}
use Rattle.std.proofs.lemmas.List.FromFn.{get_or-range_with_len}
use Rattle.std.proofs.lemmas.Slice.Eq.{bytes_eq-Decides}
use Rattle.tables.specs.TablesText.{incomplete_text}
use Rattle.whole_texts.specs.OldTables.{is_count_text}

-- these bytes are the comment of a number below twenty
pub record IsCount (bytes : List ℕ) : Type 0 where
  pub count : ℕ
  pub below : count < 20
  pub is : bytes ≡ incomplete_text count

pub count_from : (bytes : List ℕ) → is_count_text bytes ≡ true → IsCount bytes
count_from bytes e =
    let (k, count, within, at, is) = Any-from_list_any (λ count. bytes_eq bytes (incomplete_text count)) (range_with_len 0 20) e in
    record { count = count; below = subst (λ n. n < 20) at (omega (arith, get_or-range_with_len 0 20 k count within)); is = (bytes_eq-Decides bytes (incomplete_text count)).0 is }

pub is_counted : (bytes : List ℕ) → IsCount bytes → is_count_text bytes ≡ true
is_counted bytes h = list_any_at (λ count. bytes_eq bytes (incomplete_text count)) (range_with_len 0 20) h.count 0 h.below ((bytes_eq-Decides bytes _).1 (h.is ∙ ap incomplete_text (omega (arith, get_or-range_with_len 0 20 h.count 0 h.below))))

-- what decides it says it
pub says_count : (bytes : List ℕ) (r : Bool) → (r ≡ true → IsCount bytes) → (IsCount bytes → r ≡ true) → r ≡ is_count_text bytes
says_count bytes r said says = go r (is_count_text bytes) refl refl where
  go : (a b : Bool) → r ≡ a → is_count_text bytes ≡ b → a ≡ b
  go true true e f = refl
  go false false e f = refl
  go true false e f = let x : false ≡ true = sym f ∙ is_counted bytes (said e) in absurd (cc)
  go false true e f = let x : false ≡ true = sym e ∙ says (count_from bytes f) in absurd (cc)

-- ---- the digits of the number
abbrev in_text : List ℕ → List ℕ
in_text digits = codes "; table incomplete: " ++ (digits ++ codes " of 20")

-- the digits of a number below twenty
record IsBelow (digits : List ℕ) : Type 0 where
  pub number : ℕ
  pub below : number < 20
  pub are : digits ≡ decimal number

below_of : (digits : List ℕ) → IsCount (in_text digits) → IsBelow digits
unfolding incomplete_text
below_of digits h = record {
  number = h.count;
  below = h.below;
  are = append_cancel_right digits (decimal h.count) (codes " of 20") (append_cancel_left (codes "; table incomplete: ") (digits ++ codes " of 20") (decimal h.count ++ codes " of 20") h.is);
}

count_of : (digits : List ℕ) → IsBelow digits → IsCount (in_text digits)
unfolding incomplete_text
count_of digits h = record { count = h.number; below = h.below; is = ap in_text h.are }

-- one digit, or a one and another
digits_of : (number : ℕ) → number < 20 → ((number < 10) × (decimal number ≡ (48 + number) ∷ [])) ⊎ ((10 ≤ number) × (decimal number ≡ 49 ∷ (48 + (number - 10)) ∷ []))
digits_of number h = go (cases_lt number 10) where
  go : (number < 10) ⊎ (10 ≤ number) → ((number < 10) × (decimal number ≡ (48 + number) ∷ [])) ⊎ ((10 ≤ number) × (decimal number ≡ 49 ∷ (48 + (number - 10)) ∷ []))
  go (inl small) = inl (small, decimal_digit number small)
  go (inr large) =
      let one : number / 10 ≡ 1 = omega arith in
      let rest : number % 10 ≡ number - 10 = omega arith in
      inr (large, decimal_step number large (omega arith) ∙ ap (λ n. decimal n ++ (48 + number % 10) ∷ []) one ∙ ap (λ ds. ds ++ (48 + number % 10) ∷ []) (decimal_digit 1 (omega arith)) ∙ ap (λ n. 49 ∷ (48 + n) ∷ []) rest)

tens_decimal : (digit : ℕ) → digit < 10 → decimal (10 + digit) ≡ 49 ∷ (48 + digit) ∷ []
tens_decimal digit h = go (digits_of (10 + digit) (omega arith)) where
  go : ((10 + digit < 10) × (decimal (10 + digit) ≡ (48 + (10 + digit)) ∷ [])) ⊎ ((10 ≤ 10 + digit) × (decimal (10 + digit) ≡ 49 ∷ (48 + ((10 + digit) - 10)) ∷ [])) → decimal (10 + digit) ≡ 49 ∷ (48 + digit) ∷ []
  go (inl (small, e)) = absurd (omega arith)
  go (inr (large, e)) = let same : (10 + digit) - 10 ≡ digit = omega arith in e ∙ ap (λ n. 49 ∷ (48 + n) ∷ []) same

digit_said : (digit : ℕ) → is_ascii_digit digit ≡ true → (48 ≤ digit) × (digit ≤ 57)
digit_said digit e = let both = and_parts (nat_le 48 digit) (nat_le digit 57) e in (leb-true 48 digit both.0, leb-true digit 57 both.1)

says_digit : (digit : ℕ) → 48 ≤ digit → digit ≤ 57 → is_ascii_digit digit ≡ true
says_digit digit h k = ap (λ t. t && nat_le digit 57) (le-leb 48 digit h) ∙ le-leb digit 57 k

-- ---- what the digits say
pub one_digit : (digit : ℕ) → is_ascii_digit digit ≡ is_count_text (in_text (digit ∷ []))
one_digit digit = says_count (in_text (digit ∷ [])) (is_ascii_digit digit) said says where
  said : is_ascii_digit digit ≡ true → IsCount (in_text (digit ∷ []))
  said e =
      let (h, k) = digit_said digit e in
      let same : 48 + (digit - 48) ≡ digit = omega arith in
      count_of (digit ∷ []) (record { number = digit - 48; below = omega arith; are = sym (decimal_digit (digit - 48) (omega arith) ∙ ap (λ n. n ∷ []) same) })

  go : (h : IsBelow (digit ∷ [])) → ((h.number < 10) × (decimal h.number ≡ (48 + h.number) ∷ [])) ⊎ ((10 ≤ h.number) × (decimal h.number ≡ 49 ∷ (48 + (h.number - 10)) ∷ [])) → is_ascii_digit digit ≡ true
  go h (inl (small, e)) = let same : digit ≡ 48 + h.number = ap (λ ds. get_or ds 0 0) (h.are ∙ e) in says_digit digit (omega arith) (omega arith)
  go h (inr (large, e)) = let two : length (digit ∷ []) ≡ length (49 ∷ (48 + (h.number - 10)) ∷ []) = ap length (h.are ∙ e) in absurd (omega arith)

  says : IsCount (in_text (digit ∷ [])) → is_ascii_digit digit ≡ true
  says c = let h = below_of (digit ∷ []) c in go h (digits_of h.number h.below)

pub two_digits : (first digit : ℕ) → (eqb first 49 && is_ascii_digit digit) ≡ is_count_text (in_text (first ∷ digit ∷ []))
two_digits first digit = says_count (in_text (first ∷ digit ∷ [])) (eqb first 49 && is_ascii_digit digit) said says where
  said : (eqb first 49 && is_ascii_digit digit) ≡ true → IsCount (in_text (first ∷ digit ∷ []))
  said e =
      let both = and_parts (eqb first 49) (is_ascii_digit digit) e in
      let (h, k) = digit_said digit both.1 in
      let is_one : first ≡ 49 = eqb-true first 49 both.0 in
      let same : 48 + (digit - 48) ≡ digit = omega arith in
      count_of (first ∷ digit ∷ []) (record { number = 10 + (digit - 48); below = omega arith; are = ap (λ n. n ∷ digit ∷ []) is_one ∙ ap (λ n. 49 ∷ n ∷ []) (sym same) ∙ sym (tens_decimal (digit - 48) (omega arith)) })

  go : (h : IsBelow (first ∷ digit ∷ [])) → ((h.number < 10) × (decimal h.number ≡ (48 + h.number) ∷ [])) ⊎ ((10 ≤ h.number) × (decimal h.number ≡ 49 ∷ (48 + (h.number - 10)) ∷ [])) → (eqb first 49 && is_ascii_digit digit) ≡ true
  go h (inl (small, e)) = let one : length (first ∷ digit ∷ []) ≡ length ((48 + h.number) ∷ []) = ap length (h.are ∙ e) in absurd (omega arith)
  go h (inr (large, e)) =
      let is_one : first ≡ 49 = ap (λ ds. get_or ds 0 0) (h.are ∙ e) in
      let same : digit ≡ 48 + (h.number - 10) = ap (λ ds. get_or ds 1 0) (h.are ∙ e) in
      let below : h.number < 20 = h.below in
      ap (λ n. eqb n 49 && is_ascii_digit digit) is_one ∙ says_digit digit (omega arith) (omega arith)

  says : IsCount (in_text (first ∷ digit ∷ [])) → (eqb first 49 && is_ascii_digit digit) ≡ true
  says c = let h = below_of (first ∷ digit ∷ []) c in go h (digits_of h.number h.below)

pub no_digits : (digits : List ℕ) → (length digits < 1) ⊎ (2 < length digits) → false ≡ is_count_text (in_text digits)
no_digits digits long = says_count (in_text digits) false (λ e. absurd (cc)) says where
  go : (h : IsBelow digits) → ((h.number < 10) × (decimal h.number ≡ (48 + h.number) ∷ [])) ⊎ ((10 ≤ h.number) × (decimal h.number ≡ 49 ∷ (48 + (h.number - 10)) ∷ [])) → (length digits < 1) ⊎ (2 < length digits) → false ≡ true
  go h (inl (small, e)) (inl few) = let one : length digits ≡ length ((48 + h.number) ∷ []) = ap length (h.are ∙ e) in absurd (omega arith)
  go h (inl (small, e)) (inr many) = let one : length digits ≡ length ((48 + h.number) ∷ []) = ap length (h.are ∙ e) in absurd (omega arith)
  go h (inr (large, e)) (inl few) = let two : length digits ≡ length (49 ∷ (48 + (h.number - 10)) ∷ []) = ap length (h.are ∙ e) in absurd (omega arith)
  go h (inr (large, e)) (inr many) = let two : length digits ≡ length (49 ∷ (48 + (h.number - 10)) ∷ []) = ap length (h.are ∙ e) in absurd (omega arith)

  says : IsCount (in_text digits) → false ≡ true
  says c = let h = below_of digits c in go h (digits_of h.number h.below) long

pub no_prefix : (bytes : List ℕ) → ((rest : List ℕ) → bytes ≢ codes "; table incomplete: " ++ rest) → false ≡ is_count_text bytes
unfolding incomplete_text
no_prefix bytes other = says_count bytes false (λ e. absurd (cc)) (λ h. absurd (other _ h.is))

pub no_suffix : (rest : List ℕ) → ((front : List ℕ) → rest ≢ front ++ codes " of 20") → false ≡ is_count_text (codes "; table incomplete: " ++ rest)
unfolding incomplete_text
no_suffix rest other = says_count (codes "; table incomplete: " ++ rest) false (λ e. absurd (cc)) (λ h. absurd (other (decimal h.count) (append_cancel_left (codes "; table incomplete: ") rest _ h.is)))

pub not_one : (byte : ℕ) (other : Bool) → (byte ≡ 49 → ⊥) → eqb byte 49 ≡ (eqb byte 49 && other)
not_one byte other n = go (eqb byte 49) refl where
  go : (b : Bool) → eqb byte 49 ≡ b → b ≡ (b && other)
  go true e = absurd (n (eqb-true byte 49 e))
  go false e = refl

-- ---- a text with what stands before the digits, and behind them
module _ (bytes rest digits : List ℕ) (front : bytes ≡ codes "; table incomplete: " ++ rest) (end : rest ≡ digits ++ codes " of 20") where
  same_text : (ds : List ℕ) → digits ≡ ds → is_count_text (in_text ds) ≡ is_count_text bytes
  same_text ds e = sym (ap is_count_text (front ∙ ap (λ r. codes "; table incomplete: " ++ r) (end ∙ ap (λ d. d ++ codes " of 20") e)))

  pub said_one : 1 ≤ length digits → length digits < 2 → is_ascii_digit (get_or digits 0 0) ≡ is_count_text bytes
  said_one some few = go digits refl some few where
    go : (ds : List ℕ) → digits ≡ ds → 1 ≤ length ds → length ds < 2 → is_ascii_digit (get_or digits 0 0) ≡ is_count_text bytes
    go [] e s f = absurd (omega arith)
    go (digit ∷ []) e s f = ap (λ ds. is_ascii_digit (get_or ds 0 0)) e ∙ one_digit digit ∙ same_text (digit ∷ []) e
    go (digit ∷ other ∷ ds) e s f = absurd (omega arith)

  pub said_two : 2 ≤ length digits → length digits < 3 → (eqb (get_or digits 0 0) 49 && is_ascii_digit (get_or digits 1 0)) ≡ is_count_text bytes
  said_two some few = go digits refl some few where
    go : (ds : List ℕ) → digits ≡ ds → 2 ≤ length ds → length ds < 3 → (eqb (get_or digits 0 0) 49 && is_ascii_digit (get_or digits 1 0)) ≡ is_count_text bytes
    go [] e s f = absurd (omega arith)
    go (digit ∷ []) e s f = absurd (omega arith)
    go (first ∷ digit ∷ []) e s f = ap (λ ds. eqb (get_or ds 0 0) 49 && is_ascii_digit (get_or ds 1 0)) e ∙ two_digits first digit ∙ same_text (first ∷ digit ∷ []) e
    go (first ∷ digit ∷ other ∷ ds) e s f = absurd (omega arith)

  pub said_none : (length digits < 1) ⊎ (2 < length digits) → false ≡ is_count_text bytes
  said_none other = no_digits digits other ∙ same_text digits refl
