-- The words of a section's lines hold no byte at which the lines are cut, and are text.
use Rattle.std.proofs.Common.{◌≡◌, ◌≢◌, ℕ, ◌+◌, ◌%◌, ◌^◌, ◌<◌, List, [], ◌∷◌, Option, None, Some, Result, Ok, codes, arith, ◌∙◌, refl, subst}
use Rattle.std.specs.Fmt.{decimal}
use Rattle.std.specs.Str.{IsUtf8}
use Rattle.std.specs.Str.Parse.{ParsesUnsigned}
use Rattle.std.proofs.lemmas.Fmt.{decimal_by_steps, IsAscii-decimal, parse-decimal}
use Rattle.std.proofs.lemmas.List.Elements.{All-from_recursion, All-push, All-head}
use Rattle.std.proofs.lemmas.Str.{IsUtf8-from_ascii}
use Rattle.std.proofs.lemmas.Str.Ascii.{IsAscii-from_all}
use Rattle.cards.specs.declared.seats.Seat.{Seat}
use Rattle.cards.specs.declared.seats.Seat.TheVariants.{North, East, South, West}
use Rattle.cards.specs.declared.suits.Suit.TheVariants.{Spades, Hearts, Diamonds, Clubs}
use Rattle.cards.specs.declared.suits.Trump.{Trump}
use Rattle.cards.specs.declared.suits.Trump.TheVariants as trump
use Rattle.cards.specs.Seats.{seat_letter}
use Rattle.cards.specs.Pack.{trump_letters}
use Rattle.pbn_deals.specs.Reading.{Lacks}
use Rattle.evidence.specs.Sections.{IsRoot}
use Rattle.evidence.specs.SectionTexts.{root_text}

-- ---- numbers
pub decimal-lacks : (byte n : ℕ) → byte < 48 → n < 2 ^ 64 → Lacks byte (decimal n)
decimal-lacks byte n low fits =
    decimal_by_steps (λ m digits. Lacks byte digits)
    (λ m l. All-from_recursion (λ x. x ≢ byte) ((48 + m) ∷ []) (omega arith, tt))
    (λ m digits l h. All-push (λ x. x ≢ byte) digits (48 + m % 10) h (omega arith))
    n fits

pub decimal-utf8 : (n : ℕ) → n < 2 ^ 64 → IsUtf8 (decimal n)
decimal-utf8 n fits = IsUtf8-from_ascii (decimal n) (IsAscii-decimal n fits)

pub few_fits : (n : ℕ) → n < 2 ^ 32 → n < 2 ^ 64
few_fits n h = omega arith

pub root_fits : (n : ℕ) → n < 1000000 → n < 2 ^ 32
root_fits n h = omega arith

pub root-lacks : (byte : ℕ) (root : Option ℕ) → byte < 45 → IsRoot root → Lacks byte (root_text root)
root-lacks byte None low is = All-from_recursion (λ x. x ≢ byte) (codes "-") (omega arith, tt)
root-lacks byte (Some number) low is = decimal-lacks byte number (omega arith) (few_fits number (root_fits number is))

-- ---- letters
pub seat-lacks : (seat : Seat) → Lacks 32 (seat_letter seat)
seat-lacks North = All-from_recursion (λ x. x ≢ 32) (codes "N") (omega arith, tt)
seat-lacks East = All-from_recursion (λ x. x ≢ 32) (codes "E") (omega arith, tt)
seat-lacks South = All-from_recursion (λ x. x ≢ 32) (codes "S") (omega arith, tt)
seat-lacks West = All-from_recursion (λ x. x ≢ 32) (codes "W") (omega arith, tt)

pub trump-lacks : (t : Trump) → Lacks 10 (trump_letters t)
trump-lacks trump.Nt = All-from_recursion (λ x. x ≢ 10) (codes "NT") (omega arith, (omega arith, tt))
trump-lacks (trump.Suit Spades) = All-from_recursion (λ x. x ≢ 10) (codes "S") (omega arith, tt)
trump-lacks (trump.Suit Hearts) = All-from_recursion (λ x. x ≢ 10) (codes "H") (omega arith, tt)
trump-lacks (trump.Suit Diamonds) = All-from_recursion (λ x. x ≢ 10) (codes "D") (omega arith, tt)
trump-lacks (trump.Suit Clubs) = All-from_recursion (λ x. x ≢ 10) (codes "C") (omega arith, tt)

one_letter : (letter : ℕ) → letter < 128 → IsUtf8 (letter ∷ [])
one_letter letter h = IsUtf8-from_ascii (letter ∷ []) (IsAscii-from_all (letter ∷ []) (All-from_recursion (λ b. b < 128) (letter ∷ []) (h, tt)))

pub seat-utf8 : (seat : Seat) → IsUtf8 (seat_letter seat)
seat-utf8 North = one_letter 78 (omega arith)
seat-utf8 East = one_letter 69 (omega arith)
seat-utf8 South = one_letter 83 (omega arith)
seat-utf8 West = one_letter 87 (omega arith)

pub trump-utf8 : (t : Trump) → IsUtf8 (trump_letters t)
trump-utf8 trump.Nt = IsUtf8-from_ascii (codes "NT") (IsAscii-from_all (codes "NT") (All-from_recursion (λ b. b < 128) (codes "NT") (omega arith, (omega arith, tt))))
trump-utf8 (trump.Suit Spades) = one_letter 83 (omega arith)
trump-utf8 (trump.Suit Hearts) = one_letter 72 (omega arith)
trump-utf8 (trump.Suit Diamonds) = one_letter 68 (omega arith)
trump-utf8 (trump.Suit Clubs) = one_letter 67 (omega arith)

-- ---- what a number's word is read as
pub is_read : (n k : ℕ) (word text : List ℕ) {E : Type 0} (r : Result ℕ E) → n < 2 ^ k → n < 2 ^ 64 → text ≡ word → word ≡ decimal n → ParsesUnsigned k 10 text r → r ≡ Ok n
is_read n k word text r few fits same e parses = parse-decimal k n text r few fits (same ∙ e) parses

-- ---- roots
pub dash_is_none : (root : Option ℕ) (rest : List ℕ) → IsRoot root → root_text root ≡ 45 ∷ rest → root ≡ None
dash_is_none None rest is e = refl
dash_is_none (Some n) rest is e =
    let lacks : Lacks 45 (decimal n) = decimal-lacks 45 n (omega arith) (few_fits n (root_fits n is)) in
    absurd (All-head (λ x. x ≢ 45) 45 rest (subst (Lacks 45) e lacks) refl)

pub number_is_some : (root : Option ℕ) (word : List ℕ) (r : Option ℕ) → IsRoot root → word ≡ root_text root → ((rest : List ℕ) → word ≢ 45 ∷ rest)
    → ((n : ℕ) → n < 2 ^ 32 → word ≡ decimal n → r ≡ Some n) → (n : ℕ) × (root ≡ Some n) × (r ≡ Some n)
number_is_some None word r is e other read = absurd (other [] e)
number_is_some (Some n) word r is e other read = (n, refl, read n (root_fits n is) e)
