-- The seats that may win and have to go on.
use Rattle.std.proofs.Common.{IsTrue, ◌≡◌, ◌↔◌, ℕ, zero, suc, ◌+◌, ◌*◌, ◌^◌, ◌<◌, Bool, true, false, List, [], ◌∷◌, Option, None, inl, inr, refl, sym, ◌∙◌, ap, subst, arith}
use Rattle.std.specs.Prelude.{◌⊎◌, bit_or}
use Rattle.std.specs.Int.{bit_at, from_bool}
use Rattle.std.proofs.lemmas.Bool.{cases_eq, false≢true}
use Rattle.std.proofs.lemmas.Nat.{or_lt}
use Rattle.std.proofs.lemmas.Nat.Bits.{bit_at-lt, bit_at-zero, same_from_bits_below}
use Rattle.cards.specs.declared.seats.Seat.{Seat}
use Rattle.cards.specs.declared.seats.Seat.TheVariants.{North, East, South, West}
use Rattle.cards.specs.declared.seats.Side.{Side}
use Rattle.cards.specs.Seats.{seat_number}
use Rattle.patterns.specs.Words.{seat_at}
use Rattle.patterns.proofs.SuitWords.{at_number}
use Rattle.pattern_step.specs.declared.pat_cards.PatCard.{PatCard}
use Rattle.pattern_step.specs.SeatSets.{Seats, is_in}
use Rattle.pattern_step.specs.Tricks.{MayWin}
use Rattle.certificate_graph.specs.declared.children.Child.{Child}
use Rattle.certificate_graph.specs.declared.nodes.Node.{Node}
use Rattle.certificate_graph.specs.Graphs.{GraphShape}
use Rattle.checker.specs.Steps.{need_after, IsListed, ListsWinners}
use Rattle.checker.proofs.CardSetLaws.{or_bit, one_bit}
use Rattle.checker.proofs.ChildLaws.{to_come, Begins, all_come, listed_first, listed_later, listed_cases}

-- ---- sets of seats, a bit each
-- two sets have the same seats
abbrev pub AreSame : ℕ → ℕ → Type 0
AreSame one other = (seat : Seat) → (bit_at one (seat_number seat) ≡ 1) ↔ (bit_at other (seat_number seat) ≡ 1)

same_bit : (a b i : ℕ) → (bit_at a i ≡ 1) ↔ (bit_at b i ≡ 1) → bit_at a i ≡ bit_at b i
same_bit a b i alike = elim (cases_eq (bit_at a i) 1) [
  | inl one ↦ one ∙ sym (alike.0 one)
  | inr none ↦ elim (cases_eq (bit_at b i) 1) [
    | inl other ↦ absurd (none (alike.1 other))
    | inr neither ↦ omega (arith, none, neither, bit_at-lt a i, bit_at-lt b i)
  ]
]

pub sets_told : (one other : ℕ) → one < 2 ^ 4 → other < 2 ^ 4 → (one ≡ other) ↔ AreSame one other
sets_told one other small small' = (
  λ same seat. ((λ h. ap (λ n. bit_at n (seat_number seat)) (sym same) ∙ h), λ h. ap (λ n. bit_at n (seat_number seat)) same ∙ h),
  λ alike. same_from_bits_below 4 one other small small' (each alike),
)
  where
    each : AreSame one other → (i : ℕ) → i < 4 → bit_at one i ≡ bit_at other i
    each alike zero inside = same_bit one other 0 (alike North)
    each alike (suc zero) inside = same_bit one other 1 (alike East)
    each alike (suc (suc zero)) inside = same_bit one other 2 (alike South)
    each alike (suc (suc (suc zero))) inside = same_bit one other 3 (alike West)
    each alike (suc (suc (suc (suc i)))) inside = absurd (omega arith)

-- four seats that are in a set or aren't
pub four_bits : (n e s w set : ℕ) → n < 2 → e < 2 → s < 2 → w < 2 → set ≡ n + e * 2 + s * 4 + w * 8 → (P : Seat → Type 0) →
    (n ≡ 1) ↔ P North → (e ≡ 1) ↔ P East → (s ≡ 1) ↔ P South → (w ≡ 1) ↔ P West → (seat : Seat) → (bit_at set (seat_number seat) ≡ 1) ↔ P seat
four_bits n e s w set n2 e2 s2 w2 is P north east south west North =
    let here : bit_at set 0 ≡ n = omega (arith, is, n2, e2, s2, w2) in ((λ h. north.0 (sym here ∙ h)), λ h. here ∙ north.1 h)
four_bits n e s w set n2 e2 s2 w2 is P north east south west East =
    let here : bit_at set 1 ≡ e = omega (arith, is, n2, e2, s2, w2) in ((λ h. east.0 (sym here ∙ h)), λ h. here ∙ east.1 h)
four_bits n e s w set n2 e2 s2 w2 is P north east south west South =
    let here : bit_at set 2 ≡ s = omega (arith, is, n2, e2, s2, w2) in ((λ h. south.0 (sym here ∙ h)), λ h. here ∙ south.1 h)
four_bits n e s w set n2 e2 s2 w2 is P north east south west West =
    let here : bit_at set 3 ≡ w = omega (arith, is, n2, e2, s2, w2) in ((λ h. west.0 (sym here ∙ h)), λ h. here ∙ west.1 h)

-- the bit of a test
pub test_below : (test : Bool) (bit : ℕ) → bit ≡ from_bool test → bit < 2
test_below true bit is = omega (arith, is)
test_below false bit is = omega (arith, is)

pub test_told : (test : Bool) (bit : ℕ) (P : Type 0) → bit ≡ from_bool test → IsTrue test ↔ P → (bit ≡ 1) ↔ P
test_told true bit P is told = ((λ h. told.0 refl), λ p. is)
test_told false bit P is told = ((λ h. absurd (omega (arith, h, is))), λ p. absurd (false≢true (told.1 p)))

-- ---- the seats listed
-- each seat listed has its bit, or is to come
pub record HasListed (children : List Child) (next : Option (Child × List Child)) (seats : ℕ) : Type 0 where
  pub below : seats < 2 ^ 4
  pub bits : (seat : Seat) → ((bit_at seats (seat_number seat) ≡ 1) ⊎ IsListed (to_come next) seat) ↔ IsListed children seat

pub none_listed : (children : List Child) (next : Option (Child × List Child)) → Begins children next → HasListed children next 0
none_listed children next begins = record {
  below = omega arith;
  bits = λ seat. (
    (λ h. elim h [
      | inl bit ↦ absurd (omega (arith, bit, bit_at-zero (seat_number seat)))
      | inr there ↦ subst (λ (l : List Child). IsListed l seat) (all_come children next begins) there
    ]),
    λ is. inr (subst (λ (l : List Child). IsListed l seat) (sym (all_come children next begins)) is),
  );
}

small_one : (seat : Seat) → 2 ^ seat_number seat < 2 ^ 4
small_one North = omega arith
small_one East = omega arith
small_one South = omega arith
small_one West = omega arith

same_seat : (one other : Seat) → seat_number one ≡ seat_number other → one ≡ other
same_seat one other same = sym (at_number one) ∙ (ap seat_at same ∙ at_number other)

pub one_listed : (children rest : List Child) (child : Child) (next after : Option (Child × List Child)) (seats one : ℕ) → to_come next ≡ child ∷ rest → Begins rest after → one ≡ 2 ^ seat_number child.winner →
    HasListed children next seats → HasListed children after (bit_or seats one)
one_listed children rest child next after seats one here begins bit_is told =
    let left = all_come rest after begins in
    record {
      below = or_lt 4 seats one told.below (subst (λ n. n < 2 ^ 4) (sym bit_is) (small_one child.winner));
      bits = λ seat. (
        (λ h. (told.bits seat).0 (elim h [
          | inl bit ↦ elim ((or_bit seats one (seat_number seat)).0 bit) [
            | inl before ↦ inl before
            | inr last ↦ (
                let same = same_seat child.winner seat ((one_bit (seat_number child.winner) (seat_number seat)).0 (ap (λ n. bit_at n (seat_number seat)) (sym bit_is) ∙ last)) in
                inr (subst (λ (l : List Child). IsListed l seat) (sym here) (subst (IsListed (child ∷ rest)) same (listed_first child rest)))
                )
          ]
          | inr later ↦ inr (subst (λ (l : List Child). IsListed l seat) (sym here) (listed_later child rest seat (subst (λ (l : List Child). IsListed l seat) left later)))
        ])),
        λ is. elim ((told.bits seat).1 is) [
          | inl before ↦ inl ((or_bit seats one (seat_number seat)).1 (inl before))
          | inr there ↦ elim (listed_cases child rest seat (subst (λ (l : List Child). IsListed l seat) here there)) [
            | inl same ↦ inl ((or_bit seats one (seat_number seat)).1 (inr (ap (λ n. bit_at n (seat_number seat)) bit_is ∙ (one_bit (seat_number child.winner) (seat_number seat)).1 (ap seat_number same))))
            | inr later ↦ inr (subst (λ (l : List Child). IsListed l seat) (sym left) later)
          ]
        ],
      );
    }

-- in the end none is to come
pub all_listed : (children : List Child) (next : Option (Child × List Child)) (seats : ℕ) → next ≡ None → HasListed children next seats → (seat : Seat) → (bit_at seats (seat_number seat) ≡ 1) ↔ IsListed children seat
all_listed children next seats none told seat = (
  (λ bit. (told.bits seat).0 (inl bit)),
  λ is. elim ((told.bits seat).1 is) [
    | inl bit ↦ bit
    | inr there ↦ absurd (no_seat (subst (λ (l : List Child). IsListed l seat) (ap to_come none) there))
  ],
)
  where
    no_seat : IsListed [] seat → ⊥
    no_seat (number, there) = absurd (omega (arith, there.1))

-- a set of the seats listed and one of the seats that go on are the same just where the seats are rightly listed
pub listed_rightly : (graph : GraphShape) (node : Node) (cards : List PatCard) (children : List Child) (winners : Seats) (listed going : ℕ) (side : Side) → side ≡ graph.side →
    ((seat : Seat) → IsTrue (is_in winners seat) ↔ MayWin node.pattern graph.trump node.lead cards seat) →
    ((seat : Seat) → (bit_at listed (seat_number seat) ≡ 1) ↔ IsListed children seat) →
    ((seat : Seat) → (bit_at going (seat_number seat) ≡ 1) ↔ (IsTrue (is_in winners seat) × (0 < need_after side node.need seat))) →
    AreSame listed going ↔ ListsWinners graph node cards children
listed_rightly graph node cards children winners listed going side is wins lists goes = (
  (λ same seat. (
    (λ there. let on = (goes' seat).0 ((same seat).0 ((lists seat).1 there)) in record { wins = (wins seat).0 on.0; needed = on.1 }),
    λ on. (lists seat).0 ((same seat).1 ((goes' seat).1 ((wins seat).1 on.wins, on.needed))),
  )),
  λ rightly seat. (
    (λ there. let on = (rightly seat).0 ((lists seat).0 there) in (goes' seat).1 ((wins seat).1 on.wins, on.needed)),
    λ there. let on = (goes' seat).0 there in (lists seat).1 ((rightly seat).1 (record { wins = (wins seat).0 on.0; needed = on.1 })),
  ),
)
  where
    goes' : (seat : Seat) → (bit_at going (seat_number seat) ≡ 1) ↔ (IsTrue (is_in winners seat) × (0 < need_after graph.side node.need seat))
    goes' = (rw is at goes)
