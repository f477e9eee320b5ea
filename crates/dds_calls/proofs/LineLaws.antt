-- The lines of the values that were gone through.
use Rattle.std.proofs.Common.{◌≡◌, ◌⊎◌, ℕ, zero, suc, ◌+◌, ◌*◌, ◌%◌, ◌^◌, ◌<◌, ◌≤◌, Bool, true, cond, eqb, leb, List, [], ◌∷◌, ◌++◌, length, take, get_or}
use Rattle.std.proofs.Common.{Some, sym, ap, ◌∙◌, subst, inl, inr, arith, slice_get, Contains, bit_or, w16}
use Rattle.std.specs.Prelude.{count_by}
use Rattle.std.specs.Int.{bit_at}
use Rattle.std.proofs.lemmas.Bool.{cases_eq, cases_lt, eq-eqb, ne_eqb, le-leb, lt-leb}
use Rattle.std.proofs.lemmas.Nat.Bits.{bit_at_set_same, bit_at_set_other, bit_at-zero}
use Rattle.std.proofs.lemmas.List.{length_push, take_all}
use Rattle.std.proofs.lemmas.List.Elements.{All-nil, All-push, All-weaker, Contains-push, Contains-push_cases, Contains-append_left}
use Rattle.std.proofs.lemmas.List.Quantifiers.{all_pairs_push}
use Rattle.std.proofs.lemmas.List.Sums.{sum_by-cons, sum_by_more, sum_by-take-le, count_by-le-length, count_by_more_yes}
use Rattle.std.proofs.lemmas.Option.{same_Some, none-some, slice_get_within, get_or_from_slice_get}
use Rattle.cards.specs.declared.suits.Suit.{Suit}
use Rattle.cards.specs.declared.seats.Seat.{Seat}
use Rattle.cards.specs.declared.pack.Rank.{Rank}
use Rattle.cards.specs.declared.pack.Card.{Card}
use Rattle.cards.specs.Pack.{card_of, rank_number, rank_at}
use Rattle.cards.specs.Deal.{Deal, holder_of}
use Rattle.cards.proofs.PackLaws.{rank_at-rank_number, rank_number-lt}
use Rattle.play_rules.specs.Position.{AreInOrder, listed_place}
use Rattle.card_values.specs.declared.values.CardValue.{CardValue}
use Rattle.card_values.specs.CardValues.{cards_of}
use Rattle.dds_calls.specs.declared.lines.Line.{Line}
use Rattle.dds_calls.specs.Lines.{AreEquals, HasLines, IsBefore, IsCovered, IsDone, IsLineFrom, IsLineOf, IsTop, Joins, is_one_less, is_worth}
use Rattle.dds_calls.proofs.TrickCards.{contains_from_slice_get, slice_get_from_contains}

-- ---- cards between two ranks
pub clear_below : (deal : Deal) (player : Seat) (suit : Suit) (low : Rank) (n : ℕ)
    → ((rank : Rank) → rank_number low < rank_number rank → rank_number rank < n → (seat : Seat) → holder_of deal (card_of suit rank) ≡ Some seat → seat ≡ player)
    → ((seat : Seat) → holder_of deal (card_of suit (rank_at n)) ≡ Some seat → seat ≡ player)
    → (rank : Rank) → rank_number low < rank_number rank → rank_number rank < n + 1 → (seat : Seat) → holder_of deal (card_of suit rank) ≡ Some seat → seat ≡ player
clear_below deal player suit low n before here rank above below seat h =
    elim (cases_eq (rank_number rank) n) [
      | inl e ↦
          let is : rank ≡ rank_at n = sym (rank_at-rank_number rank) ∙ ap rank_at e in
          let P : Rank → Type 0 = λ r. holder_of deal (card_of suit r) ≡ Some seat in
          here seat (subst P is h)
      | inr ne ↦ before rank above (omega (arith, ne, below)) seat h
    ]

-- ---- the lower cards of a group
pub equals_none : (deal : Deal) (player : Seat) (value : CardValue) → AreEquals deal player [] value 0
equals_none deal player value i =
    (λ h. absurd (omega (arith, h, bit_at-zero i)), λ h. absurd (omega (arith, h.1.1)))

pub equals_skip : (deal : Deal) (player : Seat) (xs ys : List CardValue) (value other : CardValue) (equals : ℕ) → ys ≡ xs ++ other ∷ [] → (Joins deal player value other → ⊥) → AreEquals deal player xs value equals → AreEquals deal player ys value equals
equals_skip deal player xs ys value other equals e not are =
    let P : List CardValue → Type 0 = λ zs. AreEquals deal player zs value equals in
    subst P (sym e)
    (λ i. (
      λ h. (let old = (are i).0 h in (old.0, Contains-append_left xs (other ∷ []) old.0 old.1, old.2, old.3)),
      λ h. elim (Contains-push_cases xs other h.0 h.1) [
        | inl old ↦ (are i).1 (h.0, old, h.2, h.3)
        | inr is ↦ absurd (not (subst (λ (v : CardValue). Joins deal player value v) (sym is) h.2))
      ],
    ))

pub equals_push : (deal : Deal) (player : Seat) (xs ys : List CardValue) (value other : CardValue) (equals n : ℕ) → ys ≡ xs ++ other ∷ [] → Joins deal player value other → n ≡ rank_number other.card.rank + 2 → AreEquals deal player xs value equals
    → AreEquals deal player ys value (bit_or equals (1 * 2 ^ n % 65536))
equals_push deal player xs ys value other equals n e joins at are =
    let longer = bit_or equals (1 * 2 ^ n % 65536) in
    let within : n < 16 = omega (arith, at, rank_number-lt other.card.rank) in
    let P : List CardValue → Type 0 = λ zs. AreEquals deal player zs value longer in
    subst P (sym e)
    (λ i. elim (cases_eq i n) [
      | inl same ↦
          let set : bit_at longer i ≡ 1 = subst (λ k. bit_at longer k ≡ 1) (sym same) (bit_at_set_same w16 equals n within) in
          (λ h. (other, Contains-push xs other, joins, omega (arith, at, same)), λ h. set)
      | inr apart ↦
          let kept : bit_at longer i ≡ bit_at equals i = bit_at_set_other w16 equals n within i apart in (
            λ h. (let old = (are i).0 (sym kept ∙ h) in (old.0, Contains-append_left xs (other ∷ []) old.0 old.1, old.2, old.3)),
            λ h. elim (Contains-push_cases xs other h.0 h.1) [
              | inl old ↦ kept ∙ (are i).1 (h.0, old, h.2, h.3)
              | inr is ↦ absurd (apart (omega (arith, at, h.3, ap (λ (v : CardValue). rank_number v.card.rank) is)))
            ],
          )
    ])

-- ---- the order of the values
contains_card : (values : List CardValue) (k : ℕ) (value : CardValue) → slice_get values k ≡ Some value → Contains (cards_of values) value.card
contains_card [] k value e = absurd (none-some value e)
contains_card (v ∷ values) zero value e = (0, omega arith, ap (λ (x : CardValue). x.card) (same_Some v value e))
contains_card (v ∷ values) (suc k) value e = let rest = contains_card values k value e in (suc rest.0, omega (arith, rest.1), rest.2)

pub listed_before : (values : List CardValue) (k i : ℕ) (one other : CardValue) → AreInOrder (cards_of values) → k < i → slice_get values k ≡ Some one → slice_get values i ≡ Some other → listed_place one.card < listed_place other.card
listed_before [] k i one other order less e f = absurd (none-some one e)
listed_before (v ∷ values) zero zero one other order less e f = absurd (omega (arith, less))
listed_before (v ∷ values) zero (suc i) one other order less e f =
    let first = ap (λ (x : CardValue). listed_place x.card) (same_Some v one e) in
    omega (arith, order.0 other.card (contains_card values i other f), first)
listed_before (v ∷ values) (suc k) zero one other order less e f = absurd (omega (arith, less))
listed_before (v ∷ values) (suc k) (suc i) one other order less e f = listed_before values k i one other order.1 (omega (arith, less)) e f

-- a card has one value
pub same_value : (values : List CardValue) (one other : CardValue) → AreInOrder (cards_of values) → Contains values one → Contains values other → one.card ≡ other.card → one ≡ other
same_value values one other order a b same =
    let at = slice_get_from_contains values one a in
    let on = slice_get_from_contains values other b in
    let places : listed_place one.card ≡ listed_place other.card = ap (λ (x : Card). listed_place x) same in
    elim (cases_lt at.0 on.0) [
      | inl less ↦ absurd (omega (arith, places, listed_before values at.0 on.0 one other order less at.1 on.1))
      | inr more ↦ elim (cases_eq on.0 at.0) [
        | inl e ↦ same_Some one other (sym at.1 ∙ (ap (slice_get values) (sym e) ∙ on.1))
        | inr ne ↦ absurd (omega (arith, places, listed_before values on.0 at.0 other one order (omega (arith, more, ne)) on.1 at.1))
      ]
    ]

-- ---- room
counts : (least : ℕ) (values : List CardValue) → count_by (is_worth (least + 1)) values + count_by (is_one_less (least + 1)) values ≤ count_by (is_worth least) values
counts least [] = omega arith
counts least (value ∷ values) =
    let a = sum_by-cons (λ (v : CardValue). cond {A = ℕ} (is_worth (least + 1) v) 1 0) value values in
    let b = sum_by-cons (λ (v : CardValue). cond {A = ℕ} (is_one_less (least + 1) v) 1 0) value values in
    let d = sum_by-cons (λ (v : CardValue). cond {A = ℕ} (is_worth least v) 1 0) value values in
    let rest = counts least values in
    let one : cond {A = ℕ} (leb (least + 1) value.tricks) 1 0 + cond {A = ℕ} (eqb (value.tricks + 1) (least + 1)) 1 0 ≤ cond {A = ℕ} (leb least value.tricks) 1 0 =
    elim (cases_lt value.tricks least) [
      | inl less ↦
          let p = lt-leb (least + 1) value.tricks (omega (arith, less)) in
          let q = ne_eqb (value.tricks + 1) (least + 1) (λ e. absurd (omega (arith, less, e))) in
          omega (arith, ap (λ (t : Bool). cond {A = ℕ} t 1 0) p, ap (λ (t : Bool). cond {A = ℕ} t 1 0) q)
      | inr more ↦
          let r = le-leb least value.tricks more in
          elim (cases_eq value.tricks least) [
            | inl e ↦
                let p = lt-leb (least + 1) value.tricks (omega (arith, e)) in
                let q = eq-eqb (value.tricks + 1) (least + 1) (omega (arith, e)) in
                omega (arith, ap (λ (t : Bool). cond {A = ℕ} t 1 0) p, ap (λ (t : Bool). cond {A = ℕ} t 1 0) q, ap (λ (t : Bool). cond {A = ℕ} t 1 0) r)
            | inr ne ↦
                let p = le-leb (least + 1) value.tricks (omega (arith, more, ne)) in
                let q = ne_eqb (value.tricks + 1) (least + 1) (λ e. ne (omega (arith, e))) in
                omega (arith, ap (λ (t : Bool). cond {A = ℕ} t 1 0) p, ap (λ (t : Bool). cond {A = ℕ} t 1 0) q, ap (λ (t : Bool). cond {A = ℕ} t 1 0) r)
          ]
    ] in
    omega (arith, a, b, d, rest, one)

-- while a value with this many tricks is left, there are fewer lines than values
pub room_left : (values : List CardValue) (tricks i n : ℕ) (value : CardValue) → n ≤ count_by (is_worth (tricks + 1)) values + count_by (is_one_less (tricks + 1)) (take i values) → slice_get values i ≡ Some value → value.tricks ≡ tricks → n < length values
room_left values tricks i n value room at e =
    let within = slice_get_within values i value at in
    let is : get_or values i value ≡ value = get_or_from_slice_get values i value value at in
    let yes : is_one_less (tricks + 1) (get_or values i value) ≡ true = eq-eqb _ _ (omega (arith, e, ap (λ (v : CardValue). v.tricks) is)) in
    let more = count_by_more_yes (is_one_less (tricks + 1)) values i value within yes in
    let part = sum_by-take-le (λ (v : CardValue). cond {A = ℕ} (is_one_less (tricks + 1) v) 1 0) values (i + 1) in
    omega (arith, room, more, part, counts tricks values, count_by-le-length (is_worth tricks) values)

-- ---- one more value
module _ (deal : Deal) (player : Seat) (values : List CardValue) (least i : ℕ) (lines : List Line) (value : CardValue) (has : HasLines deal player values least i lines) (at : slice_get values i ≡ Some value) where
  done_before : (k : ℕ) (other : CardValue) → slice_get values k ≡ Some other → IsDone least (i + 1) k other → IsDone least i k other ⊎ ((other ≡ value) × (value.tricks + 1 ≡ least))
  done_before k other on done =
      elim done [
        | inl worth ↦ inl (inl worth)
        | inr less ↦ elim (cases_eq k i) [
          | inl e ↦
              let same : other ≡ value = same_Some other value (sym on ∙ (ap (slice_get values) e ∙ at)) in
              inr (same, subst (λ (v : CardValue). v.tricks + 1 ≡ least) same less.0)
          | inr ne ↦ inl (inr (less.0, omega (arith, less.1, ne)))
        ]
      ]

  from_later : (line : Line) → IsLineFrom deal player values least i line → IsLineFrom deal player values least (i + 1) line
  from_later line from = record {
    k = from.k;
    top = from.top;
    at = from.at;
    done = elim from.done [ inl worth ↦ inl worth | inr less ↦ inr (less.0, omega (arith, less.1)) ];
    is_top = from.is_top;
    is_line = from.is_line;
  }

  more_room : count_by (is_one_less least) (take i values) ≤ count_by (is_one_less least) (take (i + 1) values)
  more_room = omega (arith, sum_by_more (λ (v : CardValue). cond {A = ℕ} (is_one_less least v) 1 0) values i value (slice_get_within values i value at))

  pub has_more : (value.tricks + 1 ≡ least → IsCovered deal player values lines value) → HasLines deal player values least (i + 1) lines
  has_more covers = record {
    each = All-weaker (IsLineFrom deal player values least i) (IsLineFrom deal player values least (i + 1)) from_later lines has.each;
    covered = λ k other on done. elim (done_before k other on done) [
      | inl old ↦ has.covered k other on old
      | inr new ↦ subst (λ (v : CardValue). IsCovered deal player values lines v) (sym new.0) (covers new.1)
    ];
    in_order = has.in_order;
    room = omega (arith, has.room, more_room);
  }

  still_covered : (line : Line) (other : CardValue) → IsCovered deal player values lines other → IsCovered deal player values (lines ++ line ∷ []) other
  still_covered line other covered =
      elim covered [
        | inl has_line ↦ inl (has_line.0, Contains-append_left lines (line ∷ []) has_line.0 has_line.1, has_line.2)
        | inr joined ↦ inr joined
      ]

  comes_before : (line other : Line) → AreInOrder (cards_of values) → value.tricks + 1 ≡ least → IsLineOf deal player values value line → IsLineFrom deal player values least i other → IsBefore other line
  comes_before line other order worth is from =
      let tricks = is.tricks in
      let theirs = from.is_line.tricks in
      elim from.done [
        | inl more ↦ inl (omega (arith, more, worth, tricks, theirs))
        | inr same ↦
            let placed = listed_before values from.k i from.top value order same.1 from.at at in
            inr (omega (arith, worth, same.0, tricks, theirs), omega (arith, placed, ap (λ (c : Card). listed_place c) is.card, ap (λ (c : Card). listed_place c) from.is_line.card))
      ]

  pub has_push : (longer : List Line) (line : Line) → longer ≡ lines ++ line ∷ [] → AreInOrder (cards_of values) → value.tricks + 1 ≡ least → IsTop deal player values value → IsLineOf deal player values value line → HasLines deal player values least (i + 1) longer
  has_push longer line e order worth top is =
      let within = slice_get_within values i value at in
      let value_is : get_or values i value ≡ value = get_or_from_slice_get values i value value at in
      let yes : is_one_less least (get_or values i value) ≡ true = eq-eqb _ _ (omega (arith, worth, ap (λ (v : CardValue). v.tricks) value_is)) in
      let has' : HasLines deal player values least (i + 1) (lines ++ line ∷ []) = record {
        each = All-push (IsLineFrom deal player values least (i + 1)) lines line
            (All-weaker (IsLineFrom deal player values least i) (IsLineFrom deal player values least (i + 1)) from_later lines has.each)
            (record { k = i; top = value; at = at; done = inr (worth, omega arith); is_top = top; is_line = is });
        covered = λ k other on done. elim (done_before k other on done) [
          | inl old ↦ still_covered line other (has.covered k other on old)
          | inr new ↦ subst (λ (v : CardValue). IsCovered deal player values (lines ++ line ∷ []) v) (sym new.0) (inl (line, Contains-push lines line, is))
        ];
        in_order = all_pairs_push IsBefore lines line has.in_order (λ k d h. comes_before line (get_or lines k d) order worth is (has.each k d h));
        room = omega (arith, has.room, length_push lines line, count_by_more_yes (is_one_less least) values i value within yes);
      } in
      subst (λ (xs : List Line). HasLines deal player values least (i + 1) xs) (sym e) has'

-- the loop has passed all values with this many tricks
pub has_all : (deal : Deal) (player : Seat) (values : List CardValue) (tricks i : ℕ) (lines : List Line) → length values ≤ i → HasLines deal player values (tricks + 1) i lines → HasLines deal player values tricks 0 lines
has_all deal player values tricks i lines all has = record {
  each = All-weaker (IsLineFrom deal player values (tricks + 1) i) (IsLineFrom deal player values tricks 0)
      (λ line from. record {
        k = from.k;
        top = from.top;
        at = from.at;
        done = inl (elim from.done [ inl worth ↦ omega (arith, worth) | inr less ↦ omega (arith, less.0) ]);
        is_top = from.is_top;
        is_line = from.is_line;
      })
      lines has.each;
  covered = λ k value at done. has.covered k value at (elim done [
    | inl worth ↦ elim (cases_lt tricks value.tricks) [
      | inl more ↦ inl (omega (arith, more))
      | inr same ↦ inr (omega (arith, worth, same), omega (arith, all, slice_get_within values k value at))
    ]
    | inr none ↦ absurd (omega (arith, none.1))
  ]);
  in_order = has.in_order;
  room = omega (arith, has.room, counts tricks values, ap (λ (xs : List CardValue). count_by (is_one_less (tricks + 1)) xs) (take_all i values all));
}

-- no value has over 13 tricks
pub has_none : (deal : Deal) (player : Seat) (values : List CardValue) → ((value : CardValue) → Contains values value → value.tricks ≤ 13) → HasLines deal player values 14 0 []
has_none deal player values within = record {
  each = All-nil (IsLineFrom deal player values 14 0);
  covered = λ k value at done. elim done [
    | inl worth ↦ absurd (omega (arith, worth, within value (contains_from_slice_get values value k at)))
    | inr none ↦ absurd (omega (arith, none.1))
  ];
  in_order = λ i j d h l. absurd (omega (arith, l));
  room = omega arith;
}
