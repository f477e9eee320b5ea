-- Each value is in exactly one line.
use Rattle.std.proofs.Common.{◌≡◌, ◌⊎◌, ℕ, zero, suc, ◌+◌, ◌<◌, ◌≤◌, List, get_or, Some, refl, sym, ap, ◌∙◌, subst, inl, inr, arith, Contains}
use Rattle.std.proofs.lemmas.Bool.{cases_eq, cases_lt}
use Rattle.std.proofs.lemmas.List.Elements.{All-weaker}
use Rattle.std.proofs.lemmas.List.Sums.{count_by-le-length}
use Rattle.std.proofs.lemmas.Option.{same_Some}
use Rattle.cards.specs.declared.suits.Suit.{Suit}
use Rattle.cards.specs.declared.seats.Seat.{Seat}
use Rattle.cards.specs.declared.pack.Rank.{Rank}
use Rattle.cards.specs.declared.pack.Card.{Card}
use Rattle.cards.specs.Pack.{card_of, rank_number, suit_number}
use Rattle.cards.specs.Deal.{Deal, holder_of}
use Rattle.cards.proofs.PackLaws.{rank_number-lt, same_from_rank_numbers, same_from_numbers}
use Rattle.play_rules.specs.Position.{listed_place}
use Rattle.card_values.specs.declared.values.CardValue.{CardValue}
use Rattle.dds_calls.specs.declared.lines.Line.{Line}
use Rattle.dds_calls.specs.Lines.{AreApart, AreChoices, AreLines, HasItsLine, HasLines, IsBefore, IsLine, IsLineFrom, IsLineOf, IsOfLine, IsTop, Joins, is_worth}
use Rattle.dds_calls.proofs.LineLaws.{same_value}
use Rattle.dds_calls.proofs.TrickCards.{contains_from_slice_get, slice_get_from_contains}

same_holder : (one other : Seat) → Some one ≡ Some other → one ≡ other
same_holder one other e = same_Some one other e

-- a card of a card's group is in the groups of the cards above
pub joins_trans : (deal : Deal) (player : Seat) (a b c : CardValue) → holder_of deal b.card ≡ Some player → Joins deal player a b → Joins deal player b c → Joins deal player a c
joins_trans deal player a b c own upper lower = record {
  suit = upper.suit ∙ lower.suit;
  below = omega (arith, upper.below, lower.below);
  tricks = upper.tricks ∙ lower.tricks;
  clear = λ rank above under seat h.
      elim (cases_lt (rank_number b.card.rank) (rank_number rank)) [
        | inl more ↦ upper.clear rank more under seat h
        | inr less ↦ elim (cases_eq (rank_number rank) (rank_number b.card.rank)) [
          | inl e ↦
              let same : card_of a.card.suit rank ≡ b.card = ap (λ (s : Suit). card_of s rank) upper.suit ∙ ap (λ (r : Rank). card_of b.card.suit r) (same_from_rank_numbers rank b.card.rank e) in
              let held : holder_of deal (card_of a.card.suit rank) ≡ Some player = ap (holder_of deal) same ∙ own in
              same_holder seat player (sym h ∙ held)
          | inr ne ↦
              let P : Suit → Type 0 = λ s. holder_of deal (card_of s rank) ≡ Some seat in
              lower.clear rank above (omega (arith, less, ne)) seat (subst P upper.suit h)
        ]
      ];
}

-- ---- each value is in a line
record IsBelowLine (deal : Deal) (player : Seat) (values : List CardValue) (lines : List Line) (value : CardValue) : Type 0 where
  line : Line
  listed : Contains lines line
  top : CardValue
  is_line : IsLineOf deal player values top line
  below : (value ≡ top) ⊎ Joins deal player top value

find_line : (deal : Deal) (player : Seat) (values : List CardValue) (least : ℕ) (lines : List Line) → AreChoices deal player values → HasLines deal player values least 0 lines → (fuel : ℕ) (value : CardValue) → 12 ≤ rank_number value.card.rank + fuel → Contains values value → least ≤ value.tricks
    → IsBelowLine deal player values lines value
find_line deal player values least lines choices has zero value enough listed worth =
    let at = slice_get_from_contains values value listed in
    elim (has.covered at.0 value at.1 (inl worth)) [
      | inl own ↦ record { line = own.0; listed = own.1; top = value; is_line = own.2; below = inl refl }
      | inr joined ↦ absurd (omega (arith, enough, joined.2.below, rank_number-lt joined.0.card.rank))
    ]
find_line deal player values least lines choices has (suc fuel) value enough listed worth =
    let at = slice_get_from_contains values value listed in
    elim (has.covered at.0 value at.1 (inl worth)) [
      | inl own ↦ record { line = own.0; listed = own.1; top = value; is_line = own.2; below = inl refl }
      | inr joined ↦
          let other = joined.0 in
          let found = find_line deal player values least lines choices has fuel other (omega (arith, enough, joined.2.below)) joined.1 (omega (arith, worth, joined.2.tricks)) in
          record {
            line = found.line;
            listed = found.listed;
            top = found.top;
            is_line = found.is_line;
            below = elim found.below [
              | inl same ↦ inr (subst (λ (v : CardValue). Joins deal player v value) same joined.2)
              | inr above ↦ inr (joins_trans deal player found.top other value (choices.held other joined.1) above joined.2)
            ];
          }
    ]

its_line : (deal : Deal) (player : Seat) (values : List CardValue) (lines : List Line) (value : CardValue) → Contains values value → IsBelowLine deal player values lines value → HasItsLine lines value
its_line deal player values lines value listed found = record {
  line = found.line;
  listed = found.listed;
  of_line = elim found.below [
    | inl same ↦ inl (ap (λ (v : CardValue). v.card) same ∙ sym found.is_line.card)
    | inr joins ↦ inr (sym joins.suit ∙ sym (ap (λ (c : Card). c.suit) found.is_line.card), (found.is_line.equals (rank_number value.card.rank + 2)).1 (value, listed, joins, refl))
  ];
  tricks = found.is_line.tricks ∙ elim found.below [ inl same ↦ ap (λ (v : CardValue). v.tricks) (sym same) | inr joins ↦ joins.tricks ];
}

-- ---- no card is in two lines
record IsUnder (deal : Deal) (player : Seat) (values : List CardValue) (top : CardValue) (card : Card) : Type 0 where
  value : CardValue
  listed : Contains values value
  is : value.card ≡ card
  below : (value ≡ top) ⊎ Joins deal player top value

is_under : (deal : Deal) (player : Seat) (values : List CardValue) (least : ℕ) (line : Line) (card : Card) → (is : IsLine deal player values least line) → IsOfLine line card → IsUnder deal player values is.top card
is_under deal player values least line card is of =
    elim of [
      | inl own ↦ record { value = is.top; listed = is.listed; is = sym is.is_line.card ∙ sym own; below = inl refl }
      | inr lower ↦
          let found = (is.is_line.equals (rank_number card.rank + 2)).0 lower.1 in
          let ranks : rank_number found.0.card.rank ≡ rank_number card.rank = omega (arith, found.3) in
          let suits : found.0.card.suit ≡ card.suit = sym found.2.suit ∙ (sym (ap (λ (c : Card). c.suit) is.is_line.card) ∙ sym lower.0) in
          let same : found.0.card ≡ card = same_from_numbers found.0.card card (omega (arith, ranks, ap suit_number suits)) in
          record { value = found.0; listed = found.1; is = same; below = inr found.2 }
    ]

-- the higher of two cards above one joins the lower
both_above : (deal : Deal) (player : Seat) (one other value : CardValue) → Joins deal player one value → Joins deal player other value → rank_number other.card.rank < rank_number one.card.rank → Joins deal player one other
both_above deal player one other value a b less = record {
  suit = a.suit ∙ sym b.suit;
  below = less;
  tricks = a.tricks ∙ sym b.tricks;
  clear = λ rank above under seat h. a.clear rank (omega (arith, above, b.below)) under seat h;
}

two_tops : (deal : Deal) (player : Seat) (values : List CardValue) (one other value : CardValue) → Contains values one → Contains values other → IsTop deal player values one → IsTop deal player values other
    → (value ≡ one) ⊎ Joins deal player one value → (value ≡ other) ⊎ Joins deal player other value → one.card ≡ other.card
two_tops deal player values one other value a b top_a top_b below_a below_b =
    elim below_a [
      | inl e ↦ elim below_b [
        | inl f ↦ ap (λ (v : CardValue). v.card) (sym e ∙ f)
        | inr joins ↦ absurd (top_a other b (subst (λ (v : CardValue). Joins deal player other v) e joins))
      ]
      | inr joins ↦ elim below_b [
        | inl f ↦ absurd (top_b one a (subst (λ (v : CardValue). Joins deal player one v) f joins))
        | inr joins' ↦ elim (cases_lt (rank_number other.card.rank) (rank_number one.card.rank)) [
          | inl less ↦ absurd (top_b one a (both_above deal player one other value joins joins' less))
          | inr more ↦ elim (cases_eq (rank_number one.card.rank) (rank_number other.card.rank)) [
            | inl e ↦ same_from_numbers one.card other.card (omega (arith, e, ap suit_number (joins.suit ∙ sym joins'.suit)))
            | inr ne ↦ absurd (top_a other b (both_above deal player other one value joins' joins (omega (arith, more, ne))))
          ]
        ]
      ]
    ]

lines_apart : (deal : Deal) (player : Seat) (values : List CardValue) (least : ℕ) (one other : Line) → AreChoices deal player values → IsLine deal player values least one → IsLine deal player values least other → IsBefore one other → AreApart one other
lines_apart deal player values least one other choices a b before card in_one in_other =
    let u = is_under deal player values least one card a in_one in
    let v = is_under deal player values least other card b in_other in
    let same : u.value ≡ v.value = same_value values u.value v.value choices.in_order u.listed v.listed (u.is ∙ sym v.is) in
    let below_b : (u.value ≡ b.top) ⊎ Joins deal player b.top u.value = subst (λ (x : CardValue). (x ≡ b.top) ⊎ Joins deal player b.top x) (sym same) v.below in
    let cards : a.top.card ≡ b.top.card = two_tops deal player values a.top b.top u.value a.listed b.listed a.is_top b.is_top u.below below_b in
    let tops : a.top ≡ b.top = same_value values a.top b.top choices.in_order a.listed b.listed cards in
    let tricks = ap (λ (x : CardValue). x.tricks) tops in
    let places = ap (λ (x : CardValue). listed_place x.card) tops in
    elim before [
      | inl fewer ↦ absurd (omega (arith, fewer, tricks, a.is_line.tricks, b.is_line.tricks))
      | inr later ↦ absurd (omega (arith, later.1, places, ap (λ (c : Card). listed_place c) a.is_line.card, ap (λ (c : Card). listed_place c) b.is_line.card))
    ]

is_line_from : (deal : Deal) (player : Seat) (values : List CardValue) (least : ℕ) (line : Line) → IsLineFrom deal player values least 0 line → IsLine deal player values least line
is_line_from deal player values least line from = record {
  top = from.top;
  listed = contains_from_slice_get values from.top from.k from.at;
  worth = elim from.done [ inl worth ↦ worth | inr none ↦ absurd (omega (arith, none.1)) ];
  is_top = from.is_top;
  is_line = from.is_line;
}

pub are_lines : (deal : Deal) (player : Seat) (values : List CardValue) (least : ℕ) (lines : List Line) → AreChoices deal player values → HasLines deal player values least 0 lines → AreLines deal player values least lines
are_lines deal player values least lines choices has =
    let each = All-weaker (IsLineFrom deal player values least 0) (IsLine deal player values least) (is_line_from deal player values least) lines has.each in
    record {
      each = each;
      whole = λ value listed worth. its_line deal player values lines value listed (find_line deal player values least lines choices has 12 value (omega arith) listed worth);
      apart = λ i j d less within. lines_apart deal player values least (get_or lines i d) (get_or lines j d) choices (each i d (omega (arith, less, within))) (each j d within) (has.in_order i j d less within);
      in_order = has.in_order;
      few = omega (arith, has.room, choices.few, count_by-le-length (is_worth least) values);
    }
