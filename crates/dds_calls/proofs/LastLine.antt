-- In the last trick there is one line, with one card.
use Rattle.std.proofs.Common.{◌≡◌, ℕ, ◌<◌, ◌≤◌, List, length, get_or, pos, refl, sym, ap, ◌∙◌, subst, inl, inr, arith, Contains, slice_get}
use Rattle.std.specs.Int.{bit_at}
use Rattle.std.proofs.lemmas.Bool.{cases_eq, cases_lt}
use Rattle.std.proofs.lemmas.List.{get_or_default}
use Rattle.std.proofs.lemmas.List.Elements.{Contains-get_or}
use Rattle.std.proofs.lemmas.Nat.Bits.{bit_at-lt, bit_at-zero, same_from_bits}
use Rattle.std.proofs.lemmas.Option.{slice_get-get_or}
use Rattle.cards.specs.declared.seats.Seat.{Seat}
use Rattle.cards.specs.Pack.{card_at, rank_number}
use Rattle.cards.specs.Deal.{Deal}
use Rattle.card_values.specs.declared.values.CardValue.{CardValue}
use Rattle.dds_calls.specs.declared.board_shapes.Ask.{Ask}
use Rattle.dds_calls.specs.declared.board_shapes.FutureTricks.{FutureTricks}
use Rattle.dds_calls.specs.declared.lines.Line.{Line}
use Rattle.dds_calls.specs.declared.rules.Rule.{Rule}
use Rattle.dds_calls.specs.declared.rules.Rule.TheVariants.{LastTrick, OneGroup, AllCards, CardsAlone, Target, Best}
use Rattle.dds_calls.specs.BoardAnswers.{AreTold, HasOneLine}
use Rattle.dds_calls.specs.Lines.{AreLines, IsLine}
use Rattle.dds_calls.specs.Rules.{IsChoosy, IsRule, least_of}

-- one value is the only one
only_value : (values : List CardValue) → length values ≡ 1 → (one other : CardValue) → Contains values one → Contains values other → one ≡ other
only_value values single one other a b =
    let places : a.0 ≡ b.0 = omega (arith, single, a.1, b.1) in
    sym a.2 ∙ (ap (λ k. get_or values k one) places ∙ (get_or_default values b.0 one other b.1 ∙ b.2))

is_last : (ask : Ask) (left groups : ℕ) (values : List CardValue) (rule : Rule) → left ≤ 4 → IsRule ask left groups values rule → rule ≡ LastTrick
is_last ask left groups values LastTrick few is = refl
is_last ask left groups values OneGroup few is = absurd (omega (arith, few, is.0))
is_last ask left groups values AllCards few is = absurd (omega (arith, few, is.0.0))
is_last ask left groups values CardsAlone few is = absurd (omega (arith, few, is.0.0.0))
is_last ask left groups values (Target least) few is = absurd (omega (arith, few, is.0.0.0))
is_last ask left groups values (Best best) few is = absurd (omega (arith, few, is.0.0.0))

-- there is one line
single_line : (deal : Deal) (player : Seat) (values : List CardValue) (least : ℕ) (lines : List Line) → length values ≡ 1 → least ≡ 0 → AreLines deal player values least lines → length lines ≡ 1
single_line deal player values least lines single none are =
    let value : CardValue = get_or values 0 (record { card = card_at 0; tricks = 0 }) in
    let its = are.whole value (Contains-get_or values 0 _ (omega (arith, single))) (omega (arith, none)) in
    elim (cases_lt 1 (length lines)) [
      | inl more ↦
          let first : Line = get_or lines 0 its.line in
          let second : Line = get_or lines 1 its.line in
          let a : IsLine deal player values least first = are.each 0 its.line (omega (arith, more)) in
          let b : IsLine deal player values least second = are.each 1 its.line more in
          let tops = only_value values single a.top b.top a.listed b.listed in
          let same = a.is_line.card ∙ (ap (λ (v : CardValue). v.card) tops ∙ sym b.is_line.card) in
          absurd (are.apart 0 1 its.line (omega arith) more first.card (inl refl) (inl same))
      | inr few ↦ omega (arith, few, its.listed.1)
    ]

-- its group is one card
single_card : (deal : Deal) (player : Seat) (values : List CardValue) (least : ℕ) (line : Line) → length values ≡ 1 → IsLine deal player values least line → line.equals ≡ 0
single_card deal player values least line single is =
    same_from_bits line.equals 0
    (λ i. elim (cases_eq (bit_at line.equals i) 1) [
      | inl set ↦
          let lower = (is.is_line.equals i).0 set in
          let same = only_value values single is.top lower.0 is.listed lower.1 in
          absurd (omega (arith, lower.2.below, ap (λ (v : CardValue). rank_number v.card.rank) same))
      | inr clear ↦ omega (arith, clear, bit_at-lt line.equals i, bit_at-zero i)
    ])

pub one_line : (ask : Ask) (left groups : ℕ) (deal : Deal) (player : Seat) (values : List CardValue) (told : FutureTricks) → AreTold ask left groups deal player values told → left ≤ 4 → length values ≡ 1 → HasOneLine told
one_line ask left groups deal player values told are few single =
    let last : are.rule ≡ LastTrick = is_last ask left groups values are.rule few are.is_rule in
    let none : least_of are.rule ≡ 0 = ap least_of last in
    let lines = single_line deal player values (least_of are.rule) are.lines single none are.are_lines in
    let all : are.is_written.shown ≡ are.lines =
    elim are.is_written.are_shown [
      | inl first ↦ absurd (subst (λ (r : Rule). IsChoosy r) last first.1)
      | inr whole ↦ whole.1
    ] in
    let within : 0 < length are.lines = omega (arith, lines) in
    let blank : Line = record { card = card_at 0; equals = 0; tricks = 0 } in
    let line : Line = get_or are.lines 0 blank in
    let at = ap (λ (xs : List Line). slice_get xs 0) all ∙ slice_get-get_or are.lines 0 blank within in
    let equals = single_card deal player values (least_of are.rule) line single (are.are_lines.each 0 blank within) in
    (are.is_written.tells.cards ∙ ap pos (ap length all ∙ lines), (are.is_written.tells.each 0 line at).equals ∙ ap pos equals)
