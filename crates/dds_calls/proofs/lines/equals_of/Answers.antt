-- One more card of the group sets its bit.
use Rattle.std.proofs.Common.{◌≡◌, ◌+◌, ℕ, List, take, get_or, sym, ap, subst}
use Rattle.std.proofs.lemmas.List.{take_more, take_all}
use Rattle.cards.specs.declared.suits.Suit.TheVariants.{Spades}
use Rattle.cards.specs.declared.pack.Rank.TheVariants.{Two}
use Rattle.card_values.specs.declared.values.CardValue.{CardValue}
use Rattle.dds_calls.specs.Lines.{AreEquals}
use Rattle.dds_calls.proofs.LineLaws.{equals_none, equals_skip, equals_push}
use Rattle.dds_calls.proofs.lines.equals_of.Goals as goal
use Rattle.dds_calls.proofs.lines.equals_of.Goals.{then-joins, else-joins}

-- what an index past the end would give
abbrev blank : CardValue
blank = record { card = record { suit = Spades; rank = Two }; tricks = 0 }

pub loop-other-init : goal.loop-other-init
loop-other-init c = equals_none c.args.layout.now c.args.player c.args.value

pub loop-other-preserved : goal.loop-other-preserved
loop-other-preserved c =
    let values = c.args.values.now in
    let i = c.loop-other.other-index in
    let deal = c.args.layout.now in
    let more = take_more values i blank c.loop-other-test.true in
    let P : ℕ → Type 0 = λ n. AreEquals deal c.args.player (take (i + 1) values) c.args.value n in
    elim c.if-joins.branch [
      | then-joins w ↦
          let at : w.number.result + 2 ≡ _ = ap (λ n. n + 2) w.number.ensures.place in
          subst P (sym w.equals-is)
          (equals_push deal c.args.player (take i values) (take (i + 1) values) c.args.value (get_or values i blank) c.loop-other.equals (w.number.result + 2) more w.if-joins.ensures at c.loop-other.invariant)
      | else-joins w ↦
          subst P (sym w.equals-is)
          (equals_skip deal c.args.player (take i values) (take (i + 1) values) c.args.value (get_or values i blank) c.loop-other.equals more w.if-joins.ensures c.loop-other.invariant)
    ]

pub returns : goal.returns
returns c =
    let P : List CardValue → Type 0 = λ xs. AreEquals c.args.layout.now c.args.player xs c.args.value c.loop-other.equals in
    subst P (take_all c.loop-other.other-index c.args.values.now c.loop-other-test.false) c.loop-other.invariant
