-- Each value of as many tricks has its line, or is in the group of a higher card.
use Rattle.std.proofs.Common.{◌≡◌, ◌+◌, ◌++◌, ◌∷◌, [], ◌<◌, List, Some, length, get_or, slice_get, sym, subst, inr, arith}
use Rattle.std.proofs.lemmas.Option.{slice_get-get_or}
use Rattle.cards.specs.declared.suits.Suit.TheVariants.{Spades}
use Rattle.cards.specs.declared.pack.Rank.TheVariants.{Two}
use Rattle.card_values.specs.declared.values.CardValue.{CardValue}
use Rattle.dds_calls.specs.declared.lines.Line.{Line}
use Rattle.dds_calls.specs.Lines.{HasLines}
use Rattle.dds_calls.proofs.LineLaws.{has_all, has_more, has_push, room_left}
use Rattle.dds_calls.proofs.lines.with_worth.Goals as goal
use Rattle.dds_calls.proofs.lines.with_worth.Goals.{then-value-tricks+then-is_top, else-value-tricks, else-value-tricks-via-then-value-tricks+else-is_top, else-value-tricks-via-else-value-tricks}

-- what an index past the end would give
abbrev blank : CardValue
blank = record { card = record { suit = Spades; rank = Two }; tricks = 0 }

pub loop-value-init : goal.loop-value-init
loop-value-init c = c.requires.lines

pub push-requires : goal.push-requires
push-requires c =
    let values = c.args.values.now in
    let i = c.loop-value.value-index in
    let less = room_left values c.args.tricks i (length c.loop-value.lines.items) (get_or values i blank) c.loop-value.invariant.room (slice_get-get_or values i blank c.loop-value-test.true) c.if-value-tricks.true in
    let room : length c.loop-value.lines.items < 13 = omega (arith, less, c.requires.choices.few) in
    (omega arith, room)

pub loop-value-preserved : goal.loop-value-preserved
loop-value-preserved c =
    let values = c.args.values.now in
    let i = c.loop-value.value-index in
    let deal = c.args.layout.now in
    let player = c.args.player in
    let value : CardValue = get_or values i blank in
    let at : slice_get values i ≡ Some value = slice_get-get_or values i blank c.loop-value-test.true in
    let has = c.loop-value.invariant in
    let P : List Line → Type 0 = λ xs. HasLines deal player values (c.args.tricks + 1) (i + 1) xs in
    elim c.if-value-tricks.branch [
      | then-value-tricks+then-is_top w ↦
          let longer : c.if-value-tricks.lines.items ≡ c.loop-value.lines.items ++ w.line_of.result ∷ [] = cc in
          has_push deal player values (c.args.tricks + 1) i c.loop-value.lines.items value has at c.if-value-tricks.lines.items w.line_of.result longer c.requires.choices.in_order
          (omega (arith, w.if-value-tricks.true)) w.if-is_top.ensures w.line_of.ensures
      | else-value-tricks w ↦
          let same : c.if-value-tricks.lines.items ≡ c.loop-value.lines.items = cc in
          subst P (sym same)
          (elim w.else-value-tricks.branch [
            | else-value-tricks-via-then-value-tricks+else-is_top w' ↦ has_more deal player values (c.args.tricks + 1) i c.loop-value.lines.items value has at (λ worth. inr w'.if-is_top.ensures)
            | else-value-tricks-via-else-value-tricks w' ↦ has_more deal player values (c.args.tricks + 1) i c.loop-value.lines.items value has at (λ worth. absurd (omega (arith, worth, w'.if-value-tricks.false)))
          ])
    ]

pub returns : goal.returns
returns c = has_all c.args.layout.now c.args.player c.args.values.now c.args.tricks c.loop-value.value-index c.loop-value.lines.items c.loop-value-test.false c.loop-value.invariant
