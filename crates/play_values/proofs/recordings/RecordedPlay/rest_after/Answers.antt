use Rattle.std.proofs.Common.{◌∙◌, sym, subst}
use Rattle.cards.specs.Deal.{IsLayout}
use Rattle.play_values.proofs.WholeLaws.{same_left, rest_is_layout, rest_is}
use Rattle.play_values.proofs.recordings.RecordedPlay.rest_after.Goals as goal

pub layout_left-requires-clause-layout : goal.layout_left-requires-clause-layout
layout_left-requires-clause-layout c =
    subst IsLayout (sym (same_left _ _ _ _ _ c.layout.ensures c.cards.ensures))
    (rest_is_layout c.args.self.now c.args.count c.requires c.invariant.ensures c.table_after-table.result c.table_after-table.ensures c.in-Some.leader (sym c.turn.ensures.turn ∙ c.in-Some.is))

pub returns : goal.returns
returns c =
    rest_is c.args.self.now c.args.count c.requires c.invariant.ensures c.table_after-table.result c.table_after-table.ensures c.in-Some.leader c.layout_left.result c.tricks.result c.tricks-2.result (sym c.turn.ensures.turn ∙ c.in-Some.is)
    (c.layout_left.ensures ∙ same_left _ _ _ _ _ c.layout.ensures c.cards.ensures) c.tricks.ensures c.tricks-2.ensures
