use Rattle.std.proofs.Common.{◌∙◌, sym, subst}
use Rattle.cards.specs.Deal.{IsLayout}
use Rattle.play_values.proofs.WordLaws.{layout_is, layout_is_there}
use Rattle.play_values.proofs.left_layouts.layout_left.Goals as goal

pub unreachable-requires : goal.unreachable-requires
unreachable-requires c =
    let left = c.holders_left-left in
    layout_is_there left.result (subst IsLayout (sym left.ensures) c.requires.layout) c.word_left.result c.word_left-2.result c.word_left-3.result c.word_left-4.result c.in-Err.field-0 c.word_left.ensures c.word_left-2.ensures c.word_left-3.ensures c.word_left-4.ensures
    c.in-Err.ensures.cases

pub returns : goal.returns
returns c =
    let left = c.holders_left-left in
    layout_is left.result (subst IsLayout (sym left.ensures) c.requires.layout) c.word_left.result c.word_left-2.result c.word_left-3.result c.word_left-4.result c.in-Ok.rest c.word_left.ensures c.word_left-2.ensures c.word_left-3.ensures c.word_left-4.ensures
    c.in-Ok.ensures.cases
    ∙ left.ensures
