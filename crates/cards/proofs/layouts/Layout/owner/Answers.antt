use Rattle.std.proofs.Common.{sym, ◌∙◌}
use Rattle.cards.proofs.HandLaws.{holder_from_words}
use Rattle.cards.proofs.layouts.Layout.owner.Goals as goal

pub returns : goal.returns
returns c =
    sym (holder_from_words _ c.self.inside.hands c.args.card _ c.self.view_is c.number.ensures.place
    ∙ sym c.holder_by_words.ensures)
