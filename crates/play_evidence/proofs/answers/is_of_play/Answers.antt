use Rattle.std.proofs.lemmas.Slice.Eq.{slice_eq-Decides}
use Rattle.play_evidence.proofs.AnswerLemmas.{undenied}
use Rattle.play_evidence.proofs.answers.is_of_play.Goals as goal

pub returns : goal.returns
returns c =
    let says = c.equals_are_one.ensures in
    let section = c.args.section.now in
    let leader = (says.seats section.leader c.args.leader).0 (undenied _ c.if-ne.ensures) in
    let trump = (says.trumps section.trump c.args.trump).0 (undenied _ c.if-ne-2.ensures) in
    let deal = (says.layouts section.layout.now c.args.layout.now).0 (undenied _ c.if-ne-3.ensures) in
    let cards = slice_eq-Decides says.cards section.cards.now c.args.cards.now c.eq.result c.eq.ensures in (
      λ same. record { deal_is = deal; leader_is = leader; trump_is = trump; cards_are = cards.0 same },
      λ of. cards.1 of.cards_are,
    )
