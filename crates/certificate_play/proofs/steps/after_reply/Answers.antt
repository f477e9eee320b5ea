use Rattle.certificate_play.proofs.StepLaws.{reply_stands, reply_answered, reply_way}
use Rattle.certificate_play.proofs.steps.after_reply.Goals as goal

pub unreachable-requires : goal.unreachable-requires
unreachable-requires c = reply_stands c.args.step.now c.view.result c.requires.by_node c.requires.turn c.view.ensures c.in_default.not-Reply

pub unreachable-requires-in_default-below_answer : goal.unreachable-requires-in_default-below_answer
unreachable-requires-in_default-below_answer c =
    let none = c.in_default-below_answer.ensures in
    reply_answered c.args.step.now c.in-Reply.branches c.pat_card_of-pat_card.result c.args.card c.player.result c.requires.by_node c.in-Reply.ensures c.requires.can c.pat_card_of-pat_card.ensures c.player.ensures none.0 none.1

pub after-requires-clause-way : goal.after-requires-clause-way
after-requires-clause-way c =
    reply_way c.args.step.now c.in-Reply.branches c.pat_card_of-pat_card.result c.in-Some.taken c.in-Some.below c.args.card c.player.result c.requires.by_node c.in-Reply.ensures c.requires.can c.pat_card_of-pat_card.ensures c.player.ensures c.in-Some.ensures
