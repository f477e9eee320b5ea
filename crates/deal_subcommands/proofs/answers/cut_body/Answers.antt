use Rattle.std.proofs.Common.{◌+◌, inl}
use Rattle.cards.proofs.DeviceLemmas.{take-drop_rest}
use Rattle.deal_subcommands.proofs.AnswerLaws.{cut_at}
use Rattle.deal_subcommands.proofs.answers.cut_body.Goals as goal

pub returns-in-Some : goal.returns-in-Some
returns-in-Some c =
    let found = c.in-Some.ensures in
    rw (take-drop_rest c.args.body.now (c.in-Some.place + 1)) (inl (cut_at c.args.body.now c.in-Some.place found.0 found.1 found.2))
