use Rattle.certificate_play.proofs.StepLaws.{own_way}
use Rattle.certificate_play.proofs.steps.after_own.Goals as goal

pub after-requires-clause-way : goal.after-requires-clause-way
after-requires-clause-way c = own_way c.args.step.now c.in-Own.pat_card c.in-Own.below c.args.card c.requires.by_node c.in-Own.ensures c.requires.can c.requires.chosen
