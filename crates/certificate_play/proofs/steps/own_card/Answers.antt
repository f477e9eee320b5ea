use Rattle.certificate_play.proofs.StepLaws.{own_stands, own_playable}
use Rattle.certificate_play.proofs.steps.own_card.Goals as goal

pub unreachable-requires : goal.unreachable-requires
unreachable-requires c = own_stands c.args.step.now c.view.result c.requires.by_node c.requires.turn c.view.ensures c.in_default.not-Own

pub unreachable-requires-in_default-last_stood_for : goal.unreachable-requires-in_default-last_stood_for
unreachable-requires-in_default-last_stood_for c =
    let own = own_playable c.args.step.now c.in-Own.pat_card c.in-Own.field-1 c.requires.by_node c.in-Own.ensures in
    c.in_default-last_stood_for.ensures own.card (c.requires.all own.card own.can) own.stands
