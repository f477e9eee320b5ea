use Rattle.lease_desk.specs.Askings.{asked_of}
use Rattle.lease_desk.specs.Views.{page_of}
use Rattle.lease_desk.proofs.TakingLaws.{may_entered, may_same, attended}
use Rattle.lease_desk.proofs.entering.attend.Goals as goal

pub give-requires-clause-may : goal.give-requires-clause-may
give-requires-clause-may g c =
    may_entered _ _ c.take-message.result c.args.number c.take-message.ensures.took c.requires.number (page_of c.enter.new.message) (asked_of c.args.asking) c.in-Ok.told c.requires.no_usher c.in-Ok.ensures.ok

pub give-requires-in-Err-clause-may : goal.give-requires-in-Err-clause-may
give-requires-in-Err-clause-may g c =
    may_same _ _ c.take-message.result c.args.number c.take-message.ensures.took c.requires.number (page_of c.enter.new.message) c.requires.no_usher c.in-Err.ensures.err

pub returns-in-Ok-clause-ok : goal.returns-in-Ok-clause-ok
returns-in-Ok-clause-ok g c =
    attended _ _ c.take-message.result c.args.number c.take-message.ensures.took c.requires.number (page_of c.enter.new.message) _ (asked_of c.args.asking) c.in-Ok.told c.requires.custody c.give.ensures.gave c.in-Ok.ensures.ok
