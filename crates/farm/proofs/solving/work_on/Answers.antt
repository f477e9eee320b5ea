use Rattle.std.proofs.Common.{refl}
use Rattle.farm.proofs.solving.work_on.Goals as goal

pub returns-clause-asks : goal.returns-clause-asks
returns-clause-asks g c = record {
  ask = record { tasks = c.args.group.now.items; answer = c.answer_for-answer.result };
  tasks_are = refl;
  asked = c.answer_for-answer.ensures;
  answers = c.in_ok-act_on.ensures.answers;
}
