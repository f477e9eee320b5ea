use Rattle.std.proofs.Common.{sym, ◌∙◌, ap}
use Rattle.play_rules.specs.History.{Opening}
use Rattle.recorded_plays.proofs.Walks.{none_played}
use Rattle.recorded_plays.proofs.follow.Walk.new.Goals as goal

pub returns-clause-walk : goal.returns-clause-walk
returns-clause-walk c = record {
  history = c.new.ensures.history ∙ sym c.new-2.ensures;
  left = none_played c.args.deal c.new.result.opening c.new-2.result.items c.holders.result c.holders.ensures (ap (λ (o : Opening). o.deal) c.new.ensures.opening) c.new-2.ensures;
}
