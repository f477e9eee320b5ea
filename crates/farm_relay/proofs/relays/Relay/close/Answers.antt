use Rattle.std.proofs.lemmas.Result.{IfOk-weaker}
use Rattle.farm_relay.proofs.Joining.{closed}
use Rattle.farm_relay.proofs.relays.Relay.close.Goals as goal

pub returns-clause-messages : goal.returns-clause-messages
returns-clause-messages g c =
    IfOk-weaker c.drain.result _ _ (λ left. closed c.args.self _ _ _ _ left.items c.join_putters.ensures.joined c.join_takers-receiver.ensures.joined) c.drain.ensures
