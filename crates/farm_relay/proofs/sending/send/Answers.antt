use Rattle.farm_relay.specs.declared.items.Item.TheVariants.{Message}
use Rattle.farm_relay.proofs.Moves.{puts, silent}
use Rattle.farm_relay.proofs.sending.send.Goals as goal

pub send_as-requires-clause-rule : goal.send_as-requires-clause-rule
send_as-requires-clause-rule g c = (puts _ _ _ (Message c.args.message) c.requires.share, silent _ _)
