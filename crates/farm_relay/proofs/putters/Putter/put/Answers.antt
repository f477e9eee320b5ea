use Rattle.std.proofs.lemmas.Result.{on_ok_weaker}
use Rattle.crossbeam_channel.specs.Claims.{view}
use Rattle.farm_relay.proofs.Parts.{put_message}
use Rattle.farm_relay.proofs.putters.Putter.put.Goals as goal

pub returns-clause-ok : goal.returns-clause-ok
returns-clause-ok g c =
    on_ok_weaker c.send.result (put_message (view c.args.self.now.pass) (view c.send.new.pass) c.args.message) c.send.ensures.ok
