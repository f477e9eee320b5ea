use Rattle.std.proofs.Common.{Option, Some, None, IfNone}
use Rattle.std.proofs.lemmas.Option.{IfSome_then}
use Rattle.crossbeam_channel.specs.Claims.{view}
use Rattle.farm_relay.proofs.Parts.{took_message, took_mark}
use Rattle.farm_relay.proofs.takers.Taker.take.Goals as goal

if_none : {X P Q : Type 0} (r : Option X) → (P → Q) → IfNone r P → IfNone r Q
if_none None then p = then p
if_none (Some x) then p = p

pub returns-clause-some : goal.returns-clause-some
returns-clause-some g c =
    IfSome_then c.receive.result c.receive.ensures.some (took_message (view c.args.self.now.pass) (view c.receive.new.pass))

pub returns-clause-none : goal.returns-clause-none
returns-clause-none g c =
    if_none c.receive.result (took_mark (view c.args.self.now.pass) (view c.receive.new.pass)) c.receive.ensures.none
