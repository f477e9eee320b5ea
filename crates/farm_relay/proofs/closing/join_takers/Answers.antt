use Rattle.std.proofs.Common.{◌≡◌, ap, arith}
use Rattle.std.proofs.lemmas.Grind.{common_steps}
use Rattle.std.proofs.lemmas.List.Elements.{All-rest}
use Rattle.crossbeam_channel.specs.Claims.{view}
use Rattle.crossbeam_channel.specs.Ends.{sends_on, receives_on}
use Rattle.farm_relay.specs.declared.takers.Taker.{Taker}
use Rattle.farm_relay.proofs.Moves.{joins}
use Rattle.farm_relay.proofs.Joining.{taken_more, takers_more}
use Rattle.farm_relay.proofs.closing.join_takers.Goals as goal

pub absorb-requires-clause-rule : goal.absorb-requires-clause-rule
absorb-requires-clause-rule g c = let has = c.loop-taker.invariant.joined.shares in let some_share = c.requires.share in joins _ _ _ _ (omega arith)

pub absorb-requires-2-clause-rule : goal.absorb-requires-2-clause-rule
absorb-requires-2-clause-rule g c = let has = c.loop-taker.invariant.joined.shares in let some_share = c.requires.share in joins _ _ _ _ (omega arith)

pub loop-taker-preserved : goal.loop-taker-preserved
loop-taker-preserved g c =
    let i = c.loop-taker.invariant in record {
      seat = c.absorb.ensures.channel.0;
      joined = takers_more _ _ _ _ c.in-Some-taker.taker _ i.joined (ap (λ p. view p) c.into_parts-receiver.ensures.pass) c.absorb.ensures.rule;
      of = All-rest (λ (taker : Taker g.row.T.Denot). receives_on taker.receiver ≡ sends_on c.args.sender.now) c.in-Some-taker.taker _ _ c.in-Some-taker.ensures.steps.0 i.of;
      whole = taken_more _ _ _ _ _ c.in-Some-taker.ensures.steps.0 i.whole;
    }

pub returns-clause-joined : goal.returns-clause-joined
returns-clause-joined g c =
    let i = c.loop-taker.invariant in
    let more = takers_more _ _ _ _ c.in-Some.last _ i.joined (ap (λ p. view p) c.into_parts-receiver-2.ensures.pass) c.absorb-2.ensures.rule in
    let all : c.loop-taker.yielded ≡ c.pop.new.self.items = grind (arith, common_steps) in
    rw (c.in-Some.ensures.items, ← all) more
