use Rattle.std.proofs.Common.{◌≡◌, ◌+◌, ◌/◌, Some, ap, subst, refl}
use Rattle.play_rules.specs.Position.{Position}
use Rattle.recorded_plays.specs.declared.plays.Slot.TheVariants.{Played}
use Rattle.recorded_plays.specs.Follow.{IsRefused, slot_to_play}
use Rattle.recorded_plays.proofs.Walks.{unfinished, its_turn, slot_found, legal_so_far, one_more}
use Rattle.recorded_plays.proofs.follow.Walk.step.Goals as goal

pub returns-in-Err : goal.returns-in-Err
returns-in-Err c =
    let walk = c.args.self.now in
    let cards = walk.cards.items in
    let turn = c.in-Some.ensures.turn in
    let opening = ap (λ (t : Position). t.opening) c.in-Err.ensures.err in
    let slot : slot_to_play walk.table.opening c.args.section.now.first c.args.section.now.slots.now cards ≡ Some (Played c.in-Some-Played.card) = slot_found walk c.requires c.in-Some.seat turn c.args.section.now.first c.args.section.now.slots.now c.len-tricks.result c.number.result c.number-2.result c.len-tricks.ensures.value c.number.ensures.place c.number-2.ensures.place c.in-Some-Played.card c.get.result c.in-Some-Played.field-0 c.get.ensures.lookup c.in-Some-Played.is c.in-Some-Played.field-0-is in
    record {
      opening = opening;
      cards = refl;
      legal = legal_so_far walk c.requires c.turn.ensures.reached;
      ends = (
        unfinished walk c.requires c.in-Some.seat turn,
        slot,
        record {
          trick = ap (λ n. n / 4 + 1) c.len-tricks.ensures.value;
          seat = its_turn walk c.requires c.in-Some.seat turn;
          reason = subst (λ o. IsRefused o cards c.in-Some-Played.card c.reason.result) opening c.reason.ensures;
        },
      );
    }

pub returns : goal.returns
returns c =
    let walk = c.args.self.now in
    let turn = c.in-Some.ensures.turn in
    let slot : slot_to_play walk.table.opening c.args.section.now.first c.args.section.now.slots.now walk.cards.items ≡ Some (Played c.in-Some-Played.card) = slot_found walk c.requires c.in-Some.seat turn c.args.section.now.first c.args.section.now.slots.now c.len-tricks.result c.number.result c.number-2.result c.len-tricks.ensures.value c.number.ensures.place c.number-2.ensures.place c.in-Some-Played.card c.get.result c.in-Some-Played.field-0 c.get.ensures.lookup c.in-Some-Played.is c.in-Some-Played.field-0-is in
    one_more walk c.requires (unfinished walk c.requires c.in-Some.seat turn) c.play.new.self c.push.new.self c.in-Some-Played.card _ c.number-3.result c.in_default-play.ensures.ok c.push.ensures.items c.number-3.ensures.place refl c.args.section.now.first c.args.section.now.slots.now slot
