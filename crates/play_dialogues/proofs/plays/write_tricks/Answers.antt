use Rattle.std.proofs.Common.{◌+◌, ◌/◌, ◌<◌, length, sym, subst, arith}
use Rattle.std.specs.List.{range_with_len}
use Rattle.std.proofs.lemmas.List.FromFn.{length-range_with_len}
use Rattle.cards.specs.Devices.{Adds, AddsBeginning}
use Rattle.cards.proofs.WriteLemmas.{Adds-none, Adds-piece, AddsBeginning-piece, Writes-err, pieces-all}
use Rattle.play_rules.proofs.HistoryLaws.{leader_after-short}
use Rattle.play_dialogues.specs.PlayText.{line_after, tricks_text}
use Rattle.play_dialogues.proofs.TrickLemmas.{leader_after-more, line-is}
use Rattle.play_dialogues.proofs.plays.write_tricks.Goals as goal

pub loop-place-init : goal.loop-place-init
loop-place-init g c = record {
  leads = sym (leader_after-short c.args.trump c.args.first_leader _ (omega arith));
  wrote = Adds-none (g.S.Sink.state c.args.output.now);
}

pub returns-in_err-write_trick : goal.returns-in_err-write_trick
unfolding tricks_text
returns-in_err-write_trick g c =
    let cards = c.args.cards.now in
    let count = (length cards + 3) / 4 in
    let place = c.loop-place.place in
    let below : place < count = omega arith in
    let within : place < length (range_with_len 0 count) = omega (arith, length-range_with_len 0 count) in
    let line = line-is c.args.trump c.args.first_leader c.loop-place.leader cards c.trick_at-trick.result.now place count below c.loop-place.invariant.leads c.trick_at-trick.ensures in
    Writes-err c.from_residual.result _ c.from_residual.ensures.1
    (AddsBeginning-piece (line_after c.args.trump c.args.first_leader cards) (range_with_len 0 count) place 0 within c.loop-place.invariant.wrote
    (subst (λ t. AddsBeginning (g.S.Sink.state c.loop-place.output) (g.S.Sink.state c.write_trick.new.output) t) line c.in_err-write_trick.ensures))

pub loop-place-preserved : goal.loop-place-preserved
loop-place-preserved g c =
    let cards = c.args.cards.now in
    let count = (length cards + 3) / 4 in
    let place = c.loop-place.place in
    let below : place < count = omega arith in
    let within : place < length (range_with_len 0 count) = omega (arith, length-range_with_len 0 count) in
    let line = line-is c.args.trump c.args.first_leader c.loop-place.leader cards c.trick_at-trick.result.now place count below c.loop-place.invariant.leads c.trick_at-trick.ensures in
    let next = rw c.trick_at-trick.ensures at (rw c.loop-place.invariant.leads at c.leads_next-leader.ensures) in
    record {
      leads = rw (leader_after-more c.args.trump c.args.first_leader cards place (omega arith)) next;
      wrote = Adds-piece (line_after c.args.trump c.args.first_leader cards) (range_with_len 0 count) place 0 within c.loop-place.invariant.wrote
          (subst (λ t. Adds (g.S.Sink.state c.loop-place.output) (g.S.Sink.state c.write_trick.new.output) t) line c.in_ok-write_trick.ensures);
    }

pub returns : goal.returns
unfolding tricks_text
returns g c =
    let cards = c.args.cards.now in
    let count = (length cards + 3) / 4 in
    rw (pieces-all (line_after c.args.trump c.args.first_leader cards) (range_with_len 0 count) c.loop-place.place (omega (arith, length-range_with_len 0 count))) at c.loop-place.invariant.wrote
