use Rattle.std.proofs.Common.{◌≡◌, ◌+◌, ◌-◌, ◌<◌, length, refl, arith}
use Rattle.std.proofs.lemmas.List.{length-drop}
use Rattle.cards.proofs.DeviceLemmas.{take-drop_rest}
use Rattle.play_evidence.proofs.WholeLemmas.{none_read, piece_read, moves_on, all_read}
use Rattle.play_evidence.proofs.wholes.read_sections.Goals as goal

pub loop-at-init : goal.loop-at-init
loop-at-init c = record {
  within = omega arith;
  read = none_read c.args.text.now (record { sections = c.new.result; damage = c.none.result }) c.new.ensures.items c.none.ensures;
}

pub loop-at-smaller : goal.loop-at-smaller
loop-at-smaller c =
    let text = c.args.text.now in
    let at = c.loop-at.at in
    let n = c.end_of_piece.result in
    let first = rw (take-drop_rest text at) at c.end_of_piece.ensures.piece in
    let within = rw (take-drop_rest text at) at c.end_of_piece.ensures.within in
    let some = moves_on _ n _ first within in
    let less : length text - (at + n) < length text - at = omega (arith, some, within, length-drop at text, c.loop-at.invariant.within) in less

pub loop-at-preserved : goal.loop-at-preserved
loop-at-preserved c =
    let text = c.args.text.now in
    let at = c.loop-at.at in
    let n = c.end_of_piece.result in
    let first = rw (take-drop_rest text at) at c.end_of_piece.ensures.piece in
    let within = rw (take-drop_rest text at) at c.end_of_piece.ensures.within in
    let long : (at + n) - at ≡ n = omega arith in
    let adds = rw long at c.in_ok-add_piece.ensures in
    record {
      within = omega (arith, within, length-drop at text, c.loop-at.invariant.within);
      read = piece_read text at n (at + n) refl first within c.loop-at.whole c.add_piece.new.whole adds c.loop-at.invariant.read;
    }

pub returns : goal.returns
returns c = all_read c.args.text.now c.loop-at.at c.loop-at.whole c.loop-at-test.false c.loop-at.invariant.read
