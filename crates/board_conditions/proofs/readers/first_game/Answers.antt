use Rattle.std.proofs.Common.{ℕ, List, length, ap, arith}
use Rattle.std.specs.Borrow.{Bor}
use Rattle.pbn_deals.proofs.RowsInTurn.{rest_shorter}
use Rattle.board_conditions.specs.Games.{game_pieces}
use Rattle.board_conditions.proofs.GamesTaken.{none_yet, next_line, one_line_more, ends_at_gap, ends_with_text}
use Rattle.board_conditions.proofs.readers.first_game.Goals as goal

pub loop-row-init : goal.loop-row-init
loop-row-init c = record {
  so_far = λ lines last h. none_yet c.args.text lines last c.new-game.result c.new-game.ensures.values c.new-game.ensures.rest h;
  within = omega (arith, ap (λ (b : Bor (List ℕ)). length b.now) c.new-game.ensures.rest);
}

pub returns-in_default-with_line-clause-is : goal.returns-in_default-with_line-clause-is
returns-in_default-with_line-clause-is c = λ lines last h.
    let s = c.loop-row.invariant.so_far lines last h in
    let rows = c.in-Some.ensures.rows in
    let line = next_line c.in-Some.after s rows in
    ends_at_gap c.in-Some.after s rows (c.in_default-with_line.ensures (game_pieces s.own) line.kind line.behind s.are line.is)

pub returns-in_default-with_line-clause-shorter : goal.returns-in_default-with_line-clause-shorter
returns-in_default-with_line-clause-shorter c = λ some.
    let less = rest_shorter c.loop-row.game.rest.now c.in-Some.after.now _ c.in-Some.ensures.rows c.in-Some.ensures.whole in
    omega (arith, less, c.loop-row.invariant.within)

pub loop-row-smaller : goal.loop-row-smaller
loop-row-smaller c = rest_shorter c.loop-row.game.rest.now c.in-Some.after.now _ c.in-Some.ensures.rows c.in-Some.ensures.whole

pub loop-row-preserved : goal.loop-row-preserved
loop-row-preserved c = record {
  so_far = λ lines last h.
      let s = c.loop-row.invariant.so_far lines last h in
      let rows = c.in-Some.ensures.rows in
      let line = next_line c.in-Some.after s rows in
      one_line_more c.in-Some.after s rows c.in-Some-with_line.next (c.in-Some-with_line.ensures (game_pieces s.own) line.kind line.behind s.are line.is);
  within =
      let less = rest_shorter c.loop-row.game.rest.now c.in-Some.after.now _ c.in-Some.ensures.rows c.in-Some.ensures.whole in
      omega (arith, less, c.loop-row.invariant.within);
}

pub returns-clause-is : goal.returns-clause-is
returns-clause-is c = λ lines last h. ends_with_text (c.loop-row.invariant.so_far lines last h) c.in_default.ensures
