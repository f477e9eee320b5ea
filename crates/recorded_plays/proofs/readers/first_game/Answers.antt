use Rattle.std.proofs.Common.{arith}
use Rattle.std.specs.declared.alloc.AllocError.{AllocError}
use Rattle.pbn_deals.proofs.RowsInTurn.{rest_shorter}
use Rattle.recorded_plays.specs.Sections.{lined_pieces}
use Rattle.recorded_plays.proofs.GamesTaken.{next_line, one_line_more, ends_at_gap, ends_with_text, goes_on, goes_not}
use Rattle.recorded_plays.proofs.readers.first_game.Goals as goal

pub loop-row-smaller : goal.loop-row-smaller
loop-row-smaller c = rest_shorter c.loop-row.rest.now c.in-Some.after.now _ c.in-Some.ensures.rows c.in-Some.ensures.whole

pub returns-then-not-branch-clause-is : goal.returns-then-not-branch-clause-is
returns-then-not-branch-clause-is c = λ lines last h.
    let s = c.loop-row.invariant.so_far lines last h in
    let line = next_line c.in-Some.after.now s c.in-Some.ensures.rows in
    ends_at_gap c.in-Some.after.now s c.in-Some.ensures.rows c.take_line.new.self
    (goes_not AllocError c.in_ok-take_line.field-0 (lined_pieces s.own) line.kind line.behind c.take_line.new.self (c.in_ok-take_line.ensures (lined_pieces s.own) line.kind line.behind s.are line.is) c.if-not-branch.true)

pub returns-then-not-branch-clause-shorter : goal.returns-then-not-branch-clause-shorter
returns-then-not-branch-clause-shorter c = λ some.
    omega (arith, rest_shorter c.loop-row.rest.now c.in-Some.after.now _ c.in-Some.ensures.rows c.in-Some.ensures.whole, c.loop-row.invariant.within)

pub loop-row-preserved : goal.loop-row-preserved
loop-row-preserved c = record {
  so_far = λ lines last h.
      let s = c.loop-row.invariant.so_far lines last h in
      let line = next_line c.in-Some.after.now s c.in-Some.ensures.rows in
      one_line_more c.in-Some.after.now s c.in-Some.ensures.rows c.take_line.new.self
      (goes_on AllocError c.in_ok-take_line.field-0 (lined_pieces s.own) line.kind line.behind c.take_line.new.self (c.in_ok-take_line.ensures (lined_pieces s.own) line.kind line.behind s.are line.is) c.if-not-branch.false);
  within =
      let less = rest_shorter c.loop-row.rest.now c.in-Some.after.now _ c.in-Some.ensures.rows c.in-Some.ensures.whole in
      omega (arith, less, c.loop-row.invariant.within);
}

pub returns-clause-is : goal.returns-clause-is
returns-clause-is c = λ lines last h. ends_with_text (c.loop-row.invariant.so_far lines last h) c.in_default.ensures
