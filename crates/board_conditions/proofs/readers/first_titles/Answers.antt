use Rattle.std.proofs.Common.{sym, ◌∙◌, ap, subst}
use Rattle.pbn_deals.proofs.LinesOfText.{text_lines}
use Rattle.pbn_deals.proofs.RowsInTurn.{rest_shorter}
use Rattle.board_conditions.specs.declared.game_texts.GameText.{GameText}
use Rattle.board_conditions.specs.Games.{game_pieces}
use Rattle.board_conditions.specs.Titles.{titles_of}
use Rattle.board_conditions.proofs.GamesTaken.{At}
use Rattle.board_conditions.proofs.AllLines.{AllSoFar, its_line, one_more, one_gap, all_read}
use Rattle.board_conditions.proofs.readers.first_titles.Goals as goal
use Rattle.board_conditions.proofs.readers.first_titles.Goals.{in-Some-with_line, in-None}

pub loop-row-smaller : goal.loop-row-smaller
loop-row-smaller c = rest_shorter c.loop-row.game.rest.now c.in-Some.after.now _ c.in-Some.ensures.rows c.in-Some.ensures.whole

pub loop-row-preserved : goal.loop-row-preserved
loop-row-preserved c = λ lines last h.
    let s = c.loop-row.invariant lines last h in
    let rows = c.in-Some.ensures.rows in
    let line = its_line c.in-Some.after s rows in
    let ends = c.with_line.ensures (game_pieces s.own) line.kind line.behind s.are line.is in
    elim c.match-with_line.branch [
      | in-Some-with_line w ↦
          subst (λ (n : GameText). AllSoFar lines last (At n c.in-Some.after)) (sym w.next-is)
          (one_more c.in-Some.after s rows w.in-Some-with_line.next (rw w.in-Some-with_line.is at ends))
      | in-None w ↦
          subst (λ (n : GameText). AllSoFar lines last (At n c.in-Some.after)) (sym w.next-is)
          (one_gap c.in-Some.after s rows (rw w.in-None.is at ends))
    ]

pub returns : goal.returns
returns c =
    let t = text_lines c.args.text.now in
    let s = c.loop-row.invariant t.lines t.is_open t.read in
    record {
      lines = t.lines;
      is_open = t.is_open;
      read = t.read;
      are = c.titles.ensures s.own c.loop-row.game.is_open s.are ∙ ap titles_of (sym (all_read s c.in_default.ensures));
    }
