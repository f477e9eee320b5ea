use Rattle.std.proofs.Common.{false, map, length, sym, ◌∙◌, ap}
use Rattle.std.proofs.lemmas.List.{length-map}
use Rattle.pbn_deals.proofs.LinesOfText.{text_lines}
use Rattle.text_laws.proofs.LinesRead.{boards_of_lines}
use Rattle.pbn_deals.specs.declared.boards.Board.{Board}
use Rattle.board_conditions.specs.Games.{name_in, conditions_of, board_games}
use Rattle.text_laws.proofs.BoardGames.{names_are}
use Rattle.text_laws.proofs.conditions.boards_have_conditions.Goals as goal

pub returns : goal.returns
returns c = λ text boards list said h.
    let (lines, read, have) = boards_of_lines.said text boards said in
    let t = text_lines text in
    let names = names_are lines boards have in
    let same = (t.one h.lines h.is_open h.read).0 ∙ sym (t.one lines false read).0 in
    let are = h.are ∙ ap (λ l. map conditions_of (board_games l)) same in
    record {
      lines = lines;
      read = read;
      names = names;
      conditions = are;
      as_many =
          ap length are
          ∙ (length-map (board_games lines) conditions_of
          ∙ (sym (length-map (board_games lines) name_in)
          ∙ (ap length (sym names) ∙ length-map boards (λ (board : Board). board.name))));
    }
