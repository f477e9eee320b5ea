use Rattle.std.proofs.Common.{map, refl, ◌∙◌, ap}
use Rattle.pbn_deals.proofs.LinesOfText.{text_lines}
use Rattle.board_conditions.specs.Games.{conditions_of, board_games}
use Rattle.text_laws.proofs.conditions.conditions_are_unique.Goals as goal

pub returns : goal.returns
returns c = λ text.
    let t = text_lines text in
    record {
      list = map conditions_of (board_games t.lines);
      has = record { lines = t.lines; is_open = t.is_open; read = t.read; are = refl };
      one = λ other h. h.are ∙ ap (λ l. map conditions_of (board_games l)) (t.one h.lines h.is_open h.read).0;
    }
