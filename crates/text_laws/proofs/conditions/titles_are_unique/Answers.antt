use Rattle.std.proofs.Common.{map, refl, ◌∙◌, ap}
use Rattle.pbn_deals.proofs.LinesOfText.{text_lines}
use Rattle.board_conditions.specs.Games.{board_games}
use Rattle.board_conditions.specs.Titles.{titles_of}
use Rattle.text_laws.proofs.conditions.titles_are_unique.Goals as goal

pub returns : goal.returns
returns c = λ text.
    let t = text_lines text in
    record {
      list = map titles_of (board_games t.lines);
      has = record { lines = t.lines; is_open = t.is_open; read = t.read; are = refl };
      one = λ other h. h.are ∙ ap (λ l. map titles_of (board_games l)) (t.one h.lines h.is_open h.read).0;
      head = titles_of t.lines;
      has_head = record { lines = t.lines; is_open = t.is_open; read = t.read; are = refl };
      one_head = λ other h. h.are ∙ ap titles_of (t.one h.lines h.is_open h.read).0;
    }
