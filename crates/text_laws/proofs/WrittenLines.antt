-- What is written of a text has the lines that were meant.
use Rattle.std.proofs.Common.{◌≡◌, ℕ, false, List, ◌++◌, Ok, refl, sym, ◌∙◌, ap, subst, flat_map}
use Rattle.std.specs.List.{enumerate_from}
use Rattle.pbn_deals.specs.declared.boards.Board.{Board}
use Rattle.pbn_deals.specs.Games.{no_tags}
use Rattle.pbn_deals.specs.Lines.{without_mark}
use Rattle.pbn_deals.specs.Pieces.{rows_of, Line, line_bytes, AreLines, mark_of, HasLines}
use Rattle.pbn_deals.specs.LineBoards.{HaveBoards}
use Rattle.pbn_deals.specs.Reading.{TextAnswers}
use Rattle.pbn_deals.proofs.LinesOfText.{text_lines, bytes_of-lines, bytes_of-rows}
use Rattle.text_laws.proofs.LinesRead.{boards_of_lines}
use Rattle.pbn_deals.proofs.RowsBack.{AreEnded, text_ended, Follow, follow, rows_are, lines_back}
use Rattle.tables.specs.TablesText.{Printed}
use Rattle.text_laws.specs.ReadBack.{AreTricks}
use Rattle.whole_texts.specs.WholeText.{games_of, first_end}
use Rattle.whole_texts.specs.WholeText as said
use Rattle.text_laws.specs.GivenEnds.{whole_lines, EndsAreGiven}
use Rattle.text_laws.specs.Laws.{AreWrittenOne, KeepBoards}
use Rattle.whole_texts.specs.LineEnds.{IsLineEnd}
use Rattle.whole_texts.proofs.Ends.{Ended}
use Rattle.text_laws.proofs.WholeLines.{whole_ended, GamesFollow, games_follow, games_whole, first_ended, whole_follows}
use Rattle.text_laws.proofs.SameEnds.{games_same}
use Rattle.text_laws.proofs.SameBoards.{GamesHave, games_have, whole_have}
use Rattle.text_laws.proofs.FirstBytes.{FirstOf, whole_first, unmarked}
use Rattle.tables.specs.declared.results.Renews.{Renews}

-- a text's lines are one list
pub same_lines : (text : List ℕ) (lines others : List Line) → HasLines text lines → HasLines text others → lines ≡ others
same_lines text lines others one other =
    let it = text_lines text in
    (it.one lines false one).0 ∙ sym (it.one others false other).0

pub have_boards : (text : List ℕ) (boards : List Board) (lines : List Line) → TextAnswers text (Ok boards) → HasLines text lines → HaveBoards 0 no_tags lines boards
have_boards text boards lines answer has =
    let said = boards_of_lines.said text boards answer in
    subst (λ l. HaveBoards 0 no_tags l boards) (same_lines text said.0 lines said.1 has) said.2

module _ (text : List ℕ) (lines : List Line) (has : HasLines text lines) where
  pub lines_follow : Follow false lines false
  lines_follow = follow has

  pub lines_ended : Ended lines
  lines_ended = subst AreEnded (rows_are has) (text_ended (without_mark text))

  pub lines_whole : without_mark text ≡ flat_map line_bytes lines
  lines_whole = sym (bytes_of-lines has ∙ bytes_of-rows (without_mark text))

module _ (old : Renews) (text : List ℕ) (boards : List Board) (results : ℕ → Printed) (lines : List Line) (answer : TextAnswers text (Ok boards)) (small : AreTricks results) (has : HasLines text lines) where
  abbrev out : List Line
  out = whole_lines old boards results lines

  games_are : GamesFollow false (games_of lines)
  games_are = games_follow refl (lines_follow text lines has)

  is_end : IsLineEnd (first_end lines)
  is_end = first_ended lines (lines_ended text lines has)

  out_follows : Follow false out false
  out_follows = whole_follows old (first_end lines) results small (enumerate_from 0 boards) (games_of lines) games_are

  pub out_ended : Ended out
  out_ended =
      whole_ended old (first_end lines) results small is_end (enumerate_from 0 boards) (games_of lines) games_are
      (subst Ended (sym (games_whole lines)) (lines_ended text lines has))

  out_have : GamesHave old 0 no_tags (games_of lines) boards
  out_have = games_have old (have_boards text boards lines answer has)

  pub out_boards : HaveBoards 0 no_tags out boards
  out_boards = whole_have old (first_end lines) results (enumerate_from 0 boards) out_have

  out_first : FirstOf lines out
  out_first = subst (λ l. FirstOf l out) (games_whole lines) (whole_first old (first_end lines) results (enumerate_from 0 boards) out_have games_are)

  pub out_lines : HasLines (mark_of text ++ flat_map line_bytes out) out
  out_lines =
      subst (λ t. AreLines false (rows_of t) out false) (sym (unmarked text lines out (lines_whole text lines has) out_ended out_first))
      (lines_back out out_follows out_ended)

-- the lines that are written have the ends that they get
pub ends_are_given : EndsAreGiven
ends_are_given old text boards results lines has =
    games_same old (first_end lines) results (enumerate_from 0 boards) (games_of lines) (games_follow refl (lines_follow text lines has))
    (subst Ended (sym (games_whole lines)) (lines_ended text lines has))

pub given_text : (old : Renews) (text : List ℕ) (boards : List Board) (results : ℕ → Printed) (written : List ℕ) (whole : said.WholeText old text boards results written) → written ≡ mark_of text ++ flat_map line_bytes (whole_lines old boards results whole.lines)
given_text old text boards results written whole = whole.is ∙ ap (λ l. mark_of text ++ flat_map line_bytes l) (ends_are_given old text boards results whole.lines whole.read)

pub one_is_written : AreWrittenOne
one_is_written old text boards results answer =
    let those = boards_of_lines.said text boards answer in
    record {
      written = mark_of text ++ flat_map line_bytes (said.whole_lines old boards results those.0);
      whole = record { lines = those.0; read = those.1; is = refl };
      one = λ other whole. whole.is ∙ ap (λ l. mark_of text ++ flat_map line_bytes (said.whole_lines old boards results l)) (same_lines text whole.lines those.0 whole.read those.1);
    }

pub keep_boards : KeepBoards
keep_boards old text boards results written answer small whole =
    subst (λ t. TextAnswers t (Ok boards)) (sym (given_text old text boards results written whole))
    (boards_of_lines.says (mark_of text ++ flat_map line_bytes (whole_lines old boards results whole.lines)) (whole_lines old boards results whole.lines) boards (out_lines old text boards results whole.lines answer small whole.read) (out_boards old text boards results whole.lines answer small whole.read))
