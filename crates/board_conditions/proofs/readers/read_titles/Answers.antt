use Rattle.std.proofs.Common.{List, [], ◌∷◌, map, length, sym, ◌∙◌, ap, subst, Vec, Global}
use Rattle.std.proofs.lemmas.Bool.{eqb-true}
use Rattle.std.proofs.lemmas.List.{map-append}
use Rattle.pbn_deals.proofs.LinesOfText.{text_lines}
use Rattle.board_conditions.specs.declared.titles.Titles.{Titles}
use Rattle.board_conditions.specs.Titles.{TitleValues, titles_of, titles_said}
use Rattle.board_conditions.proofs.GamesTaken.{ReadSoFar, board_more, no_board, read_all, no_bytes}
use Rattle.board_conditions.proofs.readers.read_titles.Goals as goal
use Rattle.board_conditions.proofs.readers.read_titles.Goals.{then-has_deal+in_ok-push, else-has_deal}

pub loop-rest-preserved : goal.loop-rest-preserved
loop-rest-preserved c = λ lines last h.
    let s = c.loop-rest.invariant lines last h in
    let first = c.first_game-game.ensures.is s.more s.last s.read in
    let rest = c.first_game-game.result.rest.now in
    elim c.if-has_deal.branch [
      | then-has_deal+in_ok-push w ↦
          subst (λ (l : List TitleValues). ReadSoFar titles_of lines l rest)
          (sym (ap (λ (v : Vec Titles Global). map titles_said v.items) w.list-is
          ∙ (ap (map titles_said) w.in_ok-push.ensures.items ∙ map-append titles_said c.loop-rest.list.items (w.titles.result ∷ []))))
          (board_more titles_of s first (titles_said w.titles.result) (sym c.has_deal.ensures ∙ w.if-has_deal.true) (w.titles.ensures first.game first.is_open first.are))
      | else-has_deal w ↦
          subst (λ (l : List TitleValues). ReadSoFar titles_of lines l rest) (sym (ap (λ (v : Vec Titles Global). map titles_said v.items) w.list-is))
          (no_board titles_of s first (sym c.has_deal.ensures ∙ w.if-has_deal.false))
    ]

pub returns : goal.returns
returns c =
    let t = text_lines c.args.text.now in
    let none = no_bytes c.loop-rest.rest.now (eqb-true (length c.loop-rest.rest.now) 0 (sym c.is_empty.ensures ∙ c.loop-rest-test.false)) in
    record {
      lines = t.lines;
      is_open = t.is_open;
      read = t.read;
      are = read_all titles_of (c.loop-rest.invariant t.lines t.is_open t.read) none;
    }
