use Rattle.std.proofs.Common.{List, length, sym, ◌∙◌, ap, subst, Vec, Global}
use Rattle.std.proofs.lemmas.Bool.{eqb-true}
use Rattle.pbn_deals.proofs.LinesOfText.{text_lines}
use Rattle.board_conditions.specs.declared.conditions.Conditions.{Conditions}
use Rattle.board_conditions.specs.Games.{conditions_of}
use Rattle.board_conditions.proofs.GamesTaken.{ReadSoFar, board_more, no_board, read_all, no_bytes}
use Rattle.board_conditions.proofs.readers.read_conditions.Goals as goal
use Rattle.board_conditions.proofs.readers.read_conditions.Goals.{then-has_deal+in_ok-push, else-has_deal}

pub loop-rest-preserved : goal.loop-rest-preserved
loop-rest-preserved c = λ lines last h.
    let s = c.loop-rest.invariant lines last h in
    let first = c.first_game-game.ensures.is s.more s.last s.read in
    let rest = c.first_game-game.result.rest.now in
    elim c.if-has_deal.branch [
      | then-has_deal+in_ok-push w ↦
          subst (λ (l : List Conditions). ReadSoFar conditions_of lines l rest) (sym (ap (λ (v : Vec Conditions Global). v.items) w.list-is ∙ w.in_ok-push.ensures.items))
          (board_more conditions_of s first w.conditions.result (sym c.has_deal.ensures ∙ w.if-has_deal.true) (w.conditions.ensures first.game first.is_open first.are))
      | else-has_deal w ↦
          subst (λ (l : List Conditions). ReadSoFar conditions_of lines l rest) (sym (ap (λ (v : Vec Conditions Global). v.items) w.list-is))
          (no_board conditions_of s first (sym c.has_deal.ensures ∙ w.if-has_deal.false))
    ]

pub returns : goal.returns
returns c =
    let t = text_lines c.args.text.now in
    let none = no_bytes c.loop-rest.rest.now (eqb-true (length c.loop-rest.rest.now) 0 (sym c.is_empty.ensures ∙ c.loop-rest-test.false)) in
    record {
      lines = t.lines;
      is_open = t.is_open;
      read = t.read;
      are = read_all conditions_of (c.loop-rest.invariant t.lines t.is_open t.read) none;
    }
