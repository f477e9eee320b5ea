use Rattle.std.proofs.Common.{List, length, sym, ◌∙◌, ap, subst, Vec, Global}
use Rattle.std.proofs.lemmas.Bool.{eqb-true}
use Rattle.pbn_deals.proofs.LinesOfText.{text_lines}
use Rattle.board_conditions.proofs.GamesTaken.{no_bytes}
use Rattle.recorded_plays.specs.declared.plays.RecordedGame.{RecordedGame}
use Rattle.recorded_plays.proofs.GamesTaken.{ReadSoFar, game_more, no_game, read_all}
use Rattle.recorded_plays.proofs.readers.read_plays.Goals as goal
use Rattle.recorded_plays.proofs.readers.read_plays.Goals.{then-is_recorded+in_ok-recorded+in_ok-push, else-is_recorded}

pub loop-rest-preserved : goal.loop-rest-preserved
loop-rest-preserved c = λ lines last h.
    let s = c.loop-rest.invariant lines last h in
    let first = c.in_ok-game.ensures.is s.more s.last s.read in
    let after = c.in_ok-game.after.now in
    let recorded = c.is_recorded.ensures first.game first.is_open first.are in
    elim c.if-is_recorded.branch [
      | then-is_recorded+in_ok-recorded+in_ok-push w ↦
          subst (λ (l : List RecordedGame). ReadSoFar lines l after) (sym (ap (λ (v : Vec RecordedGame Global). v.items) w.list-is ∙ w.in_ok-push.ensures.items))
          (game_more s first w.in_ok-recorded.field-0 (sym recorded ∙ w.if-is_recorded.true) (w.in_ok-recorded.ensures first.game first.is_open first.are))
      | else-is_recorded w ↦
          subst (λ (l : List RecordedGame). ReadSoFar lines l after) (sym (ap (λ (v : Vec RecordedGame Global). v.items) w.list-is))
          (no_game s first (sym recorded ∙ w.if-is_recorded.false))
    ]

pub returns : goal.returns
returns c =
    let t = text_lines c.args.text.now in
    let none = no_bytes c.loop-rest.rest.now (eqb-true (length c.loop-rest.rest.now) 0 (sym c.is_empty.ensures ∙ c.loop-rest-test.false)) in
    record {
      lines = t.lines;
      is_open = t.is_open;
      read = t.read;
      are = read_all (c.loop-rest.invariant t.lines t.is_open t.read) none;
    }
