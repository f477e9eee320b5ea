use Rattle.std.proofs.Common.{ℕ, ◌+◌, ◌<◌, List, [], ◌++◌, map, length, get_or, drop, refl, ◌∙◌, ap, subst, arith, append_assoc}
use Rattle.std.proofs.lemmas.List.{length-drop}
use Rattle.cards.specs.Devices.{AddsBeginning}
use Rattle.cards.proofs.DeviceLemmas.{Adds-twice}
use Rattle.cards.proofs.WriteLemmas.{Adds-none, AddsBeginning-stop, AddsBeginning-then, Writes-err}
use Rattle.board_conditions.specs.Titles.{titles_said}
use Rattle.pbn_deals.specs.declared.boards.Board.{Board}
use Rattle.sheets.specs.Boards.{board_text}
use Rattle.sheets.specs.Headings.{group_text}
use Rattle.sheets.specs.Pages.{boards_text}
use Rattle.sheets.proofs.BoardsInTurn.{board-behind, group-first}
use Rattle.sheets.proofs.pages.write_boards.Goals as goal

pub loop-place-init : goal.loop-place-init
loop-place-init g c = (c.boards-boards.ensures, omega arith, [], Adds-none (g.S.Sink.state c.args.sink.now), refl)

pub returns-in_err-write_group : goal.returns-in_err-write_group
returns-in_err-write_group g c =
    let (same, within, gone, added, whole) = c.loop-place.invariant in
    let titles = map titles_said c.args.titles.now in
    let conditions = c.args.conditions.now in
    let printed = g.T.Results.printed_of c.args.results.now in
    let all = g.T.Results.boards_of c.args.results.now in
    let place = c.loop-place.place in
    let some : 0 < length (drop place all) = omega (arith, length-drop place all, ap length same, c.loop-place-test.true) in
    let begins = group-first titles conditions printed (titles_said c.loop-place.before) place (drop place all) gone (boards_text titles conditions printed (titles_said c.args.first) 0 all) (titles_said c.titles_at-current.result) some c.titles_at-current.ensures whole in
    Writes-err c.from_residual.result _ c.from_residual.ensures.1
    (subst (λ (t : List ℕ). AddsBeginning (g.S.Sink.state c.args.sink.now) (g.S.Sink.state c.write_group.new.sink) t) begins.is
    (AddsBeginning-then added (AddsBeginning-stop begins.more c.in_err-write_group.ensures)))

pub returns-in_err-write_board : goal.returns-in_err-write_board
returns-in_err-write_board g c =
    let (same, within, gone, added, whole) = c.loop-place.invariant in
    let titles = map titles_said c.args.titles.now in
    let conditions = c.args.conditions.now in
    let printed = g.T.Results.printed_of c.args.results.now in
    let all = g.T.Results.boards_of c.args.results.now in
    let place = c.loop-place.place in
    let before = titles_said c.loop-place.before in
    let current = titles_said c.titles_at-current.result in
    let board = c.index-boards-place.result in
    let its = c.conditions_at.result in
    let is = board-behind titles conditions printed before place all gone (boards_text titles conditions printed (titles_said c.args.first) 0 all) current board its
    (omega (arith, ap length same, c.loop-place-test.true)) c.titles_at-current.ensures
    (c.index-boards-place.is ∙ ap (λ (l : List Board). get_or l place board) same) c.conditions_at.ensures whole in
    Writes-err c.from_residual-in_err-write_board.result _ c.from_residual-in_err-write_board.ensures.1
    (subst (λ (t : List ℕ). AddsBeginning (g.S.Sink.state c.args.sink.now) (g.S.Sink.state c.write_board.new.sink) t) is
    (AddsBeginning-then added (AddsBeginning-then c.in_ok-write_group.ensures
    (AddsBeginning-stop (boards_text titles conditions printed current (place + 1) (drop (place + 1) all)) c.in_err-write_board.ensures))))

pub loop-place-preserved : goal.loop-place-preserved
loop-place-preserved g c =
    let (same, within, gone, added, whole) = c.loop-place.invariant in
    let titles = map titles_said c.args.titles.now in
    let conditions = c.args.conditions.now in
    let printed = g.T.Results.printed_of c.args.results.now in
    let all = g.T.Results.boards_of c.args.results.now in
    let place = c.loop-place.place in
    let before = titles_said c.loop-place.before in
    let current = titles_said c.titles_at-current.result in
    let board = c.index-boards-place.result in
    let its = c.conditions_at.result in
    let is = board-behind titles conditions printed before place all gone (boards_text titles conditions printed (titles_said c.args.first) 0 all) current board its
    (omega (arith, ap length same, c.loop-place-test.true)) c.titles_at-current.ensures
    (c.index-boards-place.is ∙ ap (λ (l : List Board). get_or l place board) same) c.conditions_at.ensures whole in
    let rest = boards_text titles conditions printed current (place + 1) (drop (place + 1) all) in
    let heading = group_text before current in
    let own = board_text board its (printed place) in (
      same,
      omega (arith, c.loop-place-test.true),
      gone ++ (heading ++ own),
      Adds-twice added (Adds-twice c.in_ok-write_group.ensures c.in_ok-write_board.ensures),
      append_assoc gone (heading ++ own) rest ∙ (ap (λ t. gone ++ t) (append_assoc heading own rest) ∙ is),
    )
