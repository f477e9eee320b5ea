use Rattle.std.proofs.Common.{◌∙◌, ap}
use Rattle.recorded_plays.specs.declared.plays.RecordedGame.{RecordedGame}
use Rattle.play_pages.proofs.TaskLaws.{legal_there, done_with, done_without}
use Rattle.play_pages.proofs.threads.do_task.Goals as goal

pub find_lines-requires : goal.find_lines-requires
find_lines-requires g c =
    let ok = ap (λ (game : RecordedGame). game.play) c.index-games-task.is ∙ c.in-Ok.is in
    legal_there c.args.games.now c.args.task c.index-games-task.result c.requires.within c.index-games-task.is c.requires.legal c.in-Ok.play ok

pub returns-in-Ok : goal.returns-in-Ok
returns-in-Ok g c =
    let ok = ap (λ (game : RecordedGame). game.play) c.index-games-task.is ∙ c.in-Ok.is in
    done_with c.args.games.now c.args.task c.index-games-task.result c.requires.within c.index-games-task.is (g.S.PlaySolver.may_find_play c.args.solver.now) c.args.query c.find_lines.result c.in-Ok.play ok c.find_lines.ensures

pub returns-in-Err : goal.returns-in-Err
returns-in-Err g c =
    let err = ap (λ (game : RecordedGame). game.play) c.index-games-task.is ∙ c.in-Err.is in
    done_without c.args.games.now c.args.task c.index-games-task.result c.requires.within c.index-games-task.is (g.S.PlaySolver.may_find_play c.args.solver.now) c.args.query c.none.result c.in-Err.field-0 err
