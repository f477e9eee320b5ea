use Rattle.std.proofs.Common.{arith, rules, ap}
use Rattle.std.specs.List.{flat_map, enumerate_from}
use Rattle.std.proofs.lemmas.List.FromFn.{length-enumerate_from}
use Rattle.cards.proofs.DeviceLemmas.{Adds-twice}
use Rattle.cards.proofs.WriteLemmas.{AddsBeginning-stop, AddsBeginning-then, Adds-piece, AddsBeginning-piece, Writes-err, pieces-all}
use Rattle.play_pages.specs.Tasks.{lines_in}
use Rattle.play_pages.specs.Texts.{game_text, page_text}
use Rattle.play_pages.proofs.Places.{place_within, one_at}
use Rattle.play_pages.proofs.pages.write_page.Goals as goal

pub returns-in_err-write_all : goal.returns-in_err-write_all
unfolding page_text
returns-in_err-write_all g c =
    Writes-err c.from_residual.result _ c.from_residual.ensures.1
    (AddsBeginning-stop (flat_map (game_text c.args.mistakes (lines_in c.args.table.now)) (enumerate_from 0 c.args.games.now)) c.in_err-write_all.ensures)

pub returns-in_err-write_game : goal.returns-in_err-write_game
unfolding page_text
returns-in_err-write_game g c =
    let games = c.args.games.now in
    let text = game_text c.args.mistakes (lines_in c.args.table.now) in
    let place = c.loop-place.place in
    let game = c.index-games-place.result in
    let is = c.index-games-place.is in
    Writes-err c.from_residual-in_err-write_game.result _ c.from_residual-in_err-write_game.ensures.1
    (AddsBeginning-then c.loop-place.invariant.first_line
    (AddsBeginning-piece text (enumerate_from 0 games) place (0, game) (place_within games place (omega arith)) c.loop-place.invariant.wrote
    (rw (ap text (one_at games place game (omega arith) is)) (rw c.lines.ensures at c.in_err-write_game.ensures))))

pub loop-place-preserved : goal.loop-place-preserved
loop-place-preserved g c =
    let games = c.args.games.now in
    let text = game_text c.args.mistakes (lines_in c.args.table.now) in
    let inv = c.loop-place.invariant in
    let place = c.loop-place.place in
    let game = c.index-games-place.result in
    let is = c.index-games-place.is in
    record {
      begun = inv.begun;
      first_line = inv.first_line;
      wrote = Adds-piece text (enumerate_from 0 games) place (0, game) (place_within games place (omega arith)) inv.wrote
          (rw (ap text (one_at games place game (omega arith) is)) (rw c.lines.ensures at c.in_ok-write_game.ensures));
    }

pub returns : goal.returns
unfolding page_text
returns g c =
    let games = c.args.games.now in
    let inv = c.loop-place.invariant in
    let all = pieces-all (game_text c.args.mistakes (lines_in c.args.table.now)) (enumerate_from 0 games) c.loop-place.place (omega (arith, length-enumerate_from 0 games)) in
    Adds-twice inv.first_line (rw all at inv.wrote)

pub loop-place-init : goal.loop-place-init
loop-place-init g c = search rules
