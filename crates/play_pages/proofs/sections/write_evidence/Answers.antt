use Rattle.std.proofs.Common.{arith, ap}
use Rattle.std.specs.List.{enumerate_from}
use Rattle.std.proofs.lemmas.List.FromFn.{length-enumerate_from}
use Rattle.cards.proofs.WriteLemmas.{Adds-none, Adds-piece, AddsBeginning-piece, Writes-err, pieces-all}
use Rattle.play_pages.specs.Tasks.{lines_in}
use Rattle.play_pages.proofs.Places.{place_within, one_at}
use Rattle.play_pages.specs.Evidence.{game_evidence, evidence_text}
use Rattle.play_pages.proofs.sections.write_evidence.Goals as goal

pub loop-place-init : goal.loop-place-init
loop-place-init g c = record { wrote = Adds-none (g.S.Sink.state c.args.sink.now) }

pub returns-in_err-write_game : goal.returns-in_err-write_game
unfolding evidence_text
returns-in_err-write_game g c =
    let games = c.args.games.now in
    let text = game_evidence (lines_in c.args.table.now) in
    let place = c.loop-place.place in
    let game = c.index-games-place.result in
    let is = c.index-games-place.is in
    Writes-err c.from_residual.result _ c.from_residual.ensures.1
    (AddsBeginning-piece text (enumerate_from 0 games) place (0, game) (place_within games place (omega arith)) c.loop-place.invariant.wrote
    (rw (ap text (one_at games place game (omega arith) is)) (rw c.lines.ensures at c.in_err-write_game.ensures)))

pub loop-place-preserved : goal.loop-place-preserved
loop-place-preserved g c =
    let games = c.args.games.now in
    let text = game_evidence (lines_in c.args.table.now) in
    let place = c.loop-place.place in
    let game = c.index-games-place.result in
    let is = c.index-games-place.is in
    record {
      wrote = Adds-piece text (enumerate_from 0 games) place (0, game) (place_within games place (omega arith)) c.loop-place.invariant.wrote
          (rw (ap text (one_at games place game (omega arith) is)) (rw c.lines.ensures at c.in_ok-write_game.ensures));
    }

pub returns : goal.returns
unfolding evidence_text
returns g c =
    let games = c.args.games.now in
    rw (pieces-all (game_evidence (lines_in c.args.table.now)) (enumerate_from 0 games) c.loop-place.place (omega (arith, length-enumerate_from 0 games))) at c.loop-place.invariant.wrote
