use Rattle.std.proofs.Common.{◌∙◌, flat_map, sym, subst, length}
use Rattle.std.proofs.lemmas.Bool.{eqb-true}
use Rattle.cards.specs.Devices.{Adds, AddsBeginning}
use Rattle.cards.proofs.WriteLemmas.{Writes-err}
use Rattle.pbn_deals.specs.Pieces.{line_bytes}
use Rattle.whole_texts.specs.WrittenGame.{boards_from, game_lines}
use Rattle.whole_texts.proofs.GamesGo.{fault_in_game, fault_in_gap, one_game_more, games_begin, games_gone, no_bytes}
use Rattle.whole_texts.proofs.whole.write_games.Goals as goal

pub loop-other-init : goal.loop-other-init
loop-other-init g c = λ lines h.
    games_begin (g.T.Results.renews_of c.args.results.now) (g.S.Sink.state c.args.sink.now) _ (g.T.Results.boards_of c.args.results.now) (g.T.Results.printed_of c.args.results.now) c.args.text.now lines h

pub returns-in_err-place : goal.returns-in_err-place
returns-in_err-place g c = λ lines h.
    let go = c.loop-other.invariant lines h in
    let first = (rw c.renews.ensures at c.first_game-game.ensures.is) go.others go.has in
    let results = g.T.Results.printed_of c.args.results.now in
    let here = boards_from (g.T.Results.boards_of c.args.results.now) c.loop-other.place in
    Writes-err c.from_residual.result _ c.from_residual.ensures.1
    (fault_in_game (g.T.Results.renews_of c.args.results.now) go first
    (subst (λ o. AddsBeginning (g.S.Sink.state c.loop-other.sink) (g.S.Sink.state c.write_game.new.sink) (flat_map line_bytes (game_lines (g.T.Results.renews_of c.args.results.now) o results here first.own))) (c.first_end-other.ensures lines h)
    (c.in_err-place.ensures first.own first.has).0))

pub returns-in_err-write_all : goal.returns-in_err-write_all
returns-in_err-write_all g c = λ lines h.
    let go = c.loop-other.invariant lines h in
    let first = (rw c.renews.ensures at c.first_game-game.ensures.is) go.others go.has in
    let results = g.T.Results.printed_of c.args.results.now in
    let here = boards_from (g.T.Results.boards_of c.args.results.now) c.loop-other.place in
    Writes-err c.from_residual-in_err-write_all.result _ c.from_residual-in_err-write_all.ensures.1
    (fault_in_gap (g.T.Results.renews_of c.args.results.now) go first
    (subst (λ o. Adds (g.S.Sink.state c.loop-other.sink) (g.S.Sink.state c.write_game.new.sink) (flat_map line_bytes (game_lines (g.T.Results.renews_of c.args.results.now) o results here first.own))) (c.first_end-other.ensures lines h)
    (c.in_ok-place.ensures first.own first.has).0)
    c.in_err-write_all.ensures)

pub loop-other-preserved : goal.loop-other-preserved
loop-other-preserved g c = λ lines h.
    let go = c.loop-other.invariant lines h in
    let first = (rw c.renews.ensures at c.first_game-game.ensures.is) go.others go.has in
    let results = g.T.Results.printed_of c.args.results.now in
    let here = boards_from (g.T.Results.boards_of c.args.results.now) c.loop-other.place in
    let written = c.in_ok-place.ensures first.own first.has in
    one_game_more (g.T.Results.renews_of c.args.results.now) go first
    (subst (λ o. Adds (g.S.Sink.state c.loop-other.sink) (g.S.Sink.state c.write_game.new.sink) (flat_map line_bytes (game_lines (g.T.Results.renews_of c.args.results.now) o results here first.own))) (c.first_end-other.ensures lines h) written.0)
    c.in_ok-place.place c.in_ok-write_all.ensures written.1

pub returns : goal.returns
returns g c = λ lines h.
    games_gone (g.T.Results.renews_of c.args.results.now) (c.loop-other.invariant lines h) (no_bytes c.loop-other.rest.now (eqb-true (length c.loop-other.rest.now) 0 (sym c.is_empty.ensures ∙ c.loop-other-test.false)))
