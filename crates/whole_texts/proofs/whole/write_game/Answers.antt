use Rattle.std.proofs.Common.{◌≡◌, ◌≤◌, ◌++◌, ◌+◌, sym, ap, subst, flat_map, length, arith, ◌∷◌}
use Rattle.std.proofs.lemmas.Bool.{ltb-false}
use Rattle.cards.specs.Devices.{Adds, AddsBeginning}
use Rattle.cards.proofs.DeviceLemmas.{Adds-twice}
use Rattle.cards.proofs.WriteLemmas.{AddsBeginning-stop, AddsBeginning-then}
use Rattle.pbn_deals.specs.Pieces.{line_bytes}
use Rattle.tables.specs.TablesText.{section_text}
use Rattle.whole_texts.specs.LineEnds.{missing_end}
use Rattle.whole_texts.specs.WholeText.{if_none}
use Rattle.whole_texts.specs.WrittenGame.{boards_from, game_lines}
use Rattle.whole_texts.proofs.Gone.{stops}
use Rattle.whole_texts.proofs.GamesGo.{no_board, board_at, same_game, game_without_board, game_with_board, no_deal_tag, deal_tag, dealt_bytes, undealt_bytes, begins_left}
use Rattle.whole_texts.proofs.whole.write_game.Goals as goal
use Rattle.whole_texts.proofs.whole.write_game.Goals.{then-is_some+in_ok-write_section, else-is_some}

pub returns-in_default : goal.returns-in_default
returns-in_default g c = λ lines h.
    let boards = boards_from (g.T.Results.boards_of c.args.results.now) c.args.place in
    let same = same_game (g.T.Results.renews_of c.args.results.now) c.args.other.now (g.T.Results.printed_of c.args.results.now) lines boards (no_deal_tag lines c.args.game.now.deal_end c.in_default.is h.deal) in (
      subst (λ l. Adds (g.S.Sink.state c.args.sink.now) (g.S.Sink.state c.write_same.new.sink) (flat_map line_bytes l)) same.0 (c.in_ok-write_same.ensures (g.T.Results.renews_of c.args.results.now) lines h),
      same.1,
    )

pub returns-in_err-write_same : goal.returns-in_err-write_same
returns-in_err-write_same g c = λ lines h.
    let boards = boards_from (g.T.Results.boards_of c.args.results.now) c.args.place in
    let same = same_game (g.T.Results.renews_of c.args.results.now) c.args.other.now (g.T.Results.printed_of c.args.results.now) lines boards (no_deal_tag lines c.args.game.now.deal_end c.in_default.is h.deal) in
    stops c.from_residual.result _ _ c.from_residual.ensures.1
    (subst (λ l. AddsBeginning (g.S.Sink.state c.args.sink.now) (g.S.Sink.state c.write_same.new.sink) (flat_map line_bytes l)) same.0 (c.in_err-write_same.ensures (g.T.Results.renews_of c.args.results.now) lines h))

pub returns-in_err-last : goal.returns-in_err-last
returns-in_err-last g c = λ lines h.
    let boards = boards_from (g.T.Results.boards_of c.args.results.now) c.args.place in
    let deal = deal_tag lines c.args.game.now.deal_end c.in-Some.deal_end c.in-Some.is h.deal in
    let begins = begins_left (g.T.Results.renews_of c.args.results.now) c.args.other.now (g.T.Results.printed_of c.args.results.now) lines c.in-Some.deal_end.now deal boards in
    stops c.from_residual-in_err-last.result _ _ c.from_residual-in_err-last.ensures.1
    (subst (λ t. AddsBeginning (g.S.Sink.state c.args.sink.now) (g.S.Sink.state c.write_left_of_game.new.sink) t) (sym begins.1)
    (AddsBeginning-stop begins.0 ((rw c.renews.ensures at c.in_err-last.ensures) lines h).0))

pub returns-in_default-get : goal.returns-in_default-get
returns-in_default-get g c = λ lines h.
    let all = g.T.Results.boards_of c.args.results.now in
    let boards = boards_from all c.args.place in
    let deal = deal_tag lines c.args.game.now.deal_end c.in-Some.deal_end c.in-Some.is h.deal in
    let less = ltb-false c.args.place (length c.boards.result.now) (sym c.in_default-get.ensures.lookup.0) in
    let beyond : length all ≤ c.args.place = omega (arith, less, ap length c.boards.ensures) in
    let none = game_without_board (g.T.Results.renews_of c.args.results.now) c.args.other.now (g.T.Results.printed_of c.args.results.now) lines c.in-Some.deal_end.now deal boards (no_board all c.args.place beyond) in (
      subst (λ l. Adds (g.S.Sink.state c.args.sink.now) (g.S.Sink.state c.write_left_of_game.new.sink) (flat_map line_bytes l)) none.0 ((rw c.renews.ensures at c.in_ok-last.ensures) lines h).0,
      none.1,
    )

pub returns-in_err-write_section : goal.returns-in_err-write_section
returns-in_err-write_section g c = λ lines h.
    let all = g.T.Results.boards_of c.args.results.now in
    let results = g.T.Results.printed_of c.args.results.now in
    let boards = boards_from all c.args.place in
    let end = c.in-Some.deal_end.now in
    let other = c.args.other.now in
    let start = g.S.Sink.state c.args.sink.now in
    let now = g.S.Sink.state c.write_left_of_game.new.sink in
    let later = g.S.Sink.state c.write_section.new.sink in
    let board = c.in-Some-get.board.now in
    let deal = deal_tag lines c.args.game.now.deal_end c.in-Some.deal_end c.in-Some.is h.deal in
    let next : boards ≡ (c.args.place, board) ∷ boards_from all (c.args.place + 1) = board_at all c.args.place c.boards.result.now board c.boards.ensures (sym c.in-Some-get.ensures.lookup.0) c.in-Some-get.ensures.lookup.1 in
    let left = (rw c.renews.ensures at c.in_ok-last.ensures) lines h in
    stops c.from_residual-in_err-write_section.result _ _ c.from_residual-in_err-write_section.ensures.1
    (subst (λ t. AddsBeginning start later t) (dealt_bytes (g.T.Results.renews_of c.args.results.now) other results lines end deal boards (boards_from all (c.args.place + 1)) c.args.place board next (sym c.if-is_some.ensures))
    (AddsBeginning-then left.0
    (subst (λ last. AddsBeginning now later (missing_end last (if_none other end) ++ section_text (if_none (missing_end last (if_none other end)) end) (results c.args.place))) left.1 c.in_err-write_section.ensures)))

pub returns : goal.returns
returns g c = λ lines h.
    let all = g.T.Results.boards_of c.args.results.now in
    let results = g.T.Results.printed_of c.args.results.now in
    let boards = boards_from all c.args.place in
    let end = c.in-Some.deal_end.now in
    let other = c.args.other.now in
    let start = g.S.Sink.state c.args.sink.now in
    let now = g.S.Sink.state c.write_left_of_game.new.sink in
    let board = c.in-Some-get.board.now in
    let deal = deal_tag lines c.args.game.now.deal_end c.in-Some.deal_end c.in-Some.is h.deal in
    let next : boards ≡ (c.args.place, board) ∷ boards_from all (c.args.place + 1) = board_at all c.args.place c.boards.result.now board c.boards.ensures (sym c.in-Some-get.ensures.lookup.0) c.in-Some-get.ensures.lookup.1 in
    let left = (rw c.renews.ensures at c.in_ok-last.ensures) lines h in
    let text = flat_map line_bytes (game_lines (g.T.Results.renews_of c.args.results.now) other results boards lines) in (
      elim c.if-is_some.branch [
        | then-is_some+in_ok-write_section w ↦
            let later = g.S.Sink.state w.write_section.new.sink in
            subst (λ sink. Adds start (g.S.Sink.state sink) text) (sym w.sink-is)
            (subst (λ t. Adds start later t) (dealt_bytes (g.T.Results.renews_of c.args.results.now) other results lines end deal boards (boards_from all (c.args.place + 1)) c.args.place board next (sym w.if-is_some.ensures))
            (Adds-twice left.0
            (subst (λ last. Adds now later (missing_end last (if_none other end) ++ section_text (if_none (missing_end last (if_none other end)) end) (results c.args.place))) left.1 w.in_ok-write_section.ensures)))
        | else-is_some w ↦
            subst (λ sink. Adds start (g.S.Sink.state sink) text) (sym w.sink-is)
            (subst (λ t. Adds start now t) (undealt_bytes (g.T.Results.renews_of c.args.results.now) other results lines end deal boards (boards_from all (c.args.place + 1)) c.args.place board next (sym w.if-is_some.ensures)) left.0)
      ],
      (game_with_board (g.T.Results.renews_of c.args.results.now) other results lines end deal boards (boards_from all (c.args.place + 1)) c.args.place board next).1,
    )
