use Rattle.std.proofs.Common.{false, None, true, sym, ◌∙◌, ap, subst}
use Rattle.cards.specs.Devices.{Adds, AddsBeginning}
use Rattle.cards.proofs.DeviceLemmas.{Adds-twice}
use Rattle.cards.proofs.WriteLemmas.{AddsBeginning-then}
use Rattle.pbn_deals.specs.Pieces.{rows_of, AreLines}
use Rattle.whole_texts.specs.LeftText.{tables_behind}
use Rattle.whole_texts.specs.LineEnds.{last_of}
use Rattle.whole_texts.proofs.EndsBytes.{last-append}
use Rattle.whole_texts.proofs.Gone.{stops}
use Rattle.whole_texts.proofs.LinesGo.{LeftText}
use Rattle.whole_texts.proofs.GamesGo.{left_text}
use Rattle.whole_texts.proofs.whole.write_left_of_game.Goals as goal

pub returns-in_err-behind : goal.returns-in_err-behind
returns-in_err-behind g c = λ lines h.
    let game = c.args.game.now in
    let start = g.S.Sink.state c.args.sink.now in
    let now = g.S.Sink.state c.write_lines.new.sink in
    let later = g.S.Sink.state c.write_lines-2.new.sink in
    let front = c.in_ok-before.ensures h.front h.is_open (subst (λ o. AreLines o (rows_of game.front.now) h.front h.is_open) (sym c.first.ensures.is_open) h.front_lines) in
    let table = front.1.table ∙ ap (λ t. tables_behind c.args.renews t h.front) c.first.ensures.in_table in
    let back = c.in_err-behind.ensures h.back false (subst (λ o. AreLines o (rows_of game.back.now) h.back false) (sym front.1.opened) h.back_lines) in
    stops c.from_residual-in_err-behind.result _ _ c.from_residual-in_err-behind.ensures.1
    (subst (λ t. AddsBeginning start later t) (sym (left_text c.args.renews lines game h))
    (AddsBeginning-then (subst (λ t. Adds start now (LeftText c.args.renews false t h.front)) c.first.ensures.in_table front.0)
    (subst (λ t. AddsBeginning now later (LeftText c.args.renews true t h.back)) table back.0)))

pub returns : goal.returns
returns g c = λ lines h.
    let game = c.args.game.now in
    let start = g.S.Sink.state c.args.sink.now in
    let now = g.S.Sink.state c.write_lines.new.sink in
    let later = g.S.Sink.state c.write_lines-2.new.sink in
    let first = c.first.result in
    let front = c.in_ok-before.ensures h.front h.is_open (subst (λ o. AreLines o (rows_of game.front.now) h.front h.is_open) (sym c.first.ensures.is_open) h.front_lines) in
    let table = front.1.table ∙ ap (λ t. tables_behind c.args.renews t h.front) c.first.ensures.in_table in
    let back = c.in_ok-behind.ensures h.back false (subst (λ o. AreLines o (rows_of game.back.now) h.back false) (sym front.1.opened) h.back_lines) in
    let one = LeftText c.args.renews false false h.front in
    let other = LeftText c.args.renews true (tables_behind c.args.renews false h.front) h.back in
    let text = left_text c.args.renews lines game h in
    let begun = ap (λ l. last_of l (LeftText c.args.renews false first.in_table h.front)) c.first.ensures.last ∙ ap (λ t. last_of None (LeftText c.args.renews false t h.front)) c.first.ensures.in_table in (
      subst (λ t. Adds start later t) (sym text)
          (Adds-twice (subst (λ t. Adds start now (LeftText c.args.renews false t h.front)) c.first.ensures.in_table front.0)
          (subst (λ t. Adds now later (LeftText c.args.renews true t h.back)) table back.0)),
      back.1.ended
          ∙ (ap (λ l. last_of l (LeftText c.args.renews true c.in_ok-before.before.in_table h.back)) (front.1.ended ∙ begun)
          ∙ (ap (λ t. last_of (last_of None one) (LeftText c.args.renews true t h.back)) table
          ∙ (sym (last-append None one other) ∙ ap (last_of None) (sym text)))),
    )
