use Rattle.std.proofs.Common.{sym, ◌∙◌, ap, subst, flat_map}
use Rattle.std.proofs.lemmas.Result.{IfOk-weaker}
use Rattle.cards.specs.Devices.{AddsBeginning, Writes}
use Rattle.cards.proofs.WriteLemmas.{AddsBeginning-stop, Writes-then}
use Rattle.pbn_deals.specs.Pieces.{bytes_of, body_of}
use Rattle.whole_texts.specs.LeftText.{kind_left}
use Rattle.whole_texts.specs.LineEnds.{last_of}
use Rattle.whole_texts.specs.OldTables.{left_pieces}
use Rattle.whole_texts.proofs.EndsBytes.{last-append}
use Rattle.whole_texts.proofs.Gone.{stops}
use Rattle.whole_texts.proofs.PiecesGo.{comment_and_pieces}
use Rattle.whole_texts.proofs.leaving.write_left.Goals as goal

pub returns-in_err-write_all-in-OfGame : goal.returns-in_err-write_all-in-OfGame
returns-in_err-write_all-in-OfGame g c = λ kind is_open h.
    let of = c.in-OfGame.ensures kind is_open h in
    let in_table = c.args.before.in_table in
    let text = ap (λ k. body_of (kind_left c.args.renews in_table k)) of.are ∙ comment_and_pieces c.args.renews in_table c.in-OfGame.comment.now of.pieces in
    stops c.from_residual.result _ _ c.from_residual.ensures.1
    (subst (λ t. AddsBeginning (g.S.Sink.state c.args.sink.now) (g.S.Sink.state c.write_all.new.sink) t) (sym text)
    (AddsBeginning-stop (flat_map bytes_of (left_pieces c.args.renews in_table of.pieces)) c.in_err-write_all-in-OfGame.ensures))

pub returns-in_ok-write_all-in-OfGame : goal.returns-in_ok-write_all-in-OfGame
returns-in_ok-write_all-in-OfGame g c = λ kind is_open h.
    let of = c.in-OfGame.ensures kind is_open h in
    let in_table = c.args.before.in_table in
    let comment = c.in-OfGame.comment.now in
    let rest = flat_map bytes_of (left_pieces c.args.renews in_table of.pieces) in
    let text = ap (λ k. body_of (kind_left c.args.renews in_table k)) of.are ∙ comment_and_pieces c.args.renews in_table comment of.pieces in
    let written = c.write_pieces.ensures of.pieces is_open of.has in
    let result = c.write_pieces.result in (
      subst (λ t. Writes (g.S.Sink.state c.args.sink.now) (g.S.Sink.state c.write_pieces.new.sink) t result) (sym text)
          (Writes-then result _ rest c.in_ok-write_all-in-OfGame.ensures written.0),
      IfOk-weaker result _ _
          (λ last is. is ∙ (ap (λ l. last_of l rest) c.last_of-last.ensures ∙ (sym (last-append c.args.before.last comment rest) ∙ ap (last_of c.args.before.last) (sym text))))
          written.1,
    )
