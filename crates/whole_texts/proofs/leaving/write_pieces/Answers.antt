use Rattle.std.proofs.Common.{◌||◌, sym, ap, subst, flat_map}
use Rattle.pbn_deals.specs.Pieces.{bytes_of}
use Rattle.whole_texts.specs.OldTables.{left_pieces}
use Rattle.pbn_deals.proofs.PiecesInTurn.{takes_bytes}
use Rattle.whole_texts.proofs.Gone.{stops}
use Rattle.whole_texts.proofs.PiecesGo.{PiecesGo, fault_in_piece, one_piece_more, pieces_begin, pieces_gone}
use Rattle.whole_texts.proofs.leaving.write_pieces.Goals as goal

pub loop-piece-init : goal.loop-piece-init
loop-piece-init g c = λ pieces is_open h. pieces_begin c.args.renews (g.S.Sink.state c.args.sink.now) c.args.last c.args.in_table c.args.line.now pieces is_open h

pub returns-in_err-write_all : goal.returns-in_err-write_all
returns-in_err-write_all g c = λ pieces is_open h.
    let go = c.loop-piece.invariant pieces is_open h in
    stops c.from_residual.result _ _ c.from_residual.ensures.1
    (fault_in_piece c.args.renews go (c.in-Some.ensures go.others go.behind go.has) (λ some are. (c.piece_left-is_table.ensures.left some are, c.piece_left-is_table.ensures.behind some are)) c.in_err-write_all.ensures)

pub loop-piece-smaller : goal.loop-piece-smaller
loop-piece-smaller g c = takes_bytes c.loop-piece.in_data c.loop-piece.rest.now c.in-Some.after.now c.in-Some.piece c.in-Some.ensures

pub loop-piece-preserved : goal.loop-piece-preserved
loop-piece-preserved g c = λ pieces is_open h.
    let go = c.loop-piece.invariant pieces is_open h in
    subst (λ flag. PiecesGo c.args.renews (g.S.Sink.state c.args.sink.now) (g.S.Sink.state c.write_all.new.sink) c.args.last c.last_of-last.result (flat_map bytes_of (left_pieces c.args.renews c.args.in_table pieces)) c.piece_left-is_table.result.1 flag c.in-Some.after.now)
    (sym (ap (λ b. b || c.loop-piece.in_data) c.is_data-in_data.ensures))
    (one_piece_more c.args.renews go (c.in-Some.ensures go.others go.behind go.has) (λ some are. (c.piece_left-is_table.ensures.left some are, c.piece_left-is_table.ensures.behind some are)) c.in_ok-write_all.ensures c.last_of-last.ensures)

pub returns : goal.returns
returns g c = λ pieces is_open h.
    let go = c.loop-piece.invariant pieces is_open h in
    pieces_gone c.args.renews go (c.in_default.ensures go.others go.behind go.has).1
