use Rattle.std.proofs.Common.{[], ◌∷◌, refl}
use Rattle.pbn_deals.specs.declared.pieces.Piece.TheVariants as seen
use Rattle.pbn_deals.specs.Pieces.{Comment}
use Rattle.pbn_deals.proofs.FirstPiecesOf.{as_first, comment_at, open_at}
use Rattle.pbn_deals.proofs.pieces.first_comment.Goals as goal

pub returns-in-Some : goal.returns-in-Some
returns-in-Some c = λ in_data pieces is_open h.
    as_first (seen.Comment c.front_of.result) (Comment c.front_of.result.now ∷ []) refl refl
    (comment_at c.args.text.now c.args.others.now c.in-Some.field-0-0.now c.in-Some.after.now c.front_of.result.now c.requires c.front_of.ensures c.in-Some.ensures.0 c.in-Some.ensures.1 in_data pieces is_open h)

pub returns-in-None : goal.returns-in-None
returns-in-None c = open_at c.args.text c.args.others.now c.requires c.in-None.ensures
