use Rattle.std.proofs.Common.{refl}
use Rattle.pbn_deals.specs.declared.pieces.Piece.TheVariants as seen
use Rattle.pbn_deals.proofs.FirstPiecesOf.{as_first, quoted_at, unended_at}
use Rattle.pbn_deals.proofs.pieces.first_quoted.Goals as goal

pub returns-in-Some : goal.returns-in-Some
returns-in-Some c = λ in_data pieces is_open h.
    let (first, are, same, come) = quoted_at c.args.text.now c.args.others.now c.in-Some.field-0-0.now c.in-Some.after.now c.front_of.result.now c.requires c.front_of.ensures c.in-Some.ensures.0 c.in-Some.ensures.1 in_data pieces is_open h in
    as_first (seen.Data c.front_of.result) first (are, same) refl come

pub returns-in-None : goal.returns-in-None
returns-in-None c = λ in_data pieces is_open h.
    let (first, are, same, come) = unended_at c.args.text.now c.args.others.now c.requires c.in-None.ensures in_data pieces is_open h in
    as_first (seen.Data c.args.text) first (are, same) refl come
