use Rattle.std.proofs.Common.{[], ◌∷◌, refl, sym}
use Rattle.pbn_deals.specs.declared.pieces.Piece.TheVariants as seen
use Rattle.pbn_deals.specs.Pieces.{Pair}
use Rattle.pbn_deals.proofs.FirstPiecesOf.{as_first, pair_at, no_pair_at}
use Rattle.pbn_deals.proofs.pieces.first_pair.Goals as goal

pub returns-in-Some : goal.returns-in-Some
returns-in-Some c = λ pieces is_open h.
    let tag = c.in-Some.tag in
    let come = pair_at c.args.text.now c.args.others.now c.front_of-bytes.result.now (record { name = tag.name.now; value = tag.value.now; rest = tag.rest.now }) c.requires c.front_of-bytes.ensures (sym c.in-Some.ensures.value) pieces is_open h in
    as_first (seen.Pair tag.name tag.value c.front_of-bytes.result) (Pair tag.name.now tag.value.now c.front_of-bytes.result.now ∷ []) refl refl come

pub returns-in-None : goal.returns-in-None
returns-in-None c = no_pair_at c.args.text c.args.others.now c.requires (sym c.in-None.ensures.value)
