-- What is said of the pieces that are left of a line.
use Rattle.std.specs.Prelude.{List, [], ◌∷◌, if◌then◌else◌}
use Rattle.pbn_deals.specs.Pieces.{Piece, OfGame}
use Rattle.whole_texts.specs.OldTables.{has_more, is_count}
use Rattle.whole_texts.specs.declared.lefts.Left.{Left}
use Rattle.whole_texts.specs.declared.lefts.Left.TheVariants.{Nothing, Blanks, Count, More}
use Rattle.tables.specs.declared.results.Renews.{Renews}

abbrev pub left_kind : Renews → List Piece → Left
left_kind old [] = Nothing
left_kind old (piece ∷ pieces) =
    if has_more (piece ∷ pieces) then (if is_count old (OfGame (piece ∷ pieces)) then Count else More) else Blanks
