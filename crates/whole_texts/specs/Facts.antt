-- What a line does to a game whose old tables go.
use Rattle.std.specs.Prelude.{◌≡◌, Bool, List}
use Rattle.std.specs.List.{list_any}
use Rattle.pbn_deals.specs.Pieces.{Piece}
use Rattle.whole_texts.specs.OldTables.{left_pieces, table_behind, is_deal_pair}
use Rattle.whole_texts.specs.Lefts.{left_kind}
use Rattle.whole_texts.specs.declared.piece_facts.PieceFacts.{PieceFacts}
use Rattle.tables.specs.declared.results.Renews.{Renews}

-- those of these pieces; the flags tell that section data before them is a table's, and that a brace comment is open
-- behind them
pub record AreFacts (old : Renews) (in_table : Bool) (pieces : List Piece) (is_open : Bool) (facts : PieceFacts)
    : Type 0 where
  pub left : facts.left ≡ left_kind old (left_pieces old in_table pieces)
  pub opened : facts.is_open ≡ is_open
  pub behind : facts.in_table ≡ table_behind old in_table pieces
  pub deal : facts.has_deal ≡ list_any is_deal_pair pieces
