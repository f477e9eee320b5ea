-- What a line does to a game whose old tables are dropped.
use Rattle.std.specs.Prelude.{◌≡◌, Bool, true, false, List, ℕ, if◌then◌else◌}
use Rattle.pbn_deals.specs.Pieces.{Piece, Kind, Gap, Escaped, OfGame}
use Rattle.whole_texts.specs.OldTables.{left_pieces, has_more, is_count}
use Rattle.whole_texts.specs.Facts.{AreFacts}
use Rattle.whole_texts.specs.declared.lefts.Left.{Left}
use Rattle.whole_texts.specs.declared.lefts.Left.TheVariants.{Nothing, Blanks, Count, More}
use Rattle.whole_texts.specs.declared.line_facts.LineFacts.{LineFacts}
use Rattle.whole_texts.specs.declared.line_facts.LineFacts.TheVariants as fact
use Rattle.tables.specs.declared.results.Renews.{Renews}

-- the flags tell that section data before it is a table's, and that a brace comment is open behind it
abbrev pub FactsOfLine : Renews → Bool → Kind → Bool → LineFacts → Type 0
FactsOfLine old in_table kind is_open fact.Gap = (bytes : List ℕ) × (kind ≡ Gap bytes) × (is_open ≡ false)
FactsOfLine old in_table kind is_open fact.Escaped = (bytes : List ℕ) × (kind ≡ Escaped bytes) × (is_open ≡ false)
FactsOfLine old in_table kind is_open (fact.OfGame facts) =
    (pieces : List Piece) × (kind ≡ OfGame pieces) × AreFacts old in_table pieces is_open facts

-- whether such a line is dropped whole, if lines that say how many results were known are dropped or stay
abbrev pub left_is_dropped : Bool → Left → Bool
left_is_dropped drops_counts Nothing = true
left_is_dropped drops_counts Blanks = true
left_is_dropped drops_counts Count = drops_counts
left_is_dropped drops_counts More = false

abbrev pub line_is_dropped : Bool → LineFacts → Bool
line_is_dropped drops_counts fact.Gap = false
line_is_dropped drops_counts fact.Escaped = false
line_is_dropped drops_counts (fact.OfGame facts) = left_is_dropped drops_counts facts.left

-- a line of the game of which more is left than how many results were known
abbrev pub is_solid : Renews → Bool → Kind → Bool
is_solid old in_table (Gap bytes) = false
is_solid old in_table (Escaped bytes) = false
is_solid old in_table (OfGame pieces) =
    if is_count old (OfGame (left_pieces old in_table pieces)) then false
    else has_more (left_pieces old in_table pieces)
