-- The text of a game's Play section.
use Rattle.std.specs.Prelude.{ℕ, List, [], ◌∷◌, ◌++◌, codes, if◌then◌else◌}
use Rattle.std.specs.List.{flat_map}
use Rattle.pbn_deals.specs.Pieces.{Piece, Space, Comment, Pair, Data, NoPair, Line}
use Rattle.pbn_deals.specs.Tags.{is_same_name}
use Rattle.board_conditions.specs.Games.{Game, pieces_of}

-- the pieces of a game, with a blank before each of its lines
abbrev pub line_pieces : Line → List Piece
line_pieces line = Space 32 ∷ pieces_of line.kind

abbrev pub lined_pieces : Game → List Piece
lined_pieces game = flat_map line_pieces game

-- what comes after the first Play tag
abbrev pub after_play : List Piece → List Piece
after_play [] = []
after_play (Space byte ∷ pieces) = after_play pieces
after_play (Comment bytes ∷ pieces) = after_play pieces
after_play (Pair name value bytes ∷ pieces) =
    if is_same_name (codes "PLAY") name then pieces else after_play pieces
after_play (Data bytes ∷ pieces) = after_play pieces
after_play (NoPair bytes ∷ pieces) = after_play pieces

-- the text up to the next tag pair, or to a bracket that begins none; a comment is a blank
abbrev pub front_text : List Piece → List ℕ
front_text [] = []
front_text (Space byte ∷ pieces) = byte ∷ front_text pieces
front_text (Comment bytes ∷ pieces) = 32 ∷ front_text pieces
front_text (Pair name value bytes ∷ pieces) = []
front_text (Data bytes ∷ pieces) = bytes ++ front_text pieces
front_text (NoPair bytes ∷ pieces) = []

abbrev pub play_text : List Piece → List ℕ
play_text pieces = front_text (after_play pieces)

abbrev pub section_of : Game → List ℕ
section_of game = play_text (lined_pieces game)
