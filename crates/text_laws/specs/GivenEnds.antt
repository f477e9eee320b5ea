-- A PBN text with its tables as `whole_texts` writes it, said by its lines: the last line that is left of a game gets
-- an end, where it has none.
use Rattle.std.specs.Prelude.{◌≡◌, ℕ, List, [], ◌∷◌, ◌++◌, is_some, if◌then◌else◌}
use Rattle.std.specs.List.{enumerate_from}
use Rattle.pbn_deals.specs.declared.boards.Board.{Board}
use Rattle.pbn_deals.specs.Pieces.{Kind, body_of, Line, ends_with_return, HasLines}
use Rattle.tables.specs.TablesText.{Printed}
use Rattle.tables.specs.declared.results.Renews.{Renews}
use Rattle.whole_texts.specs.OldTables.{is_deal_kind, has_deal, left_of}
use Rattle.whole_texts.specs.WholeText.{Game, games_of, behind, section_lines, if_none, first_end}
use Rattle.whole_texts.specs.WholeText as said
use Rattle.cards.specs.Bytes as ascii

-- an end for a line that has none: a carriage return that is the line's own isn't made a part of the end
abbrev pub new_end : List ℕ → Kind → List ℕ
new_end end kind = if ends_with_return (body_of kind) then (ascii.carriage_return ∷ ascii.line_feed ∷ []) else end

-- the end of the line of the Deal tag: the one that it gets, where it has none
abbrev pub deal_end : List ℕ → List Line → List ℕ
deal_end other [] = other
deal_end other (line ∷ lines) =
    if is_deal_kind line.kind then if_none (new_end other line.kind) line.end else deal_end other lines

-- the lines, the last of them with an end
abbrev pub with_ends : List ℕ → List Line → List Line
with_ends end [] = []
with_ends end (line ∷ []) = record { kind = line.kind; end = if_none (new_end end line.kind) line.end } ∷ []
with_ends end (line ∷ next ∷ lines) = line ∷ with_ends end (next ∷ lines)

-- what is left of a game whose board has a deal, and the section
abbrev pub with_section : List ℕ → Printed → List Line → List Line
with_section other results left =
    with_ends (deal_end other left) left ++ section_lines (deal_end other left) results

-- a game with a Deal tag
abbrev pub dealt_lines : Renews → List ℕ → (ℕ → Printed) → List (ℕ × Board) → List Line → List Line
dealt_lines old other results [] lines = left_of old lines
dealt_lines old other results (numbered ∷ more) lines =
    if is_some numbered.1.deal then with_section other (results numbered.0) (left_of old lines) else left_of old lines

-- games one after another: those with a Deal tag are the boards', in their order
abbrev pub games_lines : Renews → List ℕ → (ℕ → Printed) → List (ℕ × Board) → List Game → List Line
games_lines old other results boards [] = []
games_lines old other results boards (game ∷ games) =
    if has_deal game.lines
    then dealt_lines old other results boards game.lines
    ++ (game.gap ++ games_lines old other results (behind boards) games)
    else game.lines ++ (game.gap ++ games_lines old other results boards games)

abbrev pub whole_lines : Renews → List Board → (ℕ → Printed) → List Line → List Line
whole_lines old boards results lines =
    games_lines old (first_end lines) results (enumerate_from 0 boards) (games_of lines)

-- of the lines of a text, these are the ones that are written
abbrev pub EndsAreGiven : Type 0
EndsAreGiven =
    (old : Renews) (text : List ℕ) (boards : List Board) (results : ℕ → Printed) (lines : List Line) →
    HasLines text lines → said.whole_lines old boards results lines ≡ whole_lines old boards results lines
