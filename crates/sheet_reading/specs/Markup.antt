-- The elements and attributes of a sheet depend on its shape alone. A shape has no byte of a name, a title, a card or a
-- number.
use Rattle.std.specs.Prelude.{◌≡◌, ℕ, ◌+◌, Bool, true, false, List, [], ◌∷◌}
use Rattle.std.specs.Prelude.{Option, None, Some, option_map, slice_index_or}
use Rattle.cards.specs.Deal.{Deal}
use Rattle.pbn_deals.specs.declared.boards.Board.{Board}
use Rattle.board_conditions.specs.declared.conditions.Conditions.{Conditions}
use Rattle.board_conditions.specs.Titles.{TitleValues}
use Rattle.tables.specs.TablesText.{Printed, is_complete}
use Rattle.tables.specs.declared.pars.BoardPar.{BoardPar}
use Rattle.tables.specs.declared.pars.BoardPar.TheVariants.{Known, NoDealer, NoVulnerability}
use Rattle.html.specs.Places.{InText, place_at_end}
use Rattle.sheet_reading.specs.Pages.{markup_of}
use Rattle.sheets.specs.Headings.{begins_group}
use Rattle.sheets.specs.Pages.{titles_at, unknown, without_section}
use Rattle.sheets.specs.Markup.{Shown, page_of}

-- ---- the shape of a board
-- the shape of a board's deal: who deals and is vulnerable, whether the table is complete, and, if par is printed,
-- whether par is known
pub record DealShape : Type 0 where
  pub conditions : Conditions
  pub has_table : Bool
  pub has_par : Option Bool

-- whether a heading of an event or section comes before the board, and the shape of its deal, if it has one
pub record BoardShape : Type 0 where
  pub has_heading : Bool
  pub deal : Option DealShape

-- whether par is known
abbrev pub is_known : BoardPar → Bool
is_known (Known dealer vulnerable score contracts) = true
is_known NoDealer = false
is_known NoVulnerability = false

abbrev pub deal_shape : Option Deal → Conditions → Printed → Option DealShape
deal_shape None conditions printed = None
deal_shape (Some deal) conditions printed = Some (record {
  conditions = conditions;
  has_table = is_complete printed.results;
  has_par = option_map is_known printed.par;
})

-- the shapes of the boards from this place on, after a board with these titles
abbrev pub shapes_from :
    List TitleValues → List Conditions → (ℕ → Printed) → TitleValues → ℕ → List Board → List BoardShape
shapes_from titles conditions printed before place [] = []
shapes_from titles conditions printed before place (board ∷ boards) =
    record {
      has_heading = begins_group before (titles_at titles before place);
      deal = deal_shape board.deal (slice_index_or conditions place unknown) (printed place);
    } ∷ shapes_from titles conditions printed (titles_at titles before place) (place + 1) boards

abbrev pub shapes_of : Shown → List BoardShape
shapes_of shown = shapes_from shown.titles shown.conditions shown.printed (without_section shown.head) 0 shown.boards

-- sheets whose boards have the same shapes have the same elements and attributes, whatever their values are
abbrev pub MarkupIsOurs : Type 0
MarkupIsOurs =
    (one other : Shown) → shapes_of one ≡ shapes_of other → markup_of (page_of one) ≡ markup_of (page_of other)

-- a sheet ends outside of its tags, whatever its values are
abbrev pub EndsInText : Type 0
EndsInText = (shown : Shown) → place_at_end InText (page_of shown) ≡ InText
