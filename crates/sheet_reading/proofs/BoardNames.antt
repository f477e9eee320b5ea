-- The names of the tags of a board.
use Rattle.std.proofs.Common.{◌≡◌, ℕ, Bool, true, false, cond, List, [], ◌∷◌, ◌++◌, Option, None, Some, refl}
use Rattle.std.specs.Prelude.{codes}
use Rattle.std.specs.Fmt.{decimal}
use Rattle.cards.specs.declared.seats.Seat.{Seat}
use Rattle.cards.specs.declared.seats.Seat.TheVariants.{North, East, South, West}
use Rattle.cards.specs.Deal.{Deal}
use Rattle.par.specs.declared.vulnerable_sides.VulnerableSides.{VulnerableSides}
use Rattle.board_conditions.specs.declared.conditions.Conditions.{Conditions}
use Rattle.tables.specs.declared.pars.BoardPar.{BoardPar}
use Rattle.tables.specs.declared.pars.BoardPar.TheVariants.{Known, NoDealer, NoVulnerability}
use Rattle.tables.specs.TablesText.{Results, Printed, published_count, is_complete}
use Rattle.sheet_reading.specs.Elements.{Piece}
use Rattle.sheet_reading.proofs.ElementLemmas.{lacks}
use Rattle.sheet_reading.proofs.Names.{among, only, only-append, only-wider, only-lacks}
use Rattle.sheet_reading.proofs.TemplatePieces.{facts_end, footer_end, table_start, heading_line, line_end, table_end, count_pieces}
use Rattle.sheet_reading.proofs.BoardChunks.{dealer_in, sides_in, words_in, compass_in, facts_in, hand_in, hands_in}
use Rattle.sheet_reading.proofs.FootChunks.{lines_in, complete_in, par_in, results_in, foot_content, foot_in}
use Rattle.sheet_reading.proofs.TableRead.{table_names, lines-only}

-- ---- the facts
abbrev pub facts_names : List (List ℕ)
facts_names =
    codes "div" ∷ codes "/div" ∷ codes "p" ∷ codes "/p" ∷ codes "b" ∷ codes "/b" ∷ codes "span" ∷ codes "/span" ∷ []

dealer-only : (dealer : Option Seat) → only facts_names (dealer_in dealer) ≡ true
dealer-only None = refl
dealer-only (Some dealer) = refl

sides-only : (sides : Option VulnerableSides) → only facts_names (sides_in sides) ≡ true
sides-only None = refl
sides-only (Some sides) = refl

pub facts-only : (conditions : Conditions) → only facts_names (facts_in conditions) ≡ true
facts-only conditions =
    only-append facts_names (words_in conditions) (facts_end ∷ compass_in conditions)
    (only-append facts_names (dealer_in conditions.dealer) (sides_in conditions.vulnerable)
    (dealer-only conditions.dealer) (sides-only conditions.vulnerable))
    refl

-- ---- the hands
abbrev pub hand_names : List (List ℕ)
hand_names =
    codes "ul" ∷ codes "/ul" ∷ codes "li" ∷ codes "/li" ∷ codes "b" ∷ codes "/b" ∷ codes "/div" ∷ []

hand-only : (deal : Deal) (seat : Seat) → only hand_names (hand_in deal seat) ≡ true
hand-only deal seat = refl

pub hands-only : (deal : Deal) → only hand_names (hands_in deal) ≡ true
hands-only deal =
    let hand = hand_in deal in
    only-append hand_names (hand North) (hand East ++ (hand South ++ hand West)) (hand-only deal North)
    (only-append hand_names (hand East) (hand South ++ hand West) (hand-only deal East)
    (only-append hand_names (hand South) (hand West) (hand-only deal South) (hand-only deal West)))

-- ---- the table and the par
abbrev pub foot_names : List (List ℕ)
foot_names =
    codes "table" ∷ codes "/table" ∷ codes "p" ∷ codes "/p" ∷ codes "b" ∷ codes "/b" ∷ codes "br" ∷ table_names

complete-only : (results : Results) → only foot_names (complete_in results) ≡ true
complete-only results =
    only-append foot_names (table_start ∷ (heading_line ++ line_end ∷ [])) (lines_in results ++ table_end ∷ []) refl
    (only-append foot_names (lines_in results) (table_end ∷ [])
    (only-wider table_names foot_names (lines_in results) refl (lines-only results)) refl)

results-only : (results : Results) → only foot_names (results_in results) ≡ true
results-only results = go (is_complete results)
  where
    go : (complete : Bool) →
        only foot_names (cond complete (complete_in results) (count_pieces (decimal (published_count results)))) ≡ true
    go true = complete-only results
    go false = refl

par-only : (par : Option BoardPar) → only foot_names (par_in par) ≡ true
par-only None = refl
par-only (Some (Known dealer vulnerable score contracts)) = refl
par-only (Some NoDealer) = refl
par-only (Some NoVulnerability) = refl

pub foot-only : (printed : Printed) → only foot_names (foot_content printed) ≡ true
foot-only printed =
    only-append foot_names (results_in printed.results) (par_in printed.par) (results-only printed.results) (par-only printed.par)

-- ---- all of a board with a deal
abbrev pub dealt_in : Deal → Conditions → Printed → List Piece
dealt_in deal conditions printed = facts_in conditions ++ (hands_in deal ++ foot_in printed)

abbrev pub footer_names : List (List ℕ)
footer_names = codes "/div" ∷ codes "footer" ∷ codes "/footer" ∷ foot_names

abbrev pub board_names : List (List ℕ)
board_names = facts_names ++ (hand_names ++ footer_names)

pub foot_in-only : (printed : Printed) → only footer_names (foot_in printed) ≡ true
foot_in-only printed =
    let wide = only-wider foot_names footer_names in
    only-append footer_names (results_in printed.results) (par_in printed.par ++ footer_end ∷ [])
    (wide (results_in printed.results) refl (results-only printed.results))
    (only-append footer_names (par_in printed.par) (footer_end ∷ []) (wide (par_in printed.par) refl (par-only printed.par)) refl)

pub dealt-only : (deal : Deal) (conditions : Conditions) (printed : Printed) →
    only board_names (dealt_in deal conditions printed) ≡ true
dealt-only deal conditions printed =
    only-append board_names (facts_in conditions) (hands_in deal ++ foot_in printed)
    (only-wider facts_names board_names (facts_in conditions) refl (facts-only conditions))
    (only-append board_names (hands_in deal) (foot_in printed)
    (only-wider hand_names board_names (hands_in deal) refl (hands-only deal))
    (only-wider footer_names board_names (foot_in printed) refl (foot_in-only printed)))

-- a name that none of its tags has
pub dealt-lacks : (deal : Deal) (conditions : Conditions) (printed : Printed) (name : List ℕ) →
    among board_names name ≡ false → lacks name (dealt_in deal conditions printed) ≡ true
dealt-lacks deal conditions printed name apart =
    only-lacks board_names name (dealt_in deal conditions printed) apart (dealt-only deal conditions printed)
