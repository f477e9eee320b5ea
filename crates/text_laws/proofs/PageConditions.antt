-- The text of the tables, read again, has the conditions from which its pars were taken.
use Rattle.std.proofs.Common.{◌≡◌, ℕ, ◌+◌, Bool, true, false, cond, List, [], ◌∷◌, ◌++◌, map, Option, None, Some, is_some, unwrap_or, codes, refl, sym, ◌∙◌, ap, subst, inl, inr, append_assoc, append-nil}
use Rattle.std.specs.Prelude.{IfSome, filter}
use Rattle.std.specs.List.{AllByRecursion, AllZip, flat_map, enumerate_from}
use Rattle.std.proofs.lemmas.Grind.{flat_map-append}
use Rattle.std.proofs.lemmas.List.Elements.{recursion_from_All, All-from_recursion}
use Rattle.std.proofs.lemmas.List.Splits.{slice_split_at, slice_split_none}
use Rattle.cards.specs.declared.seats.Seat.{Seat}
use Rattle.cards.specs.declared.seats.Seat.TheVariants.{North, East, South, West}
use Rattle.cards.specs.declared.suits.Trump.{Trump}
use Rattle.cards.specs.Seats.{seat_letter}
use Rattle.par.specs.declared.vulnerable_sides.VulnerableSides.{VulnerableSides}
use Rattle.par.specs.declared.vulnerable_sides.VulnerableSides.TheVariants.{Neither, NorthSouth, EastWest, Both}
use Rattle.pbn_deals.specs.declared.boards.Board.{Board}
use Rattle.pbn_deals.specs.Lines.{without_mark}
use Rattle.pbn_deals.specs.Pieces.{Piece, Pair, Comment, at_line_end, tag_pair, Gap, Escaped, OfGame, LineIs, is_escaped_line, is_gap, is_of_game, Line, line_bytes, rows_of, AreLines}
use Rattle.pbn_deals.specs.Printable.{IsPrintable}
use Rattle.pbn_deals.proofs.LinesOfText.{text_lines, body_of-line}
use Rattle.pbn_deals.proofs.RowsBack.{IsEnded, row_of, Follow, follow_none, follow_line, follow_append, lines_back}
use Rattle.board_conditions.specs.declared.conditions.Conditions.{Conditions}
use Rattle.board_conditions.specs.Games.{Game, is_gap_kind, games_of, pieces_of, game_pieces, first_kept, first_named, has_deal, settled, conditions_of, board_games}
use Rattle.board_conditions.specs.Numbers.{number_of, dealers, vulnerabilities, in_turn}
use Rattle.board_conditions.specs.Words.{dealer_said, says_dealer, says_vulnerability, vulnerability_said}
use Rattle.tables.specs.declared.pars.BoardPar.{BoardPar}
use Rattle.tables.specs.declared.pars.BoardPar.TheVariants.{Known, NoDealer, NoVulnerability}
use Rattle.tables.specs.ParText.{tag_text, IsSmallPar}
use Rattle.tables.specs.ConditionTags.{sides_shown, conditions_text}
use Rattle.tables.specs.TablesText.{Results, Printed, section_text, line_feed, tag_line, deal_value, entries, is_complete, published_count, incomplete_text, board_text, numbered_text, tables_text}
use Rattle.whole_texts.specs.WholeText.{row_lines, entry_lines, table_pair, table_lines, par_pair, with_end, par_kinds, section_lines}
use Rattle.whole_texts.proofs.Ends.{Ended, AllEnded}
use Rattle.whole_texts.proofs.SectionText.{section-text}
use Rattle.text_laws.specs.ReadBack.{AreTricks}
use Rattle.text_laws.specs.ConditionLaws.{AreOfPar, PagesKeepConditions}
use Rattle.text_laws.proofs.LinesBack.{IsLine}
use Rattle.text_laws.proofs.CalmTexts.{NoQuote, calm-no_quote, calm-no_feed, seat_letter-calm}
use Rattle.text_laws.proofs.BoardsBack.{tag_line-is, board_tag_of, deal_tag_of, dealer_tag_of, vulnerable_tag_of, sides-calm, feedless, tag-line, no_quote, IsReadable, readable_deal, first_line, first_line-is}
use Rattle.text_laws.proofs.PageLines.{AreSmall}
use Rattle.text_laws.proofs.SectionLines.{all_append, printed_ended, section_follows, section_ended}

-- ---- the lines of the page
abbrev pair_line : List ℕ → List ℕ → Line
pair_line name value = with_end line_feed (par_pair name value)

abbrev condition_lines : Option BoardPar → List Line
condition_lines None = []
condition_lines (Some (Known dealer vulnerable score contracts)) = pair_line (codes "Dealer") (seat_letter dealer) ∷ pair_line (codes "Vulnerable") (sides_shown vulnerable) ∷ []
condition_lines (Some NoDealer) = []
condition_lines (Some NoVulnerability) = []

abbrev board_lines : Board → Printed → List Line
board_lines board printed = pair_line (codes "Board") board.name ∷ pair_line (codes "Deal") (deal_value board.deal) ∷ (condition_lines printed.par ++ section_lines line_feed printed)

abbrev gap : Line
gap = with_end line_feed (Gap [])

abbrev block_lines : (ℕ → Printed) → ℕ × Board → List Line
block_lines printed numbered = board_lines numbered.1 (printed numbered.0) ++ gap ∷ []

abbrev head : Line
head = with_end line_feed (Escaped (codes "% PBN 2.1"))

abbrev page_lines : List Board → (ℕ → Printed) → List Line
page_lines boards printed = head ∷ flat_map (block_lines printed) (enumerate_from 0 boards)

-- ---- their bytes
pair-bytes : (name value rest : List ℕ) → line_bytes (pair_line name value) ++ rest ≡ tag_line name value ++ rest
pair-bytes name value rest =
    ap (λ (t : List ℕ). (t ++ line_feed) ++ rest) (append-nil (tag_text name value))
    ∙ (append_assoc (tag_text name value) line_feed rest ∙ sym (tag_line-is name value rest))

conditions-bytes : (par : Option BoardPar) → flat_map line_bytes (condition_lines par) ≡ conditions_text par
unfolding conditions_text
conditions-bytes None = refl
conditions-bytes (Some (Known dealer vulnerable score contracts)) =
    let one = tag_text (codes "Dealer") (seat_letter dealer) in
    let two = tag_text (codes "Vulnerable") (sides_shown vulnerable) in
    ap (λ (t : List ℕ). (t ++ line_feed) ++ (((two ++ []) ++ line_feed) ++ [])) (append-nil one) ∙ ap (λ (t : List ℕ). (one ++ line_feed) ++ ((t ++ line_feed) ++ [])) (append-nil two)
conditions-bytes (Some NoDealer) = refl
conditions-bytes (Some NoVulnerability) = refl

lower-bytes : (printed : Printed) → flat_map line_bytes ((condition_lines printed.par ++ section_lines line_feed printed) ++ gap ∷ []) ≡ conditions_text printed.par ++ (section_text line_feed printed ++ 10 ∷ [])
lower-bytes printed =
    let some = condition_lines printed.par in
    let section = section_lines line_feed printed in
    flat_map-append line_bytes (some ++ section) (gap ∷ [])
    ∙ (ap (λ (t : List ℕ). t ++ 10 ∷ [])
    (flat_map-append line_bytes some section
    ∙ (ap (λ (t : List ℕ). t ++ flat_map line_bytes section) (conditions-bytes printed.par)
    ∙ ap (λ (t : List ℕ). conditions_text printed.par ++ t) (section-text line_feed printed)))
    ∙ append_assoc (conditions_text printed.par) (section_text line_feed printed) (10 ∷ []))

block-bytes : (printed : ℕ → Printed) (numbered : ℕ × Board) → flat_map line_bytes (block_lines printed numbered) ≡ numbered_text printed numbered
unfolding board_text
block-bytes printed numbered =
    let board = numbered.1 in
    let below = flat_map line_bytes ((condition_lines (printed numbered.0).par ++ section_lines line_feed (printed numbered.0)) ++ gap ∷ []) in
    pair-bytes (codes "Board") board.name (line_bytes (pair_line (codes "Deal") (deal_value board.deal)) ++ below)
    ∙ ap (λ (t : List ℕ). tag_line (codes "Board") board.name ++ t)
    (pair-bytes (codes "Deal") (deal_value board.deal) below
    ∙ ap (λ (t : List ℕ). tag_line (codes "Deal") (deal_value board.deal) ++ t) (lower-bytes (printed numbered.0)))

blocks-bytes : (printed : ℕ → Printed) (numbered : List (ℕ × Board)) → flat_map line_bytes (flat_map (block_lines printed) numbered) ≡ flat_map (numbered_text printed) numbered
blocks-bytes printed [] = refl
blocks-bytes printed (one ∷ more) =
    flat_map-append line_bytes (block_lines printed one) (flat_map (block_lines printed) more)
    ∙ (ap (λ (t : List ℕ). t ++ flat_map line_bytes (flat_map (block_lines printed) more)) (block-bytes printed one)
    ∙ ap (λ (t : List ℕ). numbered_text printed one ++ t) (blocks-bytes printed more))

page-bytes : (boards : List Board) (printed : ℕ → Printed) → flat_map line_bytes (page_lines boards printed) ≡ without_mark (tables_text boards printed)
unfolding tables_text
page-bytes boards printed = ap (λ (t : List ℕ). (codes "% PBN 2.1" ++ 10 ∷ []) ++ t) (blocks-bytes printed (enumerate_from 0 boards))

-- ---- they are read as what they are
-- lines of one game, each with its end
record OneGame (lines : List Line) : Type 0 where
  follows : Follow false lines false
  ended : AllEnded lines
  no_gap : AllByRecursion (λ (line : Line). is_gap_kind line.kind ≡ false) lines

no_gap_append : (lines others : List Line) → AllByRecursion (λ (line : Line). is_gap_kind line.kind ≡ false) lines → AllByRecursion (λ (line : Line). is_gap_kind line.kind ≡ false) others → AllByRecursion (λ (line : Line). is_gap_kind line.kind ≡ false) (lines ++ others)
no_gap_append [] others h g = g
no_gap_append (line ∷ lines) others h g = (h.0, no_gap_append lines others h.1 g)

with_pair : (name value : List ℕ) (lines : List Line) → LineIs false (tag_text name value) (par_pair name value) false → IsLine (tag_text name value) → OneGame lines → OneGame (pair_line name value ∷ lines)
with_pair name value lines is as_line more = record {
  follows = follow_line is more.follows;
  ended = (subst (λ b. IsEnded (record { bytes = b; end = line_feed })) (sym (body_of-line is)) (printed_ended (tag_text name value) line_feed as_line (inr refl)), more.ended);
  no_gap = (refl, more.no_gap);
}

board_line : (value : List ℕ) → NoQuote value → LineIs false (tag_text (codes "Board") value) (par_pair (codes "Board") value) false
unfolding tag_text
board_line value h =
    is_of_game refl refl
    (tag_pair (codes "Board " ++ (34 ∷ (value ++ (34 ∷ 93 ∷ []))))
    {tag = record { name = codes "Board"; value = value; rest = [] }}
    refl (board_tag_of value h) (sym (append-nil (codes "Board " ++ (34 ∷ (value ++ (34 ∷ 93 ∷ [])))))) at_line_end)

deal_line : (value : List ℕ) → NoQuote value → LineIs false (tag_text (codes "Deal") value) (par_pair (codes "Deal") value) false
unfolding tag_text
deal_line value h =
    is_of_game refl refl
    (tag_pair (codes "Deal " ++ (34 ∷ (value ++ (34 ∷ 93 ∷ []))))
    {tag = record { name = codes "Deal"; value = value; rest = [] }}
    refl (deal_tag_of value h) (sym (append-nil (codes "Deal " ++ (34 ∷ (value ++ (34 ∷ 93 ∷ [])))))) at_line_end)

dealer_line : (value : List ℕ) → NoQuote value → LineIs false (tag_text (codes "Dealer") value) (par_pair (codes "Dealer") value) false
unfolding tag_text
dealer_line value h =
    is_of_game refl refl
    (tag_pair (codes "Dealer " ++ (34 ∷ (value ++ (34 ∷ 93 ∷ []))))
    {tag = record { name = codes "Dealer"; value = value; rest = [] }}
    refl (dealer_tag_of value h) (sym (append-nil (codes "Dealer " ++ (34 ∷ (value ++ (34 ∷ 93 ∷ [])))))) at_line_end)

vulnerable_line : (value : List ℕ) → NoQuote value → LineIs false (tag_text (codes "Vulnerable") value) (par_pair (codes "Vulnerable") value) false
unfolding tag_text
vulnerable_line value h =
    is_of_game refl refl
    (tag_pair (codes "Vulnerable " ++ (34 ∷ (value ++ (34 ∷ 93 ∷ []))))
    {tag = record { name = codes "Vulnerable"; value = value; rest = [] }}
    refl (vulnerable_tag_of value h) (sym (append-nil (codes "Vulnerable " ++ (34 ∷ (value ++ (34 ∷ 93 ∷ [])))))) at_line_end)

-- a section has no gap
rows-no_gap : (results : Results) (some : List (Seat × Trump)) → AllByRecursion (λ (line : Line). is_gap_kind line.kind ≡ false) (flat_map (entry_lines line_feed results) some)
rows-no_gap results [] = tt
rows-no_gap results (entry ∷ some) = go (results entry.0 entry.1) (rows-no_gap results some)
  where
    go : (result : Option ℕ) → AllByRecursion (λ (line : Line). is_gap_kind line.kind ≡ false) (flat_map (entry_lines line_feed results) some) → AllByRecursion (λ (line : Line). is_gap_kind line.kind ≡ false) (row_lines line_feed entry.0 entry.1 result ++ flat_map (entry_lines line_feed results) some)
    go None more = more
    go (Some tricks) more = (refl, more)

table-no_gap : (results : Results) → AllByRecursion (λ (line : Line). is_gap_kind line.kind ≡ false) (table_lines line_feed results)
table-no_gap results = go (is_complete results)
  where
    go : (b : Bool) → AllByRecursion (λ (line : Line). is_gap_kind line.kind ≡ false) (cond b (record { kind = OfGame (table_pair ∷ []); end = line_feed } ∷ flat_map (entry_lines line_feed results) entries) (record { kind = OfGame (Comment (incomplete_text (published_count results)) ∷ []); end = line_feed } ∷ []))
    go true = (refl, rows-no_gap results entries)
    go false = (refl, tt)

pars-no_gap : (par : Option BoardPar) → AllByRecursion (λ (line : Line). is_gap_kind line.kind ≡ false) (map (with_end line_feed) (par_kinds par))
pars-no_gap None = tt
pars-no_gap (Some (Known dealer vulnerable score contracts)) = (refl, (refl, tt))
pars-no_gap (Some NoDealer) = (refl, tt)
pars-no_gap (Some NoVulnerability) = (refl, tt)

section_game : (printed : Printed) → AreSmall printed.results → IfSome printed.par IsSmallPar → OneGame (section_lines line_feed printed)
section_game printed small pars = record {
  follows = section_follows line_feed printed small pars;
  ended = section_ended line_feed printed (inr refl) small pars;
  no_gap = no_gap_append (map (with_end line_feed) (par_kinds printed.par)) (table_lines line_feed printed.results) (pars-no_gap printed.par) (table-no_gap printed.results);
}

lower_game : (par : Option BoardPar) (lines : List Line) → OneGame lines → OneGame (condition_lines par ++ lines)
lower_game None lines more = more
lower_game (Some NoDealer) lines more = more
lower_game (Some NoVulnerability) lines more = more
lower_game (Some (Known dealer vulnerable score contracts)) lines more =
    let one = seat_letter dealer in
    let two = sides_shown vulnerable in
    let calm = seat_letter-calm dealer in
    let calm' = sides-calm vulnerable in
    with_pair (codes "Dealer") one (pair_line (codes "Vulnerable") two ∷ lines) (dealer_line one (calm-no_quote one calm)) (tag-line (codes "Dealer") one (calm-no_feed (codes "Dealer") refl) (calm-no_feed one calm))
    (with_pair (codes "Vulnerable") two lines (vulnerable_line two (calm-no_quote two calm')) (tag-line (codes "Vulnerable") two (calm-no_feed (codes "Vulnerable") refl) (calm-no_feed two calm')) more)

board_game : (board : Board) (printed : Printed) → IsPrintable board → IsReadable board.deal → AreSmall printed.results → IfSome printed.par IsSmallPar → OneGame (board_lines board printed)
board_game board printed printable readable small pars =
    let name = board.name in
    let value = deal_value board.deal in
    let below = condition_lines printed.par ++ section_lines line_feed printed in
    let feed = feedless name (recursion_from_All _ name printable.one_line) in
    with_pair (codes "Board") name (pair_line (codes "Deal") value ∷ below) (board_line name (no_quote name (recursion_from_All _ name printable.no_quote))) (tag-line (codes "Board") name (calm-no_feed (codes "Board") refl) feed)
    (with_pair (codes "Deal") value below (deal_line value readable.quoteless) (tag-line (codes "Deal") value (calm-no_feed (codes "Deal") refl) readable.one_line)
    (lower_game printed.par (section_lines line_feed printed) (section_game printed small pars)))

-- ---- the conditions that they say
-- the pieces of a board's lines, before those of its section
abbrev front : Board → List Piece → List Piece
front board more =
    Pair (codes "Board") board.name (tag_text (codes "Board") board.name)
    ∷ Pair (codes "Deal") (deal_value board.deal) (tag_text (codes "Deal") (deal_value board.deal)) ∷ more

abbrev tags : Seat → VulnerableSides → List Piece → List Piece
tags dealer vulnerable more =
    Pair (codes "Dealer") (seat_letter dealer) (tag_text (codes "Dealer") (seat_letter dealer))
    ∷ Pair (codes "Vulnerable") (sides_shown vulnerable) (tag_text (codes "Vulnerable") (sides_shown vulnerable)) ∷ more

dealer-says : (board : Board) (dealer : Seat) (vulnerable : VulnerableSides) (more : List Piece) (other : Option Seat) → settled dealer_said (first_kept says_dealer (codes "DEALER") (front board (tags dealer vulnerable more))) other ≡ Some dealer
dealer-says board North vulnerable more other = refl
dealer-says board East vulnerable more other = refl
dealer-says board South vulnerable more other = refl
dealer-says board West vulnerable more other = refl

vulnerable-says : (board : Board) (dealer : Seat) (vulnerable : VulnerableSides) (more : List Piece) (other : Option VulnerableSides) → settled vulnerability_said (first_kept says_vulnerability (codes "VULNERABLE") (front board (tags dealer vulnerable more))) other ≡ Some vulnerable
vulnerable-says board dealer Neither more other = refl
vulnerable-says board dealer NorthSouth more other = refl
vulnerable-says board dealer EastWest more other = refl
vulnerable-says board dealer Both more other = refl

same_conditions : (one other : Conditions) → one.dealer ≡ other.dealer → one.vulnerable ≡ other.vulnerable → one ≡ other
same_conditions one other d v = ap (λ (x : Option Seat). record { dealer = x; vulnerable = one.vulnerable }) d ∙ ap (λ (x : Option VulnerableSides). record { dealer = other.dealer; vulnerable = x }) v

-- the conditions by the pieces of a game
abbrev dealer_by : List Piece → Option Seat
dealer_by pieces = settled dealer_said (first_kept says_dealer (codes "DEALER") pieces) (in_turn dealers (number_of (unwrap_or (first_named (codes "BOARD") pieces) [])))

abbrev vulnerable_by : List Piece → Option VulnerableSides
vulnerable_by pieces = settled vulnerability_said (first_kept says_vulnerability (codes "VULNERABLE") pieces) (in_turn vulnerabilities (number_of (unwrap_or (first_named (codes "BOARD") pieces) [])))

game_says : (board : Board) (game : Game) (par : Option BoardPar) (section : List Line) → game_pieces game ≡ front board (game_pieces (condition_lines par ++ section)) → AreOfPar par (conditions_of game)
game_says board game None section e = tt
game_says board game (Some NoDealer) section e = tt
game_says board game (Some NoVulnerability) section e = tt
game_says board game (Some (Known dealer vulnerable score contracts)) section e =
    same_conditions (conditions_of game) (record { dealer = Some dealer; vulnerable = Some vulnerable })
    (ap dealer_by e ∙ dealer-says board dealer vulnerable (game_pieces section) _)
    (ap vulnerable_by e ∙ vulnerable-says board dealer vulnerable (game_pieces section) _)

-- ---- from one place on, behind lines that say nothing
module _ (printed : ℕ → Printed) (small : AreTricks printed) where
  abbrev SaysOf : ℕ × Board → Conditions → Type 0
  SaysOf numbered conditions = AreOfPar (printed numbered.0).par conditions

  good : (place : ℕ) (board : Board) → IsPrintable board → OneGame (board_lines board (printed place))
  good place board printable = board_game board (printed place) printable (readable_deal board.deal printable.deal) (small.at_most place) (small.pars place)

  says_from : (own : Game) → game_pieces own ≡ [] → AllByRecursion (λ (line : Line). is_gap_kind line.kind ≡ false) own → (boards : List Board) (place : ℕ) → AllByRecursion IsPrintable boards → AllZip SaysOf (enumerate_from place boards) (map conditions_of (board_games (own ++ flat_map (block_lines printed) (enumerate_from place boards))))
  says_from own none solid [] place printable =
      subst (λ (games : List Game). AllZip SaysOf [] (map conditions_of (filter has_deal games)))
      (sym (ap games_of (append-nil own) ∙ slice_split_none (λ (line : Line). is_gap_kind line.kind) own (All-from_recursion _ own solid)))
      (subst (λ (b : Bool). AllZip SaysOf [] (map conditions_of (cond b (own ∷ []) []))) (sym (ap (λ (pieces : List Piece). is_some (first_named (codes "DEAL") pieces)) none)) tt)
  says_from own none solid (board ∷ boards) place printable =
      let lines = board_lines board (printed place) in
      let more = flat_map (block_lines printed) (enumerate_from (place + 1) boards) in
      let game = own ++ lines in
      let whole = no_gap_append own lines solid (good place board printable.0).no_gap in
      let parts : own ++ ((lines ++ gap ∷ []) ++ more) ≡ game ++ gap ∷ more = ap (λ (l : List Line). own ++ l) (append_assoc lines (gap ∷ []) more) ∙ sym (append_assoc own lines (gap ∷ more)) in
      let split : games_of (own ++ ((lines ++ gap ∷ []) ++ more)) ≡ game ∷ games_of more = ap games_of parts ∙ slice_split_at (λ (line : Line). is_gap_kind line.kind) game gap more (All-from_recursion _ game whole) refl in
      let pieces : game_pieces game ≡ game_pieces lines = flat_map-append (λ (line : Line). pieces_of line.kind) own lines ∙ ap (λ (p : List Piece). p ++ game_pieces lines) none in
      let there : has_deal game ≡ true = ap (λ (p : List Piece). is_some (first_named (codes "DEAL") p)) pieces in
      subst (λ (games : List Game). AllZip SaysOf ((place, board) ∷ enumerate_from (place + 1) boards) (map conditions_of (filter has_deal games))) (sym split)
      (subst (λ (b : Bool). AllZip SaysOf ((place, board) ∷ enumerate_from (place + 1) boards) (map conditions_of (cond b (game ∷ filter has_deal (games_of more)) (filter has_deal (games_of more))))) (sym there)
      (game_says board game (printed place).par (section_lines line_feed (printed place)) pieces, says_from [] refl tt boards (place + 1) printable.1))

  blocks_follow : (boards : List Board) (place : ℕ) → AllByRecursion IsPrintable boards → Follow false (flat_map (block_lines printed) (enumerate_from place boards)) false
  blocks_follow [] place printable = follow_none
  blocks_follow (board ∷ boards) place printable =
      follow_append (follow_append (good place board printable.0).follows (follow_line (is_gap refl refl) follow_none)) (blocks_follow boards (place + 1) printable.1)

  gap_ended : AllEnded (gap ∷ [])
  gap_ended = (printed_ended [] line_feed (record { no_feed = All-from_recursion _ [] tt; no_return = refl }) (inr refl), tt)

  blocks_ended : (boards : List Board) (place : ℕ) → AllByRecursion IsPrintable boards → AllEnded (flat_map (block_lines printed) (enumerate_from place boards))
  blocks_ended [] place printable = tt
  blocks_ended (board ∷ boards) place printable =
      let lines = board_lines board (printed place) in
      all_append (lines ++ gap ∷ []) (flat_map (block_lines printed) (enumerate_from (place + 1) boards))
      (all_append lines (gap ∷ []) (good place board printable.0).ended gap_ended) (blocks_ended boards (place + 1) printable.1)

head_ended : IsEnded (row_of head)
unfolding first_line
head_ended = printed_ended first_line line_feed first_line-is (inr refl)

all_of : (lines : List Line) → AllEnded lines → Ended lines
all_of [] h = tt
all_of (line ∷ lines) h = inl (h.0, all_of lines h.1)

pub pages_keep_conditions : PagesKeepConditions
pages_keep_conditions boards printed printable small list has =
    let each = recursion_from_All _ boards printable in
    let text = tables_text boards printed in
    let lines = page_lines boards printed in
    let read : AreLines false (rows_of (without_mark text)) lines false =
    subst (λ (t : List ℕ). AreLines false (rows_of t) lines false) (page-bytes boards printed)
    (lines_back lines (follow_line (is_escaped_line refl) (blocks_follow printed small boards 0 each)) (all_of lines (head_ended, blocks_ended printed small boards 0 each))) in
    let it = text_lines text in
    let same : has.lines ≡ lines = (it.one has.lines has.is_open has.read).0 ∙ sym (it.one lines false read).0 in
    subst (λ (l : List Conditions). AllZip (λ (numbered : ℕ × Board) (conditions : Conditions). AreOfPar (printed numbered.0).par conditions) (enumerate_from 0 boards) l)
    (sym (has.are ∙ ap (λ (l : List Line). map conditions_of (board_games l)) same))
    (says_from printed small (head ∷ []) refl (refl, tt) boards 0 each)
