-- The markup of a board depends on its shape alone, part by part.
use Rattle.std.proofs.Common.{◌≡◌, ◌≢◌, ℕ, Bool, true, false, true≢false, List, Option, None, Some, refl, sym, ◌∙◌, ap, subst}
use Rattle.std.specs.Prelude.{option_map}
use Rattle.std.specs.Fmt.{decimal}
use Rattle.std.proofs.lemmas.Option.{none-some, same_Some}
use Rattle.cards.specs.declared.seats.Seat.{Seat}
use Rattle.cards.specs.declared.seats.Seat.TheVariants.{North, East, South, West}
use Rattle.cards.specs.declared.suits.Suit.TheVariants.{Spades, Hearts, Diamonds, Clubs}
use Rattle.cards.specs.declared.suits.Trump.{Trump}
use Rattle.cards.specs.declared.suits.Trump.TheVariants as trump
use Rattle.cards.specs.Seats.{seat_letter}
use Rattle.cards.specs.Deal.{Deal}
use Rattle.par.specs.declared.vulnerable_sides.VulnerableSides.{VulnerableSides}
use Rattle.pbn_deals.specs.declared.boards.Board.{Board}
use Rattle.board_conditions.specs.declared.conditions.Conditions.{Conditions}
use Rattle.board_conditions.specs.Titles.{TitleValues}
use Rattle.tables.specs.TablesText.{Results, Printed, published_count, is_complete}
use Rattle.tables.specs.declared.pars.BoardPar.{BoardPar}
use Rattle.tables.specs.declared.pars.BoardPar.TheVariants.{Known, NoDealer, NoVulnerability}
use Rattle.tables.proofs.PageBack.{unknown_incomplete}
use Rattle.tables.specs.ConditionTags.{sides_shown}
use Rattle.sheets.specs.declared.templates.TheConstants as template
use Rattle.sheets.specs.HandText.{hand_value}
use Rattle.sheets.specs.CellText.{cell_value}
use Rattle.sheets.specs.Facts.{with_value, dealer_text, vulnerable_text, is_dealer, is_exposed, seat_template, seat_text, seats_text, words_text, facts_text}
use Rattle.sheets.specs.Results.{cell_text, cells_text, row_text, rows_text, complete_text, results_text}
use Rattle.sheets.specs.ParShown.{par_value, par_shown}
use Rattle.sheets.specs.Boards.{hand_text, hands_text, foot_text, dealt_text, dealt_or_nothing, board_text}
use Rattle.sheets.specs.Headings.{title_value, begins_group, new_titles, group_text}
use Rattle.sheet_reading.specs.Markup.{DealShape, is_known, deal_shape}
use Rattle.sheet_reading.proofs.PlainTemplates as plain
use Rattle.sheet_reading.proofs.SameMarkup.{SameMarkup, then, same-text, same-nothing, same-template, same-choice}

-- a template with one value and with another
same-value : (text : List ℕ) → plain.IsPlain text → (value other : List ℕ) → SameMarkup (with_value text value) (with_value text other)
same-value text h value other = same-template text h (λ place. value) (λ place. other)

-- ---- the heading
pub same-group : (before titles before' titles' : TitleValues) → begins_group before titles ≡ begins_group before' titles' →
    SameMarkup (group_text before titles) (group_text before' titles')
same-group before titles before' titles' e =
    same-choice (begins_group before titles) (begins_group before' titles') e
    (λ h k. same-template template.GROUP.now plain.group-plain (title_value (new_titles before titles)) (title_value (new_titles before' titles'))) same-nothing

-- ---- the facts
same-dealer : (dealer : Option Seat) → SameMarkup (dealer_text dealer) (dealer_text dealer)
same-dealer None = same-nothing
same-dealer (Some dealer) = same-value template.DEALER.now plain.dealer-plain (seat_letter dealer) (seat_letter dealer)

same-vulnerable : (vulnerable : Option VulnerableSides) → SameMarkup (vulnerable_text vulnerable) (vulnerable_text vulnerable)
same-vulnerable None = same-nothing
same-vulnerable (Some sides) = same-value template.VULNERABLE.now plain.vulnerable-plain (sides_shown sides) (sides_shown sides)

seat-plain : (deals exposed : Bool) → plain.IsPlain (seat_template deals exposed)
seat-plain false false = plain.seat-plain
seat-plain true false = plain.deals-plain
seat-plain false true = plain.exposed-plain
seat-plain true true = plain.deals-exposed-plain

same-seat : (conditions : Conditions) (seat : Seat) → SameMarkup (seat_text conditions seat) (seat_text conditions seat)
same-seat conditions seat =
    let deals = is_dealer conditions.dealer seat in
    let exposed = is_exposed conditions.vulnerable seat in
    same-value (seat_template deals exposed) (seat-plain deals exposed) (seat_letter seat) (seat_letter seat)

same-seats : (conditions : Conditions) → SameMarkup (seats_text conditions) (seats_text conditions)
unfolding seats_text
same-seats conditions =
    then (same-seat conditions North) (then (same-seat conditions West)
    (then (same-seat conditions East) (same-seat conditions South)))

same-words : (conditions : Conditions) → SameMarkup (words_text conditions) (words_text conditions)
unfolding words_text
same-words conditions = then (same-dealer conditions.dealer) (same-vulnerable conditions.vulnerable)

same-facts : (conditions : Conditions) → SameMarkup (facts_text conditions) (facts_text conditions)
unfolding facts_text
same-facts conditions =
    then (same-text template.FACTS.now plain.facts-ends) (then (same-words conditions)
    (then (same-text template.COMPASS.now plain.compass-ends) (then (same-seats conditions)
    (same-text template.HANDS.now plain.hands-ends))))

-- ---- the hands
same-hand : (deal other : Deal) (seat : Seat) → SameMarkup (hand_text deal seat) (hand_text other seat)
same-hand deal other seat =
    same-template template.HAND.now plain.hand-plain (hand_value deal seat) (hand_value other seat)

same-hands : (deal other : Deal) → SameMarkup (hands_text deal) (hands_text other)
unfolding hands_text
same-hands deal other =
    then (same-hand deal other North) (then (same-hand deal other East)
    (then (same-hand deal other South) (same-hand deal other West)))

-- ---- the table
same-cell : (result other : Option ℕ) → result ≢ None → other ≢ None → SameMarkup (cell_text result) (cell_text other)
same-cell None other h k = absurd (h refl)
same-cell (Some tricks) None h k = absurd (k refl)
same-cell (Some tricks) (Some others) h k =
    same-template template.CELL.now plain.cell-plain (cell_value tricks) (cell_value others)

is-there : (results : Results) → is_complete results ≡ true → (declarer : Seat) (denomination : Trump) →
    results declarer denomination ≢ None
is-there results h declarer denomination e =
    true≢false (sym h ∙ unknown_incomplete results declarer denomination e)

module _ (one other : Results) (one_all : is_complete one ≡ true) (other_all : is_complete other ≡ true) where
  same-entry : (declarer : Seat) (denomination : Trump) →
      SameMarkup (cell_text (one declarer denomination)) (cell_text (other declarer denomination))
  same-entry declarer denomination =
      same-cell (one declarer denomination) (other declarer denomination)
      (is-there one one_all declarer denomination) (is-there other other_all declarer denomination)

  same-cells : (declarer : Seat) → SameMarkup (cells_text one declarer) (cells_text other declarer)
  unfolding cells_text
  same-cells declarer =
      then (same-entry declarer (trump.Suit Clubs)) (then (same-entry declarer (trump.Suit Diamonds))
      (then (same-entry declarer (trump.Suit Hearts)) (then (same-entry declarer (trump.Suit Spades))
      (then (same-entry declarer trump.Nt) same-nothing))))

  same-row : (declarer : Seat) → SameMarkup (row_text one declarer) (row_text other declarer)
  unfolding row_text
  same-row declarer =
      then (same-value template.ROW.now plain.row-plain (seat_letter declarer) (seat_letter declarer))
      (then (same-cells declarer) (same-text template.ROW_END.now plain.row-end-ends))

  same-rows : SameMarkup (rows_text one) (rows_text other)
  unfolding rows_text
  same-rows = then (same-row North) (then (same-row South) (then (same-row East) (same-row West)))

  same-complete : SameMarkup (complete_text one) (complete_text other)
  unfolding complete_text
  same-complete =
      then (same-text template.TABLE.now plain.table-ends)
      (then same-rows (same-text template.TABLE_END.now plain.table-end-ends))

same-results : (one other : Results) → is_complete one ≡ is_complete other → SameMarkup (results_text one) (results_text other)
same-results one other e =
    same-choice (is_complete one) (is_complete other) e (same-complete one other)
    (same-value template.INCOMPLETE.now plain.incomplete-plain (decimal (published_count one)) (decimal (published_count other)))

-- ---- par
-- par that is known or unknown, by what is said of it
same-said : (one other : BoardPar) → is_known one ≡ is_known other → SameMarkup (par_shown (Some one)) (par_shown (Some other))
same-said (Known dealer vulnerable score contracts) (Known dealer' vulnerable' score' contracts') e =
    same-template template.PAR.now plain.par-plain (par_value score contracts.items) (par_value score' contracts'.items)
same-said (Known dealer vulnerable score contracts) NoDealer e = absurd (true≢false e)
same-said (Known dealer vulnerable score contracts) NoVulnerability e = absurd (true≢false e)
same-said NoDealer (Known dealer vulnerable score contracts) e = absurd (true≢false (sym e))
same-said NoVulnerability (Known dealer vulnerable score contracts) e = absurd (true≢false (sym e))
same-said NoDealer NoDealer e = same-value template.PAR_UNKNOWN.now plain.par-unknown-plain _ _
same-said NoDealer NoVulnerability e = same-value template.PAR_UNKNOWN.now plain.par-unknown-plain _ _
same-said NoVulnerability NoDealer e = same-value template.PAR_UNKNOWN.now plain.par-unknown-plain _ _
same-said NoVulnerability NoVulnerability e = same-value template.PAR_UNKNOWN.now plain.par-unknown-plain _ _

same-par : (one other : Option BoardPar) → option_map is_known one ≡ option_map is_known other →
    SameMarkup (par_shown one) (par_shown other)
same-par None None e = same-nothing
same-par None (Some other) e = absurd (none-some (is_known other) e)
same-par (Some one) None e = absurd (none-some (is_known one) (sym e))
same-par (Some one) (Some other) e = same-said one other (same_Some (is_known one) (is_known other) e)

-- ---- boards
same-foot : (one other : Printed) → is_complete one.results ≡ is_complete other.results →
    option_map is_known one.par ≡ option_map is_known other.par → SameMarkup (foot_text one) (foot_text other)
unfolding foot_text
same-foot one other results par =
    then (same-text template.FOOT.now plain.foot-ends) (then (same-results one.results other.results results)
    (then (same-par one.par other.par par) (same-text template.FOOT_END.now plain.foot-end-ends)))

same-conditions : (one other : Conditions) → one ≡ other → SameMarkup (facts_text one) (facts_text other)
same-conditions one other e = subst (λ (c : Conditions). SameMarkup (facts_text one) (facts_text c)) e (same-facts one)

same-dealt : (deal deal' : Deal) (conditions conditions' : Conditions) (printed printed' : Printed) →
    conditions ≡ conditions' → is_complete printed.results ≡ is_complete printed'.results →
    option_map is_known printed.par ≡ option_map is_known printed'.par →
    SameMarkup (dealt_text deal conditions printed) (dealt_text deal' conditions' printed')
unfolding dealt_text
same-dealt deal deal' conditions conditions' printed printed' facts results par =
    then (same-conditions conditions conditions' facts)
    (then (same-hands deal deal') (same-foot printed printed' results par))

same-deal : (deal deal' : Option Deal) (conditions conditions' : Conditions) (printed printed' : Printed) →
    deal_shape deal conditions printed ≡ deal_shape deal' conditions' printed' →
    SameMarkup (dealt_or_nothing deal conditions printed) (dealt_or_nothing deal' conditions' printed')
same-deal None None conditions conditions' printed printed' e = same-nothing
same-deal None (Some deal') conditions conditions' printed printed' e = absurd (none-some _ e)
same-deal (Some deal) None conditions conditions' printed printed' e = absurd (none-some _ (sym e))
same-deal (Some deal) (Some deal') conditions conditions' printed printed' e =
    let same = same_Some _ _ e in
    same-dealt deal deal' conditions conditions' printed printed'
    (ap (λ (s : DealShape). s.conditions) same) (ap (λ (s : DealShape). s.has_table) same) (ap (λ (s : DealShape). s.has_par) same)

pub same-board : (board board' : Board) (conditions conditions' : Conditions) (printed printed' : Printed) →
    deal_shape board.deal conditions printed ≡ deal_shape board'.deal conditions' printed' →
    SameMarkup (board_text board conditions printed) (board_text board' conditions' printed')
unfolding board_text
same-board board board' conditions conditions' printed printed' e =
    then (same-value template.BOARD.now plain.board-plain board.name board'.name)
    (then (same-deal board.deal board'.deal conditions conditions' printed printed' e)
    (same-text template.BOARD_END.now plain.board-end-ends))
