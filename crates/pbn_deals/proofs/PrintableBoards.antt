-- The boards of a text can stand in tags again.
use Rattle.std.proofs.Common.{◌≡◌, ◌≢◌, ℕ, ◌+◌, ◌<◌, ◌≤◌, Bool, false, List, [], length, Option, Some, None, Result, Ok, Err, refl, ◌∙◌, arith, length-append, All}
use Rattle.std.proofs.lemmas.List.Elements.{All-nil, All-cons, All-head, All-tail, All-append}
use Rattle.cards.specs.declared.seats.Seat.TheVariants.{North}
use Rattle.cards.specs.Deal.{Deal}
use Rattle.pbn_deals.specs.declared.boards.Board.{Board}
use Rattle.pbn_deals.specs.declared.faults.PbnFault.{PbnFault}
use Rattle.pbn_deals.specs.Tags.{is_inherited}
use Rattle.pbn_deals.specs.Games.{Tags, no_tags, boards_of, greatest_count, SaysDeal, says_nothing, says_part, says_deal, TakesBoard, first_board, later_board, TakesDeal, only_deal, TakesTag, board_tag, deal_tag, other_tag}
use Rattle.pbn_deals.specs.Lines.{without_mark}
use Rattle.pbn_deals.specs.Reading.{Lacks, LineEnd, Ends, Stops, Scans, at_end, at_blank, at_line_comment, at_comment, at_open_comment, at_tag, at_faulty_tag, at_no_tag, at_quoted, at_unended, at_plain, at_bracket, Answers, no_line, unclosed, escaped_line, blank_line, whole_line, opening_line, faulty_line, inner_line, closing_line, reopening_line, faulty_closing_line, put_boards}
use Rattle.pbn_deals.specs.Printable.{IsBoardDeal, IsPrintable, BoardsArePrintable}
use Rattle.pbn_deals.proofs.SomeDeal.{count_of_deal}
use Rattle.pbn_deals.proofs.TagParts.{tag_parts}
use Rattle.pbn_deals.proofs.LineParts.{lacks_after, lacks_middle, lines_of-lack}

-- ---- the tags of a game
record IsName (name : List ℕ) : Type 0 where
  one_line : Lacks 10 name
  no_quote : Lacks 34 name
  own_name : is_inherited name ≡ false

abbrev KeptName : Option (List ℕ) → Type 0
KeptName None = Unit {0}
KeptName (Some name) = IsName name

abbrev KeptDeal : ℕ → Option (Option Deal) → Type 0
KeptDeal count None = Unit {0}
KeptDeal count (Some deal) = IsBoardDeal deal × (count < greatest_count)

-- the tags of a game that follows so many boards
record Kept (count : ℕ) (tags : Tags) : Type 0 where
  name : KeptName tags.name
  deal : KeptDeal count tags.deal

kept-none : (count : ℕ) → Kept count no_tags
kept-none count = record { name = tt; deal = tt }

says_kept : {line : ℕ} {value : List ℕ} {deal : Option Deal} → SaysDeal line value (Ok deal) → IsBoardDeal deal
says_kept (says_nothing own none) = tt
says_kept (says_part e p) = tt
says_kept (says_deal {held} {dealt} e is whole) = record { layout = is.layout; size = count_of_deal held dealt is North ∙ whole North }

takes_board_kept : {line count : ℕ} {tags tags' : Tags} {value : List ℕ} → Kept count tags → Lacks 10 value → Lacks 34 value → TakesBoard line tags value (Ok tags') → Kept count tags'
takes_board_kept kept feed quote (first_board own e) = record { name = record { one_line = feed; no_quote = quote; own_name = own }; deal = kept.deal }
takes_board_kept kept feed quote (later_board own e) = kept

takes_deal_kept : {line count : ℕ} {tags tags' : Tags} {value : List ℕ} → Kept count tags → TakesDeal line count tags value (Ok tags') → Kept count tags'
takes_deal_kept kept (only_deal e says few) = record { name = kept.name; deal = (says_kept says, few) }

takes_kept : {line count : ℕ} {tags tags' : Tags} {name value : List ℕ} → Kept count tags → Lacks 10 value → Lacks 34 value → TakesTag line count tags name value (Ok tags') → Kept count tags'
takes_kept kept feed quote (board_tag b takes) = takes_board_kept kept feed quote takes
takes_kept kept feed quote (deal_tag b d takes) = takes_deal_kept kept takes
takes_kept kept feed quote (other_tag b d) = kept

-- ---- a line
abbrev KeptEnd : ℕ → LineEnd → Type 0
KeptEnd count (Ends tags is_open) = Kept count tags
KeptEnd count (Stops fault) = Unit {0}

scans_kept : {number count : ℕ} {in_data : Bool} {tags : Tags} {line : List ℕ} {last : LineEnd} → Kept count tags → Lacks 10 line → Scans number count in_data tags line last → KeptEnd count last
scans_kept kept lacks at_end = kept
scans_kept kept lacks (at_blank m r) = scans_kept kept (All-tail (λ other. other ≢ 10) _ _ lacks) r
scans_kept kept lacks (at_line_comment m) = kept
scans_kept kept lacks (at_comment text m e l r) = scans_kept kept (lacks_after 10 125 _ text _ e (All-tail (λ other. other ≢ 10) _ _ lacks)) r
scans_kept kept lacks (at_open_comment m l) = kept
scans_kept kept lacks (at_tag {tag = tag} m e takes r) =
    let parts = tag_parts _ tag e in
    let within = lacks_middle 10 34 _ parts.front tag.value parts.closing tag.rest parts.whole (All-tail (λ other. other ≢ 10) _ _ lacks) in
    scans_kept (takes_kept kept within.0 parts.no_quote takes) within.1 r
scans_kept kept lacks (at_faulty_tag m e takes) = tt
scans_kept kept lacks (at_no_tag m e) = tt
scans_kept kept lacks (at_quoted text m e l r) = scans_kept kept (lacks_after 10 34 _ text _ e (All-tail (λ other. other ≢ 10) _ _ lacks)) r
scans_kept kept lacks (at_unended m l) = kept
scans_kept kept lacks (at_plain m r) = scans_kept kept (All-tail (λ other. other ≢ 10) _ _ lacks) r
scans_kept kept lacks (at_bracket m r) = scans_kept kept (All-tail (λ other. other ≢ 10) _ _ lacks) r

-- ---- a text
abbrev KeptAnswer : ℕ → Result (List Board) PbnFault → Type 0
KeptAnswer count (Ok boards) = All IsPrintable boards × (count + length boards ≤ greatest_count)
KeptAnswer count (Err fault) = Unit {0}

boards_of-kept : (count : ℕ) (name : Option (List ℕ)) (deal : Option (Option Deal)) → KeptName name → KeptDeal count deal → count ≤ greatest_count → KeptAnswer count (Ok (boards_of (record { name = name; deal = deal })))
boards_of-kept count name None n d few = (All-nil IsPrintable, omega arith)
boards_of-kept count None (Some deal) n d few =
    (All-cons IsPrintable _ [] (record { one_line = All-nil (λ other. other ≢ 10); no_quote = All-nil (λ other. other ≢ 34); own_name = refl; deal = d.0 }) (All-nil IsPrintable), omega (arith, d.1))
boards_of-kept count (Some name) (Some deal) n d few =
    (All-cons IsPrintable _ [] (record { one_line = n.one_line; no_quote = n.no_quote; own_name = n.own_name; deal = d.0 }) (All-nil IsPrintable), omega (arith, d.1))

put_boards-kept : (count : ℕ) (boards : List Board) (answer : Result (List Board) PbnFault) → KeptAnswer count (Ok boards) → KeptAnswer (count + length boards) answer → KeptAnswer count (put_boards boards answer)
put_boards-kept count boards (Ok others) first later = (All-append IsPrintable boards others first.0 later.0, omega (arith, later.1, length-append boards others))
put_boards-kept count boards (Err fault) first later = tt

answers_kept : {number count : ℕ} {opened : Option ℕ} {tags : Tags} {lines : List (List ℕ)} {answer : Result (List Board) PbnFault} → Kept count tags → count ≤ greatest_count → All (Lacks 10) lines → Answers number opened tags count lines answer → KeptAnswer count answer
answers_kept {tags = tags} kept few lacks no_line = boards_of-kept _ tags.name tags.deal kept.name kept.deal few
answers_kept kept few lacks unclosed = tt
answers_kept kept few lacks (escaped_line e r) = answers_kept kept few (All-tail (Lacks 10) _ _ lacks) r
answers_kept {tags = tags} kept few lacks (blank_line {answer = answer} e b r) =
    let first = boards_of-kept _ tags.name tags.deal kept.name kept.deal few in
    put_boards-kept _ (boards_of tags) answer first (answers_kept (kept-none _) first.1 (All-tail (Lacks 10) _ _ lacks) r)
answers_kept kept few lacks (whole_line e b q r) = answers_kept (scans_kept kept (All-head (Lacks 10) _ _ lacks) q) few (All-tail (Lacks 10) _ _ lacks) r
answers_kept kept few lacks (opening_line e b q r) = answers_kept (scans_kept kept (All-head (Lacks 10) _ _ lacks) q) few (All-tail (Lacks 10) _ _ lacks) r
answers_kept kept few lacks (faulty_line e b q) = tt
answers_kept kept few lacks (inner_line l r) = answers_kept kept few (All-tail (Lacks 10) _ _ lacks) r
answers_kept kept few lacks (closing_line text e l q r) =
    answers_kept (scans_kept kept (lacks_after 10 125 _ text _ e (All-head (Lacks 10) _ _ lacks)) q) few (All-tail (Lacks 10) _ _ lacks) r
answers_kept kept few lacks (reopening_line text e l q r) =
    answers_kept (scans_kept kept (lacks_after 10 125 _ text _ e (All-head (Lacks 10) _ _ lacks)) q) few (All-tail (Lacks 10) _ _ lacks) r
answers_kept kept few lacks (faulty_closing_line text e l q) = tt

pub boards_are_printable : BoardsArePrintable
boards_are_printable text boards h =
    let kept = answers_kept (kept-none 0) (omega arith) (lines_of-lack (without_mark text)) h in
    (kept.0, omega (arith, kept.1))
